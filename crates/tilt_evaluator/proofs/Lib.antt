pub mod Walk
pub mod Weight
