pub mod Constants
pub mod Law
pub mod Lowering
