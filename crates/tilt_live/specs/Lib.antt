pub mod Laws
pub mod Lives
pub mod Resuming
pub mod Ticks
