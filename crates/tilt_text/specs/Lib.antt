pub mod Cut
pub mod Spelled
pub mod Step
