pub mod Halts
pub mod Output
pub mod Resumed
pub mod Runs
pub mod States
