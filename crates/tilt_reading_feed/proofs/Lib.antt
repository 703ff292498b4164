pub mod Feeding
pub mod Lines
pub mod Loops
pub mod Reading
pub mod Resuming
pub mod Turns
pub mod Whole
