pub mod Emitted
pub mod OneFile
pub mod Powers
pub mod Reported
