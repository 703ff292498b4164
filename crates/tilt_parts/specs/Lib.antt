pub mod Joined
pub mod Part
pub mod Parts
