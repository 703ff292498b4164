pub mod AfterTick
pub mod Checkpoints
pub mod Frames
pub mod Kept
pub mod Left
pub mod Seen
pub mod Steps
