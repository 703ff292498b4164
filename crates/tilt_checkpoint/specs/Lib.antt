pub mod Checkpoint
pub mod Cuts
pub mod Decided
pub mod Faults
pub mod Reading
pub mod Spelling
pub mod Stored
pub mod Valid
