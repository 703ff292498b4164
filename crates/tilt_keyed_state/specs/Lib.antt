pub mod Faults
pub mod Natural
pub mod Spelling
pub mod State
