pub mod Faults
pub mod Range
pub mod Reading
pub mod Spelling
pub mod State
pub mod Valid
