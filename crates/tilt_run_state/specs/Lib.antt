pub mod Faults
pub mod Numbers
pub mod Rejection
pub mod Setup
pub mod Spelling
pub mod State
pub mod Valid
