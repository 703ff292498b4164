pub mod Checked
pub mod Types
pub mod WellFormed
