pub mod Cutting
pub mod Saying
pub mod Splitting
