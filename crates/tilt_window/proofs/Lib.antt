pub mod Joins
pub mod Reduced
pub mod Stacked
pub mod Truths
