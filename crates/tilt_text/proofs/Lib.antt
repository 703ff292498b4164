pub mod Lacks
pub mod Numbers
pub mod Step
pub mod Words
