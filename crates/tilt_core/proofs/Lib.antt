pub mod Constancy
pub mod Worked
pub mod Inputs
pub mod Last
pub mod Sources
pub mod Accepted
