pub mod Stacked
pub mod States
pub mod Taken
