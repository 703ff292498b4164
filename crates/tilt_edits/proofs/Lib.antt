mod Blanks
pub mod EditsOf
mod Lines
pub mod Outcomes
