pub mod Laws
pub mod Local
pub mod Margin
pub mod Needs
pub mod Reached
pub mod Spans
pub mod Steps
