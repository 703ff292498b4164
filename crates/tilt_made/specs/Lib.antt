pub mod Generator
pub mod Summary
pub mod TryQuery
