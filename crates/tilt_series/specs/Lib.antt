pub mod Records
pub mod Series
pub mod Stretch
