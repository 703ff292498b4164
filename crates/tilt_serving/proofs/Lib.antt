pub mod Feeding
pub mod Flushing
pub mod Reporting
