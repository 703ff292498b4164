pub mod Bound
pub mod IllScaled
pub mod Report
