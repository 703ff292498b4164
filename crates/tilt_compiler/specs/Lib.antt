pub mod Accepted
pub mod Compiled
