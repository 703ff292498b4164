pub mod Kept
pub mod Machine
pub mod Report
pub mod Said
pub mod Setup
