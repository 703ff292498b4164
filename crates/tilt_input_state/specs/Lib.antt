pub mod Resume
pub mod Stored
