pub mod Addresses
pub mod Hearing
pub mod Lines
pub mod Owning
