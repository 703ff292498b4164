pub mod Alongs
pub mod Apart
pub mod Indexes
pub mod More
pub mod Outcomes
pub mod Places
pub mod Puttings
pub mod Resumings
