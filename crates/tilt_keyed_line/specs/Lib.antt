pub mod Address
pub mod Feeds
pub mod Outputs
