pub mod Committed
pub mod Feeds
pub mod Laws
pub mod Machines
