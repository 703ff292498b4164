pub mod Events
pub mod Feed
pub mod Horizon
pub mod Laws
pub mod Printed
pub mod Resting
pub mod Sure
