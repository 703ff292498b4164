pub mod Order
pub mod Place
pub mod Table
pub mod Taken
pub mod Zone
