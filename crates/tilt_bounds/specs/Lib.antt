pub mod Laws
pub mod Margins
pub mod Stretch
