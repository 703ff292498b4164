pub mod Adds
pub mod Meaning
pub mod Reported
pub mod Served
pub mod Serving
pub mod Stops
