pub mod Output
pub mod Recipe
pub mod Report
pub mod Runs
pub mod Stops
pub mod Taken
