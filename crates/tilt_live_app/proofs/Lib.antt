mod Choosing
pub mod Ending
pub mod Living
mod Watching
