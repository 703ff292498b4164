pub mod Law
pub mod Leaves
pub mod Watching
