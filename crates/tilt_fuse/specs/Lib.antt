pub mod FusedTree
pub mod Plan
pub mod Streams
pub mod Trees
pub mod Used
