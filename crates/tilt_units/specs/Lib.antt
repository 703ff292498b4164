pub mod DecimalTree
pub mod Exact
pub mod ExactStream
pub mod Law
pub mod Scale
pub mod Scaling
pub mod Translation
