pub mod BoundText
pub mod Check
