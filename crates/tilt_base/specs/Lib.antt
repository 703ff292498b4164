pub mod Expression
pub mod Grid
pub mod Number
pub mod Offset
pub mod Reduce
pub mod Scalar
