pub mod Exact
pub mod ExactReduce
pub mod Fraction
