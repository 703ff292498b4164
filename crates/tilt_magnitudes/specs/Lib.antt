pub mod Interval
pub mod Law
pub mod Magnitude
pub mod Marks
