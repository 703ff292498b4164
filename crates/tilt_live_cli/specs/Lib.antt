pub mod Arguments
pub mod LiveOptions
pub mod Readings
