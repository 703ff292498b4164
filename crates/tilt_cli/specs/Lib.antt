pub mod Arguments
pub mod Binding
pub mod Command
pub mod Legal
pub mod Number
pub mod Options
pub mod Tables
pub mod Upto
