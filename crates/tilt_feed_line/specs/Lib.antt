pub mod Lines
pub mod Plain
pub mod Quick
pub mod Records
pub mod Texts
