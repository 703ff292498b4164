pub mod Alone
pub mod Cutting
pub mod Feeding
pub mod Lines
pub mod Pieces
pub mod Running
pub mod Underway
pub mod Whole
