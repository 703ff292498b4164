pub mod Change
pub mod Live
pub mod Piece
pub mod Put
pub mod Reached
pub mod Replaced
pub mod Window
