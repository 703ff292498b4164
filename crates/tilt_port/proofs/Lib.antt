mod Pieces
pub mod Writing
