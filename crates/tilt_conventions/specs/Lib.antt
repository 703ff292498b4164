pub mod Cells
pub mod Laws
pub mod Machine
pub mod Resumable
pub mod Rows
pub mod Steps
