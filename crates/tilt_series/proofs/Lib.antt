pub mod Examples
pub mod Left
pub mod Lines
pub mod Loop
pub mod Stretch
pub mod Three
pub mod Writes
