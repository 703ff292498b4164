pub mod Behind
pub mod Left
pub mod Restored
pub mod Resumed
pub mod Rises
