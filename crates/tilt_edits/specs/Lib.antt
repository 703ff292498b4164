pub mod Edited
pub mod Edits
pub mod Reading
