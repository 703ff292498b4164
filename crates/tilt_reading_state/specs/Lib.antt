pub mod Range
pub mod Reading
pub mod Spelling
pub mod Valid
