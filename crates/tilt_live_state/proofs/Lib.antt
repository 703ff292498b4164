pub mod Appended
pub mod Checks
pub mod Decoding
pub mod Fields
pub mod Headings
pub mod Kept
mod Ranges
pub mod Steps
