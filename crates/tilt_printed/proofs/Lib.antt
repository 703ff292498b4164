pub mod Printing
pub mod Rows
pub mod Seen
pub mod SeenLines
pub mod Sizes
pub mod Streams
