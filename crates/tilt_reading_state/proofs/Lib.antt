pub mod Again
pub mod Decoding
pub mod Lengths
pub mod RangeTests
pub mod Ranges
pub mod Steps
