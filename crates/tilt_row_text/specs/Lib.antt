pub mod Dates
pub mod Decimals
pub mod Lines
pub mod Styles
