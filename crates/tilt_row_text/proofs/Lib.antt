pub mod Days
pub mod Plain
pub mod Within
