pub mod Front
pub mod Next
pub mod Tokens
pub mod Word
