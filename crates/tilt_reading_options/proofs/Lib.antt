pub mod Choosing
pub mod Held
pub mod Splitting
