pub mod Core
pub mod CoreTree
pub mod Meaning
pub mod Needs
