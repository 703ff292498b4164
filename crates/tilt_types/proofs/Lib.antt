pub mod Built
pub mod CheckedCore
pub mod Clear
pub mod Distinct
pub mod NoMemory
pub mod Places
pub mod Texts
