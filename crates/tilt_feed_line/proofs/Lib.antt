pub mod AtOnce
pub mod Keyed
pub mod OfInputs
pub mod Only
pub mod Places
pub mod PlainLines
pub mod Spelled
pub mod Words
