pub mod Basic
pub mod Handing
pub mod Held
pub mod Laws
pub mod Machine
pub mod Steps
