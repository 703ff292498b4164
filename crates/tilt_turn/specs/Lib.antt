pub mod Again
pub mod Held
pub mod Kinds
pub mod Picked
pub mod Ready
pub mod Same
pub mod Sight
pub mod Stepped
