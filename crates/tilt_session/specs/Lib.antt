pub mod Cuts
pub mod Emitted
pub mod Handed
pub mod Kept
pub mod Later
pub mod Law
pub mod NewRows
pub mod Parts
