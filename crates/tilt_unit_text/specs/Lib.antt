pub mod Named
pub mod Numbers
pub mod Places
pub mod Points
pub mod Reading
pub mod Said
pub mod Size
pub mod Units
