mod Computed
mod Counts
mod Marked
mod Meaning
mod Narrowed
mod Overflows
pub mod Products
pub mod Quotients
pub mod Scalars
pub mod Sums
mod Windows
