pub mod Cells
pub mod Orders
pub mod Pairs
pub mod Products
pub mod Quotients
pub mod Reductions
pub mod Standing
