pub mod Counted
mod Losing
