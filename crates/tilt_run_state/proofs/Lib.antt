mod Parts
mod Setups
mod Splitting
mod Texts
