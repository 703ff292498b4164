mod Cells
mod Counted
mod Finished
