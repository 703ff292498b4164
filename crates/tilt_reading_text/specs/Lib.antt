pub mod Form
pub mod Kept
pub mod Machine
pub mod Report
pub mod Said
pub mod Taken
