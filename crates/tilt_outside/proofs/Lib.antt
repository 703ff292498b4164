pub mod Counts
pub mod Fronts
pub mod HeldFiles
pub mod MoreReads
pub mod Puts
