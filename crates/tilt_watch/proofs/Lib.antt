pub mod Entries
pub mod Lines
pub mod Mid
pub mod PlacesAfter
pub mod Saturated
pub mod Shown
