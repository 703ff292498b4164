pub mod Again
pub mod Beginning
pub mod BufferHorizons
pub mod Closed
pub mod CodeHorizons
pub mod Dropping
pub mod Engined
pub mod Fed
pub mod Feeding
pub mod Forgot
pub mod Given
pub mod GoingOn
pub mod Gone
pub mod InletPlaces
pub mod Inlets
mod KnownParts
pub mod LeftLists
pub mod Lefts
pub mod LoopStreams
pub mod Mades
mod Needs
pub mod NextReads
pub mod Readied
pub mod Restarting
pub mod Ringed
pub mod Rising
mod Rooms
pub mod Shorter
mod Sums
pub mod Taking
pub mod Turned
mod Unreads
pub mod WholeFeeds
