pub mod AlignedKept
pub mod ExpressionKept
pub mod Kept
pub mod Marked
pub mod Meaning
pub mod OperatorsKept
pub mod Queries
pub mod Windows
