pub mod Complete
pub mod Finish
pub mod Once
pub mod Rows
pub mod Seen
pub mod SessionCalls
pub mod Shown
pub mod Unanswered
