mod Changing
mod Commits
pub mod Counted
mod Moments
mod Resuming
mod Running
mod Seals
mod Steps
