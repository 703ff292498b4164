mod Commits
mod Running
mod Tails
mod Taking
