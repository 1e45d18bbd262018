pub mod Answers
pub mod Commits
pub mod Inside
pub mod Session
pub mod Shots
