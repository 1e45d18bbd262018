pub mod Task
pub mod CommandLine
pub mod Invocations
pub mod Guides
pub mod Waiting
