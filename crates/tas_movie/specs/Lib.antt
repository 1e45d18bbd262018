pub mod Content
pub mod Edit
pub mod Runs
pub mod Text
pub mod Fault
pub mod Front
