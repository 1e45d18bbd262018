pub mod Faults
pub mod Films
pub mod Frames
pub mod Runs
