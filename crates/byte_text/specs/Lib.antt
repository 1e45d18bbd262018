pub mod CutOff
pub mod Digits
pub mod Sending
pub mod Splitting
