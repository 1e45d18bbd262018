pub mod Errors
pub mod History
pub mod Inside
pub mod Looks
pub mod Published
pub mod Readings
pub mod Strokes
pub mod Version
