pub mod Manifest
pub mod Rows
pub mod Lines
pub mod Verifying
pub mod Agreement
pub mod Inside
pub mod Carts
