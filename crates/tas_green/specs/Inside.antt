pub mod Gaining
