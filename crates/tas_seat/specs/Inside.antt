pub mod EditRequests
pub mod Talking
pub mod Conversing
pub mod Drafting
pub mod Looking
