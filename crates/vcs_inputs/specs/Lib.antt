pub mod Cart
pub mod Input
pub mod Inside
