-- What names shapes of the code: invariants and private contracts need it, no reader of a promise does.
pub mod ConditionalWrite
pub mod Flags
pub mod PackedEquality
pub mod Packing
pub mod Rows
pub mod RowsBack
pub mod Spans
pub mod Words
