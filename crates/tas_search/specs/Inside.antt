-- What names shapes of the code: invariants and private contracts need it, no reader of a promise does.
pub mod Layers
pub mod Arrivals
pub mod Counts
pub mod Extremes
pub mod Operands
pub mod TreeCode
pub mod FoundChanges
pub mod Digits
pub mod Stops
