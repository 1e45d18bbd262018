-- What names shapes of the code: invariants and private contracts need it, no reader of a promise does.
pub mod Cycles
pub mod Leading
pub mod Parts
pub mod Shifted
