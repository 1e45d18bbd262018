-- What names shapes of the code: invariants and private contracts need it, no reader of a promise does.
pub mod NameLines
pub mod RamLines
