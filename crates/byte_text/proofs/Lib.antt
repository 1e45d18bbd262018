pub mod DecimalLemmas
pub mod Sendings
pub mod SplitLemmas
