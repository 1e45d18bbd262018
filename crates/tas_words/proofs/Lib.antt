pub mod CommandLineLemmas
pub mod PartLemmas
pub mod TipLemmas
