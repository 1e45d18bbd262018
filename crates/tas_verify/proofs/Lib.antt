pub mod ManifestLemmas
pub mod RowLemmas
pub mod WorkerLemmas
pub mod RunLemmas
pub mod OneManifest
pub mod OneOutcome
pub mod OneReport
