pub mod EntryLemmas
pub mod HistoryLemmas
pub mod PrefixLemmas
pub mod PublishLemmas
pub mod PublishedRule
pub mod ReaderLemmas
pub mod RegistryLemmas
