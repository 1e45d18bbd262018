pub mod LineLemmas
pub mod NoteLemmas
pub mod TalkLemmas
pub mod ReceiptLemmas
pub mod SharedLemmas
pub mod CallLemmas
