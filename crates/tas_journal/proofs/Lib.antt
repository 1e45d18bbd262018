pub mod WritingLemmas
pub mod ReadingLemmas
pub mod RecoverLemmas
pub mod LawLemmas
pub mod HeadLemmas
pub mod CutLemmas
pub mod RunLemmas
