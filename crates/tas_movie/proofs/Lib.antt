pub mod TextLemmas
pub mod RunLemmas
pub mod RunTextLemmas
pub mod PrintLemmas
pub mod TwoTexts
pub mod EditLemmas
