pub mod EditLemmas
pub mod RefusalLemmas
pub mod ShotLemmas
pub mod SoundLemmas
pub mod StepLemmas
