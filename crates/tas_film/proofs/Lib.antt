pub mod DrawingLemmas
pub mod FilmLemmas
pub mod RunLemmas
pub mod ThreadLemmas
pub mod WriteLemmas
