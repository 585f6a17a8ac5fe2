pub mod CourseLemmas
pub mod LapseLemmas
pub mod LineLemmas
pub mod ScriptLemmas
pub mod StandLemmas
