pub mod FrameLemmas
pub mod PlannedLemmas
