pub mod GoingLemmas
pub mod MadeLemmas
pub mod PlannedLemmas
