pub mod ArrivalLemmas
pub mod RuleAuditLemmas
pub mod FirstLemmas
pub mod HeardLemmas
pub mod JudgeLemmas
pub mod PathLemmas
pub mod PlacedLemmas
pub mod YesLemmas
