pub mod EdgeLemmas
pub mod EventLemmas
pub mod RunLemmas
pub mod MadeLemmas
pub mod ReportLemmas
