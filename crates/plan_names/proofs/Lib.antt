pub mod BelowLemmas
pub mod DecimalLemmas
pub mod NameLemmas
