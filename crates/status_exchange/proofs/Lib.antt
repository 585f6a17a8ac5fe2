mod Examples
pub mod LineLemmas
pub mod PairLemmas
pub mod StatusLemmas
pub mod RunLemmas
