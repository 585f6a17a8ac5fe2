pub mod CalmLemmas
pub mod PairLemmas
