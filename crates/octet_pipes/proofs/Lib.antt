pub mod EmptyLemmas
pub mod PipeLemmas
