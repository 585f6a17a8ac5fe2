pub mod AcceptLemmas
pub mod ChangeLemmas
pub mod LawLemmas
