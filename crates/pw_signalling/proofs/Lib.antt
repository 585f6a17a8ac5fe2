pub mod CommonLemmas
pub mod EndsLemmas
pub mod LawLemmas
pub mod StandbyLemmas
