pub mod LawLemmas
pub mod NameLemmas
pub mod ReadLemmas
pub mod RowLemmas
pub mod StopLemmas
pub mod TableLemmas
pub mod ValueLemmas
pub mod WordLemmas
