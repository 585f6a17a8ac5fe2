mod Examples
pub mod FieldLemmas
pub mod ReadingLemmas
pub mod RecordLemmas
pub mod WholeLemmas
pub mod WrittenLemmas
