pub mod TableLemmas
pub mod SortingLemmas
