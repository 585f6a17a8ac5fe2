pub mod BoolLemmas
pub mod NumberLemmas
pub mod OptionLemmas
pub mod RowLemmas
