pub mod CommandLemmas
pub mod NameLemmas
pub mod RowLemmas
pub mod ScenarioLemmas
