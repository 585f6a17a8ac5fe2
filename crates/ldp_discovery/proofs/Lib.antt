pub mod AdjacencyLemmas
pub mod LapsedLemmas
pub mod LiveLemmas
pub mod HearLemmas
pub mod HelloLemmas
pub mod HistoryLemmas
