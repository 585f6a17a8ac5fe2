pub mod CutLemmas
pub mod HexLemmas
pub mod LaneLemmas
pub mod PairLemmas
pub mod SpacedLemmas
