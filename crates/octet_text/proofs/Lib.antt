pub mod DigitLemmas
pub mod HexLemmas
pub mod LaneLemmas
pub mod MarkLaneLemmas
pub mod MarkLemmas
