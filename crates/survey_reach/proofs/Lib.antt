mod FaultLemmas
mod GroundLemmas
mod HomeLemmas
pub mod MeshLemmas
mod MetLemmas
mod RivalLemmas
pub mod RowLemmas
pub mod WordLemmas
