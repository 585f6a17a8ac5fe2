pub mod LaidLemmas
pub mod LentLemmas
pub mod WordLemmas
