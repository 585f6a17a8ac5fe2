pub mod CommonLemmas
pub mod ParsedLemmas
pub mod StopLemmas
pub mod WireLemmas
