pub mod OctetLemmas
pub mod SumLemmas
pub mod WordLemmas
pub mod PacketLemmas
pub mod ReadingLemmas
pub mod LawLemmas
