pub mod OctetLemmas
pub mod PacketLemmas
