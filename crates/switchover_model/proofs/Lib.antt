pub mod AgreeLemmas
pub mod CommonLemmas
pub mod DoesLemmas
mod Examples
pub mod FlightLemmas
pub mod NetworkLemmas
pub mod PartLemmas
pub mod RunLemmas
pub mod TwoLemmas
