pub mod AddressLemmas
mod Examples
pub mod LawLemmas
pub mod PutLemmas
pub mod ReasonLemmas
pub mod TickLemmas
