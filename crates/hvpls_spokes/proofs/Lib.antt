pub mod OrderLemmas
pub mod PortSetLemmas
pub mod PortsLemmas
pub mod RoleLemmas
pub mod RowPortLemmas
pub mod SearchLemmas
pub mod WirePortLemmas
