pub mod AddressLemmas
pub mod AgeLemmas
pub mod IndexLemmas
pub mod RemovalLemmas
pub mod StoredLemmas
