pub mod DocumentLemmas
pub mod EventLemmas
pub mod KeyLemmas
pub mod OfferLemmas
pub mod QuadLemmas
pub mod RowLemmas
