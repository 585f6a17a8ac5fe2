pub mod EventLemmas
pub mod ReadLemmas
pub mod ValueLemmas
