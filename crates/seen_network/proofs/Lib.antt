pub mod CommonLemmas
pub mod EventLemmas
pub mod ReadLemmas
pub mod VerdictLemmas
pub mod WindowLemmas
