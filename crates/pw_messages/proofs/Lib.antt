pub mod CommonLemmas
pub mod EncodedLemmas
pub mod TellLemmas
