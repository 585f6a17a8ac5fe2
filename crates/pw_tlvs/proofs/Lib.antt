pub mod CommonLemmas
pub mod ExactLemmas
mod Examples
pub mod FaultLemmas
pub mod FecLemmas
pub mod FoundLemmas
pub mod LawLemmas
pub mod MacLemmas
pub mod ParameterLemmas
pub mod PointLemmas
pub mod ReadLemmas
pub mod ReadingLemmas
pub mod StatusLemmas
pub mod SubTlvLemmas
pub mod ToldLemmas
pub mod WritableLemmas
pub mod WrittenLemmas
pub mod WrongLemmas
