pub mod AtWorkLemmas
pub mod HearLemmas
pub mod FrontLemmas
pub mod HeardLemmas
pub mod SettleLemmas
pub mod SpeakerLemmas
pub mod TickLemmas
