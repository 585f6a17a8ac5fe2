pub mod ChangedLemmas
pub mod ReceiverLemmas
pub mod HearLemmas
pub mod ListLemmas
pub mod TellLemmas
