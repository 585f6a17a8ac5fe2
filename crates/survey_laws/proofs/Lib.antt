mod Examples
pub mod CaseLemmas
pub mod ExactLemmas
pub mod FaultLemmas
pub mod FloodLemmas
pub mod HomeLemmas
pub mod PassLemmas
pub mod RestLemmas
pub mod SameLemmas
pub mod SettingLemmas
pub mod SoundLemmas
