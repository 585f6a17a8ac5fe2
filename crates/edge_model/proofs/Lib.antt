pub mod AgainLemmas
pub mod AgeLemmas
pub mod AgingLemmas
pub mod ApartLemmas
pub mod BridgeLemmas
pub mod ChoiceLemmas
pub mod CommonLemmas
pub mod CopyLemmas
mod EchoExamples
mod Examples
pub mod FitLemmas
pub mod FollowLemmas
pub mod HeldLemmas
pub mod LabelLemmas
pub mod LocalLemmas
pub mod MendLemmas
pub mod MendedLemmas
pub mod OneEndLemmas
mod PacketExamples
pub mod PacketLemmas
pub mod PartsLemmas
pub mod PassedLemmas
pub mod PingLemmas
pub mod PlaceLemmas
pub mod ReleaseLemmas
pub mod RestartedLemmas
pub mod RisingLemmas
mod SessionExamples
pub mod SessionLemmas
mod SignalExamples
pub mod SignalLemmas
pub mod StandbyLemmas
pub mod StillLemmas
mod SwitchExamples
pub mod SyncLemmas
pub mod WalkLemmas
