pub mod AbsorbLemmas
pub mod AgeLemmas
pub mod CalmLemmas
pub mod CommonLemmas
mod ConnectionExamples
pub mod EdgeLemmas
mod Examples
pub mod FloodLemmas
pub mod GoalLemmas
pub mod InnerLemmas
pub mod KnownLemmas
pub mod OtherLemmas
mod PacketExamples
pub mod PacketListLemmas
pub mod PlaceLemmas
pub mod PlanLemmas
pub mod PointLemmas
pub mod QuietLemmas
pub mod ReversedLemmas
pub mod RunLemmas
pub mod SplitLemmas
pub mod WayLemmas
