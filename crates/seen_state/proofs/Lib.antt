pub mod CalmLemmas
pub mod CopyLemmas
pub mod NumberedLemmas
pub mod OpenLemmas
pub mod PeerEndLemmas
pub mod RowLemmas
pub mod SeenEdgesLemmas
