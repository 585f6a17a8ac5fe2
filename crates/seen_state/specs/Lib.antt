pub mod Calm
pub mod Copies
pub mod Numbered
pub mod PeerEnd
pub mod Placed
pub mod SeenState
pub mod SeenEdges
