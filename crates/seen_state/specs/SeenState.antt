-- What entries have shown of a network.
use Rattle.seen_network.specs.Seen.{Seen}
use Rattle.seen_state.specs.declared.seen_state.SeenState.{SeenState}
use Rattle.seen_state.specs.Copies.{TellsPackets}
use Rattle.seen_state.specs.SeenEdges.{ShowsEdges}

-- this is what was seen
pub record Knows (state : SeenState) (seen : Seen) : Type 0 where
  pub shows : ShowsEdges state.seen_edges seen
  pub tells : TellsPackets state.copies seen.under_way
