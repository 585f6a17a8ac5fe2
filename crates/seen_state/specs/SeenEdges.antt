-- What is seen of a network but for the packets under way, as lists by the plan's places, and as a trace shows it.
use Rattle.std.specs.Prelude.{◌≡◌, ◌<◌, ℕ, Bool, true, false, List, [], length, slice_index_or, Option, Some, None}
use Rattle.net_base.specs.declared.plan.Plan.{Plan}
use Rattle.net_base.specs.declared.plan.places.EdgeId.{EdgeId}
use Rattle.seen_network.specs.Seen.{Seen, SeenCopy}
use Rattle.seen_state.specs.declared.sizes.Sizes.{Sizes}
use Rattle.seen_state.specs.PeerEnd.{EndSeen, no_end}

-- the ends of an edge by their peers, and the wires that are up at it
pub record EdgeSeen : Type 0 where
  pub ends : List EndSeen
  pub up : List Bool

-- what is seen of all edges, by their places
pub record SeenEdgeLists : Type 0 where
  pub sizes : Sizes
  pub edges : List EdgeSeen
  pub on : List Bool

-- of an edge past the plan nothing is seen
abbrev pub unseen_edge : EdgeSeen
unseen_edge = record { ends = []; up = [] }

-- what is seen of an edge
abbrev pub edge_seen : SeenEdgeLists → ℕ → EdgeSeen
edge_seen seen_edges me = slice_index_or seen_edges.edges me unseen_edge

-- what is seen of its end beside a peer
abbrev pub end_seen : SeenEdgeLists → ℕ → ℕ → EndSeen
end_seen seen_edges me peer = slice_index_or (edge_seen seen_edges me).ends peer no_end

-- as a trace shows it, with these packets under way
unfoldable pub shown_with : SeenEdgeLists → List SeenCopy → Seen
shown_with seen_edges copies = record {
  stands = λ me peer. (end_seen seen_edges me peer).stands;
  pipes = λ from to. (end_seen seen_edges to from).way;
  rests = λ me peer. (end_seen seen_edges me peer).rest;
  up = λ me wire. slice_index_or (edge_seen seen_edges me).up wire false;
  on = λ circuit. slice_index_or seen_edges.on circuit true;
  under_way = copies;
}

-- a row for each edge, and in it an end for each edge and a place for each wire
pub record IsWhole (seen_edges : SeenEdgeLists) : Type 0 where
  pub edges : length seen_edges.edges ≡ seen_edges.sizes.edges
  pub ends : (k : ℕ) → k < seen_edges.sizes.edges → length (edge_seen seen_edges k).ends ≡ seen_edges.sizes.edges
  pub wires : (k : ℕ) → k < seen_edges.sizes.edges → length (edge_seen seen_edges k).up ≡ seen_edges.sizes.wires
  pub circuits : length seen_edges.on ≡ seen_edges.sizes.circuits

-- the sizes of a plan
abbrev pub sizes_of : Plan → Sizes
sizes_of plan = record { edges = length plan.edges; wires = length plan.wires; circuits = length plan.circuits }

-- what is seen is what a trace shows
abbrev pub ShowsEdges : SeenEdgeLists → Seen → Type 0
ShowsEdges seen_edges seen = shown_with seen_edges seen.under_way ≡ seen

-- a wire is up at an edge, where one is told
abbrev pub up_at : Seen → ℕ → Option EdgeId → Bool
up_at seen wire None = false
up_at seen wire (Some edge) = seen.up edge.0 wire
