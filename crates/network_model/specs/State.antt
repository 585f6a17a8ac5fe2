-- The network at one moment: the edges by their places, and what is on its way between them.
use Rattle.std.specs.Prelude.{◌++◌, ◌+◌, ◌==◌, nat_lt, ℕ, Bool, List, [], ◌∷◌, Option, Some, None, if◌then◌else◌}
use Rattle.net_base.specs.declared.plan.Plan.{Plan}
use Rattle.net_base.specs.declared.plan.places.EdgeId.{EdgeId}
use Rattle.net_base.specs.declared.plan.places.WireId.{WireId}
use Rattle.edge_model.specs.State.{EdgeState, Peering, empty_edge, is_there, put_at}
use Rattle.network_model.specs.declared.packet.Packet.{Packet}

-- the network
pub record NetworkState : Type 0 where
  -- the edges, by their places
  pub edges : ℕ → EdgeState
  -- the octets that an edge put towards another one and that are not delivered yet
  pub pipes : ℕ → ℕ → List ℕ
  -- the packets under way, by rising number
  pub under_way : List Packet
  -- how many packets were sent, and how many frames have entered
  pub sent : ℕ
  pub entered : ℕ

-- before the first event
abbrev pub empty_network : Plan → NetworkState
empty_network plan = record {
  edges = λ k. empty_edge plan (record { 0 = k });
  pipes = λ from to. [];
  under_way = [];
  sent = 0;
  entered = 0;
}

-- the state of an edge
abbrev pub edge_at : NetworkState → EdgeId → EdgeState
edge_at network edge = network.edges edge.0

-- an edge's end of its connection with a peer stands
abbrev pub stands : NetworkState → ℕ → ℕ → Bool
stands network edge peer = is_there ((network.edges edge).peering peer)

-- the octets that are held of a peer, where the edge's end stands
abbrev pub held_by : Option Peering → List ℕ
held_by None = []
held_by (Some peering) = peering.held

-- what an edge has heard of a peer and is no whole PDU yet
abbrev pub held : NetworkState → ℕ → ℕ → List ℕ
held network edge peer = held_by ((network.edges edge).peering peer)

-- ---- what can become of a network, one operation a field

-- another state of one edge
unfoldable pub with_edge : EdgeId → EdgeState → NetworkState → NetworkState
with_edge me edge network = record network { edges = put_at network.edges me.0 edge }

-- other octets on the way from an edge to another one
unfoldable pub with_pipe : EdgeId → EdgeId → List ℕ → NetworkState → NetworkState
with_pipe from to octets network = record network { pipes = put_at network.pipes from.0 (put_at (network.pipes from.0) to.0 octets) }

-- nothing is on its way to an edge any more
unfoldable pub without_octets_to : EdgeId → NetworkState → NetworkState
without_octets_to me network = record network { pipes = λ from to. if to == me.0 then [] else network.pipes from to }

-- one more packet under way, with the next number
unfoldable pub with_packet : WireId → EdgeId → EdgeId → ℕ → ℕ → List ℕ → NetworkState → NetworkState
with_packet wire from to origin hops octets network = record network {
  under_way = network.under_way ++ record { number = network.sent + 1; wire = wire; from = from; to = to; origin = origin; hops = hops; age = 0; bytes = octets } ∷ [];
  sent = network.sent + 1;
}

-- the packets but the first with this number
abbrev pub without_number : ℕ → List Packet → List Packet
without_number number [] = []
without_number number (packet ∷ packets) = if packet.number == number then packets else packet ∷ without_number number packets

-- a packet is under way no more
unfoldable pub without_packet : ℕ → NetworkState → NetworkState
without_packet number network = record network { under_way = without_number number network.under_way }

-- one more packet under way, with the next number, that is in all else as another one
unfoldable pub with_copy : Packet → NetworkState → NetworkState
with_copy packet network = record network {
  under_way = network.under_way ++ record packet { number = network.sent + 1 } ∷ [];
  sent = network.sent + 1;
}

-- a packet lives fewer ticks than this
abbrev pub life_ticks : ℕ
life_ticks = 64

-- a tick passes for a packet: it is older, and where it is too old then it goes
abbrev pub older : Packet → Packet
older packet = record packet { age = packet.age + 1 }

-- it is not too old with this tick
abbrev pub lives_on : Packet → Bool
lives_on packet = nat_lt (older packet).age life_ticks

-- the packets under way after the tick
abbrev pub all_older : List Packet → List Packet
all_older [] = []
all_older (p ∷ ps) = if lives_on p then older p ∷ all_older ps else all_older ps

-- a tick passes for the packets under way
unfoldable pub with_older : NetworkState → NetworkState
with_older network = record network { under_way = all_older network.under_way }

-- one more frame has entered
unfoldable pub with_frame : NetworkState → NetworkState
with_frame network = record network { entered = network.entered + 1 }
