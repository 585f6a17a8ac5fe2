-- An edge's work goes into the network. This is the one place where packets get their numbers, origins and hops, and where
-- pipes are filled.
use Rattle.std.specs.Prelude.{◌+◌, ◌++◌, ℕ, true, List, [], ◌∷◌, if◌then◌else◌}
use Rattle.net_base.specs.declared.plan.places.EdgeId.{EdgeId}
use Rattle.net_base.specs.declared.trace.entry.Entry.{Entry}
use Rattle.net_base.specs.declared.trace.entry.Entry.TheVariants as entry
use Rattle.pw_messages.specs.LinkAnswers.{Answers}
use Rattle.edge_model.specs.declared.effect.Effect.{Effect}
use Rattle.edge_model.specs.declared.effect.Effect.TheVariants as effect
use Rattle.edge_model.specs.Work.{Work, beginning}
use Rattle.network_model.specs.State.{NetworkState, edge_at, stands, with_edge, with_packet, with_pipe}

-- what an event makes of a network, and what it tells
pub record Stepped : Type 0 where
  pub state : NetworkState
  pub entries : List Entry

-- nothing happens
abbrev pub network_stays : NetworkState → Stepped
network_stays network = record { state = network; entries = [] }

-- the event does not apply
abbrev pub idle : NetworkState → Stepped
idle network = record { state = network; entries = entry.Idle ∷ [] }

-- one thing after another
abbrev pub and_then : Stepped → (NetworkState → Stepped) → Stepped
and_then first next = record { state = (next first.state).state; entries = first.entries ++ (next first.state).entries }

-- octets go into the pipe towards a peer whose end stands; towards one that is gone they go nowhere
abbrev pub put_towards : EdgeId → EdgeId → List ℕ → NetworkState → NetworkState
put_towards me peer octets network =
    if stands network peer.0 me.0 then with_pipe me peer (network.pipes me.0 peer.0 ++ octets) network else network

-- what an effect of an edge makes of the network. A lost end empties the pipe towards it
abbrev pub absorb_one : EdgeId → ℕ → ℕ → Effect → NetworkState → NetworkState
absorb_one me origin hops (effect.Said peer octets) network = put_towards me peer octets network
absorb_one me origin hops (effect.Sent peer wire came octets) network = with_packet wire me peer origin (hops + 1) octets network
absorb_one me origin hops (effect.Closed peer) network = with_pipe peer me [] network
absorb_one me origin hops other network = network

-- what the network tells of it
abbrev pub entries_told : EdgeId → ℕ → ℕ → Effect → NetworkState → List Entry
entries_told me origin hops (effect.Said peer octets) network = entry.Said me peer octets ∷ []
entries_told me origin hops (effect.Sent peer wire came octets) network = entry.Sent me peer wire came (network.sent + 1) origin (hops + 1) octets ∷ []
entries_told me origin hops (effect.Left circuit octets) network = entry.Left circuit origin hops octets ∷ []
entries_told me origin hops (effect.Dropped cause) network = entry.Dropped me origin cause ∷ []
entries_told me origin hops (effect.Session peer state) network = entry.Session me peer state ∷ []
entries_told me origin hops (effect.Wire wire down) network = entry.Wire me wire down ∷ []
entries_told me origin hops (effect.Pong wire sequence) network = entry.Pong me wire sequence ∷ []
entries_told me origin hops (effect.Closed peer) network = []

-- all effects of an edge in order
abbrev pub absorb_all : EdgeId → ℕ → ℕ → List Effect → NetworkState → NetworkState
absorb_all me origin hops [] network = network
absorb_all me origin hops (e ∷ es) network = absorb_all me origin hops es (absorb_one me origin hops e network)

-- what they tell, in order
abbrev pub all_entries_of : EdgeId → ℕ → ℕ → List Effect → NetworkState → List Entry
all_entries_of me origin hops [] network = []
all_entries_of me origin hops (e ∷ es) network =
    entries_told me origin hops e network ++ all_entries_of me origin hops es (absorb_one me origin hops e network)

-- the work of an edge on an input of this origin, which has passed so many segments
abbrev pub absorb : EdgeId → ℕ → ℕ → Work → NetworkState → Stepped
absorb me origin hops work network = record {
  state = absorb_all me origin hops work.effects (with_edge me work.edge network);
  entries = all_entries_of me origin hops work.effects (with_edge me work.edge network);
}

-- the same where the event does not apply where the input does not
abbrev pub answer : EdgeId → ℕ → ℕ → Work → NetworkState → Stepped
answer me origin hops work network = if work.idle then idle network else absorb me origin hops work network

-- a link of the network takes every call
abbrev pub taken_all : Answers
taken_all k = true

-- an edge of the network before an input
abbrev pub begin_at : NetworkState → EdgeId → Work
begin_at network me = beginning (edge_at network me) []
