-- An edge at one moment: maps from places in the plan.
use Rattle.std.specs.Prelude.{◌==◌, ◌+◌, ◌^◌, ◌-◌, filter, not, nat_lt, ℕ, Bool, true, false, List, [], Option, Some, None, slice_get, if◌then◌else◌}
use Rattle.net_base.specs.declared.plan.Plan.{Plan}
use Rattle.net_base.specs.declared.plan.edge_plan.EdgePlan.{EdgePlan}
use Rattle.net_base.specs.declared.plan.wire_plan.WirePlan.{WirePlan}
use Rattle.net_base.specs.declared.plan.places.EdgeId.{EdgeId}
use Rattle.net_base.specs.declared.plan.places.ServiceId.{ServiceId}
use Rattle.net_base.specs.declared.plan.places.CircuitId.{CircuitId}
use Rattle.net_base.specs.declared.plan.places.WireId.{WireId}
use Rattle.net_base.specs.declared.trace.down.Down.{Down}
use Rattle.net_base.specs.declared.trace.down.Down.TheVariants.{NoLocal}
use Rattle.label_space.specs.declared.kept.Kept.{Kept}
use Rattle.mac_table.specs.declared.mac_entry.MacEntry.{MacEntry}
use Rattle.pw_signalling.specs.End.{EndState, fresh}
use Rattle.pw_signalling.specs.Rows.{renewed}
use Rattle.session_core.specs.State.{SessionState}
use Rattle.edge_model.specs.declared.end_place.EndPlace.{EndPlace}
use Rattle.edge_model.specs.EndPlaces.{end_places}

-- what an edge keeps for a neighbour as long as its end of their connection stands
pub record Peering : Type 0 where
  -- its session, which stands
  pub session : SessionState
  -- the octets that it has heard and that are no whole PDU yet
  pub held : List ℕ
  -- the Message ID of the next message
  pub next_id : ℕ

-- what an edge holds
pub record EdgeState : Type 0 where
  -- its own place, and where it has ends of pseudowires
  pub me : EdgeId
  pub places : List EndPlace
  -- the circuits that are on
  pub circuit_on : ℕ → Bool
  -- what the bridge of each service has learned
  pub learned : ℕ → List MacEntry
  -- how many ticks have passed
  pub ticks : ℕ
  -- what it keeps for each neighbour; its end of the connection stands exactly where there is something
  pub peering : ℕ → Option Peering
  -- the wires that are on
  pub wire_on : ℕ → Bool
  -- the failure bits of its end of each wire (RFC 4446 section 3.5)
  pub bits : ℕ → ℕ
  -- its end of each wire beside each neighbour
  pub ends : ℕ → ℕ → EndState
  -- why its end of each wire does not forward, as it was told last; an end of which nothing was told counts as one that
  -- advertises no label
  pub told_down : ℕ → Option Down
  -- the priority number of its spoke on each wire (RFC 6870)
  pub priority : ℕ → ℕ
  -- the wire of the spoke that it has chosen for each service (RFC 6870)
  pub chosen : ℕ → Option WireId
  -- the label that it gives next (RFC 3032 section 2.1)
  pub next_label : ℕ
  -- the numbers that it has given, that no end owns any more, and that may be given again some time
  pub kept : List Kept
  -- the sequence number of its next ping of each wire (RFC 792)
  pub next_ping : ℕ → ℕ

-- the label that is given first, by the edge's row
abbrev pub first_label_of : Option EdgePlan → ℕ
first_label_of None = 16
first_label_of (Some row) = row.first_label

-- the first label of an edge of the plan
abbrev pub first_label : Plan → EdgeId → ℕ
first_label plan me = first_label_of (slice_get plan.edges me.0)

-- the priority number of a spoke by the plan
abbrev pub priority_in : Option WirePlan → ℕ
priority_in None = 0
priority_in (Some row) = row.priority

-- pings are numbered from 1
abbrev pub first_ping : ℕ
first_ping = 1

-- before the first input: every circuit and every wire is on, nothing is learned, no connection stands, nothing was told, spokes
-- have the priorities of the plan, none is chosen, and nothing was pinged
abbrev pub empty_edge : Plan → EdgeId → EdgeState
empty_edge plan me = record {
  me = me;
  places = end_places plan me;
  circuit_on = λ circuit. true;
  learned = λ service. [];
  ticks = 0;
  peering = λ peer. None;
  wire_on = λ wire. true;
  bits = λ wire. 0;
  ends = λ wire peer. fresh;
  told_down = λ wire. Some NoLocal;
  priority = λ wire. priority_in (slice_get plan.wires wire);
  chosen = λ service. None;
  next_label = first_label plan me;
  kept = [];
  next_ping = λ wire. first_ping;
}

-- a circuit is on
abbrev pub is_on : EdgeState → CircuitId → Bool
is_on edge circuit = edge.circuit_on circuit.0

-- what the bridge of a service has learned
abbrev pub addresses_of : EdgeState → ServiceId → List MacEntry
addresses_of edge service = edge.learned service.0

-- something is kept
abbrev pub is_there : {X : Type 0} → Option X → Bool
is_there None = false
is_there (Some x) = true

-- the edge's end of its connection with a peer stands
abbrev pub has_end : EdgeState → EdgeId → Bool
has_end edge peer = is_there (edge.peering peer.0)

-- an end by its place
abbrev pub end_at : EdgeState → EndPlace → EndState
end_at edge place = edge.ends place.wire.0 place.peer.0

-- the entries without those at a port
abbrev pub without_port : Option ℕ → List MacEntry → List MacEntry
without_port None entries = entries
without_port (Some p) entries = filter (λ e. not (e.port == p)) entries

-- a map with another value at one place
abbrev pub put_at : {X : Type 0} → (ℕ → X) → ℕ → X → ℕ → X
put_at map place value k = if k == place then value else map k

-- ---- what can become of an edge, one operation a field

-- one circuit on or off
unfoldable pub with_circuit : CircuitId → Bool → EdgeState → EdgeState
with_circuit circuit on edge = record edge { circuit_on = put_at edge.circuit_on circuit.0 on }

-- other addresses of one service
unfoldable pub with_addresses : ServiceId → List MacEntry → EdgeState → EdgeState
with_addresses service entries edge = record edge { learned = put_at edge.learned service.0 entries }

-- other addresses of every service
unfoldable pub with_learned : (ℕ → List MacEntry) → EdgeState → EdgeState
with_learned learned edge = record edge { learned = learned }

-- what is kept for one neighbour, or nothing any more
unfoldable pub with_peering : EdgeId → Option Peering → EdgeState → EdgeState
with_peering peer kept edge = record edge { peering = put_at edge.peering peer.0 kept }

-- nothing is kept for any neighbour
unfoldable pub without_peerings : EdgeState → EdgeState
without_peerings edge = record edge { peering = λ peer. None }

-- another count of ticks
unfoldable pub with_ticks : ℕ → EdgeState → EdgeState
with_ticks ticks edge = record edge { ticks = ticks }

-- one wire on or off
unfoldable pub with_wire : WireId → Bool → EdgeState → EdgeState
with_wire wire on edge = record edge { wire_on = put_at edge.wire_on wire.0 on }

-- other failure bits of the end of one wire
unfoldable pub with_bits : WireId → ℕ → EdgeState → EdgeState
with_bits wire bits edge = record edge { bits = put_at edge.bits wire.0 bits }

-- another state of one end
unfoldable pub with_end : EndPlace → EndState → EdgeState → EdgeState
with_end place end edge = record edge { ends = put_at edge.ends place.wire.0 (put_at (edge.ends place.wire.0) place.peer.0 end) }

-- each end beside a peer is changed
unfoldable pub with_ends_beside : EdgeId → (EndState → EndState) → EdgeState → EdgeState
with_ends_beside peer change edge = record edge { ends = λ wire k. if k == peer.0 then change (edge.ends wire k) else edge.ends wire k }

-- the ends of a wire are declined no longer
unfoldable pub with_renewed : WireId → EdgeState → EdgeState
with_renewed wire edge = record edge { ends = λ k peer. if k == wire.0 then renewed (edge.ends k peer) else edge.ends k peer }

-- each end is as before the first input, what was told of it and how often it was pinged is forgotten, and no spoke is chosen
unfoldable pub without_ends : EdgeState → EdgeState
without_ends edge = record edge { ends = λ wire peer. fresh; told_down = λ wire. Some NoLocal; chosen = λ service. None; next_ping = λ wire. first_ping }

-- why the end of a wire does not forward was told
unfoldable pub with_told_down : WireId → Option Down → EdgeState → EdgeState
with_told_down wire down edge = record edge { told_down = put_at edge.told_down wire.0 down }

-- another priority number of the spoke on one wire
unfoldable pub with_priority : WireId → ℕ → EdgeState → EdgeState
with_priority wire priority edge = record edge { priority = put_at edge.priority wire.0 priority }

-- other spokes are chosen
unfoldable pub with_chosen : (ℕ → Option WireId) → EdgeState → EdgeState
with_chosen chosen edge = record edge { chosen = chosen }

-- another label is next
unfoldable pub with_next_label : ℕ → EdgeState → EdgeState
with_next_label label edge = record edge { next_label = label }

-- other numbers are kept to be given again
unfoldable pub with_kept : List Kept → EdgeState → EdgeState
with_kept kept edge = record edge { kept = kept }

-- another sequence number of the next ping of one wire
unfoldable pub with_next_ping : WireId → ℕ → EdgeState → EdgeState
with_next_ping wire sequence edge = record edge { next_ping = put_at edge.next_ping wire.0 sequence }

-- an edge counts its ticks up to 2^64 - 1
abbrev pub later : ℕ → ℕ
later ticks = if nat_lt ticks (2 ^ 64 - 1) then ticks + 1 else ticks
