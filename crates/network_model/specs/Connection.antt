-- Connections between edges: their ends come to stand, octets are delivered on them, and their ends are lost. Each keeps the
-- order of its octets, and an end that is lost loses what was on its way to it (RFC 5036 section 2.5).
use Rattle.std.specs.Prelude.{◌&&◌, ◌||◌, ◌==◌, not, take, drop, length, ℕ, Bool, List, if◌then◌else◌}
use Rattle.net_base.specs.declared.plan.Plan.{Plan}
use Rattle.net_base.specs.declared.plan.places.EdgeId.{EdgeId}
use Rattle.net_base.specs.plan.Paths.{are_joined}
use Rattle.edge_model.specs.Connection.{connected_input, lost_input, restart_input}
use Rattle.edge_model.specs.declared.effect.Effect.{Effect}
use Rattle.edge_model.specs.Hear.{octets_input}
use Rattle.edge_model.specs.Work.{Work}
use Rattle.network_model.specs.Absorb.{Stepped, absorb, absorb_all, all_entries_of, and_then, begin_at, idle, taken_all}
use Rattle.network_model.specs.State.{NetworkState, edge_at, stands, with_edge, with_pipe, without_octets_to}

-- ---- a connection comes up

-- the two edges are joined, and neither end of a connection between them stands
abbrev pub can_connect : Plan → NetworkState → ℕ → ℕ → Bool
can_connect plan network a b = are_joined plan a b && (not (stands network a b) && not (stands network b a))

-- the work of an edge whose end comes to stand
abbrev pub connected_work : Plan → NetworkState → EdgeId → EdgeId → Work
connected_work plan network me peer = connected_input plan taken_all peer (begin_at network me)

-- what an edge gave out goes into a network in which its work is done
abbrev pub given_out : EdgeId → List Effect → NetworkState → Stepped
given_out me effects network = record { state = absorb_all me 0 0 effects network; entries = all_entries_of me 0 0 effects network }

-- both ends stand before what either edge put is on its way; what the first one gave out comes first
abbrev pub connecting : EdgeId → Work → EdgeId → Work → NetworkState → Stepped
connecting from first to second network =
    and_then (given_out from first.effects (with_edge to second.edge (with_edge from first.edge network))) (given_out to second.effects)

-- the event `Connect`: it is idle where the two cannot connect
abbrev pub connect_event : Plan → EdgeId → EdgeId → NetworkState → Stepped
connect_event plan from to network =
    if can_connect plan network from.0 to.0
    then connecting from (connected_work plan network from to) to (connected_work plan network to from) network
    else idle network

-- ---- octets are delivered

-- nothing is on its way from an edge to another one
abbrev pub is_drained_pipe : NetworkState → ℕ → ℕ → Bool
is_drained_pipe network from to = length (network.pipes from to) == 0

-- the end of the receiver stands, and octets are on their way to it, or the end that put them is gone
abbrev pub is_deliverable : NetworkState → ℕ → ℕ → Bool
is_deliverable network from to = stands network to from && (not (is_drained_pipe network from to) || not (stands network from to))

-- the work of an edge that hears octets, and of one whose end is lost
abbrev pub hearing_work : Plan → NetworkState → EdgeId → EdgeId → List ℕ → Work
hearing_work plan network from to octets = octets_input plan taken_all from octets ((edge_at network to).peering from.0) (begin_at network to)

-- the work of an edge whose end of a connection is lost
abbrev pub losing_work : Plan → NetworkState → EdgeId → EdgeId → Work
losing_work plan network me peer = lost_input plan taken_all peer (begin_at network me)

-- the first octets of the pipe go to the receiver; those behind them stay on their way
abbrev pub delivering : Plan → EdgeId → EdgeId → ℕ → NetworkState → Stepped
delivering plan from to count network =
    absorb to 0 0 (hearing_work plan network from to (take count (network.pipes from.0 to.0))) (with_pipe from to (drop count (network.pipes from.0 to.0)) network)

-- the end that put octets is gone, and all of them were delivered: the receiver's end is lost
abbrev pub losing : Plan → EdgeId → EdgeId → NetworkState → Stepped
losing plan me peer network = absorb me 0 0 (losing_work plan network me peer) network

-- the event `Deliver`: it is idle where nothing can be delivered; the end of the receiver is lost where nothing is left
abbrev pub deliver_event : Plan → EdgeId → EdgeId → ℕ → NetworkState → Stepped
deliver_event plan from to count network =
    if is_deliverable network from.0 to.0
    then (if is_drained_pipe network from.0 to.0 then losing plan to from network else delivering plan from to count network)
    else idle network

-- ---- ends are lost

-- the event `Lose`: it is idle where the edge's end does not stand
abbrev pub lose_event : Plan → EdgeId → EdgeId → NetworkState → Stepped
lose_event plan me peer network = if stands network me.0 peer.0 then losing plan me peer network else idle network

-- the edge restarts: its ends are lost, and so is what was on its way to them
abbrev pub restart_event : EdgeId → NetworkState → Stepped
restart_event me network = absorb me 0 0 (restart_input (begin_at network me)) (without_octets_to me network)
