-- What a message is worth: one for itself, and all that may come of it while only octets are delivered.
use Rattle.std.specs.Prelude.{◌==◌, ◌+◌, ◌&&◌, ◌||◌, not, nat_lt, ℕ, zero, suc, Bool, true, false, List, [], ◌∷◌, Option, Some, None, option_and_then, if◌then◌else◌}
use Rattle.net_base.specs.declared.plan.Plan.{Plan}
use Rattle.net_base.specs.declared.plan.places.EdgeId.{EdgeId}
use Rattle.net_base.specs.declared.plan.wire_plan.WirePlan.{WirePlan}
use Rattle.net_base.specs.plan.Paths.{is_first, mate_on}
use Rattle.net_base.specs.plan.Places.{is_mesh_class, wire_row}
use Rattle.hvpls_spokes.specs.declared.port.Port.{Port}
use Rattle.hvpls_spokes.specs.declared.port.Port.TheVariants as port
use Rattle.hvpls_spokes.specs.Port.{ports_of}
use Rattle.ldp_grammar.specs.declared.message.Message.{Message}
use Rattle.edge_model.specs.declared.end_place.EndPlace.{EndPlace}
use Rattle.edge_model.specs.Across.{end_beside}
use Rattle.edge_model.specs.EndPlaces.{end_named, end_places, is_terminal}
use Rattle.edge_model.specs.Ends.{wire_end}
use Rattle.edge_model.specs.Spokes.{is_spoke_row}
use Rattle.edge_model.specs.State.{EdgeState}
use Rattle.rest_laws.specs.Levels.{Saying, Binds, Withdraws, Releases, States, Clears, is_above, level, level_at, pw_id_of, saying_of}
use Rattle.rest_laws.specs.Rises.{left_above}

-- ---- sums

-- a number, where this holds
abbrev pub gate : Bool → ℕ → ℕ
gate true n = n
gate false n = 0

abbrev pub larger : ℕ → ℕ → ℕ
larger a b = if nat_lt a b then b else a

abbrev pub ends_sum : (EndPlace → ℕ) → List EndPlace → ℕ
ends_sum f [] = 0
ends_sum f (place ∷ places) = f place + ends_sum f places

-- ---- what one mending puts

-- the edge is the spoke edge of the wire
abbrev pub starts_spoke : EdgeId → Option WirePlan → Bool
starts_spoke me None = false
starts_spoke me (Some row) = not (is_mesh_class row.class) && is_first me.0 row.path

-- At each of its ends an edge that mends puts a mapping or a withdrawal at most, and a status; and where it may choose the spoke, a
-- withdrawal of addresses.
abbrev pub end_cost : Plan → EdgeId → (EndPlace → Saying → ℕ) → EndPlace → ℕ
end_cost plan me cost place =
    larger (cost place Withdraws) (cost place Binds) + (cost place States + gate (starts_spoke me (wire_row plan place.wire)) (cost place Clears))

abbrev pub mend_cost : Plan → EdgeId → (EndPlace → Saying → ℕ) → ℕ
mend_cost plan me cost = ends_sum (end_cost plan me cost) (end_places plan me)

-- a withdrawal of addresses goes on by the ports of its service
abbrev pub found_cost : (EndPlace → Saying → ℕ) → Option EndPlace → ℕ
found_cost cost None = 0
found_cost cost (Some place) = cost place Clears

abbrev pub port_cost : Plan → EdgeId → (EndPlace → Saying → ℕ) → Port → ℕ
port_cost plan me cost (port.Circuit circuit) = 0
port_cost plan me cost (port.Mesh wire) = found_cost cost (wire_end plan me wire)
port_cost plan me cost (port.Spoke wire) = found_cost cost (wire_end plan me wire)

abbrev pub ports_cost : Plan → EdgeId → (EndPlace → Saying → ℕ) → List Port → ℕ
ports_cost plan me cost [] = 0
ports_cost plan me cost (first ∷ ports) = port_cost plan me cost first + ports_cost plan me cost ports

-- and from switching point to switching point
abbrev pub clear_cost : Plan → EdgeId → (EndPlace → Saying → ℕ) → EndPlace → WirePlan → ℕ
clear_cost plan me cost place row =
    if is_terminal row me
    then ports_cost plan me cost (ports_of plan row.service me)
    else found_cost cost (end_beside plan me place.wire (mate_on row.path me.0 place.peer.0))

-- ---- what comes of a message

-- what each message is worth: by the edge that says it, the wire, the peer, and what it says
abbrev pub Worths : Type 0
Worths = ℕ → ℕ → ℕ → Saying → ℕ

-- an end is the one of a wire beside a peer, and one on the other side of it
abbrev pub is_beside : (wire peer : ℕ) → EndPlace → Bool
is_beside wire peer place = place.wire.0 == wire && place.peer.0 == peer

abbrev pub is_beyond : (wire peer : ℕ) → EndPlace → Bool
is_beyond wire peer place = place.wire.0 == wire && not (place.peer.0 == peer)

-- the end is that of a spoke of the same service as this wire, where this is a spoke of the edge
abbrev pub shares_choice : Plan → EdgeId → WirePlan → EndPlace → Bool
shares_choice plan me row place = starts_spoke me (Some row) && is_spoke_row row.service me (wire_row plan place.wire)

-- A Label Release lets the end itself map anew, and then another spoke may be chosen.
abbrev pub may_release : Plan → EdgeId → (wire peer : ℕ) → WirePlan → EndPlace → Saying → Bool
may_release plan me wire peer row place Binds = is_beside wire peer place
may_release plan me wire peer row place Withdraws = false
may_release plan me wire peer row place Releases = true
may_release plan me wire peer row place States = shares_choice plan me row place
may_release plan me wire peer row place Clears = shares_choice plan me row place

-- Labels go on beyond a switching point; at the other end of the wire they may go back, where that way hangs on this one. A status goes on
-- beyond a switching point too; and on a spoke of the edge another one may be chosen, whatever was heard.
abbrev pub may_pass : Plan → EdgeId → (wire peer : ℕ) → WirePlan → EndPlace → Saying → Bool
may_pass plan me wire peer row place Binds = place.wire.0 == wire && (is_terminal row me || not (place.peer.0 == peer))
may_pass plan me wire peer row place Withdraws = place.wire.0 == wire && (is_terminal row me || not (place.peer.0 == peer))
may_pass plan me wire peer row place Releases = true
may_pass plan me wire peer row place States = is_beyond wire peer place || shares_choice plan me row place
may_pass plan me wire peer row place Clears = shares_choice plan me row place

-- what may follow at which ends, by what is heard
abbrev pub may_follow : Plan → EdgeId → (wire peer : ℕ) → WirePlan → (heard : Saying) → EndPlace → Saying → Bool
may_follow plan me wire peer row Binds place saying = may_pass plan me wire peer row place saying
may_follow plan me wire peer row Withdraws place saying = may_pass plan me wire peer row place saying
may_follow plan me wire peer row Releases place saying = may_release plan me wire peer row place saying
may_follow plan me wire peer row States place saying = may_pass plan me wire peer row place saying
may_follow plan me wire peer row Clears place saying = true

-- whatever follows is of a higher level
abbrev pub follow_cost : Plan → (ℕ → EdgeState) → Worths → EdgeId → (least : ℕ) → (EndPlace → Saying → Bool) → EndPlace → Saying → ℕ
follow_cost plan edges worths me least may place saying =
    gate (is_above plan edges me.0 least place saying && may place saying) (worths me.0 place.wire.0 place.peer.0 saying)

-- what follows a message about the wire of an end from the neighbour there
abbrev pub heard_cost : Plan → (ℕ → EdgeState) → Worths → EdgeId → EndPlace → WirePlan → (heard : Saying) → EndPlace → Saying → ℕ
heard_cost plan edges worths me place row heard =
    follow_cost plan edges worths me (level edges place.wire.0 row place.peer.0 me.0 heard) (may_follow plan me place.wire.0 place.peer.0 row heard)

-- what may come of it: a Label Withdraw is answered too
abbrev pub comes_of : Plan → (ℕ → EdgeState) → Worths → EdgeId → EndPlace → WirePlan → Saying → ℕ
comes_of plan edges worths me place row Clears = clear_cost plan me (heard_cost plan edges worths me place row Clears) place row
comes_of plan edges worths me place row Withdraws =
    worths me.0 place.wire.0 place.peer.0 Releases + mend_cost plan me (heard_cost plan edges worths me place row Withdraws)
comes_of plan edges worths me place row saying = mend_cost plan me (heard_cost plan edges worths me place row saying)

-- an end of a wire beside a peer
abbrev pub beside : (wire peer : ℕ) → EndPlace
beside wire peer = record { wire = record { 0 = wire }; peer = record { 0 = peer }; pw_id = 0; segment = 0; side = 0; terminal = false }

abbrev pub comes_by : Plan → (ℕ → EdgeState) → Worths → (me from wire : ℕ) → Option WirePlan → Saying → ℕ
comes_by plan edges worths me from wire None saying = 0
comes_by plan edges worths me from wire (Some row) saying = comes_of plan edges worths (record { 0 = me }) (beside wire from) row saying

-- so many levels deep
abbrev pub worth : Plan → (ℕ → EdgeState) → ℕ → Worths
worth plan edges zero from wire to saying = 1
worth plan edges (suc deep) from wire to saying = suc (comes_by plan edges (worth plan edges deep) to from wire (wire_row plan (record { 0 = wire })) saying)

-- as deep as levels are left; a message about no wire is worth itself
abbrev pub worth_by : Plan → (ℕ → EdgeState) → ℕ → EndPlace → Saying → Option ℕ → ℕ
worth_by plan edges from place saying None = 1
worth_by plan edges from place saying (Some least) = worth plan edges (left_above least) from place.wire.0 place.peer.0 saying

abbrev pub worth_at : Plan → (ℕ → EdgeState) → ℕ → EndPlace → Saying → ℕ
worth_at plan edges from place saying = worth_by plan edges from place saying (level_at plan edges from saying place)

abbrev pub worth_named : Plan → (ℕ → EdgeState) → ℕ → Option Saying → Option EndPlace → ℕ
worth_named plan edges from None named = 1
worth_named plan edges from (Some saying) None = 1
worth_named plan edges from (Some saying) (Some place) = worth_at plan edges from place saying

-- of a message from one edge to its neighbour
abbrev pub message_worth : Plan → (ℕ → EdgeState) → ℕ → ℕ → Message → ℕ
message_worth plan edges from to message =
    worth_named plan edges from (saying_of message) (option_and_then (end_named plan (record { 0 = from }) (record { 0 = to })) (pw_id_of message))
