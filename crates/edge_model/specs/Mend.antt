-- An edge mends its ends: what an end tells follows what it should tell by now (RFC 8077 sections 6 and 6.3). Each step goes over
-- the edge's ends in the order of the wires, and of the segments of each.
use Rattle.std.specs.Prelude.{◌==◌, ◌+◌, ◌&&◌, ◌||◌, not, ℕ, Bool, true, false, zero, suc, List, [], ◌∷◌, Option, Some, None, length, position, if◌then◌else◌}
use Rattle.net_base.specs.declared.plan.Plan.{Plan}
use Rattle.net_base.specs.declared.plan.offer.Offer.{Offer}
use Rattle.net_base.specs.declared.plan.places.WireId.{WireId}
use Rattle.net_base.specs.declared.plan.wire_plan.WirePlan.{WirePlan}
use Rattle.net_base.specs.declared.trace.down.Down.{Down}
use Rattle.net_base.specs.declared.trace.down.Down.TheVariants as cause
use Rattle.net_base.specs.declared.plan.places.EdgeId.{EdgeId}
use Rattle.net_base.specs.plan.Paths.{edge_address, mate, offer_of}
use Rattle.net_base.specs.plan.Places.{wire_row}
use Rattle.pw_messages.specs.Content.{content_of, mapping, status_notification, withdrawal}
use Rattle.pw_messages.specs.LinkAnswers.{Answers}
use Rattle.hvpls_spokes.specs.Port.{is_wire_port, ports_of}
use Rattle.pw_tlvs.specs.declared.pw_status.PwStatus.{PwStatus}
use Rattle.pw_status.specs.declared.method.Method.{Method}
use Rattle.pw_status.specs.declared.method.Method.TheVariants as method
use Rattle.pw_status.specs.Status.{method_by}
use Rattle.pw_signalling.specs.declared.binding.Binding.{Binding}
use Rattle.pw_signalling.specs.declared.told.Told.{Told}
use Rattle.pw_signalling.specs.End.{LocalPart, Idle, Advertised, Withdrawing}
use Rattle.pw_signalling.specs.Rows.{advertised, telling, withdrawn}
use Rattle.pw_stitch.specs.Change.{is_same_but_status}
use Rattle.pw_stitch.specs.Passing.{own_point, wanted}
use Rattle.session_core.specs.Phase.{Phase}
use Rattle.session_core.specs.Phase as phase
use Rattle.edge_model.specs.declared.effect.Effect.TheVariants.{Wire}
use Rattle.edge_model.specs.declared.end_place.EndPlace.{EndPlace}
use Rattle.edge_model.specs.Across.{held_of}
use Rattle.edge_model.specs.EndPlaces.{end_places}
use Rattle.edge_model.specs.Labels.{giving, label_to_give}
use Rattle.edge_model.specs.Put.{Spoken, stays}
use Rattle.edge_model.specs.Role.{down_at, is_chosen, status_to_tell}
use Rattle.edge_model.specs.Session.{says}
use Rattle.edge_model.specs.Spokes.{choosing}
use Rattle.edge_model.specs.State.{EdgeState, Peering, addresses_of, end_at, with_addresses, with_end, with_told_down, without_port}
use Rattle.edge_model.specs.Withdraw.{tells_piece}
use Rattle.edge_model.specs.Work.{Work, changes, gives}

-- one thing after another at an edge that mends: a message that the link did not take stays known
abbrev pub and_says : Spoken → (Work → Spoken) → Spoken
and_says before next = record { work = (next before.work).work; failed = before.failed || (next before.work).failed }

-- each end in turn
abbrev pub each_end : (EndPlace → Work → Spoken) → List EndPlace → Spoken → Spoken
each_end mend [] m = m
each_end mend (place ∷ places) m = each_end mend places (and_says m (mend place))

-- the edge changes, and says nothing
abbrev pub then_changes : (EdgeState → EdgeState) → Spoken → Spoken
then_changes change said = record { work = changes change said.work; failed = said.failed }

-- ---- what an end should tell

-- the state in which a session is up (RFC 5036 section 2.5.4)
abbrev pub is_operational : Phase → Bool
is_operational phase.Operational = true
is_operational state = false

-- the session with a neighbour is up, by what is kept of it
abbrev pub is_up_with : Option Peering → Bool
is_up_with None = false
is_up_with (Some kept) = is_operational kept.session.phase

-- failures are told by a status, and not by withdrawing the label (RFC 8077 section 6.3)
abbrev pub tells_status : Method → Bool
tells_status method.Told = true
tells_status method.Withdrawn = false

-- the status of the binding that an end holds, where it holds one
abbrev pub status_held : Option Binding → Option (Option PwStatus)
status_held None = None
status_held (Some binding) = Some binding.told.status

-- the status that an offer has told, where it tells one (RFC 8077 section 6.3.3)
abbrev pub status_offered : Plan → EdgeState → EndPlace → Offer → Option PwStatus
status_offered plan edge place offer = if offer.status then Some (status_to_tell plan edge place) else None

-- a terminal end tells its offer where its peer is told of failures, or it has none
abbrev pub terminal_wish : Plan → EdgeState → EndPlace → Offer → Option Told
terminal_wish plan edge place offer =
    if tells_status (method_by offer.status (status_held (end_at edge place).remote)) || edge.bits place.wire.0 == 0
    then Some (content_of offer (status_offered plan edge place offer))
    else None

-- what a switching point holds from the neighbour on the other side, behind its own point (RFC 6073 section 7)
abbrev pub passed_from : Plan → WirePlan → EdgeId → (ℕ → Option Binding) → Option EdgeId → Option Told
passed_from plan row me held None = None
passed_from plan row me held (Some from) = wanted (own_point row.pw_id (edge_address plan me) (edge_address plan from)) (held from.0)

-- what a switching point tells at an end: what it holds of the mate, the neighbour on the other side of the wire
abbrev pub passed_wish : Plan → EdgeState → EndPlace → WirePlan → Option Told
passed_wish plan edge place row = passed_from plan row edge.me (held_of edge place.wire) (mate row edge.me.0 place.peer.0)

-- a terminal end tells of itself, and a switching point what it has from its other side
abbrev pub wish_by : Plan → EdgeState → EndPlace → WirePlan → Option Told
wish_by plan edge place row = if place.terminal then terminal_wish plan edge place (offer_of row edge.me.0) else passed_wish plan edge place row

-- what an end should tell: nothing unless its wire is on at this edge and the session with its peer is up
abbrev pub wish_of : Plan → EdgeState → EndPlace → Option WirePlan → Option Told
wish_of plan edge place None = None
wish_of plan edge place (Some row) = if edge.wire_on place.wire.0 && is_up_with (edge.peering place.peer.0) then wish_by plan edge place row else None

-- what an end should tell, by the row of its wire
abbrev pub wish : Plan → EdgeState → EndPlace → Option Told
wish plan edge place = wish_of plan edge place (wire_row plan place.wire)

-- ---- an end is advertised, withdrawn or left

-- the end advertises a label with its content
abbrev pub advertising : EndPlace → ℕ → Told → EdgeState → EdgeState
advertising place label told edge = giving label (with_end place (advertised label told (end_at edge place)) edge)

-- an idle end takes a label and puts a Label Mapping; where no label is left it stays idle
abbrev pub advertises_under : Answers → EndPlace → Told → Option ℕ → Work → Spoken
advertises_under told place content None work = stays work
advertises_under told place content (Some label) work = says told place.peer (mapping place.pw_id label content) (changes (advertising place label content) work)

-- it advertises under the label that the edge gives next
abbrev pub advertises : Answers → EndPlace → Told → Work → Spoken
advertises told place content work = advertises_under told place content (label_to_give work.edge) work

-- it advertises what it should tell, where that is anything
abbrev pub advertises_wish : Answers → EndPlace → Option Told → Work → Spoken
advertises_wish told place None work = stays work
advertises_wish told place (Some content) work = advertises told place content work

-- the end withdraws its label, and waits for the release
abbrev pub withdrawing : EndPlace → EdgeState → EdgeState
withdrawing place edge = with_end place (withdrawn (end_at edge place)) edge

-- the end withdraws its label, and puts a Label Withdraw
abbrev pub withdraws : Answers → EndPlace → ℕ → Told → Work → Spoken
withdraws told place label content work = says told place.peer (withdrawal place.pw_id label content) (changes (withdrawing place) work)

-- what an end has told still stands: a terminal end's offer while it tells anything, and what a switching point passes on while no more
-- than its status has changed (RFC 6073 section 10)
abbrev pub offer_stands : EndPlace → Told → Option Told → Bool
offer_stands place content None = false
offer_stands place content (Some wished) = place.terminal || is_same_but_status content wished

-- it withdraws its label where what it has told no longer stands
abbrev pub withdraws_unless : Answers → EndPlace → ℕ → Told → Option Told → Work → Spoken
withdraws_unless told place label content wished work = if offer_stands place content wished then stays work else withdraws told place label content work

-- by what the end has told: an idle end is advertised, unless its peer has declined it, and one that advertises may withdraw; one that
-- withdraws waits
abbrev pub mends_local : Plan → Answers → EndPlace → LocalPart → Work → Spoken
mends_local plan told place (Idle declined) work = if declined then stays work else advertises_wish told place (wish plan work.edge place) work
mends_local plan told place (Advertised label content) work = withdraws_unless told place label content (wish plan work.edge place) work
mends_local plan told place (Withdrawing label) work = stays work

-- the end at a place
abbrev pub mends_end : Plan → Answers → EndPlace → Work → Spoken
mends_end plan told place work = mends_local plan told place (end_at work.edge place).local work

-- ---- a status that has changed is told

-- the end has told this status last
abbrev pub telling_status : EndPlace → PwStatus → EdgeState → EdgeState
telling_status place status edge = with_end place (telling status (end_at edge place)) edge

-- the status is put in a Notification
abbrev pub tells_new_status : Answers → EndPlace → Told → PwStatus → Work → Spoken
tells_new_status told place content status work =
    says told place.peer (status_notification place.pw_id status content) (changes (telling_status place status) work)

-- only an end whose mapping carries a status tells a new one
abbrev pub tells_over : Answers → EndPlace → Told → PwStatus → Option PwStatus → Work → Spoken
tells_over told place content status None work = stays work
tells_over told place content status (Some last) work = if last.0 == status.0 then stays work else tells_new_status told place content status work

-- by what the end has told: only one that advertises tells a status
abbrev pub mends_status_of : Plan → Answers → EndPlace → LocalPart → Work → Spoken
mends_status_of plan told place (Advertised label content) work = tells_over told place content (status_to_tell plan work.edge place) content.status work
mends_status_of plan told place local work = stays work

-- the end at a place
abbrev pub mends_status : Plan → Answers → EndPlace → Work → Spoken
mends_status plan told place work = mends_status_of plan told place (end_at work.edge place).local work

-- ---- a spoke that was chosen anew tells its core edge that addresses have moved (RFC 4762 section 6.2)

-- the spoke is the one that is chosen now, and was not before
abbrev pub is_new_choice : (before now : ℕ → Option WireId) → WireId → Option WirePlan → Bool
is_new_choice before now wire None = false
is_new_choice before now wire (Some row) = is_chosen now wire row && not (is_chosen before wire row)

-- an empty list: all is meant that was not learned by this spoke
abbrev pub mends_choice : Plan → Answers → (before : ℕ → Option WireId) → EndPlace → Work → Spoken
mends_choice plan told before place work =
    if is_new_choice before work.edge.chosen place.wire (wire_row plan place.wire) then tells_piece told place [] work else stays work

-- ---- what was learned at a wire that does not forward is forgotten

-- the port of a wire of the edge, which has this row
abbrev pub port_of_wire : Plan → EdgeState → WireId → WirePlan → Option ℕ
port_of_wire plan edge wire row = position (is_wire_port wire) (ports_of plan row.service edge.me)

-- the addresses at the port of a wire go
abbrev pub forgetting_wire : Plan → WireId → Option WirePlan → EdgeState → EdgeState
forgetting_wire plan wire None edge = edge
forgetting_wire plan wire (Some row) edge =
    with_addresses row.service (without_port (port_of_wire plan edge wire row) (addresses_of edge row.service)) edge

-- a wire that is down, for whatever cause, has its addresses forgotten
abbrev pub forgets_down : Plan → EndPlace → Option Down → Work → Work
forgets_down plan place None work = work
forgets_down plan place (Some why) work = changes (forgetting_wire plan place.wire (wire_row plan place.wire)) work

-- each terminal end in turn
abbrev pub forgets_downs : Plan → List EndPlace → Work → Work
forgets_downs plan [] work = work
forgets_downs plan (place ∷ places) work =
    forgets_downs plan places (if place.terminal then forgets_down plan place (down_at plan work.edge place) work else work)

-- ---- a wire that began to forward, or stopped, is told

-- the number of a cause in the order of causes, and 0 where there is none
abbrev pub cause_number : Option Down → ℕ
cause_number None = 0
cause_number (Some cause.NoLocal) = 1
cause_number (Some cause.NoRemote) = 2
cause_number (Some cause.CBit) = 3
cause_number (Some cause.Kind) = 4
cause_number (Some cause.Mtu) = 5
cause_number (Some cause.LocalFault) = 6
cause_number (Some cause.RemoteFault) = 7
cause_number (Some cause.Standby) = 8

-- a cause is told, and kept as the last one, where it is not the one that was told last
abbrev pub tells_down : EndPlace → Option Down → Work → Work
tells_down place down work =
    if cause_number (work.edge.told_down place.wire.0) == cause_number down then work
    else gives (Wire place.wire down) (changes (with_told_down place.wire down) work)

-- each terminal end in turn
abbrev pub tells_downs : Plan → List EndPlace → Work → Work
tells_downs plan [] work = work
tells_downs plan (place ∷ places) work =
    tells_downs plan places (if place.terminal then tells_down place (down_at plan work.edge place) work else work)

-- ---- all steps: a spoke edge chooses after its ends were advertised and withdrawn, and before it tells statuses; then it withdraws
-- addresses on each spoke that it has chosen anew. What was learned at a spoke that is chosen no longer is forgotten with what was
-- learned at each wire that does not forward

abbrev pub mends_once : Plan → Answers → Work → Spoken
mends_once plan told work =
    let places : List EndPlace = end_places plan work.edge.me in
    let chosen : Spoken = then_changes (choosing plan) (each_end (mends_end plan told) places (stays work)) in
    let statuses : Spoken = each_end (mends_status plan told) places chosen in
    let moved : Spoken = each_end (mends_choice plan told work.edge.chosen) places statuses in
    record { work = tells_downs plan places (forgets_downs plan places moved.work); failed = moved.failed }

-- where the link did not take a message the edge mends again. Each such message ends a session, so there are no more rounds than
-- edges
abbrev pub mends_again : (Work → Work) → Spoken → Work
mends_again again m = if m.failed then again m.work else m.work

-- so many rounds at most
abbrev pub mends_few : Plan → Answers → ℕ → Work → Work
mends_few plan told zero work = work
mends_few plan told (suc n) work = mends_again (mends_few plan told n) (mends_once plan told work)

-- as many rounds as there may be
abbrev pub mends : Plan → Answers → Work → Work
mends plan told work = mends_few plan told (suc (length plan.edges)) work
