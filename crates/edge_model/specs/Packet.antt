-- A packet comes from a neighbour: five steps, of which the first one that applies decides (RFC 3032 section 2.1, RFC 4448
-- section 4, RFC 5085 section 5).
use Rattle.std.specs.Prelude.{◌==◌, ◌&&◌, ◌/◌, ◌-◌, not, nat_lt, ℕ, Bool, true, false, List, length, drop, slice_index, Option, Some, None, Result, Ok, Err, if◌then◌else◌}
use Rattle.std.specs.List.{find}
use Rattle.net_base.specs.declared.plan.Plan.{Plan}
use Rattle.net_base.specs.declared.plan.offer.Offer.{Offer}
use Rattle.net_base.specs.declared.plan.places.EdgeId.{EdgeId}
use Rattle.net_base.specs.declared.plan.wire_plan.WirePlan.{WirePlan}
use Rattle.net_base.specs.declared.trace.arrival.Arrival.TheVariants as arrival
use Rattle.net_base.specs.declared.trace.drop_cause.DropCause.{DropCause}
use Rattle.net_base.specs.declared.trace.drop_cause.DropCause.TheVariants as cause
use Rattle.net_base.specs.plan.Paths.{mate, offer_of}
use Rattle.net_base.specs.plan.Places.{mtu_of, wire_row}
use Rattle.net_values.specs.Label.{router_alert}
use Rattle.pw_messages.specs.LinkAnswers.{Answers}
use Rattle.eth_encap.specs.declared.stack_entry.StackEntry.{StackEntry}
use Rattle.eth_encap.specs.Packet.{entry_of, unpacked}
use Rattle.pw_signalling.specs.declared.binding.Binding.{Binding}
use Rattle.pw_signalling.specs.End.{LocalPart, Idle, Advertised, Withdrawing}
use Rattle.pw_stitch.specs.declared.swap_drop.SwapDrop.{SwapDrop}
use Rattle.pw_stitch.specs.Drop.{dropped_for}
use Rattle.pw_stitch.specs.Relabelling.{relabelled}
use Rattle.pw_stitch.specs.Swap.{label_onward}
use Rattle.vccv_channel.specs.declared.cc.Cc.TheVariants.{Header, Alert, Expiry}
use Rattle.edge_model.specs.declared.end_place.EndPlace.{EndPlace}
use Rattle.edge_model.specs.Echo.{channel_under, is_picked, verifies, verifies_in}
use Rattle.edge_model.specs.EndPlaces.{end_places}
use Rattle.edge_model.specs.Ends.{is_up}
use Rattle.edge_model.specs.Frame.{received}
use Rattle.edge_model.specs.Mend.{port_of_wire}
use Rattle.edge_model.specs.Role.{down_at}
use Rattle.edge_model.specs.Send.{drops, sends}
use Rattle.edge_model.specs.State.{EdgeState, end_at}
use Rattle.edge_model.specs.Work.{Work}

-- ---- whose label it is

-- an end has the label that it advertises, and none that it withdraws
abbrev pub advertises_label : ℕ → LocalPart → Bool
advertises_label label (Idle declined) = false
advertises_label label (Advertised own told) = own == label
advertises_label label (Withdrawing own) = false

-- the end of the edge that advertises the label
abbrev pub advertiser : Plan → EdgeState → ℕ → Option EndPlace
advertiser plan edge label = find (λ place. advertises_label label (end_at edge place).local) (end_places plan edge.me)

-- ---- what stands behind the label stack

-- the label stack of a packet with one entry has four octets
abbrev pub behind_entry : List ℕ → List ℕ
behind_entry octets = drop 4 octets

-- the inner frame of a payload, by an offer and the MTU of its service
abbrev pub unpacked_by : Offer → Option ℕ → List ℕ → Result (List ℕ) DropCause
unpacked_by offer None payload = Err cause.Down
unpacked_by offer (Some mtu) payload = unpacked offer.cword offer.tagged mtu payload

-- the inner frame of a payload that came by a wire with this row to a terminal edge, by the edge's own offer
abbrev pub unpacked_at : Plan → WirePlan → EdgeId → List ℕ → Result (List ℕ) DropCause
unpacked_at plan row me payload = unpacked_by (offer_of row me.0) (mtu_of plan row.service) payload

-- ---- 1. a router alert label in front (RFC 3032 section 2.1, RFC 5085 section 5.1.2)

-- a router alert label, with another entry behind it
abbrev pub is_alert : StackEntry → Bool
is_alert entry = entry.label == router_alert && not entry.bottom

-- connectivity verification behind a router alert: only a bound end has picked a control channel
abbrev pub alerts_by : Answers → EndPlace → Option WirePlan → Option Binding → List ℕ → Work → Work
alerts_by told place None remote payload work = drops cause.NotOffered work
alerts_by told place (Some row) None payload work = drops cause.NotOffered work
alerts_by told place (Some row) (Some binding) payload work = verifies_in told place row Alert binding payload work

-- the label behind it has to be that of a terminal end
abbrev pub alerts_end : Plan → Answers → List ℕ → Option EndPlace → Work → Work
alerts_end plan told payload None work = drops cause.NoLabel work
alerts_end plan told payload (Some place) work =
    if place.terminal then alerts_by told place (wire_row plan place.wire) (end_at work.edge place).remote payload work else drops cause.NoLabel work

-- `octets` is what stands behind the router alert
abbrev pub alerted : Plan → Answers → List ℕ → Result StackEntry DropCause → Work → Work
alerted plan told octets (Err why) work = drops why work
alerted plan told octets (Ok entry) work =
    if entry.bottom then alerts_end plan told (behind_entry octets) (advertiser plan work.edge entry.label) work else drops cause.NotBottom work

-- ---- 3. a switching point passes the packet on (RFC 6073 section 4)

-- the place with this neighbour in it, to which a packet goes on
abbrev pub towards : EdgeId → EndPlace → EndPlace
towards to place = record place { peer = to }

-- under the label that is bound towards the mate, or it is dropped
abbrev pub switched_under : Answers → List ℕ → StackEntry → EndPlace → EdgeId → Result ℕ SwapDrop → Work → Work
switched_under told octets entry place to (Err why) work = drops (dropped_for why) work
switched_under told octets entry place to (Ok label) work = sends told (towards to place) (arrival.Wire place.wire) (relabelled label (entry.ttl - 1) octets) work

-- to the mate, the neighbour on its other side
abbrev pub switched_to : Answers → List ℕ → StackEntry → EndPlace → Option EdgeId → Work → Work
switched_to told octets entry place None work = work
switched_to told octets entry place (Some to) work = switched_under told octets entry place to (label_onward (work.edge.ends place.wire.0 to.0).remote entry.ttl) work

-- by the row of the wire
abbrev pub switched_by : Answers → List ℕ → StackEntry → EndPlace → Option WirePlan → Work → Work
switched_by told octets entry place None work = work
switched_by told octets entry place (Some row) work = switched_to told octets entry place (mate row work.edge.me.0 place.peer.0) work

-- at an end of a switching point
abbrev pub switched : Plan → Answers → List ℕ → StackEntry → EndPlace → Work → Work
switched plan told octets entry place work = switched_by told octets entry place (wire_row plan place.wire) work

-- ---- 5. the end does not forward, or the frame is bridged

-- what the payload unpacks to is received at the port of the wire
abbrev pub bridges_frame : Plan → Answers → WirePlan → EndPlace → List ℕ → Work → Work
bridges_frame plan told row place payload work =
    received plan told (arrival.Wire place.wire) row.service (port_of_wire plan work.edge place.wire row) (unpacked_at plan row work.edge.me payload) work

-- only by an end that forwards
abbrev pub enters : Plan → Answers → WirePlan → EndPlace → List ℕ → Work → Work
enters plan told row place payload work =
    if is_up (down_at plan work.edge place) then bridges_frame plan told row place payload work else drops cause.Down work

-- ---- 4. a terminal end: is it bound, and is the payload a frame?

-- the first nibble of a payload behind which an associated channel stands (RFC 4385 section 5)
abbrev pub is_channel : List ℕ → Bool
is_channel payload = slice_index payload 0 / 16 == 1

-- with a control word: an associated channel is connectivity verification (RFC 5085 section 5.1.1)
abbrev pub by_control_word : Plan → Answers → WirePlan → EndPlace → Binding → List ℕ → Work → Work
by_control_word plan told row place binding payload work =
    if length payload == 0 then drops cause.Short work
    else if is_channel payload then verifies_in told place row Header binding payload work
    else enters plan told row place payload work

-- without one: a TTL that ends here is connectivity verification, at an end that has picked that (RFC 5085 section 5.1.3)
abbrev pub by_ttl : Plan → Answers → WirePlan → EndPlace → Binding → ℕ → List ℕ → Work → Work
by_ttl plan told row place binding ttl payload work =
    if ttl == 1 && is_picked Expiry (channel_under row work.edge.me binding) then verifies told place row Expiry binding payload work
    else enters plan told row place payload work

-- by whether the edge's own offer has a control word
abbrev pub by_offer : Plan → Answers → WirePlan → EndPlace → Binding → ℕ → Bool → List ℕ → Work → Work
by_offer plan told row place binding ttl true payload work = by_control_word plan told row place binding payload work
by_offer plan told row place binding ttl false payload work = by_ttl plan told row place binding ttl payload work

-- at a terminal end, which has to be bound
abbrev pub terminated : Plan → Answers → EndPlace → ℕ → Option WirePlan → Option Binding → List ℕ → Work → Work
terminated plan told place ttl None remote payload work = drops cause.Down work
terminated plan told place ttl (Some row) None payload work = drops cause.Down work
terminated plan told place ttl (Some row) (Some binding) payload work = by_offer plan told row place binding ttl (offer_of row work.edge.me.0).cword payload work

-- ---- 2. the label is one of the edge's own

-- labels below this one are reserved (RFC 3032 section 2.1)
abbrev pub least_label : ℕ
least_label = 16

-- at the end that has the label: a terminal end takes what stands behind the entry, a switching point passes the packet on
abbrev pub owned : Plan → Answers → List ℕ → StackEntry → Option EndPlace → Work → Work
owned plan told octets entry None work = drops cause.NoLabel work
owned plan told octets entry (Some place) work =
    if place.terminal
    then terminated plan told place entry.ttl (wire_row plan place.wire) (end_at work.edge place).remote (behind_entry octets) work
    else switched plan told octets entry place work

-- an entry that is no router alert: its label is not reserved, stands at the bottom, and is one of the edge's own
abbrev pub labelled : Plan → Answers → List ℕ → StackEntry → Work → Work
labelled plan told octets entry work =
    if nat_lt entry.label least_label then drops cause.NoLabel work
    else if entry.bottom then owned plan told octets entry (advertiser plan work.edge entry.label) work
    else drops cause.NotBottom work

-- the first entry is read
abbrev pub opened_by : Plan → Answers → List ℕ → Result StackEntry DropCause → Work → Work
opened_by plan told octets (Err why) work = drops why work
opened_by plan told octets (Ok entry) work =
    if is_alert entry then alerted plan told (behind_entry octets) (entry_of (behind_entry octets)) work else labelled plan told octets entry work

-- the input `Packet`: it always applies
abbrev pub packet_input : Plan → Answers → List ℕ → Work → Work
packet_input plan told octets work = opened_by plan told octets (entry_of octets) work
