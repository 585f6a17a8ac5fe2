-- What a frame and a packet leave of an edge as it was, and what alone they have it give out; and what forgetting leaves.
use Rattle.std.proofs.Common.{◌≡◌, ◌+◌, ◌&&◌, ◌∙◌, ◌==◌, ◌-◌, ℕ, Bool, true, false, List, [], ◌∷◌, Option, Some, None, Result, Ok, Err, cond, refl, sym, subst, length, nat_lt}
use Rattle.net_base.specs.declared.plan.Plan.{Plan}
use Rattle.net_base.specs.declared.plan.circuit_plan.CircuitPlan.{CircuitPlan}
use Rattle.net_base.specs.declared.plan.places.CircuitId.{CircuitId}
use Rattle.net_base.specs.declared.plan.places.EdgeId.{EdgeId}
use Rattle.net_base.specs.declared.plan.places.ServiceId.{ServiceId}
use Rattle.net_base.specs.declared.plan.places.WireId.{WireId}
use Rattle.net_base.specs.declared.plan.wire_plan.WirePlan.{WirePlan}
use Rattle.net_base.specs.declared.trace.arrival.Arrival.{Arrival}
use Rattle.net_base.specs.declared.trace.arrival.Arrival.TheVariants as arrival
use Rattle.net_base.specs.declared.trace.down.Down.{Down}
use Rattle.net_base.specs.declared.trace.drop_cause.DropCause.{DropCause}
use Rattle.net_base.specs.declared.trace.drop_cause.DropCause.TheVariants as cause
use Rattle.net_values.specs.declared.addr.Addr.{Addr}
use Rattle.net_values.specs.declared.mac.Mac.{Mac}
use Rattle.net_base.specs.plan.Paths.{edge_address, mate, offer_of}
use Rattle.net_base.specs.plan.Places.{wire_row}
use Rattle.net_base.specs.trace.Isolated.{inner_at}
use Rattle.pw_messages.specs.LinkAnswers.{Answers}
use Rattle.eth_encap.specs.declared.stack_entry.StackEntry.{StackEntry}
use Rattle.eth_encap.specs.Packet.{entry_of}
use Rattle.hvpls_spokes.specs.declared.port.Port.{Port}
use Rattle.hvpls_spokes.specs.declared.port.Port.TheVariants as port
use Rattle.hvpls_spokes.specs.Port.{ports_of}
use Rattle.mac_table.specs.declared.mac_entry.MacEntry.{MacEntry}
use Rattle.pw_signalling.specs.declared.binding.Binding.{Binding}
use Rattle.edge_model.specs.Clear.{withdrawing_at}
use Rattle.edge_model.specs.declared.effect.Effect.{Effect}
use Rattle.edge_model.specs.declared.effect.Effect.TheVariants as effect
use Rattle.edge_model.specs.declared.end_place.EndPlace.{EndPlace}
use Rattle.pw_stitch.specs.declared.swap_drop.SwapDrop.{SwapDrop}
use Rattle.pw_stitch.specs.Drop.{dropped_for}
use Rattle.pw_stitch.specs.Stitch.{has_told}
use Rattle.pw_stitch.specs.Relabelling.{relabelled}
use Rattle.pw_stitch.specs.Swap.{label_onward}
use Rattle.vccv_channel.specs.declared.cc.Cc.{Cc}
use Rattle.vccv_channel.specs.declared.cc.Cc.TheVariants.{Header, Alert, Expiry}
use Rattle.vccv_channel.specs.declared.echo.Echo.{Echo}
use Rattle.vccv_channel.specs.declared.echo.Echo.TheVariants.{Request, Answer}
use Rattle.vccv_channel.specs.declared.vccv_fault.VccvFault.{VccvFault}
use Rattle.vccv_channel.specs.Channel.{has_header}
use Rattle.vccv_channel.specs.Echo.{answer_packet, request_packet}
use Rattle.vccv_channel.specs.Fault.{vccv_cause_of}
use Rattle.vccv_channel.specs.Reading.{ip_packet_of, reading}
use Rattle.edge_model.specs.Echo.{channel_octets, channel_under, echoes, is_picked, ping_number, verifies, verifies_in}
use Rattle.edge_model.specs.Ends.{is_up, wire_end}
use Rattle.edge_model.specs.Frame.{bridged, copies, copy_by, forwarded, frame_input, hearing, is_own, port_at, received, targets_of}
use Rattle.edge_model.specs.Mend.{forgets_down, forgets_downs, forgetting_wire, port_of_wire}
use Rattle.edge_model.specs.Packet.{switched_by, switched_to, switched_under, towards, advertiser, alerted, alerts_by, alerts_end, behind_entry, bridges_frame, by_control_word, by_offer, by_ttl, enters, is_alert, is_channel, labelled, least_label, opened_by, owned, packet_input, switched, terminated, unpacked_at}
use Rattle.edge_model.specs.Ping.{asks, far_address, ping_between, ping_input, pinging, pings_at, pings_by, pings_in, pings_under}
use Rattle.edge_model.specs.Role.{down_at}
use Rattle.edge_model.specs.Send.{drops, had_posted, packet_of, sends, sends_copy, sends_under}
use Rattle.edge_model.specs.State.{EdgeState, end_at, is_on, with_addresses, with_next_ping}
use Rattle.edge_model.specs.Work.{Work, changes, gives, idles, next_answer, posts}
use Rattle.edge_model.proofs.SessionLemmas.{GivesOnly, gives_none, gives_then}

-- of the edge, all stays but what its bridges have learned
pub record LearnsOnly (old new : EdgeState) : Type 0 where
  pub me : new.me ≡ old.me
  pub circuits : new.circuit_on ≡ old.circuit_on
  pub ticks : new.ticks ≡ old.ticks
  pub peering : new.peering ≡ old.peering
  pub wires : new.wire_on ≡ old.wire_on
  pub bits : new.bits ≡ old.bits
  pub ends : new.ends ≡ old.ends
  pub downs : new.told_down ≡ old.told_down
  pub priorities : new.priority ≡ old.priority
  pub chosen : new.chosen ≡ old.chosen
  pub labels : new.next_label ≡ old.next_label
  pub kept : new.kept ≡ old.kept
  pub places : new.places ≡ old.places
  pub pings : new.next_ping ≡ old.next_ping

pub learns_not : (edge : EdgeState) → LearnsOnly edge edge
learns_not edge = record {
  me = refl;
  circuits = refl;
  ticks = refl;
  peering = refl;
  wires = refl;
  bits = refl;
  ends = refl;
  downs = refl;
  priorities = refl;
  chosen = refl;
  labels = refl;
  kept = refl;
  places = refl;
  pings = refl;
}

pub learns_then : (a b c : EdgeState) → LearnsOnly a b → LearnsOnly b c → LearnsOnly a c
learns_then a b c first next = record {
  me = next.me ∙ first.me;
  circuits = next.circuits ∙ first.circuits;
  ticks = next.ticks ∙ first.ticks;
  peering = next.peering ∙ first.peering;
  wires = next.wires ∙ first.wires;
  bits = next.bits ∙ first.bits;
  ends = next.ends ∙ first.ends;
  downs = next.downs ∙ first.downs;
  priorities = next.priorities ∙ first.priorities;
  chosen = next.chosen ∙ first.chosen;
  labels = next.labels ∙ first.labels;
  kept = next.kept ∙ first.kept;
  places = next.places ∙ first.places;
  pings = next.pings ∙ first.pings;
}

-- so it is the edge before with other addresses
pub learns_is : (old new : EdgeState) → LearnsOnly old new → new ≡ record old { learned = new.learned }
learns_is old new only = λ i. record {
  me = only.me i;
  places = only.places i;
  circuit_on = only.circuits i;
  learned = new.learned;
  ticks = only.ticks i;
  peering = only.peering i;
  wire_on = only.wires i;
  bits = only.bits i;
  ends = only.ends i;
  told_down = only.downs i;
  priority = only.priorities i;
  chosen = only.chosen i;
  next_label = only.labels i;
  kept = only.kept i;
  next_ping = only.pings i;
}

addresses_learn : (service : ServiceId) (entries : List MacEntry) (edge : EdgeState) → LearnsOnly edge (with_addresses service entries edge)
unfolding with_addresses
addresses_learn service entries edge = record {
  me = refl;
  circuits = refl;
  ticks = refl;
  peering = refl;
  wires = refl;
  bits = refl;
  ends = refl;
  downs = refl;
  priorities = refl;
  chosen = refl;
  labels = refl;
  kept = refl;
  places = refl;
  pings = refl;
}

-- ---- the edge forgets

-- of the work, all stays but what the bridges have learned
pub record ForgetsOnly (old new : Work) : Type 0 where
  pub edge : LearnsOnly old.edge new.edge
  pub calls : new.calls ≡ old.calls
  pub effects : new.effects ≡ old.effects
  pub idle : new.idle ≡ old.idle

pub forgets_not : (work : Work) → ForgetsOnly work work
forgets_not work = record { edge = learns_not work.edge; calls = refl; effects = refl; idle = refl }

pub forgets_then : (a b c : Work) → ForgetsOnly a b → ForgetsOnly b c → ForgetsOnly a c
forgets_then a b c first next = record {
  edge = learns_then a.edge b.edge c.edge first.edge next.edge;
  calls = next.calls ∙ first.calls;
  effects = next.effects ∙ first.effects;
  idle = next.idle ∙ first.idle;
}

-- so it is the work before with other addresses
pub forgets_is : (old new : Work) → ForgetsOnly old new → new ≡ record old { edge = record (old.edge) { learned = new.edge.learned } }
forgets_is old new only = λ i. record { edge = learns_is old.edge new.edge only.edge i; calls = only.calls i; effects = only.effects i; idle = only.idle i }

pub forgetting_learns : (plan : Plan) (wire : WireId) (row : Option WirePlan) (edge : EdgeState) → LearnsOnly edge (forgetting_wire plan wire row edge)
forgetting_learns plan wire None edge = learns_not edge
forgetting_learns plan wire (Some row) edge = addresses_learn row.service _ edge

-- the addresses at the port of one wire go
pub forgetting_only : (plan : Plan) (wire : WireId) (row : Option WirePlan) (work : Work) → ForgetsOnly work (changes (forgetting_wire plan wire row) work)
unfolding changes
forgetting_only plan wire row work = record { edge = forgetting_learns plan wire row work.edge; calls = refl; effects = refl; idle = refl }

-- those that a MAC withdraw names go
pub withdrawing_only : (service : ServiceId) (addresses : List Mac) (from : ℕ) (work : Work) → ForgetsOnly work (changes (withdrawing_at service addresses from) work)
unfolding changes
withdrawing_only service addresses from work = record { edge = addresses_learn service _ work.edge; calls = refl; effects = refl; idle = refl }

pub forgets_down_only : (plan : Plan) (place : EndPlace) (down : Option Down) (work : Work) → ForgetsOnly work (forgets_down plan place down work)
forgets_down_only plan place None work = forgets_not work
forgets_down_only plan place (Some why) work = forgetting_only plan place.wire (wire_row plan place.wire) work

-- and those at the port of each wire that does not forward
pub forgets_downs_only : (plan : Plan) (places : List EndPlace) (work : Work) → ForgetsOnly work (forgets_downs plan places work)
forgets_downs_only plan [] work = forgets_not work
forgets_downs_only plan (place ∷ places) work =
    let first : Work = cond place.terminal (forgets_down plan place (down_at plan work.edge place) work) work in
    forgets_then work first (forgets_downs plan (place ∷ places) work) (by place.terminal) (forgets_downs_only plan places first)
  where
    by : (b : Bool) → ForgetsOnly work (cond b (forgets_down plan place (down_at plan work.edge place) work) work)
    by true = forgets_down_only plan place (down_at plan work.edge place) work
    by false = forgets_not work

-- ---- the edge bridges

-- a frame left, a packet was sent, one of them was dropped, or the answer to a ping was told
abbrev pub is_of_bridging : Effect → Bool
is_of_bridging (effect.Left circuit bytes) = true
is_of_bridging (effect.Sent peer wire came bytes) = true
is_of_bridging (effect.Dropped cause) = true
is_of_bridging (effect.Pong wire sequence) = true
is_of_bridging e = false

-- of the edge, all stays but what its bridges have learned, and only such effects are given out
pub record BridgesOnly (old new : Work) : Type 0 where
  pub edge : LearnsOnly old.edge new.edge
  pub effects : GivesOnly is_of_bridging old.effects new.effects
  pub idle : new.idle ≡ old.idle

pub bridges_not : (work : Work) → BridgesOnly work work
bridges_not work = record { edge = learns_not work.edge; effects = gives_none is_of_bridging work.effects; idle = refl }

pub bridges_then : (a b c : Work) → BridgesOnly a b → BridgesOnly b c → BridgesOnly a c
bridges_then a b c first next = record {
  edge = learns_then a.edge b.edge c.edge first.edge next.edge;
  effects = gives_then is_of_bridging a.effects b.effects c.effects first.effects next.effects;
  idle = next.idle ∙ first.idle;
}

gives_bridges : (e : Effect) (work : Work) → is_of_bridging e ≡ true → BridgesOnly work (gives e work)
unfolding gives
gives_bridges e work own = record { edge = learns_not work.edge; effects = record { more = e ∷ []; given = refl; own = rw own refl }; idle = refl }

pub drops_bridges : (why : DropCause) (work : Work) → BridgesOnly work (drops why work)
drops_bridges why work = gives_bridges (effect.Dropped why) work refl

posts_bridges : (peer : EdgeId) (octets : List ℕ) (taken : Bool) (work : Work) → BridgesOnly work (posts peer octets taken work)
unfolding posts
posts_bridges peer octets taken work = record { edge = learns_not work.edge; effects = gives_none is_of_bridging work.effects; idle = refl }

had_posted_bridges : (place : EndPlace) (came : Arrival) (octets : List ℕ) (taken : Bool) (work : Work) → BridgesOnly work (had_posted place came octets taken work)
had_posted_bridges place came octets true work =
    let posted : Work = posts place.peer octets true work in
    bridges_then work posted (gives (effect.Sent place.peer place.wire came octets) posted) (posts_bridges place.peer octets true work)
    (gives_bridges (effect.Sent place.peer place.wire came octets) posted refl)
had_posted_bridges place came octets false work =
    let posted : Work = posts place.peer octets false work in
    bridges_then work posted (drops cause.LinkFault posted) (posts_bridges place.peer octets false work) (drops_bridges cause.LinkFault posted)

pub sends_bridges : (told : Answers) (place : EndPlace) (came : Arrival) (octets : List ℕ) (work : Work) → BridgesOnly work (sends told place came octets work)
sends_bridges told place came octets work = had_posted_bridges place came octets (next_answer told work) work

sends_under_bridges : (told : Answers) (came : Arrival) (frame : List ℕ) (me : EdgeId) (place : EndPlace) (row : Option WirePlan) (remote : Option Binding) (work : Work)
    → BridgesOnly work (sends_under told came frame me place row remote work)
sends_under_bridges told came frame me place None remote work = bridges_not work
sends_under_bridges told came frame me place (Some row) None work = bridges_not work
sends_under_bridges told came frame me place (Some row) (Some binding) work = sends_bridges told place came (packet_of (offer_of row me.0) binding frame) work

pub sends_copy_bridges : (plan : Plan) (told : Answers) (came : Arrival) (frame : List ℕ) (place : Option EndPlace) (work : Work) → BridgesOnly work (sends_copy plan told came frame place work)
sends_copy_bridges plan told came frame None work = bridges_not work
sends_copy_bridges plan told came frame (Some place) work = sends_under_bridges told came frame work.edge.me place (wire_row plan place.wire) (end_at work.edge place).remote work

pub copy_bridges : (plan : Plan) (told : Answers) (came : Arrival) (frame : List ℕ) (x : Port) (work : Work) → BridgesOnly work (copy_by plan told came frame x work)
copy_bridges plan told came frame (port.Circuit circuit) work = gives_bridges (effect.Left circuit _) work refl
copy_bridges plan told came frame (port.Mesh wire) work = sends_copy_bridges plan told came frame (wire_end plan work.edge.me wire) work
copy_bridges plan told came frame (port.Spoke wire) work = sends_copy_bridges plan told came frame (wire_end plan work.edge.me wire) work

pub copies_bridge : (plan : Plan) (told : Answers) (came : Arrival) (targets : ℕ → Bool) (frame : List ℕ) (p : ℕ) (ports : List Port) (work : Work)
    → BridgesOnly work (copies targets (copy_by plan told came frame) p ports work)
copies_bridge plan told came targets frame p [] work = bridges_not work
copies_bridge plan told came targets frame p (x ∷ ports) work =
    let first : Work = cond (targets p) (copy_by plan told came frame x work) work in
    bridges_then work first (copies targets (copy_by plan told came frame) (p + 1) ports first) (by (targets p)) (copies_bridge plan told came targets frame (p + 1) ports first)
  where
    by : (b : Bool) → BridgesOnly work (cond b (copy_by plan told came frame x work) work)
    by true = copy_bridges plan told came frame x work
    by false = bridges_not work

pub bridged_bridges : (plan : Plan) (told : Answers) (came : Arrival) (service : ServiceId) (frame : List ℕ) (arrival : ℕ) (work : Work)
    → BridgesOnly work (bridged plan told came service frame arrival work)
bridged_bridges plan told came service frame arrival work =
    let ports : List Port = ports_of plan service work.edge.me in
    copies_bridge plan told came (targets_of plan work.edge service ports frame arrival) frame 0 ports work

-- the bridge of a service hears a frame
pub hearing_bridges : (service : ServiceId) (frame : List ℕ) (arrival : ℕ) (work : Work) → BridgesOnly work (changes (hearing service frame arrival) work)
unfolding changes
hearing_bridges service frame arrival work = record { edge = addresses_learn service _ work.edge; effects = gives_none is_of_bridging work.effects; idle = refl }

pub forwarded_bridges : (plan : Plan) (told : Answers) (came : Arrival) (service : ServiceId) (frame : List ℕ) (arrival : Option ℕ) (work : Work)
    → BridgesOnly work (forwarded plan told came service frame arrival work)
forwarded_bridges plan told came service frame None work = bridges_not work
forwarded_bridges plan told came service frame (Some arrival) work =
    let heard : Work = changes (hearing service frame arrival) work in
    bridges_then work heard (bridged plan told came service frame arrival heard) (hearing_bridges service frame arrival work) (bridged_bridges plan told came service frame arrival heard)

pub received_bridges : (plan : Plan) (told : Answers) (came : Arrival) (service : ServiceId) (arrival : Option ℕ) (read : Result (List ℕ) DropCause) (work : Work)
    → BridgesOnly work (received plan told came service arrival read work)
received_bridges plan told came service arrival (Ok frame) work = forwarded_bridges plan told came service frame arrival work
received_bridges plan told came service arrival (Err why) work = drops_bridges why work

-- ---- a packet

-- what comes of an echo packet
echoes_bridges : (told : Answers) (place : EndPlace) (kind : Cc) (binding : Binding) (ip : List ℕ) (read : Result Echo VccvFault) (work : Work)
    → BridgesOnly work (echoes told place kind binding ip read work)
echoes_bridges told place kind binding ip (Err why) work = drops_bridges (vccv_cause_of why) work
echoes_bridges told place kind binding ip (Ok (Answer sequence)) work = gives_bridges (effect.Pong place.wire sequence) work refl
echoes_bridges told place kind binding ip (Ok (Request from to sequence long)) work = sends_bridges told place arrival.Own (channel_octets kind binding (answer_packet ip)) work

verifies_bridges : (told : Answers) (place : EndPlace) (row : WirePlan) (kind : Cc) (binding : Binding) (payload : List ℕ) (work : Work)
    → BridgesOnly work (verifies told place row kind binding payload work)
verifies_bridges told place row kind binding payload work =
    echoes_bridges told place kind binding (ip_packet_of (has_header kind) payload) (reading (has_header kind) (ping_number row) payload) work

verifies_in_bridges : (told : Answers) (place : EndPlace) (row : WirePlan) (kind : Cc) (binding : Binding) (payload : List ℕ) (work : Work)
    → BridgesOnly work (verifies_in told place row kind binding payload work)
verifies_in_bridges told place row kind binding payload work = by (is_picked kind (channel_under row work.edge.me binding)) where
  by : (b : Bool) → BridgesOnly work (cond b (verifies told place row kind binding payload work) (drops cause.NotOffered work))
  by true = verifies_bridges told place row kind binding payload work
  by false = drops_bridges cause.NotOffered work

alerts_by_bridges : (told : Answers) (place : EndPlace) (row : Option WirePlan) (remote : Option Binding) (payload : List ℕ) (work : Work)
    → BridgesOnly work (alerts_by told place row remote payload work)
alerts_by_bridges told place None remote payload work = drops_bridges cause.NotOffered work
alerts_by_bridges told place (Some row) None payload work = drops_bridges cause.NotOffered work
alerts_by_bridges told place (Some row) (Some binding) payload work = verifies_in_bridges told place row Alert binding payload work

alerts_end_bridges : (plan : Plan) (told : Answers) (payload : List ℕ) (place : Option EndPlace) (work : Work) → BridgesOnly work (alerts_end plan told payload place work)
alerts_end_bridges plan told payload None work = drops_bridges cause.NoLabel work
alerts_end_bridges plan told payload (Some place) work = by place.terminal where
  by : (b : Bool) → BridgesOnly work (cond b (alerts_by told place (wire_row plan place.wire) (end_at work.edge place).remote payload work) (drops cause.NoLabel work))
  by true = alerts_by_bridges told place (wire_row plan place.wire) (end_at work.edge place).remote payload work
  by false = drops_bridges cause.NoLabel work

alerted_bridges : (plan : Plan) (told : Answers) (octets : List ℕ) (read : Result StackEntry DropCause) (work : Work) → BridgesOnly work (alerted plan told octets read work)
alerted_bridges plan told octets (Err why) work = drops_bridges why work
alerted_bridges plan told octets (Ok entry) work = by entry.bottom where
  by : (b : Bool) → BridgesOnly work (cond b (alerts_end plan told (behind_entry octets) (advertiser plan work.edge entry.label) work) (drops cause.NotBottom work))
  by true = alerts_end_bridges plan told (behind_entry octets) (advertiser plan work.edge entry.label) work
  by false = drops_bridges cause.NotBottom work

bridges_frame_bridges : (plan : Plan) (told : Answers) (row : WirePlan) (place : EndPlace) (payload : List ℕ) (work : Work) → BridgesOnly work (bridges_frame plan told row place payload work)
bridges_frame_bridges plan told row place payload work =
    received_bridges plan told (arrival.Wire place.wire) row.service (port_of_wire plan work.edge place.wire row) (unpacked_at plan row work.edge.me payload) work

enters_bridges : (plan : Plan) (told : Answers) (row : WirePlan) (place : EndPlace) (payload : List ℕ) (work : Work) → BridgesOnly work (enters plan told row place payload work)
enters_bridges plan told row place payload work = by (is_up (down_at plan work.edge place)) where
  by : (b : Bool) → BridgesOnly work (cond b (bridges_frame plan told row place payload work) (drops cause.Down work))
  by true = bridges_frame_bridges plan told row place payload work
  by false = drops_bridges cause.Down work

by_control_word_bridges : (plan : Plan) (told : Answers) (row : WirePlan) (place : EndPlace) (binding : Binding) (payload : List ℕ) (work : Work)
    → BridgesOnly work (by_control_word plan told row place binding payload work)
by_control_word_bridges plan told row place binding payload work = by (length payload == 0) (is_channel payload) where
  by : (none channel : Bool) → BridgesOnly work (cond none (drops cause.Short work) (cond channel (verifies_in told place row Header binding payload work) (enters plan told row place payload work)))
  by true channel = drops_bridges cause.Short work
  by false true = verifies_in_bridges told place row Header binding payload work
  by false false = enters_bridges plan told row place payload work

by_ttl_bridges : (plan : Plan) (told : Answers) (row : WirePlan) (place : EndPlace) (binding : Binding) (ttl : ℕ) (payload : List ℕ) (work : Work)
    → BridgesOnly work (by_ttl plan told row place binding ttl payload work)
by_ttl_bridges plan told row place binding ttl payload work = by (ttl == 1 && is_picked Expiry (channel_under row work.edge.me binding)) where
  by : (b : Bool) → BridgesOnly work (cond b (verifies told place row Expiry binding payload work) (enters plan told row place payload work))
  by true = verifies_bridges told place row Expiry binding payload work
  by false = enters_bridges plan told row place payload work

by_offer_bridges : (plan : Plan) (told : Answers) (row : WirePlan) (place : EndPlace) (binding : Binding) (ttl : ℕ) (cword : Bool) (payload : List ℕ) (work : Work)
    → BridgesOnly work (by_offer plan told row place binding ttl cword payload work)
by_offer_bridges plan told row place binding ttl true payload work = by_control_word_bridges plan told row place binding payload work
by_offer_bridges plan told row place binding ttl false payload work = by_ttl_bridges plan told row place binding ttl payload work

terminated_bridges : (plan : Plan) (told : Answers) (place : EndPlace) (ttl : ℕ) (row : Option WirePlan) (remote : Option Binding) (payload : List ℕ) (work : Work)
    → BridgesOnly work (terminated plan told place ttl row remote payload work)
terminated_bridges plan told place ttl None remote payload work = drops_bridges cause.Down work
terminated_bridges plan told place ttl (Some row) None payload work = drops_bridges cause.Down work
terminated_bridges plan told place ttl (Some row) (Some binding) payload work = by_offer_bridges plan told row place binding ttl (offer_of row work.edge.me.0).cword payload work

switched_bridges : (plan : Plan) (told : Answers) (octets : List ℕ) (entry : StackEntry) (place : EndPlace) (work : Work) → BridgesOnly work (switched plan told octets entry place work)
switched_bridges plan told octets entry place work = by (wire_row plan place.wire) where
  under : (to : EdgeId) (label : Result ℕ SwapDrop) → BridgesOnly work (switched_under told octets entry place to label work)
  under to (Err why) = drops_bridges (dropped_for why) work
  under to (Ok label) = sends_bridges told (towards to place) (arrival.Wire place.wire) (relabelled label (entry.ttl - 1) octets) work

  mated : (to : Option EdgeId) → BridgesOnly work (switched_to told octets entry place to work)
  mated None = bridges_not work
  mated (Some to) = under to (label_onward (work.edge.ends place.wire.0 to.0).remote entry.ttl)

  by : (row : Option WirePlan) → BridgesOnly work (switched_by told octets entry place row work)
  by None = bridges_not work
  by (Some row) = mated (mate row work.edge.me.0 place.peer.0)

owned_bridges : (plan : Plan) (told : Answers) (octets : List ℕ) (entry : StackEntry) (place : Option EndPlace) (work : Work) → BridgesOnly work (owned plan told octets entry place work)
owned_bridges plan told octets entry None work = drops_bridges cause.NoLabel work
owned_bridges plan told octets entry (Some place) work = by place.terminal where
  by : (b : Bool) → BridgesOnly work (cond b (terminated plan told place entry.ttl (wire_row plan place.wire) (end_at work.edge place).remote (behind_entry octets) work)
      (switched plan told octets entry place work))
  by true = terminated_bridges plan told place entry.ttl (wire_row plan place.wire) (end_at work.edge place).remote (behind_entry octets) work
  by false = switched_bridges plan told octets entry place work

labelled_bridges : (plan : Plan) (told : Answers) (octets : List ℕ) (entry : StackEntry) (work : Work) → BridgesOnly work (labelled plan told octets entry work)
labelled_bridges plan told octets entry work = by (nat_lt entry.label least_label) entry.bottom where
  by : (reserved bottom : Bool) → BridgesOnly work
      (cond reserved (drops cause.NoLabel work) (cond bottom (owned plan told octets entry (advertiser plan work.edge entry.label) work) (drops cause.NotBottom work)))
  by true bottom = drops_bridges cause.NoLabel work
  by false true = owned_bridges plan told octets entry (advertiser plan work.edge entry.label) work
  by false false = drops_bridges cause.NotBottom work

opened_by_bridges : (plan : Plan) (told : Answers) (octets : List ℕ) (read : Result StackEntry DropCause) (work : Work) → BridgesOnly work (opened_by plan told octets read work)
opened_by_bridges plan told octets (Err why) work = drops_bridges why work
opened_by_bridges plan told octets (Ok entry) work = by (is_alert entry) where
  by : (b : Bool) → BridgesOnly work (cond b (alerted plan told (behind_entry octets) (entry_of (behind_entry octets)) work) (labelled plan told octets entry work))
  by true = alerted_bridges plan told (behind_entry octets) (entry_of (behind_entry octets)) work
  by false = labelled_bridges plan told octets entry work

-- every packet
pub packet_bridges : (plan : Plan) (told : Answers) (octets : List ℕ) (work : Work) → BridgesOnly work (packet_input plan told octets work)
packet_bridges plan told octets work = opened_by_bridges plan told octets (entry_of octets) work

-- ---- a frame, which may not apply

-- of the edge, all stays but what its bridges have learned, and only such effects are given out, whether or not it applies
pub record BridgesInput (old new : Work) : Type 0 where
  pub edge : LearnsOnly old.edge new.edge
  pub effects : GivesOnly is_of_bridging old.effects new.effects

pub frame_bridges : (plan : Plan) (told : Answers) (circuit : CircuitId) (octets : List ℕ) (row : Option CircuitPlan) (work : Work) → BridgesInput work (frame_input plan told circuit octets row work)
unfolding idles
frame_bridges plan told circuit octets None work = record { edge = learns_not work.edge; effects = gives_none is_of_bridging work.effects }
frame_bridges plan told circuit octets (Some row) work = by (is_own work.edge row && is_on work.edge circuit) where
  taken : Work
  taken = received plan told (arrival.Circuit circuit) row.service (port_at plan work.edge circuit row) (inner_at plan circuit octets) work

  by : (b : Bool) → BridgesInput work (cond b taken (idles work))
  by true =
      let bridges : BridgesOnly work taken = received_bridges plan told (arrival.Circuit circuit) row.service (port_at plan work.edge circuit row) (inner_at plan circuit octets) work in
      record { edge = bridges.edge; effects = bridges.effects }
  by false = record { edge = learns_not work.edge; effects = gives_none is_of_bridging work.effects }

-- ---- a ping, which may not apply

-- the edge with other sequence numbers of its pings
abbrev pub with_pings : (ℕ → ℕ) → EdgeState → EdgeState
with_pings pings edge = record edge { next_ping = pings }

-- of the edge, all stays but the sequence numbers of its pings, and only such effects are given out
pub record PingsOnly (old new : Work) : Type 0 where
  pub pings : ℕ → ℕ
  pub edge : new.edge ≡ with_pings pings old.edge
  pub effects : GivesOnly is_of_bridging old.effects new.effects
  pub idle : new.idle ≡ old.idle

-- so it is where the ping applies
pub data PingOutcome (old new : Work) : Type 0 where
  PingIdles : new ≡ idles old → PingOutcome old new
  PingGoes : PingsOnly old new → PingOutcome old new

-- and so it is, but for that, where it does not
pub record PingsInput (old new : Work) : Type 0 where
  pub pings : ℕ → ℕ
  pub edge : new.edge ≡ with_pings pings old.edge
  pub effects : GivesOnly is_of_bridging old.effects new.effects

-- the link takes a packet or not: the edge stays as it was
pub sends_edge : (told : Answers) (place : EndPlace) (came : Arrival) (octets : List ℕ) (work : Work) → (sends told place came octets work).edge ≡ work.edge
unfolding gives posts
sends_edge told place came octets work = by (next_answer told work) where
  by : (b : Bool) → (had_posted place came octets b work).edge ≡ work.edge
  by true = refl
  by false = refl

module _ (plan : Plan) (told : Answers) (work : Work) where
  numbers_ping : (place : EndPlace) (octets : List ℕ) → PingOutcome work (sends told place arrival.Own octets (changes (pinging place.wire) work))
  unfolding changes with_next_ping
  numbers_ping place octets =
      let bridges : BridgesOnly (changes (pinging place.wire) work) (sends told place arrival.Own octets (changes (pinging place.wire) work)) =
      sends_bridges told place arrival.Own octets (changes (pinging place.wire) work) in
      PingGoes (record {
        pings = (pinging place.wire work.edge).next_ping;
        edge = sends_edge told place arrival.Own octets (changes (pinging place.wire) work);
        effects = bridges.effects;
        idle = bridges.idle;
      })

  asks_ping : (place : EndPlace) (row : WirePlan) (kind : Cc) (binding : Binding) (from to : Option Addr) → PingOutcome work (asks told place row kind binding from to work)
  asks_ping place row kind binding None to = PingIdles refl
  asks_ping place row kind binding (Some from) None = PingIdles refl
  asks_ping place row kind binding (Some from) (Some to) =
      numbers_ping place (channel_octets kind binding (request_packet (ping_between row from to (work.edge.next_ping place.wire.0))))

  in_channel_ping : (place : EndPlace) (row : WirePlan) (binding : Binding) (kind : Option Cc) → PingOutcome work (pings_in plan told place row binding kind work)
  in_channel_ping place row binding None = PingIdles refl
  in_channel_ping place row binding (Some kind) = asks_ping place row kind binding (edge_address plan work.edge.me) (far_address plan work.edge.me row)

  under_ping : (place : EndPlace) (row : WirePlan) (remote : Option Binding) → PingOutcome work (pings_under plan told place row remote work)
  under_ping place row None = PingIdles refl
  under_ping place row (Some binding) = in_channel_ping place row binding (channel_under row work.edge.me binding)

  at_ping : (place : EndPlace) (row : Option WirePlan) → PingOutcome work (pings_at plan told place row work)
  at_ping place None = PingIdles refl
  at_ping place (Some row) = by (has_told (end_at work.edge place).local) where
    by : (b : Bool) → PingOutcome work (cond b (pings_under plan told place row (end_at work.edge place).remote work) (idles work))
    by true = under_ping place row (end_at work.edge place).remote
    by false = PingIdles refl

  by_ping : (place : Option EndPlace) → PingOutcome work (pings_by plan told place work)
  by_ping None = PingIdles refl
  by_ping (Some place) = at_ping place (wire_row plan place.wire)

-- every ping
pub ping_outcome : (plan : Plan) (told : Answers) (wire : WireId) (work : Work) → PingOutcome work (ping_input plan told wire work)
ping_outcome plan told wire work = by_ping plan told work (wire_end plan work.edge.me wire)

idles_pings : (work : Work) → PingsInput work (idles work)
unfolding idles
idles_pings work = record { pings = work.edge.next_ping; edge = refl; effects = gives_none is_of_bridging work.effects }

pub ping_bridges : (plan : Plan) (told : Answers) (wire : WireId) (work : Work) → PingsInput work (ping_input plan told wire work)
ping_bridges plan told wire work = by (ping_outcome plan told wire work) where
  by : PingOutcome work (ping_input plan told wire work) → PingsInput work (ping_input plan told wire work)
  by (PingIdles is) = subst (PingsInput work) (sym is) (idles_pings work)
  by (PingGoes only) = record { pings = only.pings; edge = only.edge; effects = only.effects }
