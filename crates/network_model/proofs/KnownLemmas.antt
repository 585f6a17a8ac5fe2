-- What the step of a frame to a known station, and of a packet that carries one, tells of the frame is one copy at most.
use Rattle.std.proofs.Common.{◌≡◌, ◌≤◌, ◌+◌, ◌++◌, ◌&&◌, ◌||◌, ◌∙◌, ℕ, Bool, true, false, List, [], ◌∷◌, Option, Some, None, Result, Ok, Err, cond, refl, ap, sym, subst, length, nat_eq, nat_le, nat_lt, zero-add, arith}
use Rattle.std.proofs.lemmas.Bool.Decides.{nat_tests}
use Rattle.net_base.specs.declared.plan.Plan.{Plan}
use Rattle.net_base.specs.declared.plan.circuit_plan.CircuitPlan.{CircuitPlan}
use Rattle.net_base.specs.declared.plan.places.CircuitId.{CircuitId}
use Rattle.net_base.specs.declared.plan.places.EdgeId.{EdgeId}
use Rattle.net_base.specs.declared.plan.places.ServiceId.{ServiceId}
use Rattle.net_base.specs.declared.plan.wire_plan.WirePlan.{WirePlan}
use Rattle.net_base.specs.declared.trace.arrival.Arrival.{Arrival}
use Rattle.net_base.specs.declared.trace.arrival.Arrival.TheVariants as arrival
use Rattle.net_base.specs.declared.trace.drop_cause.DropCause.{DropCause}
use Rattle.net_base.specs.declared.trace.drop_cause.DropCause.TheVariants as cause
use Rattle.net_base.specs.plan.Paths.{offer_of}
use Rattle.net_base.specs.plan.Places.{wire_row}
use Rattle.net_base.specs.trace.Isolated.{inner_at}
use Rattle.net_base.specs.trace.Frame.{dress}
use Rattle.pw_messages.specs.LinkAnswers.{Answers}
use Rattle.eth_encap.specs.declared.stack_entry.StackEntry.{StackEntry}
use Rattle.eth_encap.specs.Packet.{entry_of}
use Rattle.hvpls_spokes.specs.declared.port.Port.{Port}
use Rattle.hvpls_spokes.specs.declared.port.Port.TheVariants as port
use Rattle.hvpls_spokes.specs.Flood.{is_in_flood}
use Rattle.hvpls_spokes.specs.Port.{ports_of}
use Rattle.vsi_bridge.specs.Targets.{is_target, known_port}
use Rattle.pw_signalling.specs.declared.binding.Binding.{Binding}
use Rattle.edge_model.specs.declared.effect.Effect.{Effect}
use Rattle.edge_model.specs.declared.effect.Effect.TheVariants as effect
use Rattle.edge_model.specs.Frame.{bridged, copies, copy_by, destination, forwarded, hearing, is_own, port_at, port_forwards, received, tag_of}
use Rattle.edge_model.specs.declared.end_place.EndPlace.{EndPlace}
use Rattle.vccv_channel.specs.declared.cc.Cc.{Cc}
use Rattle.vccv_channel.specs.declared.cc.Cc.TheVariants.{Header, Alert, Expiry}
use Rattle.vccv_channel.specs.declared.echo.Echo.{Echo}
use Rattle.vccv_channel.specs.declared.echo.Echo.TheVariants.{Request, Answer}
use Rattle.vccv_channel.specs.declared.vccv_fault.VccvFault.{VccvFault}
use Rattle.vccv_channel.specs.Channel.{has_header}
use Rattle.vccv_channel.specs.Echo.{answer_packet}
use Rattle.vccv_channel.specs.Fault.{vccv_cause_of}
use Rattle.vccv_channel.specs.Reading.{ip_packet_of, reading}
use Rattle.edge_model.specs.Echo.{channel_octets, channel_under, echoes, is_picked, ping_number, verifies, verifies_in}
use Rattle.edge_model.specs.Ends.{is_up, wire_end}
use Rattle.edge_model.specs.Local.{ComesBy}
use Rattle.edge_model.specs.Mend.{port_of_wire}
use Rattle.edge_model.specs.Packet.{advertiser, alerted, alerts_by, alerts_end, behind_entry, bridges_frame, by_offer, enters, is_alert, is_channel, least_label, opened_by, owned, switched, terminated, unpacked_at}
use Rattle.edge_model.specs.Role.{down_at}
use Rattle.edge_model.specs.Send.{drops, had_posted, packet_of, sends_copy, sends_under}
use Rattle.edge_model.specs.State.{EdgeState, addresses_of, end_at, is_on}
use Rattle.edge_model.specs.Work.{Work, changes, gives, idles, next_answer, posts}
use Rattle.network_model.specs.declared.packet.Packet.{Packet}
use Rattle.network_model.specs.Absorb.{absorb_one, all_entries_of, begin_at, idle, taken_all}
use Rattle.network_model.specs.Frame.{entering, frame_event, frame_work, next_origin}
use Rattle.network_model.specs.KnownOnce.{ServesFramesOnce, ServesPacketsOnce, known_after, known_behind, known_to, times_out}
use Rattle.network_model.specs.Laws.{RunsServeKnownOnce}
use Rattle.network_model.specs.Packet.{arrive_event, packet_work}
use Rattle.network_model.specs.Run.{state_after}
use Rattle.network_model.specs.State.{NetworkState, edge_at, empty_network, with_edge, with_frame, without_packet}
use Rattle.network_model.proofs.PlaceLemmas.{IsPlaced, run_placed}

-- how many copies of a frame an edge gives out
outs : List Effect → ℕ
outs [] = 0
outs (effect.Left at bytes ∷ es) = 1 + outs es
outs (effect.Sent peer wire came bytes ∷ es) = 1 + outs es
outs (e ∷ es) = outs es

outs-append : (xs ys : List Effect) → outs (xs ++ ys) ≡ outs xs + outs ys
unfolding outs
outs-append [] ys = sym (zero-add (outs ys))
outs-append (effect.Left at bytes ∷ xs) ys = omega (arith, outs-append xs ys)
outs-append (effect.Sent peer wire came bytes ∷ xs) ys = omega (arith, outs-append xs ys)
outs-append (x ∷ xs) ys = outs-append xs ys

one_at_most : (b : Bool) → cond {A = ℕ} b 1 0 ≤ 1
one_at_most true = omega arith
one_at_most false = omega arith

-- the network tells of no more
told_out : (origin : ℕ) (me : EdgeId) (hops : ℕ) (es : List Effect) (network : NetworkState) → times_out origin (all_entries_of me origin hops es network) ≤ outs es
unfolding outs
told_out origin me hops [] network = omega arith
told_out origin me hops (effect.Left at bytes ∷ es) network = omega (arith, told_out origin me hops es network, one_at_most (nat_eq origin origin))
told_out origin me hops (effect.Sent peer wire came bytes ∷ es) network =
    omega (arith, told_out origin me hops es (absorb_one me origin hops (effect.Sent peer wire came bytes) network), one_at_most (nat_eq origin origin))
told_out origin me hops (e ∷ es) network = told_out origin me hops es (absorb_one me origin hops e network)

-- a copy by one port is one copy at most, and none where the port is no target
one_out : (e : Effect) → outs (e ∷ []) ≤ 1
unfolding outs
one_out (effect.Left at bytes) = omega arith
one_out (effect.Sent peer wire came bytes) = omega arith
one_out e = omega arith

gives_out : (e : Effect) (work : Work) → outs (gives e work).effects ≤ outs work.effects + 1
unfolding gives
gives_out e work = omega (arith, outs-append work.effects (e ∷ []), one_out e)

posts_out : (peer : EdgeId) (octets : List ℕ) (taken : Bool) (work : Work) → outs (posts peer octets taken work).effects ≡ outs work.effects
unfolding posts
posts_out peer octets taken work = refl

had_posted_out : (place : EndPlace) (came : Arrival) (octets : List ℕ) (taken : Bool) (work : Work) → outs (had_posted place came octets taken work).effects ≤ outs work.effects + 1
had_posted_out place came octets true work =
    let posted : Work = posts place.peer octets true work in
    omega (arith, gives_out (effect.Sent place.peer place.wire came octets) posted, posts_out place.peer octets true work)
had_posted_out place came octets false work =
    let posted : Work = posts place.peer octets false work in
    omega (arith, gives_out (effect.Dropped cause.LinkFault) posted, posts_out place.peer octets false work)

sends_under_out : (told : Answers) (came : Arrival) (frame : List ℕ) (me : EdgeId) (place : EndPlace) (row : Option WirePlan) (remote : Option Binding) (work : Work)
    → outs (sends_under told came frame me place row remote work).effects ≤ outs work.effects + 1
sends_under_out told came frame me place None remote work = omega arith
sends_under_out told came frame me place (Some row) None work = omega arith
sends_under_out told came frame me place (Some row) (Some binding) work = had_posted_out place came (packet_of (offer_of row me.0) binding frame) (next_answer told work) work

sends_out : (plan : Plan) (told : Answers) (came : Arrival) (frame : List ℕ) (place : Option EndPlace) (work : Work) → outs (sends_copy plan told came frame place work).effects ≤ outs work.effects + 1
sends_out plan told came frame None work = omega arith
sends_out plan told came frame (Some place) work = sends_under_out told came frame work.edge.me place (wire_row plan place.wire) (end_at work.edge place).remote work

one_copy : (plan : Plan) (told : Answers) (came : Arrival) (frame : List ℕ) (x : Port) (b : Bool) (work : Work)
    → outs (cond b (copy_by plan told came frame x work) work).effects ≤ outs work.effects + cond {A = ℕ} b 1 0
one_copy plan told came frame x false work = omega arith
one_copy plan told came frame (port.Circuit at) true work = gives_out (effect.Left at (dress (tag_of plan at) frame)) work
one_copy plan told came frame (port.Mesh wire) true work = sends_out plan told came frame (wire_end plan work.edge.me wire) work
one_copy plan told came frame (port.Spoke wire) true work = sends_out plan told came frame (wire_end plan work.edge.me wire) work

-- of the ports from a number on, one at most is the known one
at_most_one : (flooded known after : Bool) → (old n rest : ℕ) → n ≤ old + cond {A = ℕ} (flooded && known) 1 0 → rest ≤ n + cond {A = ℕ} after 1 0 → (known && after ≡ false)
    → rest ≤ old + cond {A = ℕ} (known || after) 1 0
at_most_one true true true old n rest here later apart = absurd (cc)
at_most_one true true false old n rest here later apart = omega (arith, here, later)
at_most_one true false after old n rest here later apart = omega (arith, here, later)
at_most_one false true true old n rest here later apart = absurd (cc)
at_most_one false true false old n rest here later apart = omega (arith, here, later)
at_most_one false false after old n rest here later apart = omega (arith, here, later)

before_after : (p q : ℕ) → nat_eq p q && nat_le (p + 1) q ≡ false
before_after p q = grind (arith, nat_tests)

now_or_later : (p q : ℕ) → (nat_eq p q || nat_le (p + 1) q) ≡ nat_le p q
now_or_later p q = grind (arith, nat_tests)

known_copies : (plan : Plan) (told : Answers) (came : Arrival) (frame : List ℕ) (flooded : ℕ → Bool) (q p : ℕ) (ports : List Port) (work : Work)
    → outs (copies (λ n. flooded n && nat_eq n q) (copy_by plan told came frame) p ports work).effects ≤ outs work.effects + cond {A = ℕ} (nat_le p q) 1 0
unfolding outs
known_copies plan told came frame flooded q p [] work = none (nat_le p q) where
  none : (b : Bool) → outs work.effects ≤ outs work.effects + cond {A = ℕ} b 1 0
  none b = omega arith
known_copies plan told came frame flooded q p (x ∷ ports) work =
    let next : Work = cond (flooded p && nat_eq p q) (copy_by plan told came frame x work) work in
    let here = one_copy plan told came frame x (flooded p && nat_eq p q) work in
    let later = known_copies plan told came frame flooded q (p + 1) ports next in
    rw (← now_or_later p q) (at_most_one (flooded p) (nat_eq p q) (nat_le (p + 1) q) _ _ _ here later (before_after p q))

known_bridged : (plan : Plan) (told : Answers) (came : Arrival) (service : ServiceId) (frame : List ℕ) (q arrival : ℕ) (work : Work)
    → known_port (addresses_of work.edge service) (destination frame) ≡ Some q → outs (bridged plan told came service frame arrival work).effects ≤ outs work.effects + 1
unfolding outs
known_bridged plan told came service frame q arrival work known =
    let ports : List Port = ports_of plan service work.edge.me in
    subst (λ (k : Option ℕ). outs (copies (is_target ports (port_forwards plan work.edge ports) arrival k) (copy_by plan told came frame) 0 ports work).effects ≤ outs work.effects + 1) (sym known)
    (omega (arith, known_copies plan told came frame (is_in_flood ports (port_forwards plan work.edge ports) arrival) q 0 ports work, one_at_most (nat_le 0 q)))

known_forwarded : (plan : Plan) (told : Answers) (came : Arrival) (service : ServiceId) (frame : List ℕ) (q : ℕ) (arrival : Option ℕ) (work : Work)
    → known_after service frame arrival work.edge ≡ Some q → outs (forwarded plan told came service frame arrival work).effects ≤ outs work.effects + 1
unfolding outs changes
known_forwarded plan told came service frame q None work known = omega arith
known_forwarded plan told came service frame q (Some arrival) work known = known_bridged plan told came service frame q arrival (changes (hearing service frame arrival) work) known

-- ---- frames

known_work : (plan : Plan) (network : NetworkState) (circuit : CircuitId) (row : CircuitPlan) (octets frame : List ℕ) (q : ℕ)
    → inner_at plan circuit octets ≡ Ok frame → known_to plan network circuit row frame ≡ Some q → outs (frame_work plan network circuit octets row).effects ≤ 1
unfolding outs idles
known_work plan network circuit row octets frame q formed known = taken (is_own (edge_at network row.edge) row && is_on (edge_at network row.edge) circuit) where
  edge : EdgeState
  edge = edge_at network row.edge

  taken : (b : Bool)
      → outs (cond b (received plan taken_all (arrival.Circuit circuit) row.service (port_at plan edge circuit row) (inner_at plan circuit octets) (begin_at network row.edge))
      (idles (begin_at network row.edge))).effects ≤ 1
  taken false = omega arith
  taken true =
      subst (λ (r : Result (List ℕ) DropCause). outs
      (received plan taken_all (arrival.Circuit circuit) row.service (port_at plan edge circuit row) r (begin_at network row.edge)).effects ≤ 1) (sym formed)
      (known_forwarded plan taken_all (arrival.Circuit circuit) row.service frame q (port_at plan edge circuit row) (begin_at network row.edge) known)

known_event : (plan : Plan) (network : NetworkState) (circuit : CircuitId) (row : CircuitPlan) (octets frame : List ℕ) (q : ℕ)
    → inner_at plan circuit octets ≡ Ok frame → known_to plan network circuit row frame ≡ Some q → times_out (next_origin network) (frame_event plan circuit octets (Some row) network).entries ≤ 1
known_event plan network circuit row octets frame q formed known = taken (frame_work plan network circuit octets row).idle where
  taken : (idles : Bool) → times_out (next_origin network) (cond idles (idle network) (entering network circuit octets row (frame_work plan network circuit octets row))).entries ≤ 1
  taken true = omega arith
  taken false = omega (
    arith,
    told_out (next_origin network) row.edge 0 (frame_work plan network circuit octets row).effects
        (with_edge row.edge (frame_work plan network circuit octets row).edge (with_frame network)),
    known_work plan network circuit row octets frame q formed known,
  )

-- ---- packets

-- what comes of a packet that has the label of an end, with this frame: nothing, a drop, or copies of the frame
drop_out : (why : DropCause) (work : Work) → work.effects ≡ [] → outs (drops why work).effects ≤ 1
unfolding outs
drop_out why work none = omega (arith, gives_out (effect.Dropped why) work, ap outs none)

-- what comes of an echo packet is one packet at most
echoes_out : (place : EndPlace) (kind : Cc) (binding : Binding) (ip : List ℕ) (read : Result Echo VccvFault) (work : Work) → work.effects ≡ []
    → outs (echoes taken_all place kind binding ip read work).effects ≤ 1
unfolding outs
echoes_out place kind binding ip (Err why) work none = drop_out (vccv_cause_of why) work none
echoes_out place kind binding ip (Ok (Answer sequence)) work none = omega (arith, gives_out (effect.Pong place.wire sequence) work, ap outs none)
echoes_out place kind binding ip (Ok (Request from to sequence long)) work none =
    omega (arith, had_posted_out place arrival.Own (channel_octets kind binding (answer_packet ip)) (next_answer taken_all work) work, ap outs none)

verifies_out : (place : EndPlace) (row : WirePlan) (kind : Cc) (binding : Binding) (payload : List ℕ) (work : Work) → work.effects ≡ []
    → outs (verifies taken_all place row kind binding payload work).effects ≤ 1
verifies_out place row kind binding payload work none =
    echoes_out place kind binding (ip_packet_of (has_header kind) payload) (reading (has_header kind) (ping_number row) payload) work none

verifies_in_out : (place : EndPlace) (row : WirePlan) (kind : Cc) (binding : Binding) (payload : List ℕ) (work : Work) → work.effects ≡ []
    → outs (verifies_in taken_all place row kind binding payload work).effects ≤ 1
verifies_in_out place row kind binding payload work none = by (is_picked kind (channel_under row work.edge.me binding)) where
  by : (b : Bool) → outs (cond b (verifies taken_all place row kind binding payload work) (drops cause.NotOffered work)).effects ≤ 1
  by true = verifies_out place row kind binding payload work none
  by false = drop_out cause.NotOffered work none

module _ (plan : Plan) (work : Work) (place : EndPlace) (row : WirePlan) (payload frame : List ℕ) (q : ℕ) (none : work.effects ≡ []) (formed : unpacked_at plan row work.edge.me payload ≡ Ok frame)
    (known : known_after row.service frame (port_of_wire plan work.edge place.wire row) work.edge ≡ Some q) where
  bridges_out : outs (bridges_frame plan taken_all row place payload work).effects ≤ 1
  unfolding outs
  bridges_out =
      let from : Option ℕ = port_of_wire plan work.edge place.wire row in
      subst (λ (r : Result (List ℕ) DropCause). outs (received plan taken_all (arrival.Wire place.wire) row.service from r work).effects ≤ 1) (sym formed)
      (omega (arith, known_forwarded plan taken_all (arrival.Wire place.wire) row.service frame q from work known, ap outs none))

  enters_out : outs (enters plan taken_all row place payload work).effects ≤ 1
  enters_out = by (is_up (down_at plan work.edge place)) where
    by : (b : Bool) → outs (cond b (bridges_frame plan taken_all row place payload work) (drops cause.Down work)).effects ≤ 1
    by true = bridges_out
    by false = drop_out cause.Down work none

  by_offer_out : (binding : Binding) (ttl : ℕ) (cword : Bool) → outs (by_offer plan taken_all row place binding ttl cword payload work).effects ≤ 1
  by_offer_out binding ttl true = by (nat_eq (length payload) 0) (is_channel payload) where
    by : (empty channel : Bool) → outs (cond empty (drops cause.Short work)
        (cond channel (verifies_in taken_all place row Header binding payload work) (enters plan taken_all row place payload work))).effects ≤ 1
    by true channel = drop_out cause.Short work none
    by false true = verifies_in_out place row Header binding payload work none
    by false false = enters_out
  by_offer_out binding ttl false = by (nat_eq ttl 1 && is_picked Expiry (channel_under row work.edge.me binding)) where
    by : (b : Bool) → outs (cond b (verifies taken_all place row Expiry binding payload work) (enters plan taken_all row place payload work)).effects ≤ 1
    by true = verifies_out place row Expiry binding payload work none
    by false = enters_out

  terminated_out : (ttl : ℕ) (remote : Option Binding) → outs (terminated plan taken_all place ttl (Some row) remote payload work).effects ≤ 1
  terminated_out ttl None = drop_out cause.Down work none
  terminated_out ttl (Some binding) = by_offer_out binding ttl (offer_of row work.edge.me.0).cword

-- behind a router alert there is no frame
alerts_by_out : (place : EndPlace) (row : Option WirePlan) (remote : Option Binding) (payload : List ℕ) (work : Work) → work.effects ≡ []
    → outs (alerts_by taken_all place row remote payload work).effects ≤ 1
alerts_by_out place None remote payload work none = drop_out cause.NotOffered work none
alerts_by_out place (Some row) None payload work none = drop_out cause.NotOffered work none
alerts_by_out place (Some row) (Some binding) payload work none = verifies_in_out place row Alert binding payload work none

alerted_out : (plan : Plan) (octets : List ℕ) (read : Result StackEntry DropCause) (work : Work) → work.effects ≡ [] → outs (alerted plan taken_all octets read work).effects ≤ 1
alerted_out plan octets (Err why) work none = drop_out why work none
alerted_out plan octets (Ok entry) work none = by entry.bottom (advertiser plan work.edge entry.label) where
  of_end : (place : EndPlace) (terminal : Bool)
      → outs (cond terminal (alerts_by taken_all place (wire_row plan place.wire) (end_at work.edge place).remote (behind_entry octets) work) (drops cause.NoLabel work)).effects ≤ 1
  of_end place true = alerts_by_out place (wire_row plan place.wire) (end_at work.edge place).remote (behind_entry octets) work none
  of_end place false = drop_out cause.NoLabel work none

  by : (bottom : Bool) (owner : Option EndPlace) → outs (cond bottom (alerts_end plan taken_all (behind_entry octets) owner work) (drops cause.NotBottom work)).effects ≤ 1
  by true None = drop_out cause.NoLabel work none
  by true (Some place) = of_end place place.terminal
  by false owner = drop_out cause.NotBottom work none

module _ (plan : Plan) (network : NetworkState) (packet : Packet) (place : EndPlace) (row : WirePlan) (frame : List ℕ) (q : ℕ) (me : (edge_at network packet.to).me ≡ packet.to)
    (comes : ComesBy plan (edge_at network packet.to) packet.bytes place row) (formed : unpacked_at plan row packet.to (behind_entry packet.bytes) ≡ Ok frame)
    (known : known_behind plan network packet place row frame ≡ Some q) where
  start : Work
  start = begin_at network packet.to

  owned_out : outs (owned plan taken_all packet.bytes comes.entry (Some place) start).effects ≤ 1
  unfolding start
  owned_out = by place.terminal comes.terminal (wire_row plan place.wire) comes.is where
    here : unpacked_at plan row (edge_at network packet.to).me (behind_entry packet.bytes) ≡ Ok frame
    here = ap (λ (e : EdgeId). unpacked_at plan row e (behind_entry packet.bytes)) me ∙ formed

    by : (terminal : Bool) → terminal ≡ true → (found : Option WirePlan) → found ≡ Some row
        → outs (cond terminal (terminated plan taken_all place comes.entry.ttl found (end_at (edge_at network packet.to) place).remote (behind_entry packet.bytes) start)
        (switched plan taken_all packet.bytes comes.entry place start)).effects ≤ 1
    by false is found same = absurd (cc (is))
    by true is found same =
        subst (λ (r : Option WirePlan). outs (terminated plan taken_all place comes.entry.ttl r (end_at (edge_at network packet.to) place).remote
        (behind_entry packet.bytes) start).effects ≤ 1) (sym same)
        (terminated_out plan start place row (behind_entry packet.bytes) frame q refl here known comes.entry.ttl (end_at (edge_at network packet.to) place).remote)

  packet_out : outs (packet_work plan network packet).effects ≤ 1
  unfolding start
  packet_out =
      subst (λ (r : Result StackEntry DropCause). outs (opened_by plan taken_all packet.bytes r start).effects ≤ 1) (sym comes.read) (by (is_alert comes.entry) (nat_lt comes.entry.label least_label) comes.entry.bottom) where
        by_owner : (owner : Option EndPlace) → owner ≡ Some place → outs (owned plan taken_all packet.bytes comes.entry owner start).effects ≤ 1
        by_owner owner is = subst (λ (o : Option EndPlace). outs (owned plan taken_all packet.bytes comes.entry o start).effects ≤ 1) (sym is) owned_out

        by : (alert reserved bottom : Bool)
            → outs (cond alert (alerted plan taken_all (behind_entry packet.bytes) (entry_of (behind_entry packet.bytes)) start)
            (cond reserved (drops cause.NoLabel start)
            (cond bottom (owned plan taken_all packet.bytes comes.entry (advertiser plan (edge_at network packet.to) comes.entry.label) start) (drops cause.NotBottom start)))).effects ≤ 1
        by true reserved bottom = alerted_out plan (behind_entry packet.bytes) (entry_of (behind_entry packet.bytes)) start refl
        by false true bottom = drop_out cause.NoLabel start refl
        by false false true = by_owner (advertiser plan (edge_at network packet.to) comes.entry.label) comes.owner
        by false false false = drop_out cause.NotBottom start refl

  known_arrival : times_out packet.origin (arrive_event plan (Some packet) network).entries ≤ 1
  known_arrival =
      let work : Work = packet_work plan network packet in
      omega (arith, told_out packet.origin packet.to packet.hops work.effects (with_edge packet.to work.edge (without_packet packet.number network)), packet_out)

serves_frames : (plan : Plan) (network : NetworkState) → ServesFramesOnce plan network
serves_frames plan network circuit row octets frame q is formed known =
    subst (λ (r : Option CircuitPlan). times_out (next_origin network) (frame_event plan circuit octets r network).entries ≤ 1) (sym is)
    (known_event plan network circuit row octets frame q formed known)

serves_packets : (plan : Plan) (network : NetworkState) → IsPlaced network → ServesPacketsOnce plan network
serves_packets plan network placed number packet place row frame q is comes formed known =
    subst (λ (found : Option Packet). times_out packet.origin (arrive_event plan found network).entries ≤ 1) (sym is)
    (known_arrival plan network packet place row frame q (placed.me packet.to.0) comes formed known)

pub run_serves_known_once : RunsServeKnownOnce
run_serves_known_once plan events checked before after split =
    let network : NetworkState = state_after plan (empty_network plan) before in
    record { frames = serves_frames plan network; packets = serves_packets plan network (run_placed plan before) }
