-- While frames enter and packets arrive, are lost or repeated, nothing but addresses and packets changes; and a destination that no
-- bridge has learned, and nothing teaches, stays unlearned.
use Rattle.std.proofs.Common.{◌+◌, ◌≡◌, ◌<◌, ◌&&◌, ◌||◌, ◌∙◌, ℕ, Bool, true, false, List, [], ◌∷◌, Option, Some, None, Result, Ok, Err, cond, option_map, length, refl, ap, sym, subst, nat_eq, inl, inr, not, ◌==◌}
use Rattle.std.proofs.lemmas.Bool.{cases_Bool, eq-eqb, eqb-true}
use Rattle.std.proofs.lemmas.List.Folds.{list_any-append}
use Rattle.std.specs.List.{AllByRecursion, list_any}
use Rattle.std.specs.Str.{bytes_eq}
use Rattle.net_base.specs.declared.plan.Plan.{Plan}
use Rattle.net_base.specs.declared.plan.circuit_plan.CircuitPlan.{CircuitPlan}
use Rattle.net_base.specs.declared.plan.wire_plan.WirePlan.{WirePlan}
use Rattle.net_base.specs.declared.plan.places.CircuitId.{CircuitId}
use Rattle.net_base.specs.declared.plan.places.EdgeId.{EdgeId}
use Rattle.net_base.specs.declared.plan.places.ServiceId.{ServiceId}
use Rattle.net_base.specs.declared.trace.arrival.Arrival.{Arrival}
use Rattle.net_base.specs.declared.trace.arrival.Arrival.TheVariants as arrival
use Rattle.net_base.specs.declared.trace.drop_cause.DropCause.{DropCause}
use Rattle.net_base.specs.declared.trace.entry.Entry.{Entry}
use Rattle.net_base.specs.declared.trace.entry.Entry.TheVariants.{In}
use Rattle.net_base.specs.declared.trace.event.Event.{Event}
use Rattle.net_base.specs.declared.trace.event.Event.TheVariants.{Frame, Arrive, Discard, Again}
use Rattle.net_values.specs.declared.mac.Mac.{Mac}
use Rattle.net_base.specs.plan.Accepted.{IsChecked}
use Rattle.net_base.specs.plan.Places.{circuit_row, mtu_of, wire_row}
use Rattle.net_base.specs.trace.Isolated.{inner_at}
use Rattle.net_base.specs.trace.Frame.{source_of}
use Rattle.net_values.specs.Mac.{is_group_address}
use Rattle.net_values.proofs.BoolLemmas.{second_holds, and_false, second_fails, first_fails, and_true}
use Rattle.mac_table.specs.Addresses.{AddressTable, has_address, is_of, learned}
use Rattle.mac_table.specs.declared.mac_entry.MacEntry.{MacEntry}
use Rattle.mac_table.proofs.AddressLemmas.{entry_of-absent, entry_of-held, entry_of-learned_other}
use Rattle.vsi_bridge.specs.BridgeState.{table_of}
use Rattle.vsi_bridge.specs.Targets.{heard}
use Rattle.edge_model.specs.declared.effect.Effect.{Effect}
use Rattle.edge_model.specs.declared.effect.Effect.TheVariants as effect
use Rattle.edge_model.specs.Frame.{forwarded, hearing, is_own, port_at, received, source}
use Rattle.edge_model.specs.Send.{drops}
use Rattle.edge_model.specs.State.{EdgeState, addresses_of, is_on, with_addresses, with_learned}
use Rattle.edge_model.specs.Work.{Work, gives, idles}
use Rattle.edge_model.proofs.BridgeLemmas.{LearnsOnly, frame_bridges, learns_is, packet_bridges}
use Rattle.edge_model.proofs.CopyLemmas.{forwards_copies}
use Rattle.network_model.specs.declared.packet.Packet.{Packet}
use Rattle.network_model.specs.Absorb.{absorb, begin_at, idle, taken_all}
use Rattle.network_model.specs.Frame.{entering, frame_event, frame_work, next_origin}
use Rattle.network_model.specs.Packet.{again_event, arrive_event, discard_event, packet_at, packet_work, repeating}
use Rattle.network_model.specs.Reach.{is_row_of, is_row_on, is_site}
use Rattle.network_model.specs.State.{NetworkState, edge_at, with_copy, with_edge, with_frame, without_number, without_packet}
use Rattle.network_model.specs.Step.{step}
use Rattle.network_model.specs.Window.{carried, is_row_of_service, is_sourced, packet_teaches, spares, teaches}
use Rattle.network_model.proofs.AbsorbLemmas.{all_keep}
use Rattle.network_model.proofs.EdgeLemmas.{HoldsOfEach}
use Rattle.network_model.proofs.PacketListLemmas.{absorb_sends, copy_of, holds_by, packet_holds, packets_of, repeating_sends, without_hold, packet_from}
use Rattle.flight_laws.proofs.RuledNetworkLemmas.{IsRuledNetwork}
use Rattle.packet_laws.specs.Carried.{KeepsPacketRule, FollowsPacketRule}
use Rattle.packet_laws.specs.Echoed.{IsEchoed}
use Rattle.packet_laws.proofs.ArriveLemmas.{IsSized, come_sized}
use Rattle.packet_laws.proofs.EchoArriveLemmas.{echo_unheard}
use Rattle.flood_laws.specs.Copy.{IsStill, IsStillEdge}
use Rattle.flood_laws.proofs.CopyLemmas.{Arrives, BridgesIt, CarriesIn, DropsIt, PassesIt, packet_arrives, sent_carry}

-- ---- what holds of each edge

-- another state of an edge of which it holds
edge_each : (P : ℕ → EdgeState → Type 0) (me : EdgeId) (edge : EdgeState) (network : NetworkState) → HoldsOfEach P network → P me.0 edge → HoldsOfEach P (with_edge me edge network)
unfolding with_edge
edge_each P me edge network holds here k = elim (cases_Bool (nat_eq k me.0)) [
  | inl same ↦ rw same (subst (λ (n : ℕ). P n edge) (sym (eqb-true k me.0 same)) here)
  | inr other ↦ rw other (holds k)
]

-- the work of an edge goes into a network
absorb_each : (P : ℕ → EdgeState → Type 0) (me : EdgeId) (origin hops : ℕ) (work : Work) (network : NetworkState) → HoldsOfEach P network → P me.0 work.edge
    → HoldsOfEach P (absorb me origin hops work network).state
absorb_each P me origin hops work network holds here k =
    subst (λ (edges : ℕ → EdgeState). P k (edges k)) (sym (all_keep me origin hops work.effects (with_edge me work.edge network)).edges) (edge_each P me work.edge network holds here k)

entered_each : (P : ℕ → EdgeState → Type 0) (network : NetworkState) → HoldsOfEach P network → HoldsOfEach P (with_frame network)
unfolding with_frame
entered_each P network holds = holds

without_each : (P : ℕ → EdgeState → Type 0) (number : ℕ) (network : NetworkState) → HoldsOfEach P network → HoldsOfEach P (without_packet number network)
unfolding without_packet
without_each P number network holds = holds

repeated_each : (P : ℕ → EdgeState → Type 0) (packet : Packet) (network : NetworkState) → HoldsOfEach P network → HoldsOfEach P (repeating packet network).state
unfolding with_copy
repeated_each P packet network holds = holds

-- ---- nothing but addresses and packets changes

-- of an edge that only learns
pub still_learns : (calm old new : EdgeState) → LearnsOnly old new → IsStillEdge calm old → IsStillEdge calm new
unfolding with_learned
still_learns calm old new only still = record { learned = new.learned; is = learns_is old new only ∙ ap (with_learned new.learned) still.is }

abbrev StaysStill : NetworkState → ℕ → EdgeState → Type 0
StaysStill calm k edge = IsStillEdge (calm.edges k) edge

pub frame_still : (plan : Plan) (calm network : NetworkState) (circuit : CircuitId) (octets : List ℕ) (row : Option CircuitPlan) → IsStill calm network
    → IsStill calm (frame_event plan circuit octets row network).state
frame_still plan calm network circuit octets None still = still
frame_still plan calm network circuit octets (Some row) still = by (frame_work plan network circuit octets row).idle where
  by : (idles : Bool) → IsStill calm (cond idles (idle network) (entering network circuit octets row (frame_work plan network circuit octets row))).state
  by true = still
  by false = record {
    edges = absorb_each (StaysStill calm) row.edge (next_origin network) 0 (frame_work plan network circuit octets row) (with_frame network) (entered_each (StaysStill calm) network still.edges)
        (still_learns (calm.edges row.edge.0) (network.edges row.edge.0) (frame_work plan network circuit octets row).edge
        (frame_bridges plan taken_all circuit octets (Some row) (begin_at network row.edge)).edge (still.edges row.edge.0));
  }

pub arrive_still : (plan : Plan) (calm network : NetworkState) (found : Option Packet) → IsStill calm network → IsStill calm (arrive_event plan found network).state
arrive_still plan calm network None still = still
arrive_still plan calm network (Some packet) still = record {
  edges = absorb_each (StaysStill calm) packet.to packet.origin packet.hops (packet_work plan network packet) (without_packet packet.number network)
      (without_each (StaysStill calm) packet.number network still.edges)
      (still_learns (calm.edges packet.to.0) (network.edges packet.to.0) (packet_work plan network packet).edge
      (packet_bridges plan taken_all packet.bytes (begin_at network packet.to)).edge (still.edges packet.to.0));
}

pub discard_still : (calm network : NetworkState) (found : Option Packet) → IsStill calm network → IsStill calm (discard_event found network).state
discard_still calm network None still = still
discard_still calm network (Some packet) still = record { edges = without_each (StaysStill calm) packet.number network still.edges }

pub again_still : (calm network : NetworkState) (found : Option Packet) → IsStill calm network → IsStill calm (again_event found network).state
again_still calm network None still = still
again_still calm network (Some packet) still = record { edges = repeated_each (StaysStill calm) packet network still.edges }

-- of a network on an event of a window
pub step_still : (plan : Plan) (calm network : NetworkState) (trace : List Entry) (origin : ℕ) (event : Event)
    → IsChecked plan → IsRuledNetwork plan network → KeepsPacketRule plan network trace → spares network origin event ≡ true
    → IsStill calm network → IsStill calm (step plan network event).state
step_still plan calm network trace origin (Frame circuit octets) checked ruled rule spared still = frame_still plan calm network circuit octets (circuit_row plan circuit) still
step_still plan calm network trace origin (Arrive number) checked ruled rule spared still = arrive_still plan calm network (packet_at network number) still
step_still plan calm network trace origin (Discard number) checked ruled rule spared still = discard_still calm network (packet_at network number) still
step_still plan calm network trace origin (Again number) checked ruled rule spared still = again_still calm network (packet_at network number) still
step_still plan calm network trace origin event checked ruled rule spared still = absurd (cc (spared))

-- ---- what is not learned

-- an address that is not held is not held after another one came
absent_learned : (table : AddressTable) (entry : MacEntry) (address : Mac) → is_of address entry ≡ false → has_address table.entries address ≡ false → has_address (learned table entry) address ≡ false
absent_learned table entry address other absent = elim (cases_Bool (has_address (learned table entry) address)) [
  | inl held ↦
      (let is = entry_of-held (learned table entry) address held in
      let none : None ≡ Some is.0 = sym (entry_of-learned_other table entry address other ∙ entry_of-absent table.entries address absent) ∙ is.1 in
      absurd (cc (none)))
  | inr none ↦ none
]

absent_heard : (entries : List MacEntry) (from address : Mac) (arrival now : ℕ) → bytes_eq from.0 address.0 ≡ false → has_address entries address ≡ false
    → has_address (heard entries from arrival now) address ≡ false
absent_heard entries from address arrival now other absent = elim (cases_Bool (is_group_address from.0)) [
  | inl group ↦ rw group absent
  | inr single ↦ rw single (absent_learned (table_of entries) (record { address = from; port = arrival; tick = now }) address other absent)
]

-- a bridge that hears a frame of another service, or of another source
absent_hearing : (edge : EdgeState) (of service : ServiceId) (frame : List ℕ) (arrival : ℕ) (address : List ℕ) → nat_eq of.0 service.0 && bytes_eq (source_of frame) address ≡ false
    → has_address (edge.learned service.0) (record { 0 = address }) ≡ false → has_address ((hearing of frame arrival edge).learned service.0) (record { 0 = address }) ≡ false
unfolding with_addresses
absent_hearing edge of service frame arrival address untaught absent = elim (cases_Bool (nat_eq service.0 of.0)) [
  | inl same ↦
      (let is : service.0 ≡ of.0 = eqb-true service.0 of.0 same in
      let other : bytes_eq (source_of frame) address ≡ false = ap (λ (b : Bool). b && bytes_eq (source_of frame) address) (sym (eq-eqb of.0 service.0 (sym is))) ∙ untaught in
      let here : has_address (addresses_of edge of) (record { 0 = address }) ≡ false = subst (λ (n : ℕ). has_address (edge.learned n) (record { 0 = address }) ≡ false) is absent in
      rw same (absent_heard (addresses_of edge of) (source frame) (record { 0 = address }) arrival edge.ticks other here))
  | inr apart ↦ rw apart absent
]

-- ---- what teaches nothing

-- the packet does not teach the address
abbrev Unteaching : Plan → ServiceId → List ℕ → Packet → Type 0
Unteaching plan service address packet = packet_teaches plan service address packet ≡ false

-- none of the packets does
none_teach : (plan : Plan) (service : ServiceId) (address : List ℕ) (packets : List Packet) → AllByRecursion (Unteaching plan service address) packets
    → list_any (packet_teaches plan service address) packets ≡ false
none_teach plan service address [] all = refl
none_teach plan service address (p ∷ ps) all = ap (λ (b : Bool). b || list_any (packet_teaches plan service address) ps) all.0 ∙ none_teach plan service address ps all.1

each_unteaching : (plan : Plan) (service : ServiceId) (address : List ℕ) (packets : List Packet) → list_any (packet_teaches plan service address) packets ≡ false
    → AllByRecursion (Unteaching plan service address) packets
each_unteaching plan service address [] none = tt
each_unteaching plan service address (p ∷ ps) none = (
  first_fails (packet_teaches plan service address p) (list_any (packet_teaches plan service address) ps) none,
  each_unteaching plan service address ps (second_fails (packet_teaches plan service address p) (list_any (packet_teaches plan service address) ps) none),
)

-- a packet on a wire of a service teaches what the frame does that it carries, where it has the number of a frame
teaches_as : (plan : Plan) (of service : ServiceId) (address frame : List ℕ) (packet : Packet) (row : WirePlan) → wire_row plan packet.wire ≡ Some row → row.service ≡ of
    → carried plan packet ≡ Ok frame
    → packet_teaches plan service address packet ≡ (not (nat_eq packet.origin 0) && (nat_eq of.0 service.0 && bytes_eq (source_of frame) address))
teaches_as plan of service address frame packet row is same carries =
    let there : is_row_of_service service (wire_row plan packet.wire) ≡ nat_eq of.0 service.0 = ap (is_row_of_service service) is ∙ ap (λ (s : ServiceId). nat_eq s.0 service.0) same in
    ap (λ (b : Bool). not (nat_eq packet.origin 0) && (b && is_sourced address (carried plan packet))) there
    ∙ ap (λ (read : Result (List ℕ) DropCause). not (nat_eq packet.origin 0) && (nat_eq of.0 service.0 && is_sourced address read)) carries

-- a packet without such a number teaches nothing
unnumbered_teaches : (plan : Plan) (service : ServiceId) (address : List ℕ) (me : EdgeId) (origin hops sent : ℕ) (es : List Effect) → origin ≡ 0
    → AllByRecursion (Unteaching plan service address) (packets_of me origin hops sent es)
unnumbered_teaches plan service address me origin hops sent [] none = tt
unnumbered_teaches plan service address me origin hops sent (effect.Sent peer wire came octets ∷ es) none = (
  ap (λ (n : ℕ). not (nat_eq n 0) && (is_row_of_service service (wire_row plan wire) && is_sourced address (carried plan (packet_from me origin hops sent peer wire octets)))) none,
  unnumbered_teaches plan service address me origin hops (sent + 1) es none,
)
unnumbered_teaches plan service address me origin hops sent (effect.Said peer octets ∷ es) none = unnumbered_teaches plan service address me origin hops sent es none
unnumbered_teaches plan service address me origin hops sent (effect.Left at octets ∷ es) none = unnumbered_teaches plan service address me origin hops sent es none
unnumbered_teaches plan service address me origin hops sent (effect.Dropped why ∷ es) none = unnumbered_teaches plan service address me origin hops sent es none
unnumbered_teaches plan service address me origin hops sent (effect.Session peer state ∷ es) none = unnumbered_teaches plan service address me origin hops sent es none
unnumbered_teaches plan service address me origin hops sent (effect.Wire wire down ∷ es) none = unnumbered_teaches plan service address me origin hops sent es none
unnumbered_teaches plan service address me origin hops sent (effect.Pong wire sequence ∷ es) none = unnumbered_teaches plan service address me origin hops sent es none
unnumbered_teaches plan service address me origin hops sent (effect.Closed peer ∷ es) none = unnumbered_teaches plan service address me origin hops sent es none

-- ---- an edge at work

-- no bridge of the service in the plan has learned the address, and no packet under way teaches it
pub record IsUnlearned (plan : Plan) (service : ServiceId) (address : List ℕ) (network : NetworkState) : Type 0 where
  pub tables : (k : ℕ) → k < length plan.edges → has_address ((network.edges k).learned service.0) (record { 0 = address }) ≡ false
  pub packets : list_any (packet_teaches plan service address) network.under_way ≡ false

abbrev HasNot : Plan → ServiceId → List ℕ → ℕ → EdgeState → Type 0
HasNot plan service address k edge = k < length plan.edges → has_address (edge.learned service.0) (record { 0 = address }) ≡ false

-- the edge has not learned the address, and no packet that it sends teaches it
record LeavesUnlearned (plan : Plan) (service : ServiceId) (address : List ℕ) (me : EdgeId) (origin : ℕ) (work : Work) : Type 0 where
  table : HasNot plan service address me.0 work.edge
  sent : (hops sent : ℕ) → AllByRecursion (Unteaching plan service address) (packets_of me origin hops sent work.effects)

module _ (plan : Plan) (network : NetworkState) (service : ServiceId) (address : List ℕ) (me : EdgeId) (origin : ℕ) (checked : IsChecked plan) (ruled : IsRuledNetwork plan network) (absent : HasNot plan service address me.0 (network.edges me.0)) where
  abbrev Leaves : Work → Type 0
  Leaves work = LeavesUnlearned plan service address me origin work

  leaves_same : Leaves (begin_at network me)
  leaves_same = record { table = absent; sent = λ hops sent. tt }

  leaves_idle : Leaves (idles (begin_at network me))
  unfolding idles
  leaves_idle = record { table = absent; sent = λ hops sent. tt }

  leaves_dropped : (why : DropCause) → Leaves (drops why (begin_at network me))
  unfolding gives
  leaves_dropped why = record { table = absent; sent = λ hops sent. tt }

  leaves_forwarded : (came : Arrival) (of : ServiceId) (frame : List ℕ) (arrival : ℕ) → IsSized (mtu_of plan of) frame → nat_eq of.0 service.0 && bytes_eq (source_of frame) address ≡ false
      → Leaves (forwarded plan taken_all came of frame (Some arrival) (begin_at network me))
  leaves_forwarded came of frame arrival sized untaught =
      let copied = forwards_copies plan taken_all came of frame arrival (begin_at network me) in
      record {
        table = λ within. subst (λ (e : EdgeState). has_address (e.learned service.0) (record { 0 = address }) ≡ false) (sym copied.heard)
            (absent_hearing (network.edges me.0) of service frame arrival address untaught (absent within));
        sent = λ hops sent. subst (λ (es : List Effect). AllByRecursion (Unteaching plan service address) (packets_of me origin hops sent es)) (sym copied.joined)
            (holds_by (CarriesIn plan of frame) (Unteaching plan service address) (packets_of me origin hops sent copied.more)
            (λ packet carries.
            teaches_as plan of service address frame packet carries.row carries.is carries.same carries.carries
            ∙ (ap (λ (b : Bool). not (nat_eq packet.origin 0) && b) untaught ∙ and_false (not (nat_eq packet.origin 0))))
            (sent_carry plan network me origin hops sent came of frame arrival copied.more checked ruled sized copied.all));
      }

  leaves_received : (came : Arrival) (of : ServiceId) (arrival : Option ℕ) (read : Result (List ℕ) DropCause) → ((frame : List ℕ) → read ≡ Ok frame → IsSized (mtu_of plan of) frame)
      → nat_eq of.0 service.0 && is_sourced address read ≡ false → Leaves (received plan taken_all came of arrival read (begin_at network me))
  leaves_received came of None (Ok frame) sized untaught = leaves_same
  leaves_received came of (Some arrival) (Ok frame) sized untaught = leaves_forwarded came of frame arrival (sized frame refl) untaught
  leaves_received came of arrival (Err why) sized untaught = leaves_dropped why

-- on a frame that does not teach the address
frame_leaves : (plan : Plan) (network : NetworkState) (service : ServiceId) (address : List ℕ) (origin : ℕ) (circuit : CircuitId) (octets : List ℕ) (row : CircuitPlan)
    → IsChecked plan → IsRuledNetwork plan network → HasNot plan service address row.edge.0 (network.edges row.edge.0) → circuit_row plan circuit ≡ Some row
    → teaches plan network service address (Frame circuit octets) ≡ false
    → LeavesUnlearned plan service address row.edge origin (frame_work plan network circuit octets row)
frame_leaves plan network service address origin circuit octets row checked ruled absent is untaught = by (is_own (edge_at network row.edge) row && is_on (edge_at network row.edge) circuit) refl where
  site : is_on (edge_at network row.edge) circuit ≡ true → is_site plan network service circuit ≡ nat_eq row.service.0 service.0
  site on =
      ap (λ (r : Option CircuitPlan). is_row_of service r && is_row_on network circuit r) is
      ∙ (ap (λ (b : Bool). nat_eq row.service.0 service.0 && b) on ∙ and_true (nat_eq row.service.0 service.0))

  sized : (frame : List ℕ) → inner_at plan circuit octets ≡ Ok frame → IsSized (mtu_of plan row.service) frame
  sized frame formed = come_sized plan (In circuit 1 octets ∷ []) row.service 1 frame (record {
    numbered = refl;
    sender = circuit;
    octets = octets;
    told = inl refl;
    of_service = ap (λ (r : Option CircuitPlan). option_map (λ (c : CircuitPlan). c.service) r) is;
    formed = formed;
  })

  by : (b : Bool) → is_own (edge_at network row.edge) row && is_on (edge_at network row.edge) circuit ≡ b
      → LeavesUnlearned plan service address row.edge origin
      (cond b (received plan taken_all (arrival.Circuit circuit) row.service (port_at plan (edge_at network row.edge) circuit row) (inner_at plan circuit octets)
      (begin_at network row.edge)) (idles (begin_at network row.edge)))
  by true applies =
      let on : is_on (edge_at network row.edge) circuit ≡ true = second_holds (is_own (edge_at network row.edge) row) (is_on (edge_at network row.edge) circuit) applies in
      leaves_received plan network service address row.edge origin checked ruled absent (arrival.Circuit circuit) row.service (port_at plan (edge_at network row.edge) circuit row)
      (inner_at plan circuit octets) sized
      (ap (λ (b : Bool). b && is_sourced address (inner_at plan circuit octets)) (sym (site on)) ∙ untaught)
  by false applies = leaves_idle plan network service address row.edge origin checked ruled absent

-- on a packet that does not
packet_leaves : (plan : Plan) (network : NetworkState) (service : ServiceId) (address : List ℕ) (packet : Packet)
    → IsChecked plan → IsRuledNetwork plan network → HasNot plan service address packet.to.0 (network.edges packet.to.0) → (packet.origin == 0) ≡ false
    → packet_teaches plan service address packet ≡ false
    → Arrives plan network packet → LeavesUnlearned plan service address packet.to packet.origin (packet_work plan network packet)
packet_leaves plan network service address packet checked ruled absent numbered untaught (DropsIt dropped) =
    subst (LeavesUnlearned plan service address packet.to packet.origin) (sym dropped.is) (leaves_dropped plan network service address packet.to packet.origin checked ruled absent dropped.why)
packet_leaves plan network service address packet checked ruled absent numbered untaught (BridgesIt bridges) =
    subst (LeavesUnlearned plan service address packet.to packet.origin) (sym bridges.work)
    (leaves_forwarded plan network service address packet.to packet.origin checked ruled absent (arrival.Wire packet.wire) bridges.row.service bridges.frame bridges.port bridges.sized
    (sym (ap (λ (b : Bool). not b && (nat_eq bridges.row.service.0 service.0 && bytes_eq (source_of bridges.frame) address)) numbered)
    ∙ (sym (teaches_as plan bridges.row.service service address bridges.frame packet bridges.row bridges.is refl bridges.carries) ∙ untaught)))
packet_leaves plan network service address packet checked ruled absent numbered untaught (PassesIt passes) = record {
  table = subst (HasNot plan service address packet.to.0) (sym passes.edge) absent;
  sent = λ hops sent. subst (λ (es : List Effect). AllByRecursion (Unteaching plan service address) (packets_of packet.to packet.origin hops sent es)) (sym passes.effects) (
    ap (λ (read : Result (List ℕ) DropCause). not (nat_eq packet.origin 0) && (is_row_of_service service (wire_row plan packet.wire) && is_sourced address read))
        (passes.carries (sent + 1) packet.origin (hops + 1)) ∙ untaught,
    tt,
  );
}

-- on a ping or an answer, which no bridge hears
echo_leaves : (plan : Plan) (network : NetworkState) (service : ServiceId) (address : List ℕ) (packet : Packet) → IsChecked plan → IsRuledNetwork plan network
    → HasNot plan service address packet.to.0 (network.edges packet.to.0)
    → IsEchoed plan network packet → LeavesUnlearned plan service address packet.to packet.origin (packet_work plan network packet)
echo_leaves plan network service address packet checked ruled absent echo = record {
  table = subst (HasNot plan service address packet.to.0) (sym (echo_unheard plan network packet checked ruled echo)) absent;
  sent = λ hops sent. unnumbered_teaches plan service address packet.to packet.origin hops sent (packet_work plan network packet).effects echo.unnumbered;
}

-- ---- the network

module _ (plan : Plan) (service : ServiceId) (address : List ℕ) where
  test : Packet → Bool
  test = packet_teaches plan service address

  -- the work of an edge goes into it
  absorb_unlearned : (me : EdgeId) (origin hops : ℕ) (work : Work) (network : NetworkState) → IsUnlearned plan service address network → LeavesUnlearned plan service address me origin work
      → IsUnlearned plan service address (absorb me origin hops work network).state
  unfolding test
  absorb_unlearned me origin hops work network unlearned leaves =
      let packets : List Packet = packets_of me origin hops network.sent work.effects in
      record {
        tables = absorb_each (HasNot plan service address) me origin hops work network unlearned.tables leaves.table;
        packets = ap (list_any test) (absorb_sends me origin hops work network).under_way
            ∙ (list_any-append test network.under_way packets
            ∙ (ap (λ (b : Bool). b || list_any test packets) unlearned.packets ∙ none_teach plan service address packets (leaves.sent hops network.sent)));
      }

  entered_unlearned : (network : NetworkState) → IsUnlearned plan service address network → IsUnlearned plan service address (with_frame network)
  unfolding with_frame
  entered_unlearned network unlearned = record { tables = unlearned.tables; packets = unlearned.packets }

  without_unlearned : (number : ℕ) (network : NetworkState) → IsUnlearned plan service address network → IsUnlearned plan service address (without_packet number network)
  unfolding without_packet
  without_unlearned number network unlearned = record {
    tables = unlearned.tables;
    packets = none_teach plan service address (without_number number network.under_way)
        (without_hold (Unteaching plan service address) number network.under_way (each_unteaching plan service address network.under_way unlearned.packets));
  }

  frame_unlearned : (network : NetworkState) (circuit : CircuitId) (octets : List ℕ) (row : Option CircuitPlan)
      → IsChecked plan → IsRuledNetwork plan network → circuit_row plan circuit ≡ row → teaches plan network service address (Frame circuit octets) ≡ false
      → IsUnlearned plan service address network → IsUnlearned plan service address (frame_event plan circuit octets row network).state
  frame_unlearned network circuit octets None checked ruled is untaught unlearned = unlearned
  frame_unlearned network circuit octets (Some row) checked ruled is untaught unlearned = by (frame_work plan network circuit octets row).idle where
    by : (idles : Bool) → IsUnlearned plan service address (cond idles (idle network) (entering network circuit octets row (frame_work plan network circuit octets row))).state
    by true = unlearned
    by false = absorb_unlearned row.edge (next_origin network) 0 (frame_work plan network circuit octets row) (with_frame network) (entered_unlearned network unlearned)
        (frame_leaves plan network service address (next_origin network) circuit octets row checked ruled (unlearned.tables row.edge.0) is untaught)

  -- what holds of the packet that is found
  found_untaught : (network : NetworkState) (number : ℕ) (packet : Packet) → IsUnlearned plan service address network → packet_at network number ≡ Some packet
      → packet_teaches plan service address packet ≡ false
  found_untaught network number packet unlearned is = packet_holds (Unteaching plan service address) network number packet (each_unteaching plan service address network.under_way unlearned.packets) is

  arrive_unlearned : (network : NetworkState) (trace : List Entry) (number : ℕ) (found : Option Packet) → IsChecked plan → IsRuledNetwork plan network
      → KeepsPacketRule plan network trace → packet_at network number ≡ found
      → IsUnlearned plan service address network → IsUnlearned plan service address (arrive_event plan found network).state
  arrive_unlearned network trace number None checked ruled rule is unlearned = unlearned
  arrive_unlearned network trace number (Some packet) checked ruled rule is unlearned =
      absorb_unlearned packet.to packet.origin packet.hops (packet_work plan network packet) (without_packet packet.number network) (without_unlearned packet.number network unlearned)
      (right (packet_holds (FollowsPacketRule plan network trace) network number packet rule is))
    where
      right : FollowsPacketRule plan network trace packet → LeavesUnlearned plan service address packet.to packet.origin (packet_work plan network packet)
      right (inl carried) =
          packet_leaves plan network service address packet checked ruled (unlearned.tables packet.to.0) carried.entered.numbered (found_untaught network number packet unlearned is)
          (packet_arrives plan network trace packet checked ruled carried)
      right (inr echo) = echo_leaves plan network service address packet checked ruled (unlearned.tables packet.to.0) echo

  discard_unlearned : (network : NetworkState) (found : Option Packet) → IsUnlearned plan service address network → IsUnlearned plan service address (discard_event found network).state
  discard_unlearned network None unlearned = unlearned
  discard_unlearned network (Some packet) unlearned = without_unlearned packet.number network unlearned

  again_unlearned : (network : NetworkState) (number : ℕ) (found : Option Packet) → packet_at network number ≡ found → IsUnlearned plan service address network
      → IsUnlearned plan service address (again_event found network).state
  unfolding test
  again_unlearned network number None is unlearned = unlearned
  again_unlearned network number (Some packet) is unlearned =
      let copy : Packet = copy_of network.sent packet in
      let alone : AllByRecursion (Unteaching plan service address) (copy ∷ []) = (found_untaught network number packet unlearned is, tt) in
      record {
        tables = repeated_each (HasNot plan service address) packet network unlearned.tables;
        packets = ap (list_any test) (repeating_sends packet network).under_way
            ∙ (list_any-append test network.under_way (copy ∷ [])
            ∙ (ap (λ (b : Bool). b || list_any test (copy ∷ [])) unlearned.packets ∙ none_teach plan service address (copy ∷ []) alone));
      }

-- what is unlearned stays so on an event of a window that does not teach it
pub step_unlearned : (plan : Plan) (network : NetworkState) (trace : List Entry) (origin : ℕ) (service : ServiceId) (address : List ℕ) (event : Event)
    → IsChecked plan → IsRuledNetwork plan network → KeepsPacketRule plan network trace → spares network origin event ≡ true
    → teaches plan network service address event ≡ false
    → IsUnlearned plan service address network → IsUnlearned plan service address (step plan network event).state
step_unlearned plan network trace origin service address (Frame circuit octets) checked ruled rule spared untaught unlearned =
    frame_unlearned plan service address network circuit octets (circuit_row plan circuit) checked ruled refl untaught unlearned
step_unlearned plan network trace origin service address (Arrive number) checked ruled rule spared untaught unlearned =
    arrive_unlearned plan service address network trace number (packet_at network number) checked ruled rule refl unlearned
step_unlearned plan network trace origin service address (Discard number) checked ruled rule spared untaught unlearned =
    discard_unlearned plan service address network (packet_at network number) unlearned
step_unlearned plan network trace origin service address (Again number) checked ruled rule spared untaught unlearned =
    again_unlearned plan service address network number (packet_at network number) refl unlearned
step_unlearned plan network trace origin service address event checked ruled rule spared untaught unlearned = absurd (cc (spared))
