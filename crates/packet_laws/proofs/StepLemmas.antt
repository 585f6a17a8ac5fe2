-- One event keeps the packet rule, and what leaves at a circuit came in before.
use Rattle.std.proofs.Common.{◌≡◌, ◌<◌, nat_lt, length, arith, inl, inr, ◌==◌, ◌+◌, ◌++◌, ◌∙◌, ℕ, Bool, true, false, List, [], ◌∷◌, Option, Some, None, cond, option_map, refl, ap, sym, subst, append_assoc}
use Rattle.std.specs.List.{AllByRecursion}
use Rattle.net_base.specs.declared.plan.Plan.{Plan}
use Rattle.net_base.specs.declared.plan.circuit_plan.CircuitPlan.{CircuitPlan}
use Rattle.net_base.specs.declared.plan.places.CircuitId.{CircuitId}
use Rattle.net_base.specs.declared.plan.places.EdgeId.{EdgeId}
use Rattle.net_base.specs.declared.plan.places.ServiceId.{ServiceId}
use Rattle.net_base.specs.declared.plan.places.WireId.{WireId}
use Rattle.net_base.specs.declared.trace.arrival.Arrival.{Arrival}
use Rattle.net_base.specs.declared.trace.arrival.Arrival.TheVariants as arrival
use Rattle.net_base.specs.declared.trace.drop_cause.DropCause.{DropCause}
use Rattle.net_base.specs.declared.trace.entry.Entry.{Entry}
use Rattle.net_base.specs.declared.trace.entry.Entry.TheVariants.{Did, In, Left, Sent}
use Rattle.net_base.specs.declared.trace.event.Event.{Event}
use Rattle.net_base.specs.declared.trace.event.Event.TheVariants.{Tick, Frame, Arrive, Discard, Again, Ping}
use Rattle.net_base.specs.plan.Accepted.{IsChecked}
use Rattle.net_base.specs.plan.Places.{circuit_row}
use Rattle.net_base.specs.plan.Planned.{IsEventOf}
use Rattle.net_base.specs.trace.Isolated.{Among, CameIn, IsolatedAfter, IsolatedEntry, inner_at}
use Rattle.net_base.proofs.TraceLemmas.{among-last}
use Rattle.edge_model.specs.Apart.{IsAnswered, IsDropped, IsTold, IsVerified}
use Rattle.edge_model.specs.Copies.{AllAreCopies, FrameGoesOut, FrameIsDropped, FrameIsIdle, FrameWork, LeftCopy, PacketGoesOn, PacketGoesOut, PacketIsAnswered, PacketIsDropped, PacketIsLost, PacketIsTold, PacketWork}
use Rattle.edge_model.specs.declared.effect.Effect.{Effect}
use Rattle.edge_model.specs.declared.effect.Effect.TheVariants as effect
use Rattle.edge_model.specs.State.{EdgeState}
use Rattle.edge_model.specs.Work.{Work}
use Rattle.edge_model.proofs.LocalLemmas as local
use Rattle.edge_model.proofs.PacketLemmas as behind
use Rattle.edge_model.proofs.PingLemmas as asking
use Rattle.edge_model.proofs.PingLemmas.{PingIsDropped, PingIsLost, PingIsSent, PingWork}
use Rattle.network_model.specs.declared.packet.Packet.{Packet}
use Rattle.network_model.specs.Absorb.{Stepped, absorb, absorb_one, all_entries_of, idle, taken_all}
use Rattle.network_model.specs.Frame.{entering, frame_event, frame_work, next_origin}
use Rattle.network_model.specs.Packet.{again_event, arrive_event, arriving, discard_event, packet_at, packet_work, repeating}
use Rattle.network_model.specs.Ping.{ping_event, ping_work}
use Rattle.network_model.specs.State.{NetworkState, all_older, edge_at, lives_on, older, with_edge, with_frame, with_older, without_number, without_packet}
use Rattle.network_model.specs.Step.{brings, step}
use Rattle.network_model.proofs.InnerLemmas.{has_row, inner_there}
use Rattle.network_model.proofs.PacketListLemmas.{append_holds, absorb_sends, holds_by, packet_holds, packets_of, repeating_sends, without_hold}
use Rattle.network_model.proofs.QuietLemmas.{IsSignalStep, NoneGoesOut, step_signals, tick_tells, ticks_quiet}
use Rattle.network_model.proofs.OtherLemmas.{numbered_from}
use Rattle.flight_laws.specs.Ends.{HasTypes, IsOrdered}
use Rattle.flight_laws.specs.Rules.{MayCarry}
use Rattle.flight_laws.proofs.RuledNetworkLemmas.{IsRuledNetwork}
use Rattle.flight_laws.proofs.RuledRunLemmas.{brings_stays}
use Rattle.flight_laws.proofs.RuledEventLemmas.{Grows, tick_event_ruled}
use Rattle.packet_laws.proofs.AgeLemmas.{may_grow}
use Rattle.label_space.specs.Kept.{rest_ticks}
use Rattle.std.proofs.lemmas.Bool.Decides.{nat_tests}
use Rattle.packet_laws.specs.Carried.{IsCarried, FollowsPacketRule, KeepsPacketRule}
use Rattle.packet_laws.specs.Echoed.{IsEchoed}
use Rattle.packet_laws.proofs.ArriveLemmas.{arrives_come}
use Rattle.packet_laws.proofs.EchoAnswerLemmas.{answer_echoes}
use Rattle.packet_laws.proofs.EchoArriveLemmas.{copied_apart, not_in_channel}
use Rattle.packet_laws.proofs.EchoSendLemmas.{asked_echoes}
use Rattle.packet_laws.proofs.EchoSwitchLemmas.{echo_goes_on}
use Rattle.packet_laws.proofs.SwitchLemmas.{goes_on}
use Rattle.packet_laws.proofs.SendLemmas.{HasCome, come_of, come_on, copies_carried, entered_of}

-- ---- what is carried stays so

-- when more was told
pub carried_on : (plan : Plan) (network : NetworkState) (trace more : List Entry) (packet : Packet) → IsCarried plan network trace packet → IsCarried plan network (trace ++ more) packet
carried_on plan network trace more packet carried = record {
  row = carried.row;
  is = carried.is;
  joined = carried.joined;
  frame = carried.frame;
  entered = entered_of plan (trace ++ more) carried.row carried.row.service packet.origin carried.frame refl
      (come_on plan trace more carried.row.service packet.origin carried.frame (come_of plan trace carried.row packet.origin carried.frame carried.entered));
  label = carried.label;
  is_label = carried.is_label;
  packed = carried.packed;
  named = carried.named;
}

-- in a network in which labels go on to be named
pub carried_in : (plan : Plan) (network next : NetworkState) (trace : List Entry) (packet : Packet)
    → ((k wire peer age label : ℕ) → MayCarry (network.edges k) wire peer age label → MayCarry (next.edges k) wire peer age label) → IsCarried plan network trace packet
    → IsCarried plan next trace packet
carried_in plan network next trace packet names carried = record {
  row = carried.row;
  is = carried.is;
  joined = carried.joined;
  frame = carried.frame;
  entered = carried.entered;
  label = carried.label;
  is_label = carried.is_label;
  packed = carried.packed;
  named = names packet.to.0 packet.wire.0 packet.from.0 packet.age carried.label carried.named;
}

-- under another number, and after other hops
pub carried_again : (plan : Plan) (network : NetworkState) (trace : List Entry) (packet : Packet) (number hops : ℕ) → IsCarried plan network trace packet
    → IsCarried plan network trace (record { number = number; wire = packet.wire; from = packet.from; to = packet.to; origin = packet.origin; hops = hops; age = packet.age; bytes = packet.bytes })
carried_again plan network trace packet number hops carried = record {
  row = carried.row;
  is = carried.is;
  joined = carried.joined;
  frame = carried.frame;
  entered = carried.entered;
  label = carried.label;
  is_label = carried.is_label;
  packed = record {
    ttl = carried.packed.ttl;
    vlan = carried.packed.vlan;
    left = carried.packed.left;
    fits = carried.packed.fits;
    mode = carried.packed.mode;
    requested = carried.packed.requested;
    bytes = carried.packed.bytes;
    same_word = carried.packed.same_word;
    same_mode = carried.packed.same_mode;
  };
  named = carried.named;
}

-- a ping or an answer is one whatever was told, in a network in which labels go on to be named
echoed_in : (plan : Plan) (network next : NetworkState) (packet : Packet)
    → ((k wire peer age label : ℕ) → MayCarry (network.edges k) wire peer age label → MayCarry (next.edges k) wire peer age label) → IsEchoed plan network packet → IsEchoed plan next packet
echoed_in plan network next packet names echo = record {
  unnumbered = echo.unnumbered;
  row = echo.row;
  is = echo.is;
  joined = echo.joined;
  kind = echo.kind;
  channel = echo.channel;
  source = echo.source;
  comes_from = echo.comes_from;
  target = echo.target;
  goes_to = echo.goes_to;
  ip = echo.ip;
  message = echo.message;
  label = echo.label;
  is_label = echo.is_label;
  ttl = echo.ttl;
  left = echo.left;
  bytes = echo.bytes;
  named = names packet.to.0 packet.wire.0 packet.from.0 packet.age echo.label echo.named;
}

-- and under another number, and after other hops
echoed_again : (plan : Plan) (network : NetworkState) (packet : Packet) (number hops : ℕ) → IsEchoed plan network packet
    → IsEchoed plan network (record { number = number; wire = packet.wire; from = packet.from; to = packet.to; origin = packet.origin; hops = hops; age = packet.age; bytes = packet.bytes })
echoed_again plan network packet number hops echo = record {
  unnumbered = echo.unnumbered;
  row = echo.row;
  is = echo.is;
  joined = echo.joined;
  kind = echo.kind;
  channel = echo.channel;
  source = echo.source;
  comes_from = echo.comes_from;
  target = echo.target;
  goes_to = echo.goes_to;
  ip = echo.ip;
  message = echo.message;
  label = echo.label;
  is_label = echo.is_label;
  ttl = echo.ttl;
  left = echo.left;
  bytes = echo.bytes;
  named = echo.named;
}

-- ---- what is right stays so

right_on : (plan : Plan) (network : NetworkState) (trace more : List Entry) (packet : Packet) → FollowsPacketRule plan network trace packet → FollowsPacketRule plan network (trace ++ more) packet
right_on plan network trace more packet (inl carried) = inl (carried_on plan network trace more packet carried)
right_on plan network trace more packet (inr echo) = inr echo

right_in : (plan : Plan) (network next : NetworkState) (trace : List Entry) (packet : Packet)
    → ((k wire peer age label : ℕ) → MayCarry (network.edges k) wire peer age label → MayCarry (next.edges k) wire peer age label)
    → FollowsPacketRule plan network trace packet → FollowsPacketRule plan next trace packet
right_in plan network next trace packet names (inl carried) = inl (carried_in plan network next trace packet names carried)
right_in plan network next trace packet names (inr echo) = inr (echoed_in plan network next packet names echo)

right_again : (plan : Plan) (network : NetworkState) (trace : List Entry) (packet : Packet) (number hops : ℕ) → FollowsPacketRule plan network trace packet
    → FollowsPacketRule plan network trace (record {
      number = number;
      wire = packet.wire;
      from = packet.from;
      to = packet.to;
      origin = packet.origin;
      hops = hops;
      age = packet.age;
      bytes = packet.bytes;
    })
right_again plan network trace packet number hops (inl carried) = inl (carried_again plan network trace packet number hops carried)
right_again plan network trace packet number hops (inr echo) = inr (echoed_again plan network packet number hops echo)

-- a tick older, in a network in which labels go on to be carried by older packets
abbrev pub GrowsAll : NetworkState → NetworkState → Type 0
GrowsAll network next = (k : ℕ) → Grows (network.edges k) (next.edges k)

carried_older : (plan : Plan) (network next : NetworkState) (trace : List Entry) (packet : Packet) → packet.age + 1 < rest_ticks → GrowsAll network next
    → IsCarried plan network trace packet → IsCarried plan next trace (older packet)
carried_older plan network next trace packet young grows carried = record {
  row = carried.row;
  is = carried.is;
  joined = carried.joined;
  frame = carried.frame;
  entered = carried.entered;
  label = carried.label;
  is_label = carried.is_label;
  packed = record {
    ttl = carried.packed.ttl;
    vlan = carried.packed.vlan;
    left = carried.packed.left;
    fits = carried.packed.fits;
    mode = carried.packed.mode;
    requested = carried.packed.requested;
    bytes = carried.packed.bytes;
    same_word = carried.packed.same_word;
    same_mode = carried.packed.same_mode;
  };
  named = grows packet.to.0 packet.wire.0 packet.from.0 packet.age carried.label young carried.named;
}

echoed_older : (plan : Plan) (network next : NetworkState) (packet : Packet) → packet.age + 1 < rest_ticks → GrowsAll network next → IsEchoed plan network packet → IsEchoed plan next (older packet)
echoed_older plan network next packet young grows echo = record {
  unnumbered = echo.unnumbered;
  row = echo.row;
  is = echo.is;
  joined = echo.joined;
  kind = echo.kind;
  channel = echo.channel;
  source = echo.source;
  comes_from = echo.comes_from;
  target = echo.target;
  goes_to = echo.goes_to;
  ip = echo.ip;
  message = echo.message;
  label = echo.label;
  is_label = echo.is_label;
  ttl = echo.ttl;
  left = echo.left;
  bytes = echo.bytes;
  named = grows packet.to.0 packet.wire.0 packet.from.0 packet.age echo.label young echo.named;
}

right_older : (plan : Plan) (network next : NetworkState) (trace : List Entry) (packet : Packet) → packet.age + 1 < rest_ticks → GrowsAll network next
    → FollowsPacketRule plan network trace packet → FollowsPacketRule plan next trace (older packet)
right_older plan network next trace packet young grows (inl carried) = inl (carried_older plan network next trace packet young grows carried)
right_older plan network next trace packet young grows (inr echo) = inr (echoed_older plan network next packet young grows echo)

all_right_older : (plan : Plan) (network next : NetworkState) (trace : List Entry) (packets : List Packet) → GrowsAll network next → AllByRecursion (FollowsPacketRule plan network trace) packets
    → AllByRecursion (FollowsPacketRule plan next trace) (all_older packets)
all_right_older plan network next trace [] grows all = tt
all_right_older plan network next trace (p ∷ ps) grows all = by (lives_on p) refl (all_right_older plan network next trace ps grows all.1) where
  low : (a : ℕ) → nat_lt (a + 1) 64 ≡ true → a + 1 < 64
  low a is = grind (arith, nat_tests)

  by : (b : Bool) → lives_on p ≡ b → AllByRecursion (FollowsPacketRule plan next trace) (all_older ps)
      → AllByRecursion (FollowsPacketRule plan next trace) (cond b (older p ∷ all_older ps) (all_older ps))
  by true lives rest = (right_older plan network next trace p (low p.age lives) grows all.0, rest)
  by false lives rest = rest

-- a packet with the number of a frame carries that frame
pub carried_of : (plan : Plan) (network : NetworkState) (trace : List Entry) (packet : Packet) → FollowsPacketRule plan network trace packet → (packet.origin == 0) ≡ false
    → IsCarried plan network trace packet
carried_of plan network trace packet (inl carried) numbered = carried
carried_of plan network trace packet (inr echo) numbered = absurd (cc (sym numbered ∙ ap (λ (n : ℕ). n == 0) echo.unnumbered))

all_on : (plan : Plan) (network : NetworkState) (trace more : List Entry) (packets : List Packet) → AllByRecursion (FollowsPacketRule plan network trace) packets
    → AllByRecursion (FollowsPacketRule plan network (trace ++ more)) packets
all_on plan network trace more packets all = holds_by (FollowsPacketRule plan network trace) (FollowsPacketRule plan network (trace ++ more)) packets
    (λ packet right. right_on plan network trace more packet right) all

-- ---- what leaves came in

-- a copy that leaves
left_came : (plan : Plan) (edge : EdgeState) (trace : List Entry) (service : ServiceId) (origin : ℕ) (frame : List ℕ) (from : ℕ) (at : CircuitId) (bytes : List ℕ)
    → IsChecked plan → HasCome plan trace service origin frame → LeftCopy plan edge service frame from at bytes → CameIn plan trace at origin bytes
left_came plan edge trace service origin frame from at bytes checked come copy =
    let sends = has_row plan come.sender service come.of_service in
    let receives = has_row plan at service copy.same_service in
    record {
      sender = come.sender;
      entered = come.octets;
      before = come.told;
      service = service;
      sender_service = come.of_service;
      receiver_service = copy.same_service;
      frame = frame;
      as_entered = come.formed;
      as_left = ap (inner_at plan at) copy.dressed
          ∙ inner_there plan come.sender at service sends.row receives.row come.octets frame checked sends.is come.of_service come.formed receives.is copy.same_service;
    }

-- copies are told apart from other services
copies_isolated : (plan : Plan) (edge : EdgeState) (me : EdgeId) (came : Arrival) (service : ServiceId) (origin hops : ℕ) (frame : List ℕ) (from : ℕ) (es : List Effect) (other : NetworkState) (trace : List Entry)
    → IsChecked plan → HasCome plan trace service origin frame → AllAreCopies plan edge came service frame from es → IsolatedAfter plan trace (all_entries_of me origin hops es other)
copies_isolated plan edge me came service origin hops frame from [] other trace checked come all = tt
copies_isolated plan edge me came service origin hops frame from (effect.Left at bytes ∷ es) other trace checked come all = (
  left_came plan edge trace service origin frame from at bytes checked come all.0,
  copies_isolated plan edge me came service origin hops frame from es other _ checked (come_on plan trace _ service origin frame come) all.1,
)
copies_isolated plan edge me came service origin hops frame from (effect.Sent peer wire of_arrival bytes ∷ es) other trace checked come all = (
  tt,
  copies_isolated plan edge me came service origin hops frame from es (absorb_one me origin hops (effect.Sent peer wire of_arrival bytes) other) _ checked
      (come_on plan trace _ service origin frame come) all.1,
)
copies_isolated plan edge me came service origin hops frame from (effect.Dropped why ∷ es) other trace checked come all =
    (tt, copies_isolated plan edge me came service origin hops frame from es other _ checked (come_on plan trace _ service origin frame come) all.1)
copies_isolated plan edge me came service origin hops frame from (effect.Said peer bytes ∷ es) other trace checked come all = absurd all.0
copies_isolated plan edge me came service origin hops frame from (effect.Session peer state ∷ es) other trace checked come all = absurd all.0
copies_isolated plan edge me came service origin hops frame from (effect.Wire wire down ∷ es) other trace checked come all = absurd all.0
copies_isolated plan edge me came service origin hops frame from (effect.Pong wire sequence ∷ es) other trace checked come all = absurd all.0
copies_isolated plan edge me came service origin hops frame from (effect.Closed peer ∷ es) other trace checked come all = absurd all.0

none_isolated : (plan : Plan) (trace es : List Entry) → NoneGoesOut es → IsolatedAfter plan trace es
none_isolated plan trace [] none = tt
none_isolated plan trace (Left circuit origin hops octets ∷ es) none = absurd none
none_isolated plan trace (Sent from to wire came packet origin hops octets ∷ es) none = absurd none
none_isolated plan trace (e ∷ es) none = (tt, none_isolated plan (trace ++ e ∷ []) es none)

-- ---- the effects of an edge on a frame or a packet

-- its packets are right, and what leaves came in
pub record GoesRight (plan : Plan) (network : NetworkState) (trace : List Entry) (me : EdgeId) (origin : ℕ) (es : List Effect) : Type 0 where
  pub carried : (hops sent : ℕ) → AllByRecursion (FollowsPacketRule plan network trace) (packets_of me origin hops sent es)
  pub isolated : (hops : ℕ) (other : NetworkState) → IsolatedAfter plan trace (all_entries_of me origin hops es other)

right_none : (plan : Plan) (network : NetworkState) (trace : List Entry) (me : EdgeId) (origin : ℕ) (es : List Effect) → es ≡ [] → GoesRight plan network trace me origin es
right_none plan network trace me origin es none = subst (GoesRight plan network trace me origin) (sym none) (record { carried = λ hops sent. tt; isolated = λ hops other. tt })

right_dropped : (plan : Plan) (network : NetworkState) (trace : List Entry) (me : EdgeId) (origin : ℕ) (why : DropCause) (es : List Effect) → es ≡ effect.Dropped why ∷ []
    → GoesRight plan network trace me origin es
right_dropped plan network trace me origin why es one = subst (GoesRight plan network trace me origin) (sym one) (record { carried = λ hops sent. tt; isolated = λ hops other. (tt, tt) })

right_told : (plan : Plan) (network : NetworkState) (trace : List Entry) (me : EdgeId) (origin : ℕ) (wire : WireId) (sequence : ℕ) (es : List Effect) → es
    ≡ effect.Pong wire sequence ∷ [] → GoesRight plan network trace me origin es
right_told plan network trace me origin wire sequence es one = subst (GoesRight plan network trace me origin) (sym one) (record { carried = λ hops sent. tt; isolated = λ hops other. (tt, tt) })

right_copies : (plan : Plan) (network : NetworkState) (trace : List Entry) (me : EdgeId) (origin : ℕ) (came : Arrival) (service : ServiceId) (frame : List ℕ) (from : ℕ) (es : List Effect)
    → IsChecked plan → IsRuledNetwork plan network → HasCome plan trace service origin frame → AllAreCopies plan (network.edges me.0) came service frame from es
    → GoesRight plan network trace me origin es
right_copies plan network trace me origin came service frame from es checked ruled come all = record {
  carried = λ hops sent. holds_by (IsCarried plan network trace) (FollowsPacketRule plan network trace) (packets_of me origin hops sent es) (λ packet carried. inl carried)
      (copies_carried plan network trace me origin hops sent came service frame from es checked ruled come all);
  isolated = λ hops other. copies_isolated plan (network.edges me.0) me came service origin hops frame from es other trace checked come all;
}

-- on a frame that was told
frame_right : (plan : Plan) (network : NetworkState) (trace : List Entry) (circuit : CircuitId) (origin : ℕ) (octets : List ℕ) (row : CircuitPlan) (es : List Effect)
    → IsChecked plan → IsRuledNetwork plan network → circuit_row plan circuit ≡ Some row → (origin == 0) ≡ false → Among (In circuit origin octets) trace
    → FrameWork plan (network.edges row.edge.0) circuit octets (Some row) es
    → GoesRight plan network trace row.edge origin es
frame_right plan network trace circuit origin octets row es checked ruled is numbered told (FrameIsIdle none) = right_none plan network trace row.edge origin es none
frame_right plan network trace circuit origin octets row es checked ruled is numbered told (FrameIsDropped why formed one) =
    subst (GoesRight plan network trace row.edge origin) (sym one) (record { carried = λ hops sent. tt; isolated = λ hops other. (tt, tt) })
frame_right plan network trace circuit origin octets row es checked ruled is numbered told (FrameGoesOut own same out) =
    right_copies plan network trace row.edge origin (arrival.Circuit circuit) own.service out.frame out.from es checked ruled
    (record {
      numbered = numbered;
      sender = circuit;
      octets = octets;
      told = told;
      of_service = ap (λ (r : Option CircuitPlan). option_map (λ (c : CircuitPlan). c.service) r) (is ∙ same);
      formed = out.formed;
    })
    out.copies

-- on a packet that is carried
packet_right : (plan : Plan) (network : NetworkState) (trace : List Entry) (packet : Packet) (es : List Effect)
    → IsChecked plan → IsRuledNetwork plan network → IsCarried plan network trace packet → PacketWork plan (network.edges packet.to.0) packet.bytes es
    → GoesRight plan network trace packet.to packet.origin es
packet_right plan network trace packet es checked ruled carried (PacketIsLost none) = right_none plan network trace packet.to packet.origin es none
packet_right plan network trace packet es checked ruled carried (PacketIsDropped why one) =
    right_dropped plan network trace packet.to packet.origin why es one
packet_right plan network trace packet es checked ruled carried (PacketGoesOut out) =
    right_copies plan network trace packet.to packet.origin (arrival.Wire out.place.wire) out.row.service out.frame out.from es checked ruled
    (arrives_come plan network trace packet es checked carried (ruled.edges packet.to.0).place out)
    out.copies
packet_right plan network trace packet es checked ruled carried (PacketGoesOn out) =
    subst (GoesRight plan network trace packet.to packet.origin) (sym out.sent) (record {
      carried = λ hops sent. (inl (goes_on plan network trace packet es checked ruled carried (ruled.edges packet.to.0).place out (sent + 1) (hops + 1)), tt);
      isolated = λ hops other. (tt, tt);
    })
packet_right plan network trace packet es checked ruled carried (PacketIsAnswered peer wire bytes back one) =
    absurd (not_in_channel plan network trace packet checked ruled carried back.place back.row back.kind back.binding back.by)
packet_right plan network trace packet es checked ruled carried (PacketIsTold wire sequence answer one) = right_told plan network trace packet.to packet.origin wire sequence es one

-- on a ping or an answer: it is dropped, goes on, is answered or is told, and no frame goes out
verified_right : (plan : Plan) (network : NetworkState) (trace : List Entry) (packet : Packet) (service : ServiceId) (wire : WireId) (frame : List ℕ) (from : ℕ) (es : List Effect)
    → IsVerified plan (network.edges packet.to.0) packet.bytes es → AllAreCopies plan (network.edges packet.to.0) (arrival.Wire wire) service frame from es
    → GoesRight plan network trace packet.to packet.origin es
verified_right plan network trace packet service wire frame from es (IsDropped why one) copies = right_dropped plan network trace packet.to packet.origin why es one
verified_right plan network trace packet service wire frame from es (IsAnswered place row kind binding bytes by one) copies =
    absurd (no_copy (subst (AllAreCopies plan (network.edges packet.to.0) (arrival.Wire wire) service frame from) one copies).0.same_arrival) where
      no_copy : arrival.Own ≡ arrival.Wire wire → ⊥
      no_copy same = cc (same)
verified_right plan network trace packet service wire frame from es (IsTold place row kind binding sequence by one) copies =
    right_told plan network trace packet.to packet.origin place.wire sequence es one

echo_right : (plan : Plan) (network : NetworkState) (trace : List Entry) (packet : Packet)
    → IsChecked plan → HasTypes plan → IsRuledNetwork plan network → IsEchoed plan network packet → PacketWork plan (network.edges packet.to.0) packet.bytes (packet_work plan network packet).effects
    → GoesRight plan network trace packet.to packet.origin (packet_work plan network packet).effects
echo_right plan network trace packet checked types ruled echo (PacketIsLost none) = right_none plan network trace packet.to packet.origin (packet_work plan network packet).effects none
echo_right plan network trace packet checked types ruled echo (PacketIsDropped why one) = right_dropped plan network trace packet.to packet.origin why (packet_work plan network packet).effects one
echo_right plan network trace packet checked types ruled echo (PacketGoesOut out) =
    verified_right plan network trace packet out.row.service out.place.wire out.frame out.from (packet_work plan network packet).effects
    (copied_apart plan network packet (packet_work plan network packet).effects checked ruled echo out).verified out.copies
echo_right plan network trace packet checked types ruled echo (PacketGoesOn out) =
    subst (GoesRight plan network trace packet.to packet.origin) (sym out.sent) (record {
      carried = λ hops sent. (inr (echo_goes_on plan network packet (packet_work plan network packet).effects checked ruled echo (ruled.edges packet.to.0).place out (sent + 1) (hops + 1)), tt);
      isolated = λ hops other. (tt, tt);
    })
echo_right plan network trace packet checked types ruled echo (PacketIsAnswered peer wire bytes back one) =
    subst (GoesRight plan network trace packet.to packet.origin) (sym one) (record {
      carried = λ hops sent. (inr (answer_echoes plan network packet peer wire arrival.Own bytes checked ruled echo back types hops sent), tt);
      isolated = λ hops other. (tt, tt);
    })
echo_right plan network trace packet checked types ruled echo (PacketIsTold wire sequence answer one) =
    right_told plan network trace packet.to packet.origin wire sequence (packet_work plan network packet).effects one

-- on a packet that is right
either_right : (plan : Plan) (network : NetworkState) (trace : List Entry) (packet : Packet) → IsChecked plan → HasTypes plan → IsRuledNetwork plan network
    → FollowsPacketRule plan network trace packet
    → PacketWork plan (network.edges packet.to.0) packet.bytes (packet_work plan network packet).effects
    → GoesRight plan network trace packet.to packet.origin (packet_work plan network packet).effects
either_right plan network trace packet checked types ruled (inl carried) work = packet_right plan network trace packet (packet_work plan network packet).effects checked ruled carried work
either_right plan network trace packet checked types ruled (inr echo) work = echo_right plan network trace packet checked types ruled echo work

-- on a ping
ping_right : (plan : Plan) (network : NetworkState) (trace : List Entry) (me : EdgeId) (wire : WireId) (es : List Effect) → IsChecked plan → IsRuledNetwork plan network
    → PingWork plan (network.edges me.0) wire es → GoesRight plan network trace me 0 es
ping_right plan network trace me wire es checked ruled (PingIsLost none) = right_none plan network trace me 0 es none
ping_right plan network trace me wire es checked ruled (PingIsDropped one) = right_dropped plan network trace me 0 _ es one
ping_right plan network trace me wire es checked ruled (PingIsSent peer on bytes asked one) =
    subst (GoesRight plan network trace me 0) (sym one) (record {
      carried = λ hops sent. (inr (asked_echoes plan network me hops sent wire peer on bytes checked ruled asked), tt);
      isolated = λ hops other. (tt, tt);
    })

-- ---- what an event brings

-- the packets under way are right, by the labels before it, and what leaves came in
pub record StepsRight (plan : Plan) (network : NetworkState) (trace : List Entry) (stepped : Stepped) : Type 0 where
  pub carried : AllByRecursion (FollowsPacketRule plan network (trace ++ stepped.entries)) stepped.state.under_way
  pub isolated : IsolatedAfter plan trace stepped.entries

-- the packets under way are as they were
same_right : (plan : Plan) (network : NetworkState) (trace : List Entry) (stepped : Stepped) → KeepsPacketRule plan network trace → stepped.state.under_way ≡ network.under_way
    → IsolatedAfter plan trace stepped.entries
    → StepsRight plan network trace stepped
same_right plan network trace stepped rule same isolated = record {
  carried = subst (AllByRecursion (FollowsPacketRule plan network (trace ++ stepped.entries))) (sym same) (all_on plan network trace stepped.entries network.under_way rule);
  isolated = isolated;
}

-- one entry is told before
then_right : (plan : Plan) (network : NetworkState) (trace : List Entry) (first : Entry) (stepped : Stepped) → IsolatedEntry plan trace first → StepsRight plan network (trace ++ first ∷ []) stepped
    → StepsRight plan network trace (record { state = stepped.state; entries = first ∷ stepped.entries })
then_right plan network trace first stepped here right = record {
  carried = subst (λ (l : List Entry). AllByRecursion (FollowsPacketRule plan network l) stepped.state.under_way) (append_assoc trace (first ∷ []) stepped.entries) right.carried;
  isolated = (here, right.isolated);
}

-- the work of an edge goes into a network
absorb_right : (plan : Plan) (network base : NetworkState) (trace : List Entry) (me : EdgeId) (origin hops : ℕ) (work : Work)
    → AllByRecursion (FollowsPacketRule plan network trace) base.under_way → GoesRight plan network trace me origin work.effects → StepsRight plan network trace (absorb me origin hops work base)
absorb_right plan network base trace me origin hops work before right =
    let stepped : Stepped = absorb me origin hops work base in
    let packets : List Packet = packets_of me origin hops base.sent work.effects in
    record {
      carried = subst (AllByRecursion (FollowsPacketRule plan network (trace ++ stepped.entries))) (sym (absorb_sends me origin hops work base).under_way)
          (all_on plan network trace stepped.entries (base.under_way ++ packets) (append_holds (FollowsPacketRule plan network trace) base.under_way packets before (right.carried hops base.sent)));
      isolated = right.isolated hops (with_edge me work.edge base);
    }

-- ---- a frame enters

frame_leaves : (network : NetworkState) → (with_frame network).under_way ≡ network.under_way
unfolding with_frame
frame_leaves network = refl

entering_right : (plan : Plan) (network : NetworkState) (trace : List Entry) (circuit : CircuitId) (octets : List ℕ) (row : CircuitPlan)
    → IsChecked plan → IsRuledNetwork plan network → KeepsPacketRule plan network trace → circuit_row plan circuit ≡ Some row
    → StepsRight plan network trace (entering network circuit octets row (frame_work plan network circuit octets row))
entering_right plan network trace circuit octets row checked ruled rule is =
    let origin : ℕ = next_origin network in
    let work : Work = frame_work plan network circuit octets row in
    let told : List Entry = trace ++ In circuit origin octets ∷ [] in
    then_right plan network trace (In circuit origin octets) (absorb row.edge origin 0 work (with_frame network)) tt
    (absorb_right plan network (with_frame network) told row.edge origin 0 work
    (subst (AllByRecursion (FollowsPacketRule plan network told)) (sym (frame_leaves network)) (all_on plan network trace (In circuit origin octets ∷ []) network.under_way rule))
    (frame_right plan network told circuit origin octets row work.effects checked ruled is (numbered_from network.entered) (among-last (In circuit origin octets) trace)
    (local.frame_work plan taken_all (edge_at network row.edge) [] circuit octets (Some row))))

frame_event_right : (plan : Plan) (network : NetworkState) (trace : List Entry) (circuit : CircuitId) (octets : List ℕ) (row : Option CircuitPlan)
    → IsChecked plan → IsRuledNetwork plan network → KeepsPacketRule plan network trace → circuit_row plan circuit ≡ row → StepsRight plan network trace (frame_event plan circuit octets row network)
frame_event_right plan network trace circuit octets None checked ruled rule is = same_right plan network trace (idle network) rule refl (tt, tt)
frame_event_right plan network trace circuit octets (Some row) checked ruled rule is = by (frame_work plan network circuit octets row).idle where
  by : (idles : Bool) → StepsRight plan network trace (cond idles (idle network) (entering network circuit octets row (frame_work plan network circuit octets row)))
  by true = same_right plan network trace (idle network) rule refl (tt, tt)
  by false = entering_right plan network trace circuit octets row checked ruled rule is

-- ---- a packet reaches its edge, is lost, or is repeated

without_leaves : (number : ℕ) (network : NetworkState) → (without_packet number network).under_way ≡ without_number number network.under_way
unfolding without_packet
without_leaves number network = refl

without_right : (plan : Plan) (network : NetworkState) (trace : List Entry) (number : ℕ) → KeepsPacketRule plan network trace
    → AllByRecursion (FollowsPacketRule plan network trace) (without_packet number network).under_way
without_right plan network trace number rule =
    subst (AllByRecursion (FollowsPacketRule plan network trace)) (sym (without_leaves number network)) (without_hold (FollowsPacketRule plan network trace) number network.under_way rule)

arriving_right : (plan : Plan) (network : NetworkState) (trace : List Entry) (packet : Packet) → IsChecked plan → HasTypes plan → IsRuledNetwork plan network
    → KeepsPacketRule plan network trace → FollowsPacketRule plan network trace packet
    → StepsRight plan network trace (arriving plan packet network)
arriving_right plan network trace packet checked types ruled rule carried =
    let work : Work = packet_work plan network packet in
    absorb_right plan network (without_packet packet.number network) trace packet.to packet.origin packet.hops work (without_right plan network trace packet.number rule)
    (either_right plan network trace packet checked types ruled carried (behind.packet_work plan taken_all (edge_at network packet.to) [] packet.bytes))

arrive_right : (plan : Plan) (network : NetworkState) (trace : List Entry) (number : ℕ) (found : Option Packet) → IsChecked plan → HasTypes plan → IsRuledNetwork plan network
    → KeepsPacketRule plan network trace
    → packet_at network number ≡ found → StepsRight plan network trace (arrive_event plan found network)
arrive_right plan network trace number None checked types ruled rule is = same_right plan network trace (idle network) rule refl (tt, tt)
arrive_right plan network trace number (Some packet) checked types ruled rule is =
    arriving_right plan network trace packet checked types ruled rule (packet_holds (FollowsPacketRule plan network trace) network number packet rule is)

discard_right : (plan : Plan) (network : NetworkState) (trace : List Entry) (found : Option Packet) → KeepsPacketRule plan network trace → StepsRight plan network trace (discard_event found network)
discard_right plan network trace None rule = same_right plan network trace (idle network) rule refl (tt, tt)
discard_right plan network trace (Some packet) rule =
    record { carried = all_on plan network trace [] (without_packet packet.number network).under_way (without_right plan network trace packet.number rule); isolated = tt }

repeating_right : (plan : Plan) (network : NetworkState) (trace : List Entry) (packet : Packet) → KeepsPacketRule plan network trace → FollowsPacketRule plan network trace packet
    → StepsRight plan network trace (repeating packet network)
repeating_right plan network trace packet rule carried =
    let stepped : Stepped = repeating packet network in
    let copy : Packet = record {
      number = network.sent + 1;
      wire = packet.wire;
      from = packet.from;
      to = packet.to;
      origin = packet.origin;
      hops = packet.hops;
      age = packet.age;
      bytes = packet.bytes;
    } in
    let sends = repeating_sends packet network in
    record {
      carried = subst (AllByRecursion (FollowsPacketRule plan network (trace ++ stepped.entries))) (sym sends.under_way)
          (all_on plan network trace stepped.entries (network.under_way ++ copy ∷ [])
          (append_holds (FollowsPacketRule plan network trace) network.under_way (copy ∷ []) rule (right_again plan network trace packet (network.sent + 1) packet.hops carried, tt)));
      isolated = (tt, tt);
    }

again_right : (plan : Plan) (network : NetworkState) (trace : List Entry) (number : ℕ) (found : Option Packet) → KeepsPacketRule plan network trace → packet_at network number ≡ found
    → StepsRight plan network trace (again_event found network)
again_right plan network trace number None rule is = same_right plan network trace (idle network) rule refl (tt, tt)
again_right plan network trace number (Some packet) rule is = repeating_right plan network trace packet rule (packet_holds (FollowsPacketRule plan network trace) network number packet rule is)

-- ---- an edge pings

ping_event_right : (plan : Plan) (network : NetworkState) (trace : List Entry) (me : EdgeId) (wire : WireId) → IsChecked plan → IsRuledNetwork plan network → KeepsPacketRule plan network trace
    → StepsRight plan network trace (ping_event plan me wire network)
ping_event_right plan network trace me wire checked ruled rule = by (ping_work plan network me wire).idle where
  by : (idles : Bool) → StepsRight plan network trace (cond idles (idle network) (absorb me 0 0 (ping_work plan network me wire) network))
  by true = same_right plan network trace (idle network) rule refl (tt, tt)
  by false =
      absorb_right plan network network trace me 0 0 (ping_work plan network me wire) rule
      (ping_right plan network trace me wire (ping_work plan network me wire).effects checked ruled (asking.ping_work plan taken_all (edge_at network me) [] wire))

-- ---- every event

tick_under_way : (plan : Plan) (network : NetworkState) → (step plan network Tick).state.under_way ≡ all_older network.under_way
unfolding with_older
tick_under_way plan network = (ticks_quiet plan 0 (length plan.edges) (with_older network)).under_way

signal_right : (plan : Plan) (network : NetworkState) (trace : List Entry) (event : Event) → KeepsPacketRule plan network trace → IsSignalStep network (step plan network event)
    → StepsRight plan network trace (step plan network event)
signal_right plan network trace event rule signals =
    same_right plan network trace (step plan network event) rule signals.quiet.under_way (none_isolated plan trace (step plan network event).entries signals.tells)

pub step_right : (plan : Plan) (network : NetworkState) (trace : List Entry) (event : Event) → IsChecked plan → HasTypes plan → IsRuledNetwork plan network → KeepsPacketRule plan network trace
    → StepsRight plan network trace (step plan network event)
step_right plan network trace (Frame circuit octets) checked types ruled rule =
    then_right plan network trace (Did (Frame circuit octets)) (brings plan (Frame circuit octets) network) tt
    (frame_event_right plan network (trace ++ Did (Frame circuit octets) ∷ []) circuit octets (circuit_row plan circuit) checked ruled
    (all_on plan network trace (Did (Frame circuit octets) ∷ []) network.under_way rule) refl)
step_right plan network trace (Arrive number) checked types ruled rule =
    then_right plan network trace (Did (Arrive number)) (brings plan (Arrive number) network) tt
    (arrive_right plan network (trace ++ Did (Arrive number) ∷ []) number (packet_at network number) checked types ruled
    (all_on plan network trace (Did (Arrive number) ∷ []) network.under_way rule) refl)
step_right plan network trace (Discard number) checked types ruled rule =
    then_right plan network trace (Did (Discard number)) (brings plan (Discard number) network) tt
    (discard_right plan network (trace ++ Did (Discard number) ∷ []) (packet_at network number) (all_on plan network trace (Did (Discard number) ∷ []) network.under_way rule))
step_right plan network trace (Again number) checked types ruled rule =
    then_right plan network trace (Did (Again number)) (brings plan (Again number) network) tt
    (again_right plan network (trace ++ Did (Again number) ∷ []) number (packet_at network number) (all_on plan network trace (Did (Again number) ∷ []) network.under_way rule) refl)
step_right plan network trace (Ping me wire) checked types ruled rule =
    then_right plan network trace (Did (Ping me wire)) (brings plan (Ping me wire) network) tt
    (ping_event_right plan network (trace ++ Did (Ping me wire) ∷ []) me wire checked ruled (all_on plan network trace (Did (Ping me wire) ∷ []) network.under_way rule))
step_right plan network trace Tick checked types ruled rule =
    let stepped : Stepped = step plan network Tick in
    record {
      carried = subst (AllByRecursion (FollowsPacketRule plan network (trace ++ stepped.entries))) (sym (tick_under_way plan network))
          (all_on plan network trace stepped.entries (all_older network.under_way)
          (all_right_older plan network network trace network.under_way (λ k wire peer age label young may. may_grow (network.edges k) wire peer age label may) rule));
      isolated = none_isolated plan trace stepped.entries (tick_tells plan network);
    }
step_right plan network trace event checked types ruled rule = signal_right plan network trace event rule (step_signals plan network event refl)

-- and the labels that packets carry go on to be named
still_carried : (plan : Plan) (network : NetworkState) (trace : List Entry) (event : Event)
    → ((k wire peer age label : ℕ) → MayCarry (network.edges k) wire peer age label → MayCarry ((step plan network event).state.edges k) wire peer age label)
    → StepsRight plan network trace (step plan network event) → KeepsPacketRule plan (step plan network event).state (trace ++ (step plan network event).entries)
still_carried plan network trace event names right =
    let next : NetworkState = (step plan network event).state in
    let told : List Entry = trace ++ (step plan network event).entries in
    holds_by (FollowsPacketRule plan network told) (FollowsPacketRule plan next told) next.under_way (λ packet follows. right_in plan network next told packet names follows) right.carried

pub step_keeps_rule : (plan : Plan) (network : NetworkState) (trace : List Entry) (event : Event) → IsChecked plan → HasTypes plan → IsEventOf plan event → IsOrdered plan network
    → IsRuledNetwork plan network
    → KeepsPacketRule plan network trace → KeepsPacketRule plan (step plan network event).state (trace ++ (step plan network event).entries)
step_keeps_rule plan network trace Tick checked types planned ordered ruled rule =
    let stepped : Stepped = step plan network Tick in
    subst (AllByRecursion (FollowsPacketRule plan stepped.state (trace ++ stepped.entries))) (sym (tick_under_way plan network))
    (all_right_older plan network stepped.state (trace ++ stepped.entries) network.under_way (tick_event_ruled plan checked types network ruled).grows
    (all_on plan network trace stepped.entries network.under_way rule))
step_keeps_rule plan network trace event checked types planned ordered ruled rule =
    still_carried plan network trace event (brings_stays plan event network checked types planned ordered ruled refl).keeps (step_right plan network trace event checked types ruled rule)
