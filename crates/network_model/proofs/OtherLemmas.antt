-- Steps in which a frame does not enter, and in which no copy of it arrives: they tell nothing of it, and leave its copies under
-- way.
use Rattle.std.proofs.Common.{◌≡◌, ◌<◌, ◌≤◌, ◌+◌, ◌++◌, ◌&&◌, ◌∙◌, ℕ, Bool, true, false, List, [], ◌∷◌, Option, Some, None, cond, refl, ap, sym, nat_eq, length, arith}
use Rattle.std.proofs.lemmas.Bool.{eq-eqb, ne_eqb}
use Rattle.std.proofs.lemmas.Bool.Decides.{nat_tests}
use Rattle.std.specs.List.{find}
use Rattle.net_base.specs.declared.plan.Plan.{Plan}
use Rattle.net_base.specs.declared.plan.circuit_plan.CircuitPlan.{CircuitPlan}
use Rattle.net_base.specs.declared.plan.places.CircuitId.{CircuitId}
use Rattle.net_base.specs.declared.plan.places.EdgeId.{EdgeId}
use Rattle.net_base.specs.declared.plan.places.WireId.{WireId}
use Rattle.net_base.specs.declared.trace.entry.Entry.{Entry}
use Rattle.net_base.specs.declared.trace.entry.Entry.TheVariants.{Left, Sent}
use Rattle.net_base.specs.declared.trace.event.Event.{Event}
use Rattle.net_base.specs.declared.trace.event.Event.TheVariants.{Tick, Frame, Arrive, Discard, Again, Ping}
use Rattle.net_base.specs.plan.Places.{circuit_row}
use Rattle.edge_model.specs.Work.{Work}
use Rattle.network_model.specs.declared.packet.Packet.{Packet}
use Rattle.network_model.specs.Absorb.{Stepped, absorb, idle}
use Rattle.network_model.specs.Frame.{entering, frame_event, frame_work, next_origin}
use Rattle.network_model.specs.OnceEach.{LeftWithin, times_left}
use Rattle.network_model.specs.Packet.{again_event, arrive_event, discard_event, packet_at, packet_work}
use Rattle.network_model.specs.Ping.{ping_event, ping_work}
use Rattle.network_model.specs.Run.{entries_along, state_after}
use Rattle.network_model.specs.State.{NetworkState, all_older, lives_on, older, with_copy, with_edge, with_frame, with_older, without_number, without_packet}
use Rattle.network_model.specs.Step.{step}
use Rattle.network_model.specs.Tick.{tick_event}
use Rattle.network_model.proofs.AbsorbLemmas.{all_keep, all_leave, of_origin, of_origin-other, others_tell, own_within, times_left-append}
use Rattle.network_model.proofs.PacketListLemmas.{packet_number}
use Rattle.network_model.proofs.QuietLemmas.{IsSignalStep, NoneGoesOut, step_signals, tick_tells, ticks_quiet}

-- ---- numbers

-- frames are numbered from 1
pub some_number : (entered : ℕ) → nat_eq 0 (entered + 1) ≡ false
some_number entered = grind (arith, nat_tests)

pub numbered_from : (entered : ℕ) → nat_eq (entered + 1) 0 ≡ false
numbered_from entered = grind (arith, nat_tests)

pub same_number : (one origin : ℕ) → nat_eq one origin ≡ true → nat_eq 0 origin ≡ false → nat_eq one 0 ≡ false
same_number one origin same some = grind (arith, nat_tests)

-- ---- what is told of one frame

-- nothing is told of the frame, and its copies under way stay
pub record IsApart (origin : ℕ) (circuit : CircuitId) (network : NetworkState) (stepped : Stepped) : Type 0 where
  pub left : times_left origin circuit stepped.entries ≡ 0
  pub under_way : of_origin origin stepped.state.under_way ≡ of_origin origin network.under_way

idle_apart : (origin : ℕ) (circuit : CircuitId) (network : NetworkState) → IsApart origin circuit network (idle network)
idle_apart origin circuit network = record { left = refl; under_way = refl }

-- one step after another
apart_then : (origin : ℕ) (circuit : CircuitId) (network : NetworkState) (first next : Stepped) → IsApart origin circuit network first → IsApart origin circuit first.state next
    → IsApart origin circuit network (record { state = next.state; entries = first.entries ++ next.entries })
apart_then origin circuit network first next here later = record {
  left = omega (arith, times_left-append origin circuit first.entries next.entries, here.left, later.left);
  under_way = later.under_way ∙ here.under_way;
}

-- ---- where nothing goes out

none_left : (origin : ℕ) (circuit : CircuitId) (es : List Entry) → NoneGoesOut es → times_left origin circuit es ≡ 0
none_left origin circuit [] none = refl
none_left origin circuit (Left at from hops octets ∷ es) none = absurd none
none_left origin circuit (Sent from to wire came packet other hops octets ∷ es) none = absurd none
none_left origin circuit (e ∷ es) none = none_left origin circuit es none

signals_apart : (origin : ℕ) (circuit : CircuitId) (network : NetworkState) (stepped : Stepped) → IsSignalStep network stepped → IsApart origin circuit network stepped
signals_apart origin circuit network stepped signals = record {
  left = none_left origin circuit stepped.entries signals.tells;
  under_way = ap (of_origin origin) signals.quiet.under_way;
}

-- ---- the work of an edge on another frame

absorb_apart : (origin : ℕ) (circuit : CircuitId) (me : EdgeId) (other hops : ℕ) (work : Work) (network : NetworkState) → nat_eq other origin ≡ false
    → IsApart origin circuit network (absorb me other hops work network)
unfolding with_edge
absorb_apart origin circuit me other hops work network apart = record {
  left = others_tell origin circuit me other hops work.effects (with_edge me work.edge network) apart;
  under_way = all_leave origin me other hops work.effects (with_edge me work.edge network) apart;
}

entering_apart : (origin : ℕ) (circuit at : CircuitId) (octets : List ℕ) (row : CircuitPlan) (work : Work) (network : NetworkState) → nat_eq (next_origin network) origin ≡ false
    → IsApart origin circuit network (entering network at octets row work)
unfolding with_frame
entering_apart origin circuit at octets row work network apart =
    let same = absorb_apart origin circuit row.edge (next_origin network) 0 work (with_frame network) apart in
    record { left = same.left; under_way = same.under_way }

-- an event's own count of frames
pub entering_counts : (at : CircuitId) (octets : List ℕ) (row : CircuitPlan) (work : Work) (network : NetworkState) → (entering network at octets row work).state.entered ≡ network.entered + 1
unfolding with_edge with_frame
entering_counts at octets row work network = (all_keep row.edge (next_origin network) 0 work.effects (with_edge row.edge work.edge (with_frame network))).entered

frame_apart : (plan : Plan) (origin : ℕ) (circuit at : CircuitId) (octets : List ℕ) (row : Option CircuitPlan) (network : NetworkState)
    → (network.entered + 1 ≡ origin → (frame_event plan at octets row network).state.entered ≡ network.entered + 1 → ⊥)
    → IsApart origin circuit network (frame_event plan at octets row network)
frame_apart plan origin circuit at octets None network apart = idle_apart origin circuit network
frame_apart plan origin circuit at octets (Some row) network apart = taken (frame_work plan network at octets row).idle apart where
  taken : (idles : Bool)
      → (network.entered + 1 ≡ origin → (cond idles (idle network) (entering network at octets row (frame_work plan network at octets row))).state.entered ≡ network.entered + 1 → ⊥)
      → IsApart origin circuit network (cond idles (idle network) (entering network at octets row (frame_work plan network at octets row)))
  taken true apart = idle_apart origin circuit network
  taken false apart =
      entering_apart origin circuit at octets row (frame_work plan network at octets row) network
      (ne_eqb (network.entered + 1) origin (λ same. apart same (entering_counts at octets row (frame_work plan network at octets row) network)))

-- ---- a packet that carries another frame

abbrev pub is_of : ℕ → Option Packet → Bool
is_of origin None = false
is_of origin (Some packet) = nat_eq packet.origin origin

-- where no copy of a frame is under way, no packet that is found is one
none_is_of : (origin : ℕ) (test : Packet → Bool) (packets : List Packet) → of_origin origin packets ≡ [] → is_of origin (find test packets) ≡ false
none_is_of origin test [] none = refl
none_is_of origin test (p ∷ ps) none = by (test p) (nat_eq p.origin origin) refl none (λ rest. none_is_of origin test ps rest) where
  by : (here same : Bool) → nat_eq p.origin origin ≡ same → cond same (p ∷ of_origin origin ps) (of_origin origin ps) ≡ []
      → (of_origin origin ps ≡ [] → is_of origin (find test ps) ≡ false) → is_of origin (cond here (Some p) (find test ps)) ≡ false
  by here true same none rest = absurd (cc (none))
  by true false same none rest = same
  by false false same none rest = rest none

-- the copies stay where another packet goes
without_other : (origin number : ℕ) (packets : List Packet) → is_of origin (find (λ packet. nat_eq packet.number number) packets) ≡ false
    → of_origin origin (without_number number packets) ≡ of_origin origin packets
without_other origin number [] apart = refl
without_other origin number (p ∷ ps) apart = by (nat_eq p.number number) apart (λ later. without_other origin number ps later) where
  by : (here : Bool) → is_of origin (cond here (Some p) (find (λ packet. nat_eq packet.number number) ps)) ≡ false
      → (is_of origin (find (λ packet. nat_eq packet.number number) ps) ≡ false → of_origin origin (without_number number ps) ≡ of_origin origin ps)
      → of_origin origin (cond here ps (p ∷ without_number number ps)) ≡ of_origin origin (p ∷ ps)
  by true apart rest = rw apart refl
  by false apart rest = ap (λ (l : List Packet). cond (nat_eq p.origin origin) (p ∷ l) l) (rest apart)

packet_goes : (origin number : ℕ) (network : NetworkState) → is_of origin (packet_at network number) ≡ false → of_origin origin (without_packet number network).under_way
    ≡ of_origin origin network.under_way
unfolding without_packet
packet_goes origin number network apart = without_other origin number network.under_way apart

-- a packet has the number by which it is found
goes_by : (origin number : ℕ) (network : NetworkState) (packet : Packet) → packet_at network number ≡ Some packet → nat_eq packet.origin origin ≡ false
    → of_origin origin (without_packet packet.number network).under_way ≡ of_origin origin network.under_way
goes_by origin number network packet is apart =
    let same : packet.number ≡ number = packet_number network number packet is in
    ap (λ (n : ℕ). of_origin origin (without_packet n network).under_way) same ∙ packet_goes origin number network (ap (is_of origin) is ∙ apart)

arrive_apart : (plan : Plan) (origin : ℕ) (circuit : CircuitId) (number : ℕ) (network : NetworkState) (found : Option Packet) → packet_at network number ≡ found → is_of origin found ≡ false
    → IsApart origin circuit network (arrive_event plan found network)
arrive_apart plan origin circuit number network None is apart = idle_apart origin circuit network
arrive_apart plan origin circuit number network (Some packet) is apart =
    let rest : NetworkState = without_packet packet.number network in
    let same = absorb_apart origin circuit packet.to packet.origin packet.hops (packet_work plan network packet) rest apart in
    record { left = same.left; under_way = same.under_way ∙ goes_by origin number network packet is apart }

discard_apart : (origin : ℕ) (circuit : CircuitId) (number : ℕ) (network : NetworkState) (found : Option Packet) → packet_at network number ≡ found → is_of origin found ≡ false
    → IsApart origin circuit network (discard_event found network)
discard_apart origin circuit number network None is apart = idle_apart origin circuit network
discard_apart origin circuit number network (Some packet) is apart = record { left = refl; under_way = goes_by origin number network packet is apart }

again_apart : (origin : ℕ) (circuit : CircuitId) (network : NetworkState) (found : Option Packet) → is_of origin found ≡ false → IsApart origin circuit network (again_event found network)
unfolding with_copy
again_apart origin circuit network None apart = idle_apart origin circuit network
again_apart origin circuit network (Some packet) apart = record { left = refl; under_way = of_origin-other origin _ network.under_way apart }

-- ---- a ping

ping_apart : (plan : Plan) (origin : ℕ) (circuit : CircuitId) (me : EdgeId) (wire : WireId) (network : NetworkState) → nat_eq 0 origin ≡ false
    → IsApart origin circuit network (ping_event plan me wire network)
ping_apart plan origin circuit me wire network some = by (ping_work plan network me wire).idle where
  by : (idles : Bool) → IsApart origin circuit network (cond idles (idle network) (absorb me 0 0 (ping_work plan network me wire) network))
  by true = idle_apart origin circuit network
  by false = absorb_apart origin circuit me 0 0 (ping_work plan network me wire) network some

-- ---- a tick

-- where no copy of the frame is under way, none is once the others are older
none_older : (origin : ℕ) (packets : List Packet) → of_origin origin packets ≡ [] → of_origin origin (all_older packets) ≡ []
none_older origin [] none = refl
none_older origin (p ∷ ps) none = by (nat_eq p.origin origin) (lives_on p) refl none (λ rest. none_older origin ps rest) where
  by : (same lives : Bool) → nat_eq p.origin origin ≡ same → cond same (p ∷ of_origin origin ps) (of_origin origin ps) ≡ [] → (of_origin origin ps ≡ [] → of_origin origin (all_older ps) ≡ [])
      → of_origin origin (cond lives (older p ∷ all_older ps) (all_older ps)) ≡ []
  by true lives same none rest = absurd (cc (none))
  by false true same none rest = rw same (rest none)
  by false false same none rest = rest none

-- some packet is in a list
abbrev pub is_any : List Packet → Bool
is_any [] = false
is_any (p ∷ ps) = true

none_any : (packets : List Packet) → is_any packets ≡ false → packets ≡ []
none_any [] none = refl
none_any (p ∷ ps) none = absurd (cc (none))

tick_apart : (plan : Plan) (origin : ℕ) (circuit : CircuitId) (network : NetworkState) → is_any (of_origin origin network.under_way) ≡ false → IsApart origin circuit network (step plan network Tick)
unfolding with_older
tick_apart plan origin circuit network none =
    let gone = none_any (of_origin origin network.under_way) none in
    record {
      left = none_left origin circuit (tick_event plan network).entries (tick_tells plan network);
      under_way =
          ap (of_origin origin) (ticks_quiet plan 0 (length plan.edges) (with_older network)).under_way
          ∙ (none_older origin network.under_way gone ∙ sym gone);
    }

-- ---- one event

-- a packet that carries a copy of the frame arrives, is lost, is repeated or gets older
abbrev pub moves_copy : NetworkState → ℕ → Event → Bool
moves_copy network origin (Arrive number) = is_of origin (packet_at network number)
moves_copy network origin (Discard number) = is_of origin (packet_at network number)
moves_copy network origin (Again number) = is_of origin (packet_at network number)
moves_copy network origin Tick = is_any (of_origin origin network.under_way)
moves_copy network origin event = false

pub step_apart : (plan : Plan) (origin : ℕ) (circuit : CircuitId) (network : NetworkState) (event : Event) → nat_eq 0 origin ≡ false
    → moves_copy network origin event ≡ false → (network.entered + 1 ≡ origin → (step plan network event).state.entered ≡ network.entered + 1 → ⊥)
    → IsApart origin circuit network (step plan network event)
step_apart plan origin circuit network (Frame at octets) some other apart =
    let same = frame_apart plan origin circuit at octets (circuit_row plan at) network apart in
    record { left = same.left; under_way = same.under_way }
step_apart plan origin circuit network (Arrive number) some other apart =
    let same = arrive_apart plan origin circuit number network (packet_at network number) refl other in
    record { left = same.left; under_way = same.under_way }
step_apart plan origin circuit network (Discard number) some other apart =
    let same = discard_apart origin circuit number network (packet_at network number) refl other in
    record { left = same.left; under_way = same.under_way }
step_apart plan origin circuit network (Again number) some other apart =
    let same = again_apart origin circuit network (packet_at network number) other in
    record { left = same.left; under_way = same.under_way }
step_apart plan origin circuit network (Ping me wire) some other apart =
    let same = ping_apart plan origin circuit me wire network some in
    record { left = same.left; under_way = same.under_way }
step_apart plan origin circuit network Tick some other apart = tick_apart plan origin circuit network other
step_apart plan origin circuit network event some other apart = signals_apart origin circuit network (step plan network event) (step_signals plan network event refl)

-- where no copy of the frame is under way, none is moved
none_moved : (network : NetworkState) (origin : ℕ) (event : Event) → of_origin origin network.under_way ≡ [] → moves_copy network origin event ≡ false
none_moved network origin (Arrive number) none = none_is_of origin (λ packet. nat_eq packet.number number) network.under_way none
none_moved network origin (Discard number) none = none_is_of origin (λ packet. nat_eq packet.number number) network.under_way none
none_moved network origin (Again number) none = none_is_of origin (λ packet. nat_eq packet.number number) network.under_way none
none_moved network origin Tick none = ap is_any none
none_moved network origin event none = refl

-- ---- the count of frames never falls

frame_counts : (plan : Plan) (at : CircuitId) (octets : List ℕ) (row : Option CircuitPlan) (network : NetworkState) → network.entered ≤ (frame_event plan at octets row network).state.entered
frame_counts plan at octets None network = omega arith
frame_counts plan at octets (Some row) network = taken (frame_work plan network at octets row).idle where
  taken : (idles : Bool) → network.entered ≤ (cond idles (idle network) (entering network at octets row (frame_work plan network at octets row))).state.entered
  taken true = omega arith
  taken false = omega (arith, entering_counts at octets row (frame_work plan network at octets row) network)

absorb_counts : (me : EdgeId) (origin hops : ℕ) (work : Work) (network : NetworkState) → (absorb me origin hops work network).state.entered ≡ network.entered
unfolding with_edge
absorb_counts me origin hops work network = (all_keep me origin hops work.effects (with_edge me work.edge network)).entered

arrive_counts : (plan : Plan) (found : Option Packet) (network : NetworkState) → (arrive_event plan found network).state.entered ≡ network.entered
unfolding without_packet
arrive_counts plan None network = refl
arrive_counts plan (Some packet) network = absorb_counts packet.to packet.origin packet.hops (packet_work plan network packet) (without_packet packet.number network)

discard_counts : (found : Option Packet) (network : NetworkState) → (discard_event found network).state.entered ≡ network.entered
unfolding without_packet
discard_counts None network = refl
discard_counts (Some packet) network = refl

again_counts : (found : Option Packet) (network : NetworkState) → (again_event found network).state.entered ≡ network.entered
unfolding with_copy
again_counts None network = refl
again_counts (Some packet) network = refl

ping_counts : (plan : Plan) (me : EdgeId) (wire : WireId) (network : NetworkState) → (ping_event plan me wire network).state.entered ≡ network.entered
ping_counts plan me wire network = by (ping_work plan network me wire).idle where
  by : (idles : Bool) → (cond idles (idle network) (absorb me 0 0 (ping_work plan network me wire) network)).state.entered ≡ network.entered
  by true = refl
  by false = absorb_counts me 0 0 (ping_work plan network me wire) network

tick_counts : (plan : Plan) (network : NetworkState) → (tick_event plan network).state.entered ≡ network.entered
unfolding with_older
tick_counts plan network = (ticks_quiet plan 0 (length plan.edges) (with_older network)).entered

pub step_counts : (plan : Plan) (network : NetworkState) (event : Event) → network.entered ≤ (step plan network event).state.entered
step_counts plan network (Frame at octets) = frame_counts plan at octets (circuit_row plan at) network
step_counts plan network (Arrive number) = omega (arith, arrive_counts plan (packet_at network number) network)
step_counts plan network (Discard number) = omega (arith, discard_counts (packet_at network number) network)
step_counts plan network (Again number) = omega (arith, again_counts (packet_at network number) network)
step_counts plan network (Ping me wire) = omega (arith, ping_counts plan me wire network)
step_counts plan network Tick = omega (arith, tick_counts plan network)
step_counts plan network event = omega (arith, (step_signals plan network event refl).quiet.entered)

pub counts_rise : (plan : Plan) (network : NetworkState) (events : List Event) → network.entered ≤ (state_after plan network events).entered
counts_rise plan network [] = omega arith
counts_rise plan network (e ∷ es) = omega (arith, step_counts plan network e, counts_rise plan (step plan network e).state es)

-- ---- a run

-- events of a run as one step
abbrev pub along : Plan → NetworkState → List Event → Stepped
along plan network events = record { state = state_after plan network events; entries = entries_along plan network events }

-- before a frame enters
pub apart_before : (plan : Plan) (origin : ℕ) (circuit : CircuitId) (network : NetworkState) (events : List Event) → nat_eq 0 origin ≡ false
    → (state_after plan network events).entered < origin → of_origin origin network.under_way ≡ []
    → IsApart origin circuit network (along plan network events)
apart_before plan origin circuit network [] some later none = record { left = refl; under_way = refl }
apart_before plan origin circuit network (e ∷ es) some later none =
    let first : Stepped = step plan network e in
    let rise = counts_rise plan first.state es in
    let here = step_apart plan origin circuit network e some (none_moved network origin e none) (λ same entered. omega arith) in
    apart_then origin circuit network first (along plan first.state es) here (apart_before plan origin circuit first.state es some later (here.under_way ∙ none))

-- once no copy of the frame is under way, none comes back, and nothing more is told of it
pub apart_after : (plan : Plan) (origin : ℕ) (circuit : CircuitId) (network : NetworkState) (events : List Event) → nat_eq 0 origin ≡ false → origin ≤ network.entered
    → of_origin origin network.under_way ≡ [] → IsApart origin circuit network (along plan network events)
apart_after plan origin circuit network [] some entered none = record { left = refl; under_way = refl }
apart_after plan origin circuit network (e ∷ es) some entered none =
    let first : Stepped = step plan network e in
    let here = step_apart plan origin circuit network e some (none_moved network origin e none) (λ same count. omega arith) in
    apart_then origin circuit network first (along plan first.state es) here
    (apart_after plan origin circuit first.state es some (omega (arith, step_counts plan network e)) (here.under_way ∙ none))

-- ---- how many segments a copy has passed that left

-- what never left has passed none
pub never_within : (most origin : ℕ) (es : List Entry) → ((circuit : CircuitId) → times_left origin circuit es ≡ 0) → LeftWithin most origin es
never_within most origin [] never = tt
never_within most origin (Left at from hops octets ∷ es) never = (
  λ same.
      let here : nat_eq from origin ≡ true = eq-eqb from origin same in
      let once : nat_eq at.0 at.0 ≡ true = eq-eqb at.0 at.0 refl in
      let counted : 1 + times_left origin at es ≡ 0 = rw (here, once) at (never at) in
      absurd (omega (arith, counted)),
  never_within most origin es (λ circuit. rest_never (nat_eq from origin && nat_eq at.0 circuit.0) (times_left origin circuit es) (never circuit)),
) where
  rest_never : (here : Bool) (rest : ℕ) → cond {A = ℕ} here 1 0 + rest ≡ 0 → rest ≡ 0
  rest_never true rest none = absurd (omega (arith, none))
  rest_never false rest none = omega (arith, none)
never_within most origin (e ∷ es) never = never_within most origin es never

-- what enters has passed none
pub frame_within : (most : ℕ) (plan : Plan) (number : ℕ) (at : CircuitId) (octets : List ℕ) (row : Option CircuitPlan) (network : NetworkState)
    → LeftWithin most number (frame_event plan at octets row network).entries
frame_within most plan number at octets None network = tt
frame_within most plan number at octets (Some row) network = taken (frame_work plan network at octets row).idle where
  taken : (idles : Bool) → LeftWithin most number (cond idles (idle network) (entering network at octets row (frame_work plan network at octets row))).entries
  taken true = tt
  taken false =
      let work : Work = frame_work plan network at octets row in
      own_within most number row.edge (next_origin network) work.effects (with_edge row.edge work.edge (with_frame network))
