-- What restarts, ticks, circuits, frames and packets tell shows what they make of the network.
use Rattle.std.proofs.Common.{◌≡◌, ◌+◌, ◌==◌, ◌++◌, ◌&&◌, ◌∙◌, not, ℕ, zero, suc, Bool, true, false, List, [], ◌∷◌, Option, Some, None, cond, length, map, nat_eq, refl, sym, ap, subst, arith, inl, inr}
use Rattle.std.proofs.lemmas.Bool.{cases_Bool, eqb-true}
use Rattle.std.specs.List.{find}
use Rattle.net_values.proofs.NumberLemmas.{same_number}
use Rattle.net_base.specs.declared.plan.Plan.{Plan}
use Rattle.net_base.specs.declared.plan.circuit_plan.CircuitPlan.{CircuitPlan}
use Rattle.net_base.specs.declared.plan.places.CircuitId.{CircuitId}
use Rattle.net_base.specs.declared.plan.places.EdgeId.{EdgeId}
use Rattle.net_base.specs.declared.trace.entry.Entry.{Entry}
use Rattle.net_base.specs.declared.trace.event.Event.TheVariants.{Restart, Tick, Frame, Arrive, Discard, Again, Circuit}
use Rattle.net_base.specs.plan.Places.{circuit_row}
use Rattle.edge_model.specs.Circuit.{is_same, turned}
use Rattle.edge_model.specs.Connection.{restart_input}
use Rattle.edge_model.specs.Frame.{is_own}
use Rattle.edge_model.specs.Mend.{mends}
use Rattle.edge_model.specs.State.{EdgeState, is_on, with_addresses, with_circuit, with_kept, with_learned, without_ends, without_peerings}
use Rattle.edge_model.specs.Tick.{tick_input}
use Rattle.edge_model.specs.Work.{Work, changes}
use Rattle.edge_model.proofs.BridgeLemmas.{frame_bridges, packet_bridges}
use Rattle.network_model.specs.Absorb.{Stepped, begin_at, taken_all}
use Rattle.network_model.specs.Age.{aged_entries}
use Rattle.network_model.specs.Circuit.{circuit_event}
use Rattle.network_model.specs.Connection.{restart_event}
use Rattle.network_model.specs.declared.packet.Packet.{Packet}
use Rattle.network_model.specs.Frame.{entering, frame_event, frame_work, next_origin}
use Rattle.network_model.specs.Packet.{again_event, arrive_event, discard_event, packet_at, packet_work}
use Rattle.network_model.specs.State.{NetworkState, with_copy, with_edge, with_frame, with_older, without_number, without_octets_to, without_packet}
use Rattle.network_model.specs.Tick.{tick_at, tick_event, ticks_from}
use Rattle.network_model.proofs.PacketListLemmas.{AreNumbered}
use Rattle.flight_laws.proofs.SettleLemmas.{edge_else, edge_there}
use Rattle.seen_network.specs.Seen.{Seen, SeenCopy, copy_goes, origin_among, repeats, with_copies, with_on, without_copy, without_edge}
use Rattle.seen_laws.specs.Events.{HasGone, IsShown, NoneAlone, WasIdle}
use Rattle.seen_laws.specs.Shows.{AreTold, IsReadyToShow, Shows, copy_of, tolds}
use Rattle.seen_laws.specs.Work.{TellsChanges}
use Rattle.seen_laws.proofs.AbsorbLemmas.{BeginsFrom, OnAfter, absorb_shows, on_still, ready_alone, works_ready}
use Rattle.seen_laws.proofs.AgeLemmas.{aged_shows, aged_told}
use Rattle.seen_laws.proofs.CopyLemmas.{below_behind, below_more, none_without, without_below}
use Rattle.seen_laws.proofs.EventLemmas.{answer_shown, applied, idle_or, plain_ready, work_shown}
use Rattle.seen_laws.proofs.InputLemmas.{bridged_tells, mends_tell, none, tick_tells}
use Rattle.seen_laws.proofs.SeenLemmas.{sent_more, told-append, tolds-append, work_told}

-- ---- restarts

module _ (plan : Plan) (network : NetworkState) (seen : Seen) (shows : Shows plan network seen) (alone : NoneAlone network) where
  restart_ready : (me : EdgeId) → IsReadyToShow plan (without_octets_to me network) me (restart_input (begin_at network me)) (without_edge me.0 seen)
  unfolding changes with_kept with_learned without_ends without_peerings without_edge without_octets_to
  restart_ready me = record {
    alone = rw (same_number me.0) refl;
    near = λ k. rw (same_number me.0) refl;
    far = λ a b apart. rw apart (shows.standing a b);
    inward = λ k. rw (same_number me.0) refl;
    outward = λ a b other. rw other (shows.pipes a b);
    rest = λ k. rw (same_number me.0) refl;
    rests = λ a b apart. rw apart (shows.rests a b);
    up = λ wire. rw (same_number me.0) refl;
    ups = λ a wire apart. rw apart (shows.up a wire);
    on = on_still plan (without_octets_to me network) me (restart_input (begin_at network me)) (without_edge me.0 seen) shows.on refl;
    under_way = shows.under_way;
    counted = shows.counted;
  }

  pub restart_shown : (me : EdgeId) → IsShown plan (Restart me) network seen (restart_event me network)
  restart_shown me = work_shown plan (Restart me) network (without_octets_to me network) seen me 0 0 (restart_input (begin_at network me)) (restart_ready me)

-- ---- ticks

pub record TicksShow (plan : Plan) (seen : Seen) (after : Stepped) : Type 0 where
  pub told : AreTold after.entries
  pub shows : Shows plan after.state (tolds after.entries seen)

ticks_show : (plan : Plan) (place count : ℕ) (network : NetworkState) (seen : Seen) → Shows plan network seen → NoneAlone network → TicksShow plan seen (ticks_from plan place count network)
ticks_show plan place zero network seen shows alone = record { told = tt; shows = shows }
ticks_show plan place (suc count) network seen shows alone =
    let me : EdgeId = record { 0 = place } in
    let work : Work = tick_input plan taken_all (begin_at network me) in
    let first = tick_at plan me network in
    let ready : IsReadyToShow plan network me work seen = plain_ready plan network me work seen shows alone (tick_tells plan taken_all (begin_at network me)) in
    let rest : TicksShow plan (tolds first.entries seen) (ticks_from plan (place + 1) count first.state) =
    ticks_show plan (place + 1) count first.state (tolds first.entries seen) (absorb_shows plan network me 0 0 work seen ready) (ready_alone plan network me 0 0 work seen ready alone) in
    record {
      told = told-append first.entries (ticks_from plan (place + 1) count first.state).entries (work_told me 0 0 work.effects (with_edge me work.edge network)) rest.told;
      shows = subst (Shows plan (ticks_from plan (place + 1) count first.state).state) (sym (tolds-append first.entries (ticks_from plan (place + 1) count first.state).entries seen)) rest.shows;
    }

older_alone : (network : NetworkState) → NoneAlone network → NoneAlone (with_older network)
unfolding with_older
older_alone network alone = alone

pub tick_shown : (plan : Plan) (network : NetworkState) (seen : Seen) → Shows plan network seen → NoneAlone network → AreNumbered network → IsShown plan Tick network seen (tick_event plan network)
tick_shown plan network seen shows alone numbered =
    let aged : List Entry = aged_entries network.under_way in
    let edges : Stepped = ticks_from plan 0 (length plan.edges) (with_older network) in
    let all : TicksShow plan (tolds aged seen) edges =
    ticks_show plan 0 (length plan.edges) (with_older network) (tolds aged seen) (aged_shows plan network seen shows numbered) (older_alone network alone) in
    HasGone (told-append aged edges.entries (aged_told network.under_way) all.told) (subst (Shows plan edges.state) (sym (tolds-append aged edges.entries seen)) all.shows)

-- ---- circuits

turned_begins : (plan : Plan) (network : NetworkState) (circuit : CircuitId) (row : CircuitPlan) (on : Bool)
    → BeginsFrom network row.edge (changes (turned plan circuit row on) (begin_at network row.edge))
unfolding changes with_circuit with_addresses
turned_begins plan network circuit row true = record { effects = refl; peering = refl; downs = refl }
turned_begins plan network circuit row false = record { effects = refl; peering = refl; downs = refl }

turned_circuits : (plan : Plan) (circuit : CircuitId) (row : CircuitPlan) (on : Bool) (work : Work) (k : ℕ) → (changes (turned plan circuit row on) work).edge.circuit_on k
    ≡ cond (k == circuit.0) on (work.edge.circuit_on k)
unfolding changes with_circuit with_addresses
turned_circuits plan circuit row true work k = refl
turned_circuits plan circuit row false work k = refl

module _ (plan : Plan) (network : NetworkState) (seen : Seen) (shows : Shows plan network seen) (alone : NoneAlone network) (circuit : CircuitId) (on : Bool) (row : CircuitPlan) (is : circuit_row plan circuit ≡ Some row) where
  abbrev done : Work
  done = changes (turned plan circuit row on) (begin_at network row.edge)

  tells : TellsChanges none done (mends plan taken_all done)
  tells = mends_tell plan taken_all done

  now_on : OnAfter plan network row.edge (mends plan taken_all done) (with_on circuit.0 on seen)
  unfolding with_on
  now_on other line at = by (nat_eq other.0 circuit.0) refl where
    row_of : nat_eq other.0 circuit.0 ≡ true → row.edge.0 ≡ line.edge.0
    row_of same =
        let rows : Some row ≡ Some line = sym is ∙ (ap (λ (n : ℕ). circuit_row plan (record { 0 = n })) (sym (eqb-true other.0 circuit.0 same)) ∙ at) in
        let same_row : row ≡ line = cc (rows) in
        ap (λ (r : CircuitPlan). r.edge.0) same_row

    here : (mends plan taken_all done).edge.circuit_on other.0 ≡ cond (nat_eq other.0 circuit.0) on ((network.edges row.edge.0).circuit_on other.0)
    here = ap (λ (f : ℕ → Bool). f other.0) tells.circuits ∙ turned_circuits plan circuit row on (begin_at network row.edge) other.0

    at_edge : (a : ℕ) → nat_eq a row.edge.0 ≡ true → ((with_edge row.edge (mends plan taken_all done).edge network).edges a).circuit_on other.0 ≡ (mends plan taken_all done).edge.circuit_on other.0
    at_edge a same = ap (λ (n : ℕ). ((with_edge row.edge (mends plan taken_all done).edge network).edges n).circuit_on other.0) (eqb-true a row.edge.0 same)
        ∙ ap (λ (e : EdgeState). e.circuit_on other.0) (edge_there row.edge (mends plan taken_all done).edge network)

    by : (b : Bool) → nat_eq other.0 circuit.0 ≡ b → cond b on (seen.on other.0) ≡ ((with_edge row.edge (mends plan taken_all done).edge network).edges line.edge.0).circuit_on other.0
    by true same = sym (at_edge line.edge.0 (ap (λ (n : ℕ). nat_eq n row.edge.0) (sym (row_of same)) ∙ same_number row.edge.0)
        ∙ (here ∙ ap (λ (b : Bool). cond b on ((network.edges row.edge.0).circuit_on other.0)) same))
    by false apart = elim (cases_Bool (nat_eq line.edge.0 row.edge.0)) [
      | inl same ↦ shows.on other line at ∙ (ap (λ (n : ℕ). (network.edges n).circuit_on other.0) (eqb-true line.edge.0 row.edge.0 same)
          ∙ sym (at_edge line.edge.0 same ∙ (here ∙ ap (λ (b : Bool). cond b on ((network.edges row.edge.0).circuit_on other.0)) apart)))
      | inr away ↦ shows.on other line at ∙ sym (ap (λ (e : EdgeState). e.circuit_on other.0) (edge_else row.edge (mends plan taken_all done).edge network line.edge.0 away))
    ]

  turned_ready : IsReadyToShow plan network row.edge (mends plan taken_all done) (with_on circuit.0 on seen)
  unfolding with_on
  turned_ready = works_ready plan network row.edge done (mends plan taken_all done) seen shows (turned_begins plan network circuit row on) none tells
      (λ k there. tells.kept k refl there ∙ ap (λ (p : ℕ → Option _). Rattle.network_model.specs.State.held_by (p k)) (turned_begins plan network circuit row on).peering) (alone row.edge.0) _ now_on

  pub turned_shown : IsShown plan (Circuit circuit on) network seen (circuit_event plan circuit on (Some row) network)
  turned_shown = answer_shown plan (Circuit circuit on) network seen row.edge _
      (applied (is_own (begin_at network row.edge).edge row && not (is_same on (is_on (begin_at network row.edge).edge circuit))) (mends plan taken_all done)
      (begin_at network row.edge) (λ w. IsReadyToShow plan network row.edge w (with_on circuit.0 on seen)) turned_ready)

pub circuit_shown : (plan : Plan) (network : NetworkState) (seen : Seen) → Shows plan network seen → NoneAlone network → (circuit : CircuitId) (on : Bool)
    → IsShown plan (Circuit circuit on) network seen (circuit_event plan circuit on (circuit_row plan circuit) network)
circuit_shown plan network seen shows alone circuit on = by (circuit_row plan circuit) refl where
  by : (row : Option CircuitPlan) → circuit_row plan circuit ≡ row → IsShown plan (Circuit circuit on) network seen (circuit_event plan circuit on row network)
  by None is = WasIdle refl
  by (Some row) is = turned_shown plan network seen shows alone circuit on row is

-- ---- frames

entered_shows : (plan : Plan) (network : NetworkState) (seen : Seen) → Shows plan network seen → Shows plan (with_frame network) seen
unfolding with_frame
entered_shows plan network seen shows = record {
  standing = shows.standing;
  pipes = shows.pipes;
  rests = shows.rests;
  up = shows.up;
  on = shows.on;
  under_way = shows.under_way;
  counted = shows.counted;
}

entered_alone : (network : NetworkState) → NoneAlone network → NoneAlone (with_frame network)
unfolding with_frame
entered_alone network alone = alone

entered_begin : (network : NetworkState) (me : EdgeId) → begin_at (with_frame network) me ≡ begin_at network me
unfolding with_frame
entered_begin network me = refl

pub frame_shown : (plan : Plan) (network : NetworkState) (seen : Seen) → Shows plan network seen → NoneAlone network
    → (circuit : CircuitId) (octets : List ℕ) (row : Option CircuitPlan) → IsShown plan (Frame circuit octets) network seen (frame_event plan circuit octets row network)
frame_shown plan network seen shows alone circuit octets None = WasIdle refl
frame_shown plan network seen shows alone circuit octets (Some row) = idle_or plan (Frame circuit octets) network seen work.idle (entering network circuit octets row work) (λ goes. HasGone (work_told row.edge (next_origin network) 0 work.effects _) (absorb_shows plan (with_frame network) row.edge (next_origin network) 0 work seen ready)) where
  work : Work
  work = frame_work plan network circuit octets row

  ready : IsReadyToShow plan (with_frame network) row.edge work seen
  ready =
      let bridges = frame_bridges plan taken_all circuit octets (Some row) (begin_at network row.edge) in
      plain_ready plan (with_frame network) row.edge work seen (entered_shows plan network seen shows) (entered_alone network alone)
      (subst (λ (w : Work). TellsChanges none w work) (sym (entered_begin network row.edge))
      (bridged_tells (begin_at network row.edge) work bridges.edge.me bridges.edge.circuits bridges.edge.peering bridges.edge.downs bridges.effects))

-- ---- packets

copies_without : (number : ℕ) (packets : List Packet) → without_copy number (map copy_of packets) ≡ map copy_of (without_number number packets)
copies_without number [] = refl
copies_without number (p ∷ ps) = by (nat_eq p.number number) (copies_without number ps) where
  by : (b : Bool) → without_copy number (map copy_of ps) ≡ map copy_of (without_number number ps) → cond b (map copy_of ps) (copy_of p ∷ without_copy number (map copy_of ps))
      ≡ map copy_of (cond b ps (p ∷ without_number number ps))
  by true rest = refl
  by false rest = ap (λ (l : List SeenCopy). copy_of p ∷ l) rest

pub record IsFound (number : ℕ) (packets : List Packet) (packet : Packet) : Type 0 where
  pub named : packet.number ≡ number
  pub origin : origin_among number (map copy_of packets) ≡ Some packet.origin

found : (number : ℕ) (packets : List Packet) (packet : Packet) → find (λ p. p.number == number) packets ≡ Some packet → IsFound number packets packet
found number [] packet is = absurd (cc is)
found number (p ∷ ps) packet is = by (nat_eq p.number number) refl is (λ rest. found number ps packet rest) where
  by : (b : Bool) → nat_eq p.number number ≡ b → cond b (Some p) (find (λ q. q.number == number) ps) ≡ Some packet
      → (find (λ q. q.number == number) ps ≡ Some packet → IsFound number ps packet) → IsFound number (p ∷ ps) packet
  by true same at rest =
      let one : p ≡ packet = cc (at) in
      record { named = ap (λ (q : Packet). q.number) (sym one) ∙ eqb-true p.number number same; origin = rw same (ap (λ (q : Packet). Some q.origin) one) }
  by false other at rest = let later = rest at in record { named = later.named; origin = rw other later.origin }

gone_shows : (plan : Plan) (network : NetworkState) (seen : Seen) (number : ℕ) → Shows plan network seen → Shows plan (without_packet number network) (copy_goes number seen)
unfolding without_packet with_copies
gone_shows plan network seen number shows = record {
  standing = shows.standing;
  pipes = shows.pipes;
  rests = shows.rests;
  up = shows.up;
  on = shows.on;
  under_way = ap (without_copy number) shows.under_way ∙ copies_without number network.under_way;
  counted = without_below network.sent number seen.under_way shows.counted;
}

gone_alone : (network : NetworkState) (number : ℕ) → NoneAlone network → NoneAlone (without_packet number network)
unfolding without_packet
gone_alone network number alone = alone

gone_begin : (network : NetworkState) (number : ℕ) (me : EdgeId) → begin_at (without_packet number network) me ≡ begin_at network me
unfolding without_packet
gone_begin network number me = refl

module _ (plan : Plan) (network : NetworkState) (seen : Seen) (shows : Shows plan network seen) (alone : NoneAlone network) (number : ℕ) where
  pub arrive_shown : (packet : Option Packet) → packet_at network number ≡ packet → IsShown plan (Arrive number) network seen (arrive_event plan packet network)
  arrive_shown None is = WasIdle refl
  arrive_shown (Some packet) is = work_shown plan (Arrive number) network (without_packet packet.number network) seen packet.to packet.origin packet.hops work ready where
    work : Work
    work = packet_work plan network packet

    ready : IsReadyToShow plan (without_packet packet.number network) packet.to work (copy_goes number seen)
    ready =
        let bridges = packet_bridges plan taken_all packet.bytes (begin_at network packet.to) in
        plain_ready plan (without_packet packet.number network) packet.to work (copy_goes number seen)
        (subst (λ (n : ℕ). Shows plan (without_packet n network) (copy_goes number seen)) (sym (found number network.under_way packet is).named)
        (gone_shows plan network seen number shows)) (gone_alone network packet.number alone)
        (subst (λ (w : Work). TellsChanges none w work) (sym (gone_begin network packet.number packet.to))
        (bridged_tells (begin_at network packet.to) work bridges.edge.me bridges.edge.circuits bridges.edge.peering bridges.edge.downs bridges.effects))

  pub discard_shown : (packet : Option Packet) → packet_at network number ≡ packet → IsShown plan (Discard number) network seen (discard_event packet network)
  discard_shown None is = WasIdle refl
  discard_shown (Some packet) is = HasGone tt (subst (λ (n : ℕ). Shows plan (without_packet n network) (copy_goes number seen)) (sym (found number network.under_way packet is).named)
      (gone_shows plan network seen number shows))

  pub again_shown : (packet : Option Packet) → packet_at network number ≡ packet → IsShown plan (Again number) network seen (again_event packet network)
  unfolding with_copy with_copies
  again_shown None is = WasIdle refl
  again_shown (Some packet) is = HasGone tt (subst (λ (o : Option ℕ). Shows plan (again_event (Some packet) network).state (repeats (network.sent + 1) o seen)) (sym origin) (record {
    standing = shows.standing;
    pipes = shows.pipes;
    rests = shows.rests;
    up = shows.up;
    on = shows.on;
    under_way = ap (λ (l : List SeenCopy). l ++ record { number = network.sent + 1; origin = packet.origin } ∷ [])
        (none_without network.sent (network.sent + 1) seen.under_way shows.counted (omega arith) ∙ shows.under_way) ∙ sym (sent_more network.under_way _);
    counted = below_behind (network.sent + 1) (without_copy (network.sent + 1) seen.under_way) (record { number = network.sent + 1; origin = packet.origin })
        (below_more network.sent (network.sent + 1) (without_copy (network.sent + 1) seen.under_way) (omega arith)
        (without_below network.sent (network.sent + 1) seen.under_way shows.counted)) (omega arith);
  }))
    where
      at : IsFound number network.under_way packet
      at = found number network.under_way packet is

      origin : origin_among packet.number seen.under_way ≡ Some packet.origin
      origin = ap (λ (n : ℕ). origin_among n seen.under_way) at.named ∙ (ap (origin_among number) shows.under_way ∙ at.origin)
