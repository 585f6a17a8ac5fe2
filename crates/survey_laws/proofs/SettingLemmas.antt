-- What events that take something or pass by leave of what is set at edges, and of the connections that stand at both ends.
use Rattle.std.proofs.Common.{◌≡◌, ◌∙◌, ◌&&◌, ◌||◌, ℕ, Bool, true, false, cond, not, nat_eq, take, drop, List, Option, Some, None, inl, inr, refl, sym, ap}
use Rattle.std.proofs.lemmas.Bool.{cases_Bool, eq-eqb, eqb-true}
use Rattle.net_values.proofs.BoolLemmas.{and_turned, first_fails, second_fails}
use Rattle.net_base.specs.declared.plan.Plan.{Plan}
use Rattle.net_base.specs.declared.plan.circuit_plan.CircuitPlan.{CircuitPlan}
use Rattle.net_base.specs.declared.plan.places.CircuitId.{CircuitId}
use Rattle.net_base.specs.declared.plan.places.EdgeId.{EdgeId}
use Rattle.net_base.specs.declared.plan.places.WireId.{WireId}
use Rattle.net_base.specs.declared.trace.event.Event.{Event}
use Rattle.net_base.specs.declared.trace.event.Event.TheVariants.{Connect, Deliver, Lose, Restart, Tick, Frame, Arrive, Discard, Again, Wire, Circuit, Status, Priority, Ping}
use Rattle.net_base.specs.declared.trace.state_name.Reason.TheVariants as reason
use Rattle.net_base.specs.plan.Places.{circuit_row, wire_row}
use Rattle.session_core.specs.Table as table
use Rattle.edge_model.specs.Connection.{restart_input}
use Rattle.edge_model.specs.Mend.{mends}
use Rattle.edge_model.specs.Session.{happens_with_ends}
use Rattle.edge_model.specs.State.{EdgeState, Peering, is_on, is_there, with_kept, with_learned, without_ends, without_peerings}
use Rattle.edge_model.specs.Work.{Work, changes, idles}
use Rattle.edge_model.proofs.BridgeLemmas.{frame_bridges, packet_bridges, ping_bridges}
use Rattle.edge_model.proofs.MendLemmas.{mends_stands}
use Rattle.edge_model.proofs.SignalLemmas.{IsSignalled, lost_signals, mends_signals, octets_signal}
use Rattle.network_model.specs.Absorb.{absorb, answer, begin_at, idle, taken_all}
use Rattle.network_model.specs.Connection.{delivering, hearing_work, is_deliverable, is_drained_pipe, losing, losing_work}
use Rattle.network_model.specs.Frame.{entering, frame_event, frame_work}
use Rattle.network_model.specs.declared.packet.Packet.{Packet}
use Rattle.network_model.specs.Packet.{again_event, arrive_event, discard_event, packet_at, packet_work}
use Rattle.network_model.specs.Ping.{ping_work}
use Rattle.network_model.specs.State.{NetworkState, stands, with_copy, with_edge, with_frame, with_pipe, without_octets_to, without_packet}
use Rattle.network_model.specs.Step.{step}
use Rattle.network_model.proofs.AbsorbLemmas.{all_keep}
use Rattle.flight_laws.specs.Laws.{BothStand}
use Rattle.flight_laws.proofs.EventBindingLemmas.{event_spare}
use Rattle.flight_laws.proofs.EventLemmas.{pipe_edges}
use Rattle.settle_laws.proofs.CalmLemmas.{same_tests}
use Rattle.survey_laws.specs.Faults.{is_end_of, is_on_path, is_spoke_end_of}

-- two numbers are one from either side
pub eq_turned : (a b : ℕ) → nat_eq a b ≡ nat_eq b a
eq_turned a b = same_tests (nat_eq a b) (nat_eq b a) (λ is. eq-eqb b a (sym (eqb-true a b is))) (λ is. eq-eqb a b (sym (eqb-true b a is)))

-- ---- one edge was at work

module _ {X : Type 0} (of : EdgeState → X) where
  absorbed_at : (me : EdgeId) (origin hops : ℕ) (work : Work) (before network : NetworkState) → network.edges ≡ before.edges → (k : ℕ)
      → of ((absorb me origin hops work network).state.edges k) ≡ cond (nat_eq k me.0) (of work.edge) (of (before.edges k))
  unfolding with_edge
  absorbed_at me origin hops work before network same k = ap (λ (edges : ℕ → EdgeState). of (edges k)) (all_keep me origin hops work.effects (with_edge me work.edge network)).edges
      ∙ elim (cases_Bool (nat_eq k me.0)) [
        | inl is ↦ rw is refl
        | inr other ↦ rw other (ap (λ (edges : ℕ → EdgeState). of (edges k)) same)
      ]

  absorbed_same : (me : EdgeId) (origin hops : ℕ) (work : Work) (before network : NetworkState) → network.edges ≡ before.edges → of work.edge ≡ of (before.edges me.0) → (k : ℕ)
      → of ((absorb me origin hops work network).state.edges k) ≡ of (before.edges k)
  absorbed_same me origin hops work before network same here k = absorbed_at me origin hops work before network same k
      ∙ elim (cases_Bool (nat_eq k me.0)) [
        | inl is ↦ rw is (here ∙ ap (λ (n : ℕ). of (before.edges n)) (sym (eqb-true k me.0 is)))
        | inr other ↦ rw other refl
      ]

-- ---- what is set is kept

pub record KeepsSet (old new : NetworkState) : Type 0 where
  pub wires : (k : ℕ) → (new.edges k).wire_on ≡ (old.edges k).wire_on
  pub bits : (k : ℕ) → (new.edges k).bits ≡ (old.edges k).bits
  pub numbers : (k : ℕ) → (new.edges k).priority ≡ (old.edges k).priority
  pub circuits : (k : ℕ) → (new.edges k).circuit_on ≡ (old.edges k).circuit_on

same_set : (old new : NetworkState) → new.edges ≡ old.edges → KeepsSet old new
same_set old new same = record {
  wires = λ k. ap (λ (edges : ℕ → EdgeState). (edges k).wire_on) same;
  bits = λ k. ap (λ (edges : ℕ → EdgeState). (edges k).bits) same;
  numbers = λ k. ap (λ (edges : ℕ → EdgeState). (edges k).priority) same;
  circuits = λ k. ap (λ (edges : ℕ → EdgeState). (edges k).circuit_on) same;
}

-- the same of the edge at work
pub record KeepsAt (old new : EdgeState) : Type 0 where
  pub wires : new.wire_on ≡ old.wire_on
  pub bits : new.bits ≡ old.bits
  pub numbers : new.priority ≡ old.priority
  pub circuits : new.circuit_on ≡ old.circuit_on

absorbed_set : (me : EdgeId) (origin hops : ℕ) (work : Work) (before network : NetworkState) → network.edges ≡ before.edges → KeepsAt (before.edges me.0) work.edge
    → KeepsSet before (absorb me origin hops work network).state
absorbed_set me origin hops work before network same keeps = record {
  wires = absorbed_same (λ (e : EdgeState). e.wire_on) me origin hops work before network same keeps.wires;
  bits = absorbed_same (λ (e : EdgeState). e.bits) me origin hops work before network same keeps.bits;
  numbers = absorbed_same (λ (e : EdgeState). e.priority) me origin hops work before network same keeps.numbers;
  circuits = absorbed_same (λ (e : EdgeState). e.circuit_on) me origin hops work before network same keeps.circuits;
}

signalled_at : (old new : EdgeState) → IsSignalled old new → KeepsAt old new
signalled_at old new signalled = record { wires = signalled.wires; bits = signalled.bits; numbers = signalled.priorities; circuits = signalled.circuits }

-- both ends of a connection stand still but where it is parted
abbrev pub KeepsEnds : (ℕ → ℕ → Bool) → NetworkState → NetworkState → Type 0
KeepsEnds parts old new = (a b : ℕ) → BothStand old a b → parts a b ≡ false → BothStand new a b

-- ends that stand as they did
pub ends_same : (parts : ℕ → ℕ → Bool) (old new : NetworkState) → ((k b : ℕ) → stands new k b ≡ stands old k b) → KeepsEnds parts old new
ends_same parts old new same a b both none = record { one = same a b ∙ both.one; other = same b a ∙ both.other }

-- ---- the events

-- an event parts two edges
abbrev pub parts : Event → ℕ → ℕ → Bool
parts (Lose me peer) a b = (nat_eq me.0 a && nat_eq peer.0 b) || (nat_eq peer.0 a && nat_eq me.0 b)
parts (Restart me) a b = nat_eq me.0 a || nat_eq me.0 b
parts (Connect from to) a b = false
parts (Deliver from to count) a b = false
parts Tick a b = false
parts (Frame circuit octets) a b = false
parts (Arrive number) a b = false
parts (Discard number) a b = false
parts (Again number) a b = false
parts (Wire me wire on) a b = false
parts (Circuit circuit on) a b = false
parts (Status me wire bits) a b = false
parts (Priority me wire priority) a b = false
parts (Ping me wire) a b = false

module _ (plan : Plan) (network : NetworkState) where
  not_at_all : KeepsSet network network
  not_at_all = same_set network network refl

  -- what is not applied
  or_idle : (b : Bool) (done : NetworkState) → KeepsSet network done → KeepsSet network (cond b done network)
  or_idle true done is = is
  or_idle false done is = not_at_all

  -- ---- deliveries, and ends that are lost

  losing_set : (me peer : EdgeId) → KeepsSet network (losing plan me peer network).state
  losing_set me peer = absorbed_set me 0 0 (losing_work plan network me peer) network network refl (signalled_at _ _ (lost_signals plan taken_all peer (begin_at network me)).edge)

  pub deliver_set : (from to : EdgeId) (count : ℕ) → KeepsSet network (step plan network (Deliver from to count)).state
  deliver_set from to count = by (is_deliverable network from.0 to.0) (is_drained_pipe network from.0 to.0) where
    by : (applies drained : Bool) → KeepsSet network (cond applies (cond drained (losing plan to from network) (delivering plan from to count network)) (idle network)).state
    by true true = losing_set to from
    by true false =
        absorbed_set to 0 0 (hearing_work plan network from to (take count (network.pipes from.0 to.0))) network (with_pipe from to (drop count (network.pipes from.0 to.0)) network)
        (pipe_edges from to (drop count (network.pipes from.0 to.0)) network)
        (signalled_at _ _ (octets_signal plan taken_all from (take count (network.pipes from.0 to.0)) ((network.edges to.0).peering from.0) (begin_at network to)).edge)
    by false drained = not_at_all

  pub lose_set : (me peer : EdgeId) → KeepsSet network (step plan network (Lose me peer)).state
  lose_set me peer = by (stands network me.0 peer.0) where
    by : (applies : Bool) → KeepsSet network (cond applies (losing plan me peer network) (idle network)).state
    by true = losing_set me peer
    by false = not_at_all

  -- an end that is lost leaves the others
  pub lose_ends : (me peer : EdgeId) → KeepsEnds (parts (Lose me peer)) network (step plan network (Lose me peer)).state
  lose_ends me peer a b both none = by (stands network me.0 peer.0) refl where
    ended : Work
    ended = happens_with_ends taken_all peer (table.Closed reason.Closed) (begin_at network me)

    side : (x y : ℕ) → stands network me.0 peer.0 ≡ true → nat_eq x me.0 && nat_eq y peer.0 ≡ false → stands network x y ≡ true → stands (losing plan me peer network).state x y ≡ true
    side x y there apart up = absorbed_at (λ (e : EdgeState). is_there (e.peering y)) me 0 0 (losing_work plan network me peer) network network refl x
        ∙ elim (cases_Bool (nat_eq x me.0)) [
          | inl is ↦ rw is (at_me is)
          | inr other ↦ rw other up
        ]
      where
        at_me : nat_eq x me.0 ≡ true → is_there ((losing_work plan network me peer).edge.peering y) ≡ true
        at_me is =
            let other : nat_eq y peer.0 ≡ false = ap (λ (b : Bool). b && nat_eq y peer.0) (sym is) ∙ apart in
            ap (λ (b : Bool). is_there ((cond b (mends plan taken_all ended) (idles (begin_at network me))).edge.peering y)) there
            ∙ (mends_stands plan taken_all (record { 0 = y }) ended (λ k. refl)
            ∙ (ap is_there (event_spare y peer (table.Closed reason.Closed) (begin_at network me) other).spares.kept
            ∙ (ap (λ (n : ℕ). stands network n y) (sym (eqb-true x me.0 is)) ∙ up)))

    by : (applies : Bool) → stands network me.0 peer.0 ≡ applies → BothStand (cond applies (losing plan me peer network) (idle network)).state a b
    by true there = record {
      one = side a b there (rw (eq_turned a me.0, eq_turned b peer.0) (first_fails (nat_eq me.0 a && nat_eq peer.0 b) (nat_eq peer.0 a && nat_eq me.0 b) none)) both.one;
      other = side b a there (rw (eq_turned b me.0, eq_turned a peer.0)
          (and_turned (nat_eq me.0 b) (nat_eq peer.0 a) ∙ second_fails (nat_eq me.0 a && nat_eq peer.0 b) (nat_eq peer.0 a && nat_eq me.0 b) none)) both.other;
    }
    by false gone = both

  -- ---- a restart

  pub restart_set : (me : EdgeId) → KeepsSet network (step plan network (Restart me)).state
  unfolding without_octets_to changes with_learned without_ends without_peerings with_kept
  restart_set me = absorbed_set me 0 0 (restart_input (begin_at network me)) network (without_octets_to me network) refl kept where
    kept : KeepsAt (network.edges me.0) (restart_input (begin_at network me)).edge
    kept = record { wires = refl; bits = refl; numbers = refl; circuits = refl }

  -- of the edge that restarts no end stands
  gone_there : (me : EdgeId) (y : ℕ) → is_there ((restart_input (begin_at network me)).edge.peering y) ≡ false
  unfolding changes with_learned without_ends without_peerings with_kept
  gone_there me y = refl

  pub restart_at : (me : EdgeId) (x y : ℕ) → stands (step plan network (Restart me)).state x y ≡ cond (nat_eq x me.0) false (stands network x y)
  unfolding without_octets_to
  restart_at me x y =
      absorbed_at (λ (e : EdgeState). is_there (e.peering y)) me 0 0 (restart_input (begin_at network me)) network (without_octets_to me network) refl x
      ∙ ap (λ (b : Bool). cond (nat_eq x me.0) b (stands network x y)) (gone_there me y)

  pub restart_ends : (me : EdgeId) → KeepsEnds (parts (Restart me)) network (step plan network (Restart me)).state
  restart_ends me a b both none = record {
    one = restart_at me a b ∙ (ap (λ (t : Bool). cond t false (stands network a b)) (eq_turned a me.0 ∙ first_fails (nat_eq me.0 a) (nat_eq me.0 b) none) ∙ both.one);
    other = restart_at me b a ∙ (ap (λ (t : Bool). cond t false (stands network b a)) (eq_turned b me.0 ∙ second_fails (nat_eq me.0 a) (nat_eq me.0 b) none) ∙ both.other);
  }

  -- ---- frames and packets

  pub record Passes (new : NetworkState) : Type 0 where
    pub set : KeepsSet network new
    pub ends : (k b : ℕ) → stands new k b ≡ stands network k b

  passes_not : (new : NetworkState) → new.edges ≡ network.edges → Passes new
  passes_not new same = record { set = same_set network new same; ends = λ k b. ap (λ (edges : ℕ → EdgeState). is_there ((edges k).peering b)) same }

  passes_at : (me : EdgeId) (origin hops : ℕ) (work : Work) (later : NetworkState) → later.edges ≡ network.edges → KeepsAt (network.edges me.0) work.edge → work.edge.peering
      ≡ (network.edges me.0).peering
      → Passes (absorb me origin hops work later).state
  passes_at me origin hops work later same keeps peering = record {
    set = absorbed_set me origin hops work network later same keeps;
    ends = λ k b. absorbed_same (λ (e : EdgeState). is_there (e.peering b)) me origin hops work network later same (ap (λ (f : ℕ → Option Peering). is_there (f b)) peering) k;
  }

  pub frame_passes : (circuit : CircuitId) (octets : List ℕ) → Passes (step plan network (Frame circuit octets)).state
  unfolding with_frame
  frame_passes circuit octets = by (circuit_row plan circuit) where
    entered : (row : CircuitPlan) (b : Bool) → Passes (cond b (idle network) (entering network circuit octets row (frame_work plan network circuit octets row))).state
    entered row true = passes_not network refl
    entered row false =
        let only = (frame_bridges plan taken_all circuit octets (Some row) (begin_at network row.edge)).edge in
        passes_at row.edge _ 0 (frame_work plan network circuit octets row) (with_frame network) refl
        (record { wires = only.wires; bits = only.bits; numbers = only.priorities; circuits = only.circuits }) only.peering

    by : (row : Option CircuitPlan) → Passes (frame_event plan circuit octets row network).state
    by None = passes_not network refl
    by (Some row) = entered row (frame_work plan network circuit octets row).idle

  pub arrive_passes : (number : ℕ) → Passes (step plan network (Arrive number)).state
  unfolding without_packet
  arrive_passes number = by (packet_at network number) where
    by : (packet : Option Packet) → Passes (arrive_event plan packet network).state
    by None = passes_not network refl
    by (Some packet) =
        let only = (packet_bridges plan taken_all packet.bytes (begin_at network packet.to)).edge in
        passes_at packet.to packet.origin packet.hops (packet_work plan network packet) (without_packet packet.number network) refl
        (record { wires = only.wires; bits = only.bits; numbers = only.priorities; circuits = only.circuits }) only.peering

  pub discard_passes : (number : ℕ) → Passes (step plan network (Discard number)).state
  unfolding without_packet
  discard_passes number = by (packet_at network number) where
    by : (packet : Option Packet) → Passes (discard_event packet network).state
    by None = passes_not network refl
    by (Some packet) = passes_not (without_packet packet.number network) refl

  pub again_passes : (number : ℕ) → Passes (step plan network (Again number)).state
  unfolding with_copy
  again_passes number = by (packet_at network number) where
    by : (packet : Option Packet) → Passes (again_event packet network).state
    by None = passes_not network refl
    by (Some packet) = passes_not (with_copy packet network) refl

  -- work that may be idle
  answer_passes : (me : EdgeId) (work : Work) → KeepsAt (network.edges me.0) work.edge → work.edge.peering ≡ (network.edges me.0).peering → Passes (answer me 0 0 work network).state
  answer_passes me work keeps peering = by work.idle where
    by : (b : Bool) → Passes (cond b (idle network) (absorb me 0 0 work network)).state
    by true = passes_not network refl
    by false = passes_at me 0 0 work network refl keeps peering

  pub ping_passes : (me : EdgeId) (wire : WireId) → Passes (step plan network (Ping me wire)).state
  ping_passes me wire =
      let only = (ping_bridges plan taken_all wire (begin_at network me)).edge in
      answer_passes me (ping_work plan network me wire) (record {
        wires = ap (λ (e : EdgeState). e.wire_on) only;
        bits = ap (λ (e : EdgeState). e.bits) only;
        numbers = ap (λ (e : EdgeState). e.priority) only;
        circuits = ap (λ (e : EdgeState). e.circuit_on) only;
      }) (ap (λ (e : EdgeState). e.peering) only)

  -- ---- what is set of a wire or a circuit

  -- a change of the edge at work, which mends its ends then
  abbrev pub mended : (EdgeState → EdgeState) → EdgeId → Work
  mended change me = mends plan taken_all (changes change (begin_at network me))

  pub mended_at : (change : EdgeState → EdgeState) (me : EdgeId) → KeepsAt (change (network.edges me.0)) (mended change me).edge
  unfolding changes
  mended_at change me = signalled_at _ _ (mends_signals plan taken_all (changes change (begin_at network me))).edge

  mended_works : (change : EdgeState → EdgeState) (me : EdgeId) → (mended change me).idle ≡ false
  unfolding changes
  mended_works change me = (mends_signals plan taken_all (changes change (begin_at network me))).idle

  idles_idle : (me : EdgeId) → (idles (begin_at network me)).idle ≡ true
  unfolding idles
  idles_idle me = refl

  -- it applies or not
  abbrev pub set_work : Bool → (EdgeState → EdgeState) → EdgeId → Work
  set_work applies change me = cond applies (mended change me) (idles (begin_at network me))

  pub set_at : {X : Type 0} (of : EdgeState → X) (change : EdgeState → EdgeState) (me : EdgeId) (value : X) (applies : Bool) → (applies ≡ true → of (mended change me).edge ≡ value)
      → (applies ≡ false → of (network.edges me.0) ≡ value) → (k : ℕ) → of ((answer me 0 0 (set_work applies change me) network).state.edges k) ≡ cond (nat_eq k me.0) value (of (network.edges k))
  set_at of change me value true changed kept k =
      ap (λ (b : Bool). of ((cond b (idle network) (absorb me 0 0 (mended change me) network)).state.edges k)) (mended_works change me)
      ∙ (absorbed_at of me 0 0 (mended change me) network network refl k ∙ ap (λ (x : _). cond (nat_eq k me.0) x (of (network.edges k))) (changed refl))
  set_at of change me value false changed kept k =
      ap (λ (b : Bool). of ((cond b (idle network) (absorb me 0 0 (idles (begin_at network me)) network)).state.edges k)) (idles_idle me)
      ∙ elim (cases_Bool (nat_eq k me.0)) [
        | inl is ↦ rw is (ap (λ (n : ℕ). of (network.edges n)) (eqb-true k me.0 is) ∙ kept refl)
        | inr other ↦ rw other refl
      ]

  -- what the change leaves of the edge stays at all edges
  pub set_keeps : {X : Type 0} (of : EdgeState → X) (change : EdgeState → EdgeState) (me : EdgeId) (applies : Bool) → of (mended change me).edge ≡ of (network.edges me.0) → (k : ℕ)
      → of ((answer me 0 0 (set_work applies change me) network).state.edges k) ≡ of (network.edges k)
  set_keeps of change me applies same k = set_at of change me (of (network.edges me.0)) applies (λ is. same) (λ is. refl) k
      ∙ elim (cases_Bool (nat_eq k me.0)) [
        | inl is ↦ rw is (ap (λ (n : ℕ). of (network.edges n)) (sym (eqb-true k me.0 is)))
        | inr other ↦ rw other refl
      ]

  -- connections stay as they are
  pub set_ends : (change : EdgeState → EdgeState) (me : EdgeId) (applies : Bool)
      → ((b : ℕ) → is_there ((change (network.edges me.0)).peering b) ≡ is_there ((network.edges me.0).peering b)) → (k b : ℕ)
      → stands (answer me 0 0 (set_work applies change me) network).state k b ≡ stands network k b
  unfolding changes
  set_ends change me applies same k b = set_keeps (λ (e : EdgeState). is_there (e.peering b)) change me applies (mended_ends b ∙ same b) k where
    mended_ends : (b : ℕ) → is_there ((mended change me).edge.peering b) ≡ is_there ((change (network.edges me.0)).peering b)
    mended_ends b = mends_stands plan taken_all (record { 0 = b }) (changes change (begin_at network me)) (λ k. refl)

-- ---- what an event takes of what is set, at whatever edge

-- it puts the wire off at the edge
abbrev pub turns_off : Plan → Event → ℕ → ℕ → Bool
turns_off plan (Wire me wire on) k w = nat_eq k me.0 && (nat_eq w wire.0 && is_on_path me.0 (wire_row plan wire))
turns_off plan (Connect from to) k w = false
turns_off plan (Deliver from to count) k w = false
turns_off plan (Lose me peer) k w = false
turns_off plan (Restart me) k w = false
turns_off plan Tick k w = false
turns_off plan (Frame circuit octets) k w = false
turns_off plan (Arrive number) k w = false
turns_off plan (Discard number) k w = false
turns_off plan (Again number) k w = false
turns_off plan (Circuit circuit on) k w = false
turns_off plan (Status me wire bits) k w = false
turns_off plan (Priority me wire priority) k w = false
turns_off plan (Ping me wire) k w = false

-- it sets failure bits of the end of the wire there
abbrev pub sets_bits : Plan → Event → ℕ → ℕ → Bool
sets_bits plan (Status me wire bits) k w = nat_eq k me.0 && (nat_eq w wire.0 && is_end_of me.0 (wire_row plan wire))
sets_bits plan (Connect from to) k w = false
sets_bits plan (Deliver from to count) k w = false
sets_bits plan (Lose me peer) k w = false
sets_bits plan (Restart me) k w = false
sets_bits plan Tick k w = false
sets_bits plan (Frame circuit octets) k w = false
sets_bits plan (Arrive number) k w = false
sets_bits plan (Discard number) k w = false
sets_bits plan (Again number) k w = false
sets_bits plan (Circuit circuit on) k w = false
sets_bits plan (Wire me wire on) k w = false
sets_bits plan (Priority me wire priority) k w = false
sets_bits plan (Ping me wire) k w = false

-- the number of the spoke there behind it
abbrev pub sets_number : Plan → Event → ℕ → ℕ → ℕ → ℕ
sets_number plan (Priority me wire priority) k w had = cond (nat_eq k me.0 && (nat_eq w wire.0 && is_spoke_end_of me.0 (wire_row plan wire))) priority had
sets_number plan (Connect from to) k w had = had
sets_number plan (Deliver from to count) k w had = had
sets_number plan (Lose me peer) k w had = had
sets_number plan (Restart me) k w had = had
sets_number plan Tick k w had = had
sets_number plan (Frame circuit octets) k w had = had
sets_number plan (Arrive number) k w had = had
sets_number plan (Discard number) k w had = had
sets_number plan (Again number) k w had = had
sets_number plan (Circuit circuit on) k w had = had
sets_number plan (Wire me wire on) k w had = had
sets_number plan (Status me wire bits) k w had = had
sets_number plan (Ping me wire) k w had = had

-- it puts the circuit off
abbrev pub turns_circuit : Event → ℕ → Bool
turns_circuit (Circuit circuit on) c = nat_eq c circuit.0
turns_circuit (Connect from to) c = false
turns_circuit (Deliver from to count) c = false
turns_circuit (Lose me peer) c = false
turns_circuit (Restart me) c = false
turns_circuit Tick c = false
turns_circuit (Frame circuit octets) c = false
turns_circuit (Arrive number) c = false
turns_circuit (Discard number) c = false
turns_circuit (Again number) c = false
turns_circuit (Wire me wire on) c = false
turns_circuit (Status me wire bits) c = false
turns_circuit (Priority me wire priority) c = false
turns_circuit (Ping me wire) c = false

pub record Sets (plan : Plan) (event : Event) (old new : NetworkState) : Type 0 where
  pub wires : (k w : ℕ) → (new.edges k).wire_on w ≡ (old.edges k).wire_on w && not (turns_off plan event k w)
  pub clear : (k w : ℕ) → nat_eq ((new.edges k).bits w) 0 ≡ nat_eq ((old.edges k).bits w) 0 && not (sets_bits plan event k w)
  pub numbers : (k w : ℕ) → (new.edges k).priority w ≡ sets_number plan event k w ((old.edges k).priority w)
  pub circuits : (row : CircuitPlan) (circuit : CircuitId) → circuit_row plan circuit ≡ Some row
      → is_on (new.edges row.edge.0) circuit ≡ is_on (old.edges row.edge.0) circuit && not (turns_circuit event circuit.0)
  pub ends : KeepsEnds (parts event) old new
