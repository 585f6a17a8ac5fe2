-- What each event leaves is what its fault leaves.
use Rattle.std.proofs.Common.{◌≡◌, ◌∙◌, ◌&&◌, ℕ, Bool, true, false, cond, not, nat_eq, Option, Some, None, inl, inr, refl, sym, ap, subst}
use Rattle.std.proofs.lemmas.Bool.{cases_Bool, eq-eqb, eqb-true}
use Rattle.net_values.proofs.BoolLemmas.{and_false, and_true, clash, first_holds}
use Rattle.net_base.specs.declared.plan.Plan.{Plan}
use Rattle.net_base.specs.declared.plan.circuit_plan.CircuitPlan.{CircuitPlan}
use Rattle.net_base.specs.declared.plan.places.CircuitId.{CircuitId}
use Rattle.net_base.specs.declared.plan.places.EdgeId.{EdgeId}
use Rattle.net_base.specs.declared.plan.places.WireId.{WireId}
use Rattle.net_base.specs.declared.plan.wire_plan.WirePlan.{WirePlan}
use Rattle.net_base.specs.declared.trace.event.Event.{Event}
use Rattle.net_base.specs.declared.trace.event.Event.TheVariants.{Connect, Deliver, Lose, Restart, Tick, Frame, Arrive, Discard, Again, Wire, Circuit, Status, Priority, Ping}
use Rattle.net_base.specs.plan.Accepted.{IsChecked}
use Rattle.net_base.specs.plan.Places.{circuit_row, wire_row}
use Rattle.edge_model.specs.Circuit.{is_same, turned}
use Rattle.edge_model.specs.EndPlaces.{ends_here, passes}
use Rattle.edge_model.specs.Frame.{is_own}
use Rattle.edge_model.specs.State.{EdgeState, is_there, with_addresses, with_bits, with_circuit, with_priority, with_wire}
use Rattle.edge_model.specs.Wire.{is_own_spoke, turned_wire}
use Rattle.network_model.specs.Circuit.{circuit_event}
use Rattle.network_model.specs.State.{NetworkState}
use Rattle.network_model.specs.Step.{step}
use Rattle.flight_laws.specs.Ends.{HasTypes, IsOrdered}
use Rattle.flight_laws.proofs.StayLemmas.{deliver_stays}
use Rattle.survey_laws.specs.Faults.{is_end_of, is_on_path, is_spoke_end_of, takes_or_passes}
use Rattle.survey_laws.proofs.PassLemmas.{ends_on_path, passes_on_path}
use Rattle.survey_laws.proofs.SettingLemmas.{KeepsEnds, KeepsSet, Passes, Sets, again_passes, arrive_passes, deliver_set, discard_passes, ends_same, frame_passes, lose_ends, lose_set, mended, mended_at, parts, ping_passes, restart_ends, restart_set, set_at, set_ends, set_keeps, sets_bits, sets_number, turns_circuit, turns_off}

-- ---- events that set nothing

kept_sets : (plan : Plan) (event : Event) (old new : NetworkState) → KeepsSet old new → ((k w : ℕ) → turns_off plan event k w ≡ false) → ((k w : ℕ) → sets_bits plan event k w ≡ false)
    → ((k w had : ℕ) → sets_number plan event k w had ≡ had) → ((c : ℕ) → turns_circuit event c ≡ false) → KeepsEnds (parts event) old new → Sets plan event old new
kept_sets plan event old new kept no_wire no_bits no_number no_circuit ends = record {
  wires = λ k w. ap (λ (f : ℕ → Bool). f w) (kept.wires k) ∙ (sym (and_true ((old.edges k).wire_on w)) ∙ ap (λ (b : Bool). (old.edges k).wire_on w && not b) (sym (no_wire k w)));
  clear = λ k w. ap (λ (f : ℕ → ℕ). nat_eq (f w) 0) (kept.bits k)
      ∙ (sym (and_true (nat_eq ((old.edges k).bits w) 0)) ∙ ap (λ (b : Bool). nat_eq ((old.edges k).bits w) 0 && not b) (sym (no_bits k w)));
  numbers = λ k w. ap (λ (f : ℕ → ℕ). f w) (kept.numbers k) ∙ sym (no_number k w ((old.edges k).priority w));
  circuits = λ row circuit is. ap (λ (f : ℕ → Bool). f circuit.0) (kept.circuits row.edge.0)
      ∙ (sym (and_true ((old.edges row.edge.0).circuit_on circuit.0)) ∙ ap (λ (b : Bool). (old.edges row.edge.0).circuit_on circuit.0 && not b) (sym (no_circuit circuit.0)));
  ends = ends;
}

-- ---- truth values

off_changed : (x p now : Bool) → p ≡ true → cond x false now ≡ now && not (x && p)
off_changed true true now is = sym (and_false now)
off_changed true false now is = clash is
off_changed false p now is = sym (and_true now)

off_kept : (x p there now : Bool) → p && not (not there) ≡ false → (x ≡ true → now ≡ there) → now ≡ now && not (x && p)
off_kept true true true now not_so same = clash (sym not_so)
off_kept true true false now not_so same = same refl ∙ sym (ap (λ (b : Bool). b && false) (same refl))
off_kept true false there now not_so same = sym (and_true now)
off_kept false p there now not_so same = sym (and_true now)

bits_changed : (x p : Bool) (bits now : ℕ) → p ≡ true → nat_eq bits 0 ≡ false → nat_eq (cond x bits now) 0 ≡ nat_eq now 0 && not (x && p)
bits_changed true true bits now is some = some ∙ sym (and_false (nat_eq now 0))
bits_changed true false bits now is some = clash is
bits_changed false p bits now is some = sym (and_true (nat_eq now 0))

bits_kept : (x p : Bool) (bits there now : ℕ) → p && not (nat_eq bits there) ≡ false → nat_eq bits 0 ≡ false → (x ≡ true → now ≡ there) → nat_eq now 0 ≡ nat_eq now 0 && not (x && p)
bits_kept true true bits there now not_so some same = by (nat_eq bits there) refl not_so
  where
    by : (b : Bool) → nat_eq bits there ≡ b → not b ≡ false → nat_eq now 0 ≡ nat_eq now 0 && false
    by true is none =
        let zero_not : nat_eq now 0 ≡ false = ap (λ (n : ℕ). nat_eq n 0) (same refl ∙ sym (eqb-true bits there is)) ∙ some in
        zero_not ∙ sym (ap (λ (b : Bool). b && false) zero_not)
    by false is none = clash (sym none)
bits_kept true false bits there now not_so some same = sym (and_true (nat_eq now 0))
bits_kept false p bits there now not_so some same = sym (and_true (nat_eq now 0))

number_changed : (x p : Bool) (number now : ℕ) → p ≡ true → cond x number now ≡ cond (x && p) number now
number_changed true true number now is = refl
number_changed true false number now is = clash is
number_changed false p number now is = refl

number_kept : (x p : Bool) (number there now : ℕ) → p && not (nat_eq number there) ≡ false → (x ≡ true → now ≡ there) → now ≡ cond (x && p) number now
number_kept true true number there now not_so same = by (nat_eq number there) refl not_so
  where
    by : (b : Bool) → nat_eq number there ≡ b → not b ≡ false → now ≡ number
    by true is none = same refl ∙ sym (eqb-true number there is)
    by false is none = clash (sym none)
number_kept true false number there now not_so same = refl
number_kept false p number there now not_so same = refl

-- at the edge that was set, and at another one
at_bool : (edges : ℕ → EdgeState) (of : EdgeState → Bool) (me k : ℕ) (taken : Bool) → cond (nat_eq k me) (of (edges me) && not taken) (of (edges k)) ≡ of (edges k) && not (nat_eq k me && taken)
at_bool edges of me k taken = elim (cases_Bool (nat_eq k me)) [
  | inl is ↦ rw is (ap (λ (n : ℕ). of (edges n) && not taken) (sym (eqb-true k me is)))
  | inr other ↦ rw other (sym (and_true (of (edges k))))
]

at_number : (edges : ℕ → EdgeState) (of : EdgeState → ℕ) (me k number : ℕ) (taken : Bool) → cond (nat_eq k me) (cond taken number (of (edges me))) (of (edges k))
    ≡ cond (nat_eq k me && taken) number (of (edges k))
at_number edges of me k number taken = elim (cases_Bool (nat_eq k me)) [
  | inl is ↦ rw is (ap (λ (n : ℕ). cond taken number (of (edges n))) (sym (eqb-true k me is)))
  | inr other ↦ rw other refl
]

-- ---- events that set something

module _ (plan : Plan) (network : NetworkState) (checked : IsChecked plan) (types : HasTypes plan) (ordered : IsOrdered plan network) where
  own_path : (me : EdgeId) (wire : WireId) → passes plan (network.edges me.0).me wire ≡ is_on_path me.0 (wire_row plan wire)
  own_path me wire = ap (λ (e : EdgeId). passes plan e wire) (ordered.placed me.0) ∙ passes_on_path plan me wire checked

  own_end : (me : EdgeId) (wire : WireId) → ends_here plan (network.edges me.0).me wire ≡ is_end_of me.0 (wire_row plan wire)
  own_end me wire = ap (λ (e : EdgeId). ends_here plan e wire) (ordered.placed me.0) ∙ ends_on_path plan me wire checked

  own_spoke : (me : EdgeId) (row : Option WirePlan) → is_own_spoke (network.edges me.0).me row ≡ is_spoke_end_of me.0 row
  own_spoke me row = ap (λ (e : EdgeId). is_own_spoke e row) (ordered.placed me.0) ∙ same row
    where
      same : (row : Option WirePlan) → is_own_spoke me row ≡ is_spoke_end_of me.0 row
      same None = refl
      same (Some row) = refl

  wire_sets : (me : EdgeId) (wire : WireId) → Sets plan (Wire me wire false) network (step plan network (Wire me wire false)).state
  unfolding with_wire
  wire_sets me wire = record {
    wires = λ k w. set_at plan network (λ (e : EdgeState). e.wire_on w) (turned_wire wire false) me ((network.edges me.0).wire_on w && not (nat_eq w wire.0 && p)) applies
        (λ is. changed_at w ∙ off_changed (nat_eq w wire.0) p ((network.edges me.0).wire_on w)
        (sym (own_path me wire) ∙ first_holds (passes plan (network.edges me.0).me wire) (not (is_same false there)) is))
        (λ none. off_kept (nat_eq w wire.0) p there ((network.edges me.0).wire_on w) (ap (λ (b : Bool). b && not (not there)) (sym (own_path me wire)) ∙ none)
        (λ is. ap (network.edges me.0).wire_on (eqb-true w wire.0 is))) k
        ∙ at_bool network.edges (λ (e : EdgeState). e.wire_on w) me.0 k (nat_eq w wire.0 && p);
    clear = λ k w. set_keeps plan network (λ (e : EdgeState). nat_eq (e.bits w) 0) (turned_wire wire false) me applies (ap (λ (f : ℕ → ℕ). nat_eq (f w) 0) bits_at) k
        ∙ sym (and_true (nat_eq ((network.edges k).bits w) 0));
    numbers = λ k w. set_keeps plan network (λ (e : EdgeState). e.priority w) (turned_wire wire false) me applies (ap (λ (f : ℕ → ℕ). f w) numbers_at) k;
    circuits = λ row circuit is. set_keeps plan network (λ (e : EdgeState). e.circuit_on circuit.0) (turned_wire wire false) me applies (ap (λ (f : ℕ → Bool). f circuit.0) circuits_at) row.edge.0
        ∙ sym (and_true ((network.edges row.edge.0).circuit_on circuit.0));
    ends = ends_same (parts (Wire me wire false)) network (step plan network (Wire me wire false)).state (set_ends plan network (turned_wire wire false) me applies there_at);
  }
    where
      p : Bool
      p = is_on_path me.0 (wire_row plan wire)

      there : Bool
      there = (network.edges me.0).wire_on wire.0

      applies : Bool
      applies = passes plan (network.edges me.0).me wire && not (is_same false ((network.edges me.0).wire_on wire.0))

      changed_at : (w : ℕ) → (mended plan network (turned_wire wire false) me).edge.wire_on w ≡ cond (nat_eq w wire.0) false ((network.edges me.0).wire_on w)
      changed_at w = ap (λ (f : ℕ → Bool). f w) (mended_at plan network (turned_wire wire false) me).wires

      bits_at : (mended plan network (turned_wire wire false) me).edge.bits ≡ (network.edges me.0).bits
      bits_at = (mended_at plan network (turned_wire wire false) me).bits

      numbers_at : (mended plan network (turned_wire wire false) me).edge.priority ≡ (network.edges me.0).priority
      numbers_at = (mended_at plan network (turned_wire wire false) me).numbers

      circuits_at : (mended plan network (turned_wire wire false) me).edge.circuit_on ≡ (network.edges me.0).circuit_on
      circuits_at = (mended_at plan network (turned_wire wire false) me).circuits

      there_at : (b : ℕ) → is_there ((turned_wire wire false (network.edges me.0)).peering b) ≡ is_there ((network.edges me.0).peering b)
      there_at b = refl

  status_sets : (me : EdgeId) (wire : WireId) (bits : ℕ) → nat_eq bits 0 ≡ false → Sets plan (Status me wire bits) network (step plan network (Status me wire bits)).state
  unfolding with_bits
  status_sets me wire bits some = record {
    wires = λ k w. set_keeps plan network (λ (e : EdgeState). e.wire_on w) (with_bits wire bits) me applies (ap (λ (f : ℕ → Bool). f w) wires_at) k ∙ sym (and_true ((network.edges k).wire_on w));
    clear = λ k w. set_at plan network (λ (e : EdgeState). nat_eq (e.bits w) 0) (with_bits wire bits) me (nat_eq ((network.edges me.0).bits w) 0 && not (nat_eq w wire.0 && p)) applies
        (λ is. ap (λ (n : ℕ). nat_eq n 0) (changed_at w)
        ∙ bits_changed (nat_eq w wire.0) p bits ((network.edges me.0).bits w) (sym (own_end me wire) ∙ first_holds (ends_here plan (network.edges me.0).me wire) (not (nat_eq bits there)) is) some)
        (λ none. bits_kept (nat_eq w wire.0) p bits there ((network.edges me.0).bits w) (ap (λ (b : Bool). b && not (nat_eq bits there)) (sym (own_end me wire)) ∙ none) some
        (λ is. ap (network.edges me.0).bits (eqb-true w wire.0 is))) k
        ∙ at_bool network.edges (λ (e : EdgeState). nat_eq (e.bits w) 0) me.0 k (nat_eq w wire.0 && p);
    numbers = λ k w. set_keeps plan network (λ (e : EdgeState). e.priority w) (with_bits wire bits) me applies (ap (λ (f : ℕ → ℕ). f w) numbers_at) k;
    circuits = λ row circuit is. set_keeps plan network (λ (e : EdgeState). e.circuit_on circuit.0) (with_bits wire bits) me applies (ap (λ (f : ℕ → Bool). f circuit.0) circuits_at) row.edge.0
        ∙ sym (and_true ((network.edges row.edge.0).circuit_on circuit.0));
    ends = ends_same (parts (Status me wire bits)) network (step plan network (Status me wire bits)).state (set_ends plan network (with_bits wire bits) me applies there_at);
  }
    where
      p : Bool
      p = is_end_of me.0 (wire_row plan wire)

      there : ℕ
      there = (network.edges me.0).bits wire.0

      applies : Bool
      applies = ends_here plan (network.edges me.0).me wire && not (nat_eq bits ((network.edges me.0).bits wire.0))

      changed_at : (w : ℕ) → (mended plan network (with_bits wire bits) me).edge.bits w ≡ cond (nat_eq w wire.0) bits ((network.edges me.0).bits w)
      changed_at w = ap (λ (f : ℕ → ℕ). f w) (mended_at plan network (with_bits wire bits) me).bits

      wires_at : (mended plan network (with_bits wire bits) me).edge.wire_on ≡ (network.edges me.0).wire_on
      wires_at = (mended_at plan network (with_bits wire bits) me).wires

      numbers_at : (mended plan network (with_bits wire bits) me).edge.priority ≡ (network.edges me.0).priority
      numbers_at = (mended_at plan network (with_bits wire bits) me).numbers

      circuits_at : (mended plan network (with_bits wire bits) me).edge.circuit_on ≡ (network.edges me.0).circuit_on
      circuits_at = (mended_at plan network (with_bits wire bits) me).circuits

      there_at : (b : ℕ) → is_there ((with_bits wire bits (network.edges me.0)).peering b) ≡ is_there ((network.edges me.0).peering b)
      there_at b = refl

  priority_sets : (me : EdgeId) (wire : WireId) (number : ℕ) → Sets plan (Priority me wire number) network (step plan network (Priority me wire number)).state
  unfolding with_priority
  priority_sets me wire number = record {
    wires = λ k w. set_keeps plan network (λ (e : EdgeState). e.wire_on w) (with_priority wire number) me applies (ap (λ (f : ℕ → Bool). f w) wires_at) k
        ∙ sym (and_true ((network.edges k).wire_on w));
    clear = λ k w. set_keeps plan network (λ (e : EdgeState). nat_eq (e.bits w) 0) (with_priority wire number) me applies (ap (λ (f : ℕ → ℕ). nat_eq (f w) 0) bits_at) k
        ∙ sym (and_true (nat_eq ((network.edges k).bits w) 0));
    numbers = λ k w. set_at plan network (λ (e : EdgeState). e.priority w) (with_priority wire number) me (cond (nat_eq w wire.0 && p) number ((network.edges me.0).priority w)) applies
        (λ is. changed_at w ∙ number_changed (nat_eq w wire.0) p number ((network.edges me.0).priority w)
        (sym (own_spoke me (wire_row plan wire)) ∙ first_holds (is_own_spoke (network.edges me.0).me (wire_row plan wire)) (not (nat_eq number there)) is))
        (λ none. number_kept (nat_eq w wire.0) p number there ((network.edges me.0).priority w) (ap (λ (b : Bool). b && not (nat_eq number there)) (sym (own_spoke me (wire_row plan wire))) ∙ none)
        (λ is. ap (network.edges me.0).priority (eqb-true w wire.0 is))) k
        ∙ at_number network.edges (λ (e : EdgeState). e.priority w) me.0 k number (nat_eq w wire.0 && p);
    circuits = λ row circuit is. set_keeps plan network (λ (e : EdgeState). e.circuit_on circuit.0) (with_priority wire number) me applies (ap (λ (f : ℕ → Bool). f circuit.0) circuits_at) row.edge.0
        ∙ sym (and_true ((network.edges row.edge.0).circuit_on circuit.0));
    ends = ends_same (parts (Priority me wire number)) network (step plan network (Priority me wire number)).state (set_ends plan network (with_priority wire number) me applies there_at);
  }
    where
      p : Bool
      p = is_spoke_end_of me.0 (wire_row plan wire)

      there : ℕ
      there = (network.edges me.0).priority wire.0

      applies : Bool
      applies = is_own_spoke (network.edges me.0).me (wire_row plan wire) && not (nat_eq number ((network.edges me.0).priority wire.0))

      changed_at : (w : ℕ) → (mended plan network (with_priority wire number) me).edge.priority w ≡ cond (nat_eq w wire.0) number ((network.edges me.0).priority w)
      changed_at w = ap (λ (f : ℕ → ℕ). f w) (mended_at plan network (with_priority wire number) me).numbers

      wires_at : (mended plan network (with_priority wire number) me).edge.wire_on ≡ (network.edges me.0).wire_on
      wires_at = (mended_at plan network (with_priority wire number) me).wires

      bits_at : (mended plan network (with_priority wire number) me).edge.bits ≡ (network.edges me.0).bits
      bits_at = (mended_at plan network (with_priority wire number) me).bits

      circuits_at : (mended plan network (with_priority wire number) me).edge.circuit_on ≡ (network.edges me.0).circuit_on
      circuits_at = (mended_at plan network (with_priority wire number) me).circuits

      there_at : (b : ℕ) → is_there ((with_priority wire number (network.edges me.0)).peering b) ≡ is_there ((network.edges me.0).peering b)
      there_at b = refl

  -- a circuit that the plan lacks is none of its own
  lacks : (circuit : CircuitId) → circuit_row plan circuit ≡ None → (now : NetworkState) → now.edges ≡ network.edges → Sets plan (Circuit circuit false) network now
  lacks circuit none now same = record {
    wires = λ k w. ap (λ (edges : ℕ → EdgeState). (edges k).wire_on w) same ∙ sym (and_true ((network.edges k).wire_on w));
    clear = λ k w. ap (λ (edges : ℕ → EdgeState). nat_eq ((edges k).bits w) 0) same ∙ sym (and_true (nat_eq ((network.edges k).bits w) 0));
    numbers = λ k w. ap (λ (edges : ℕ → EdgeState). (edges k).priority w) same;
    circuits = λ row other is. ap (λ (edges : ℕ → EdgeState). (edges row.edge.0).circuit_on other.0) same
        ∙ (sym (and_true ((network.edges row.edge.0).circuit_on other.0)) ∙ ap (λ (b : Bool). (network.edges row.edge.0).circuit_on other.0 && not b) (sym (apart row other is)));
    ends = ends_same (parts (Circuit circuit false)) network now (λ k b. ap (λ (edges : ℕ → EdgeState). is_there ((edges k).peering b)) same);
  }
    where
      apart : (row : CircuitPlan) (other : CircuitId) → circuit_row plan other ≡ Some row → nat_eq other.0 circuit.0 ≡ false
      apart row other is = elim (cases_Bool (nat_eq other.0 circuit.0)) [
        | inl same ↦ clash_rows (sym none ∙ (ap (λ (n : ℕ). circuit_row plan (record { 0 = n })) (sym (eqb-true other.0 circuit.0 same)) ∙ is))
        | inr other_one ↦ other_one
      ]
        where
          clash_rows : {P : Type 0} → None ≡ Some row → P
          clash_rows is = absurd (cc is)

  module _ (circuit : CircuitId) (row : CircuitPlan) (at : circuit_row plan circuit ≡ Some row) where
    abbrev me : EdgeId
    me = row.edge

    abbrev there : Bool
    there = (network.edges me.0).circuit_on circuit.0

    abbrev applies : Bool
    applies = is_own (network.edges me.0) row && not (is_same false ((network.edges me.0).circuit_on circuit.0))

    own : is_own (network.edges me.0) row ≡ true
    own = ap (λ (e : EdgeId). nat_eq me.0 e.0) (ordered.placed me.0) ∙ eq-eqb me.0 me.0 refl

    changed_at : (c : ℕ) → (mended plan network (turned plan circuit row false) me).edge.circuit_on c ≡ cond (nat_eq c circuit.0) false ((network.edges me.0).circuit_on c)
    unfolding with_addresses with_circuit
    changed_at c = ap (λ (f : ℕ → Bool). f c) (mended_at plan network (turned plan circuit row false) me).circuits

    wires_at : (mended plan network (turned plan circuit row false) me).edge.wire_on ≡ (network.edges me.0).wire_on
    unfolding with_addresses with_circuit
    wires_at = (mended_at plan network (turned plan circuit row false) me).wires

    bits_at : (mended plan network (turned plan circuit row false) me).edge.bits ≡ (network.edges me.0).bits
    unfolding with_addresses with_circuit
    bits_at = (mended_at plan network (turned plan circuit row false) me).bits

    numbers_at : (mended plan network (turned plan circuit row false) me).edge.priority ≡ (network.edges me.0).priority
    unfolding with_addresses with_circuit
    numbers_at = (mended_at plan network (turned plan circuit row false) me).numbers

    there_at : (b : ℕ) → is_there ((turned plan circuit row false (network.edges me.0)).peering b) ≡ is_there ((network.edges me.0).peering b)
    unfolding with_addresses with_circuit
    there_at b = refl

    -- a circuit of another edge is another one
    elsewhere : (other_row : CircuitPlan) (other : CircuitId) → circuit_row plan other ≡ Some other_row → nat_eq other_row.edge.0 me.0 ≡ false → nat_eq other.0 circuit.0 ≡ false
    elsewhere other_row other is apart = elim (cases_Bool (nat_eq other.0 circuit.0)) [
      | inl same ↦ clash (sym apart ∙ eq-eqb other_row.edge.0 me.0 (ap (λ (r : CircuitPlan). r.edge.0)
          (one_row other_row (sym is ∙ (ap (λ (n : ℕ). circuit_row plan (record { 0 = n })) (eqb-true other.0 circuit.0 same) ∙ at)))))
      | inr other_one ↦ other_one
    ]
      where
        one_row : (r : CircuitPlan) → Some r ≡ Some row → r ≡ row
        one_row r is = cc is

    has : Sets plan (Circuit circuit false) network (circuit_event plan circuit false (Some row) network).state
    has = record {
      wires = λ k w. set_keeps plan network (λ (e : EdgeState). e.wire_on w) (turned plan circuit row false) me applies (ap (λ (f : ℕ → Bool). f w) wires_at) k
          ∙ sym (and_true ((network.edges k).wire_on w));
      clear = λ k w. set_keeps plan network (λ (e : EdgeState). nat_eq (e.bits w) 0) (turned plan circuit row false) me applies (ap (λ (f : ℕ → ℕ). nat_eq (f w) 0) bits_at) k
          ∙ sym (and_true (nat_eq ((network.edges k).bits w) 0));
      numbers = λ k w. set_keeps plan network (λ (e : EdgeState). e.priority w) (turned plan circuit row false) me applies (ap (λ (f : ℕ → ℕ). f w) numbers_at) k;
      circuits = λ other_row other is. set_at plan network (λ (e : EdgeState). e.circuit_on other.0) (turned plan circuit row false) me
          ((network.edges me.0).circuit_on other.0 && not (nat_eq other.0 circuit.0)) applies
          (λ now. changed_at other.0 ∙ (off_changed (nat_eq other.0 circuit.0) true ((network.edges me.0).circuit_on other.0) refl
          ∙ ap (λ (b : Bool). (network.edges me.0).circuit_on other.0 && not b) (and_true (nat_eq other.0 circuit.0))))
          (λ none. off_kept (nat_eq other.0 circuit.0) true there ((network.edges me.0).circuit_on other.0) (ap (λ (b : Bool). b && not (not there)) (sym own) ∙ none)
          (λ same. ap (network.edges me.0).circuit_on (eqb-true other.0 circuit.0 same))
          ∙ ap (λ (b : Bool). (network.edges me.0).circuit_on other.0 && not b) (and_true (nat_eq other.0 circuit.0))) other_row.edge.0
          ∙ elim (cases_Bool (nat_eq other_row.edge.0 me.0)) [
            | inl same ↦ rw same (ap (λ (n : ℕ). (network.edges n).circuit_on other.0 && not (nat_eq other.0 circuit.0)) (sym (eqb-true other_row.edge.0 me.0 same)))
            | inr apart ↦ rw (apart, elsewhere other_row other is apart) (sym (and_true ((network.edges other_row.edge.0).circuit_on other.0)))
          ];
      ends = ends_same (parts (Circuit circuit false)) network (circuit_event plan circuit false (Some row) network).state (set_ends plan network (turned plan circuit row false) me applies there_at);
    }

  circuit_sets : (circuit : CircuitId) → Sets plan (Circuit circuit false) network (step plan network (Circuit circuit false)).state
  circuit_sets circuit = by (circuit_row plan circuit) refl where
    by : (row : Option CircuitPlan) → circuit_row plan circuit ≡ row → Sets plan (Circuit circuit false) network (circuit_event plan circuit false row network).state
    by None none = lacks circuit none network refl
    by (Some row) at = has circuit row at

  passed : (event : Event) → Passes plan network (step plan network event).state → ((k w : ℕ) → turns_off plan event k w ≡ false) → ((k w : ℕ) → sets_bits plan event k w ≡ false)
      → ((k w had : ℕ) → sets_number plan event k w had ≡ had) → ((c : ℕ) → turns_circuit event c ≡ false) → Sets plan event network (step plan network event).state
  passed event passes no_wire no_bits no_number no_circuit =
      kept_sets plan event network (step plan network event).state passes.set no_wire no_bits no_number no_circuit (ends_same (parts event) network (step plan network event).state passes.ends)

  is_off : (on : Bool) → not on ≡ true → on ≡ false
  is_off true is = sym is
  is_off false is = refl

  pub event_sets : (event : Event) → takes_or_passes event ≡ true → Sets plan event network (step plan network event).state
  event_sets (Connect from to) plain = clash plain
  event_sets (Deliver from to count) plain =
      kept_sets plan (Deliver from to count) network (step plan network (Deliver from to count)).state (deliver_set plan network from to count) (λ k w. refl) (λ k w. refl)
      (λ k w had. refl) (λ c. refl)
      (λ a b both none. deliver_stays plan from to count network checked types ordered a b both)
  event_sets (Lose me peer) plain =
      kept_sets plan (Lose me peer) network (step plan network (Lose me peer)).state (lose_set plan network me peer) (λ k w. refl) (λ k w. refl) (λ k w had. refl) (λ c. refl)
      (lose_ends plan network me peer)
  event_sets (Restart me) plain =
      kept_sets plan (Restart me) network (step plan network (Restart me)).state (restart_set plan network me) (λ k w. refl) (λ k w. refl) (λ k w had. refl) (λ c. refl) (restart_ends plan network me)
  event_sets Tick plain = clash plain
  event_sets (Frame circuit octets) plain = passed (Frame circuit octets) (frame_passes plan network circuit octets) (λ k w. refl) (λ k w. refl) (λ k w had. refl) (λ c. refl)
  event_sets (Arrive number) plain = passed (Arrive number) (arrive_passes plan network number) (λ k w. refl) (λ k w. refl) (λ k w had. refl) (λ c. refl)
  event_sets (Discard number) plain = passed (Discard number) (discard_passes plan network number) (λ k w. refl) (λ k w. refl) (λ k w had. refl) (λ c. refl)
  event_sets (Again number) plain = passed (Again number) (again_passes plan network number) (λ k w. refl) (λ k w. refl) (λ k w had. refl) (λ c. refl)
  event_sets (Wire me wire on) plain = subst (λ (b : Bool). Sets plan (Wire me wire b) network (step plan network (Wire me wire b)).state) (sym (is_off on plain)) (wire_sets me wire)
  event_sets (Circuit circuit on) plain = subst (λ (b : Bool). Sets plan (Circuit circuit b) network (step plan network (Circuit circuit b)).state) (sym (is_off on plain)) (circuit_sets circuit)
  event_sets (Status me wire bits) plain = status_sets me wire bits (is_off (nat_eq bits 0) plain)
  event_sets (Priority me wire number) plain = priority_sets me wire number
  event_sets (Ping me wire) plain = passed (Ping me wire) (ping_passes plan network me wire) (λ k w. refl) (λ k w. refl) (λ k w had. refl) (λ c. refl)
