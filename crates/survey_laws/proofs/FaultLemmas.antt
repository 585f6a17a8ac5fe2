-- What events leave of a network is what their faults leave.
use Rattle.std.proofs.Common.{◌≡◌, ◌∙◌, ◌&&◌, ◌||◌, ◌++◌, ℕ, Bool, true, false, cond, not, nat_eq, List, [], ◌∷◌, Option, Some, None, append-nil, refl, sym, ap, subst}
use Rattle.std.proofs.lemmas.Bool.{eqb-true}
use Rattle.net_values.proofs.BoolLemmas.{and_false, and_not, and_true, clash, first_holds, or_false, second_holds}
use Rattle.net_base.specs.declared.plan.Plan.{Plan}
use Rattle.net_base.specs.declared.plan.circuit_plan.CircuitPlan.{CircuitPlan}
use Rattle.net_base.specs.declared.plan.places.CircuitId.{CircuitId}
use Rattle.net_base.specs.declared.plan.places.EdgeId.{EdgeId}
use Rattle.net_base.specs.declared.plan.places.WireId.{WireId}
use Rattle.net_base.specs.declared.plan.wire_plan.WirePlan.{WirePlan}
use Rattle.net_base.specs.declared.trace.event.Event.{Event}
use Rattle.net_base.specs.declared.trace.event.Event.TheVariants.{Connect, Deliver, Lose, Restart, Tick, Frame, Arrive, Discard, Again, Wire, Circuit, Status, Priority, Ping}
use Rattle.net_base.specs.plan.Accepted.{IsChecked}
use Rattle.net_base.specs.plan.Paths.{is_first}
use Rattle.net_base.specs.plan.Places.{circuit_row, is_mesh_class, wire_row}
use Rattle.network_model.specs.Reach.{is_circuit_on, is_row_on}
use Rattle.network_model.specs.State.{NetworkState, empty_network}
use Rattle.network_model.specs.Step.{step}
use Rattle.network_model.proofs.RunLemmas.{after-append}
use Rattle.flight_laws.specs.Ends.{HasTypes, IsOrdered}
use Rattle.flight_laws.specs.Laws.{IsRun, network_after}
use Rattle.flight_laws.proofs.RunLemmas.{run_ordered}
use Rattle.settle_laws.specs.Sound.{is_sound}
use Rattle.seen_laws.proofs.OnceLemmas.{front_run}
use Rattle.survey_laws.specs.declared.fault.Fault.{Fault}
use Rattle.survey_laws.specs.declared.fault.Fault.TheVariants as fault
use Rattle.survey_laws.specs.Faults.{all_take_or_pass, fault_by, faults_by, is_circuit_taken, is_end_of, is_on_path, is_spoke_end_of, is_taken, number_after, number_by, takes, takes_circuit, takes_or_passes, where_so, with_fault}
use Rattle.survey_laws.specs.Laws.{AreExact, FaultsAreExact}
use Rattle.survey_laws.proofs.ExactLemmas.{event_sets}
use Rattle.survey_laws.proofs.SettingLemmas.{Sets, eq_turned, sets_number, turns_circuit}
use Rattle.survey_laws.proofs.SoundLemmas.{same_part, sound_is, spoiled_is}

-- ---- numbers

-- two spoke edges of one wire are one
spoke_edge_one : (edge me : ℕ) (row : Option WirePlan) → is_spoke_end_of edge row ≡ true → is_spoke_end_of me row ≡ nat_eq edge me
spoke_edge_one edge me None is = clash is
spoke_edge_one edge me (Some row) is = by row.path (second_holds (not (is_mesh_class row.class)) (is_first edge row.path) is)
    ∙ refl
  where
    spoke : not (is_mesh_class row.class) ≡ true
    spoke = first_holds (not (is_mesh_class row.class)) (is_first edge row.path) is

    by : (path : List EdgeId) → is_first edge path ≡ true → not (is_mesh_class row.class) && is_first me path ≡ nat_eq edge me
    by [] first = clash first
    by (start ∷ rest) first = ap (λ (b : Bool). b && nat_eq me start.0) spoke ∙ (ap (nat_eq me) (sym (eqb-true edge start.0 first)) ∙ eq_turned me edge)

-- a fault that sets no number
no_number : (o : Bool) (one : Fault) (wire had : ℕ) → number_by wire one had ≡ had → had ≡ number_after wire (with_fault (where_so o one) []) had
no_number true one wire had is = sym is
no_number false one wire had is = refl

number_is : (plan : Plan) (event : Event) (edge : ℕ) (wire : WireId) (had : ℕ) → is_spoke_end_of edge (wire_row plan wire) ≡ true
    → sets_number plan event edge wire.0 had ≡ number_after wire.0 (with_fault (fault_by plan event) []) had
number_is plan (Connect from to) edge wire had spoke = refl
number_is plan (Deliver from to count) edge wire had spoke = refl
number_is plan (Lose me peer) edge wire had spoke = refl
number_is plan (Restart me) edge wire had spoke = refl
number_is plan Tick edge wire had spoke = refl
number_is plan (Frame circuit octets) edge wire had spoke = refl
number_is plan (Arrive number) edge wire had spoke = refl
number_is plan (Discard number) edge wire had spoke = refl
number_is plan (Again number) edge wire had spoke = refl
number_is plan (Wire me lost on) edge wire had spoke = no_number (not on && is_on_path me.0 (wire_row plan lost)) (fault.Wire lost) wire.0 had refl
number_is plan (Circuit circuit on) edge wire had spoke = no_number (not on) (fault.Circuit circuit) wire.0 had refl
number_is plan (Status me lost bits) edge wire had spoke = no_number (not (nat_eq bits 0) && is_end_of me.0 (wire_row plan lost)) (fault.Wire lost) wire.0 had refl
number_is plan (Priority me lost number) edge wire had spoke =
    ap (λ (b : Bool). cond b number had) (same_part (nat_eq edge me.0) (nat_eq wire.0 lost.0) (is_spoke_end_of me.0 (wire_row plan lost)) here)
    ∙ by (is_spoke_end_of me.0 (wire_row plan lost))
  where
    here : nat_eq wire.0 lost.0 ≡ true → is_spoke_end_of me.0 (wire_row plan lost) ≡ nat_eq edge me.0
    here same = ap (is_spoke_end_of me.0) (ap (λ (n : ℕ). wire_row plan (record { 0 = n })) (sym (eqb-true wire.0 lost.0 same))) ∙ spoke_edge_one edge me.0 (wire_row plan wire) spoke

    by : (o : Bool) → cond (nat_eq wire.0 lost.0 && o) number had ≡ number_after wire.0 (with_fault (where_so o (fault.Priority lost number)) []) had
    by true = ap (λ (b : Bool). cond b number had) (and_true (nat_eq wire.0 lost.0))
    by false = ap (λ (b : Bool). cond b number had) (and_false (nat_eq wire.0 lost.0))
number_is plan (Ping me other) edge wire had spoke = refl

-- ---- circuits

no_circuit : (o : Bool) (one : Fault) (circuit : ℕ) → takes_circuit circuit one ≡ false → false ≡ is_circuit_taken (with_fault (where_so o one) []) circuit
no_circuit true one circuit is = sym (ap (λ (b : Bool). b || false) is)
no_circuit false one circuit is = refl

circuit_is : (plan : Plan) (event : Event) (circuit : ℕ) → takes_or_passes event ≡ true → turns_circuit event circuit ≡ is_circuit_taken (with_fault (fault_by plan event) []) circuit
circuit_is plan (Connect from to) circuit plain = refl
circuit_is plan (Deliver from to count) circuit plain = refl
circuit_is plan (Lose me peer) circuit plain = refl
circuit_is plan (Restart me) circuit plain = refl
circuit_is plan Tick circuit plain = refl
circuit_is plan (Frame other octets) circuit plain = refl
circuit_is plan (Arrive number) circuit plain = refl
circuit_is plan (Discard number) circuit plain = refl
circuit_is plan (Again number) circuit plain = refl
circuit_is plan (Wire me lost on) circuit plain = no_circuit (not on && is_on_path me.0 (wire_row plan lost)) (fault.Wire lost) circuit refl
circuit_is plan (Circuit other on) circuit plain =
    sym (or_false (nat_eq circuit other.0)) ∙ ap (λ (b : Bool). is_circuit_taken (with_fault (where_so b (fault.Circuit other)) []) circuit) (sym plain)
circuit_is plan (Status me lost bits) circuit plain = no_circuit (not (nat_eq bits 0) && is_end_of me.0 (wire_row plan lost)) (fault.Wire lost) circuit refl
circuit_is plan (Priority me lost number) circuit plain = no_circuit (is_spoke_end_of me.0 (wire_row plan lost)) (fault.Priority lost number) circuit refl
circuit_is plan (Ping me other) circuit plain = refl

-- ---- one event

one_exact : (plan : Plan) (network : NetworkState) (event : Event) → IsChecked plan → HasTypes plan → IsOrdered plan network → takes_or_passes event ≡ true
    → AreExact plan network (step plan network event).state (with_fault (fault_by plan event) [])
one_exact plan network event checked types ordered plain = record {
  sound = λ wire row is. sound_is plan network event plain sets wire.0 row ∙ ap (λ (b : Bool). is_sound network wire.0 row && not b) (spoiled_is plan event wire row checked is plain);
  numbers = λ edge wire spoke. sets.numbers edge wire.0 ∙ number_is plan event edge wire ((network.edges edge).priority wire.0) spoke;
  circuits = λ circuit. by circuit (circuit_row plan circuit) refl;
}
  where
    sets : Sets plan event network (step plan network event).state
    sets = event_sets plan network checked types ordered event plain

    by : (circuit : CircuitId) (row : Option CircuitPlan) → circuit_row plan circuit ≡ row
        → is_row_on (step plan network event).state circuit row ≡ (is_row_on network circuit row && not (is_circuit_taken (with_fault (fault_by plan event) []) circuit.0))
    by circuit None is = refl
    by circuit (Some row) is = sets.circuits row circuit is ∙ ap (λ (b : Bool). is_row_on network circuit (Some row) && not b) (circuit_is plan event circuit.0 plain)

-- ---- and many

taken_first : (one : Option Fault) (faults : List Fault) (wire : ℕ) (row : WirePlan) → is_taken (with_fault one []) wire row || is_taken faults wire row ≡ is_taken (with_fault one faults) wire row
taken_first None faults wire row = refl
taken_first (Some one) faults wire row = ap (λ (b : Bool). b || is_taken faults wire row) (or_false (takes wire row one))

circuit_first : (one : Option Fault) (faults : List Fault) (circuit : ℕ) → is_circuit_taken (with_fault one []) circuit || is_circuit_taken faults circuit
    ≡ is_circuit_taken (with_fault one faults) circuit
circuit_first None faults circuit = refl
circuit_first (Some one) faults circuit = ap (λ (b : Bool). b || is_circuit_taken faults circuit) (or_false (takes_circuit circuit one))

number_first : (one : Option Fault) (faults : List Fault) (wire had : ℕ) → number_after wire faults (number_after wire (with_fault one []) had) ≡ number_after wire (with_fault one faults) had
number_first None faults wire had = refl
number_first (Some one) faults wire had = refl

exact_then : (plan : Plan) (ground between now : NetworkState) (one : Option Fault) (faults : List Fault) → AreExact plan ground between (with_fault one []) → AreExact plan between now faults
    → AreExact plan ground now (with_fault one faults)
exact_then plan ground between now one faults first next = record {
  sound = λ wire row is. next.sound wire row is ∙ (ap (λ (b : Bool). b && not (is_taken faults wire.0 row)) (first.sound wire row is)
      ∙ (and_not (is_sound ground wire.0 row) (is_taken (with_fault one []) wire.0 row) (is_taken faults wire.0 row)
      ∙ ap (λ (b : Bool). is_sound ground wire.0 row && not b) (taken_first one faults wire.0 row)));
  numbers = λ edge wire spoke. next.numbers edge wire spoke ∙ (ap (number_after wire.0 faults) (first.numbers edge wire spoke) ∙ number_first one faults wire.0 ((ground.edges edge).priority wire.0));
  circuits = λ circuit. next.circuits circuit ∙ (ap (λ (b : Bool). b && not (is_circuit_taken faults circuit.0)) (first.circuits circuit)
      ∙ (and_not (is_circuit_on plan ground circuit) (is_circuit_taken (with_fault one []) circuit.0) (is_circuit_taken faults circuit.0)
      ∙ ap (λ (b : Bool). is_circuit_on plan ground circuit && not b) (circuit_first one faults circuit.0)));
}

none_exact : (plan : Plan) (network : NetworkState) → AreExact plan network network []
none_exact plan network = record {
  sound = λ wire row is. sym (and_true (is_sound network wire.0 row));
  numbers = λ edge wire spoke. refl;
  circuits = λ circuit. sym (and_true (is_circuit_on plan network circuit));
}

list_split : (base after : List Event) (event : Event) → (base ++ event ∷ []) ++ after ≡ base ++ event ∷ after
list_split [] after event = refl
list_split (first ∷ base) after event = ap (λ (l : List Event). first ∷ l) (list_split base after event)

-- one event more before the others
module _ (plan : Plan) (base after : List Event) (event : Event) (run : IsRun plan (base ++ event ∷ after)) (plain : all_take_or_pass (event ∷ after) ≡ true) where
  run_on : IsRun plan ((base ++ event ∷ []) ++ after)
  run_on = subst (IsRun plan) (sym (list_split base after event)) run

  plain_on : all_take_or_pass after ≡ true
  plain_on = second_holds (takes_or_passes event) (all_take_or_pass after) plain

  here : AreExact plan (network_after plan base) (network_after plan (base ++ event ∷ [])) (with_fault (fault_by plan event) [])
  here = subst (λ (now : NetworkState). AreExact plan (network_after plan base) now (with_fault (fault_by plan event) [])) (sym (after-append plan (empty_network plan) base (event ∷ [])))
      (one_exact plan (network_after plan base) event run.checked run.types (run_ordered plan base (front_run plan (base ++ event ∷ after) base (event ∷ after) run refl))
      (first_holds (takes_or_passes event) (all_take_or_pass after) plain))

  exact_on : AreExact plan (network_after plan (base ++ event ∷ [])) (network_after plan ((base ++ event ∷ []) ++ after)) (faults_by plan after)
      → AreExact plan (network_after plan base) (network_after plan (base ++ event ∷ after)) (faults_by plan (event ∷ after))
  exact_on later =
      exact_then plan (network_after plan base) (network_after plan (base ++ event ∷ [])) (network_after plan (base ++ event ∷ after)) (fault_by plan event) (faults_by plan after) here
      (subst (λ (l : List Event). AreExact plan (network_after plan (base ++ event ∷ [])) (network_after plan l) (faults_by plan after)) (list_split base after event) later)

pub faults_are_exact : FaultsAreExact
faults_are_exact plan base [] run plain = subst (λ (l : List Event). AreExact plan (network_after plan base) (network_after plan l) []) (sym (append-nil base))
    (none_exact plan (network_after plan base))
faults_are_exact plan base (event ∷ after) run plain =
    exact_on plan base after event run plain (faults_are_exact plan (base ++ event ∷ []) after (run_on plan base after event run plain) (plain_on plan base after event run plain))
