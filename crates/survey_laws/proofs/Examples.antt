-- The premises are met, by evaluation: in a plan of two core edges and a spoke edge with a spoke to each, all up, the core edge of the
-- spoke in use restarts. Its neighbours hear of it, and the spoke edge takes its other spoke; then nothing can be delivered any more. From
-- the state before the restart and its fault it follows that the site at the other core edge is reached then, and the one at the edge that
-- has restarted is not, and so a broadcast goes.
use Rattle.std.proofs.Common.{◌≡◌, ◌<◌, ◌++◌, ◌&&◌, ◌||◌, ◌∙◌, ℕ, zero, suc, Bool, true, false, cond, is_some, nat_eq, List, [], ◌∷◌, Option, Some, None, slice_get, refl, sym, ap, subst, arith}
use Rattle.std.proofs.lemmas.Bool.{eqb-true}
use Rattle.net_values.proofs.BoolLemmas.{clash}
use Rattle.net_base.specs.declared.plan.places.CircuitId.{CircuitId}
use Rattle.net_base.specs.declared.plan.places.EdgeId.{EdgeId}
use Rattle.net_base.specs.declared.plan.wire_plan.WirePlan.{WirePlan}
use Rattle.net_base.specs.declared.trace.event.Event.{Event}
use Rattle.net_base.specs.declared.trace.event.Event.TheVariants.{Arrive, Deliver, Frame, Restart}
use Rattle.net_base.specs.plan.Paths.{joins}
use Rattle.edge_model.specs.Labels.{label_to_give}
use Rattle.edge_model.specs.State.{with_learned, without_ends, without_peerings}
use Rattle.network_model.specs.Delivery.{next_delivery}
use Rattle.network_model.specs.Frame.{next_origin}
use Rattle.network_model.specs.OnceEach.{times_left}
use Rattle.network_model.specs.Reach.{is_circuit_on}
use Rattle.network_model.specs.Run.{run, state_after}
use Rattle.network_model.specs.State.{NetworkState, empty_network, without_octets_to}
use Rattle.network_model.specs.Step.{step}
use Rattle.network_model.specs.Window.{all_spare, has_copies, is_flooded_frame}
use Rattle.flight_laws.specs.Laws.{network_after}
use Rattle.flight_laws.proofs.UpExamples.{a, address, b, broadcast, circuit, clearing_is, clears, comes_up, comes_up_stands, evaluated, is_run, is_up, one_service, reached, says, status_is, tells, triangle, x}
use Rattle.flight_laws.proofs.WholeMessageLemmas.{Happens, Moment, StandAll, after_is, all_octets, are_right, events_of, stand-append, stand_each}
use Rattle.flood_laws.specs.Reached.{is_reached}
use Rattle.settle_laws.specs.Laws.{HasLabels}
use Rattle.survey_laws.specs.declared.fault.Fault.TheVariants as fault
use Rattle.survey_laws.specs.Cases.{IsTold, is_lost}
use Rattle.survey_laws.specs.Faults.{faults_by}
use Rattle.survey_laws.specs.Laws.{HasRested, RestedWindow}
use Rattle.survey_laws.specs.Would.{would_core, would_serve}
use Rattle.survey_laws.proofs.CaseLemmas.{changes_are_told}
use Rattle.survey_laws.proofs.FloodLemmas.{floods_as_surveyed}
use Rattle.survey_laws.proofs.RestLemmas.{rests_as_surveyed}

-- what opens for an evaluation of a restart
unfoldable restarting : Unit {0}
unfolding evaluated with_learned without_ends without_octets_to without_peerings
restarting = tt

abbrev fails : List Moment
fails = Happens (Restart a) ∷ Happens (Deliver a x all_octets) ∷ Happens (Deliver a b all_octets) ∷ says 2 1 (tells 4 201 0 ∷ clears 5 201 ∷ []) ∷ []

abbrev base : List Event
base = events_of comes_up

abbrev after : List Event
after = events_of fails

-- the edge restarts, and nothing else is lost
its_fault : faults_by triangle after ≡ fault.Edge a ∷ []
its_fault = refl

fails_stands : StandAll (comes_up ++ fails)
fails_stands = stand-append comes_up fails comes_up_stands (
  tt,
  (
    tt,
    (
      tt,
      (
        stand_each (address 3) (tells 4 201 0 ∷ clears 5 201 ∷ []) refl refl (status_is 4 201 0 (omega arith) (omega arith) (omega arith), (clearing_is 5 201 (omega arith) (omega arith), tt)),
        tt,
      ),
    ),
  ),
)

fails_right : are_right triangle (empty_network triangle) (comes_up ++ fails) ≡ true
unfolding restarting
fails_right = refl

is_after : network_after triangle (base ++ after) ≡ reached (comes_up ++ fails)
is_after = after_is triangle (empty_network triangle) (comes_up ++ fails) fails_stands fails_right

rests : next_delivery triangle (reached (comes_up ++ fails)) ≡ None
unfolding restarting
rests = refl

-- ---- each edge has a label to give

first_within : (near far edge peer : ℕ) → near < 3 → far < 3 → joins edge peer (record { 0 = near } ∷ record { 0 = far } ∷ []) ≡ true → edge < 3
first_within near far edge peer one other joined = by (nat_eq edge near) (nat_eq edge far) refl refl joined where
  none : (p : Bool) → (p && false) || false ≡ true → edge < 3
  none true is = clash is
  none false is = clash is

  by : (m n : Bool) → nat_eq edge near ≡ m → nat_eq edge far ≡ n → ((m && nat_eq peer far) || (nat_eq peer near && n)) || false ≡ true → edge < 3
  by true n same e is = subst (λ (k : ℕ). k < 3) (sym (eqb-true edge near same)) one
  by false true e same is = subst (λ (k : ℕ). k < 3) (sym (eqb-true edge far same)) other
  by false false e f is = none (nat_eq peer near) is

abbrev path_of : Option WirePlan → List EdgeId
path_of None = []
path_of (Some row) = row.path

joined_within : (k : ℕ) (row : WirePlan) (edge peer : ℕ) → slice_get triangle.wires k ≡ Some row → joins edge peer row.path ≡ true → edge < 3
joined_within zero row edge peer is joined = first_within 0 1 edge peer (omega arith) (omega arith) (ap (λ (o : Option WirePlan). joins edge peer (path_of o)) is ∙ joined)
joined_within (suc zero) row edge peer is joined = first_within 2 0 edge peer (omega arith) (omega arith) (ap (λ (o : Option WirePlan). joins edge peer (path_of o)) is ∙ joined)
joined_within (suc (suc zero)) row edge peer is joined = first_within 2 1 edge peer (omega arith) (omega arith) (ap (λ (o : Option WirePlan). joins edge peer (path_of o)) is ∙ joined)
joined_within (suc (suc (suc k))) row edge peer is joined = absurd (cc (is))

labels_of : (edge : ℕ) → edge < 3 → is_some (label_to_give ((reached (comes_up ++ fails)).edges edge)) ≡ true
unfolding restarting
labels_of zero within = refl
labels_of (suc zero) within = refl
labels_of (suc (suc zero)) within = refl
labels_of (suc (suc (suc k))) within = absurd (omega (arith, within))

labels : HasLabels triangle (network_after triangle (base ++ after)) one_service
labels wire row is ours edge peer joined idle = ap (λ (n : NetworkState). is_some (label_to_give (n.edges edge))) is_after ∙ labels_of edge (joined_within wire.0 row edge peer is joined)

-- ---- so the law decides

has_rested : HasRested triangle base after one_service
has_rested = record { run = is_run (base ++ after) (omega arith); plain = refl; rest = ap (next_delivery triangle) is_after ∙ rests; labels = labels }

-- the spoke edge would take the other spoke
core_before : would_core triangle (reached comes_up) [] one_service 2 ≡ Some 0
unfolding evaluated
core_before = refl

core_behind : would_core triangle (reached comes_up) (fault.Edge a ∷ []) one_service 2 ≡ Some 1
unfolding evaluated
core_behind = refl

serves : would_serve triangle (reached comes_up) (fault.Edge a ∷ []) one_service (circuit 2) (circuit 1) ≡ true
unfolding evaluated
serves = refl

served_before : would_serve triangle (reached comes_up) [] one_service (circuit 2) (circuit 0) ≡ true
unfolding evaluated
served_before = refl

serves_not : would_serve triangle (reached comes_up) (fault.Edge a ∷ []) one_service (circuit 2) (circuit 0) ≡ false
unfolding evaluated
serves_not = refl

decided : (at : ℕ) → would_serve triangle (network_after triangle base) (faults_by triangle after) one_service (circuit 2) (circuit at)
    ≡ would_serve triangle (reached comes_up) (fault.Edge a ∷ []) one_service (circuit 2) (circuit at)
decided at = ap (λ (n : NetworkState). would_serve triangle n (fault.Edge a ∷ []) one_service (circuit 2) (circuit at)) is_up

reaches : is_reached triangle (network_after triangle (base ++ after)) one_service (circuit 2) (circuit 1) ≡ true
reaches = rests_as_surveyed triangle base after one_service has_rested (circuit 2) (circuit 1) ∙ (decided 1 ∙ serves)

reaches_not : is_reached triangle (network_after triangle (base ++ after)) one_service (circuit 2) (circuit 0) ≡ false
reaches_not = rests_as_surveyed triangle base after one_service has_rested (circuit 2) (circuit 0) ∙ (decided 0 ∙ serves_not)

-- ---- and so a broadcast goes

abbrev during : List Event
during = Arrive 1 ∷ []

on : is_circuit_on triangle (reached (comes_up ++ fails)) (circuit 2) ≡ true
unfolding restarting
on = refl

flooded : is_flooded_frame triangle (reached (comes_up ++ fails)) one_service broadcast (Frame (circuit 2) broadcast ∷ during) ≡ true
unfolding restarting
flooded = refl

spared : all_spare triangle (next_origin (reached (comes_up ++ fails))) (step triangle (reached (comes_up ++ fails)) (Frame (circuit 2) broadcast)).state during ≡ true
unfolding restarting
spared = refl

over : has_copies (state_after triangle (step triangle (reached (comes_up ++ fails)) (Frame (circuit 2) broadcast)).state during) (next_origin (reached (comes_up ++ fails))) ≡ false
unfolding restarting
over = refl

a_window : RestedWindow triangle (base ++ after) (circuit 2) broadcast during one_service
a_window = record {
  sender = refl;
  on = ap (λ (n : NetworkState). is_circuit_on triangle n (circuit 2)) is_after ∙ on;
  frame = broadcast;
  formed = refl;
  flooded = ap (λ (n : NetworkState). is_flooded_frame triangle n one_service broadcast (Frame (circuit 2) broadcast ∷ during)) is_after ∙ flooded;
  spared = ap (λ (n : NetworkState). all_spare triangle (next_origin n) (step triangle n (Frame (circuit 2) broadcast)).state during) is_after ∙ spared;
  over = ap (λ (n : NetworkState). has_copies (state_after triangle (step triangle n (Frame (circuit 2) broadcast)).state during) (next_origin n)) is_after ∙ over;
}

abbrev events : List Event
events = (base ++ after) ++ Frame (circuit 2) broadcast ∷ (during ++ [])

goes : (at : CircuitId) → times_left (next_origin (network_after triangle (base ++ after))) at (run triangle events).entries
    ≡ cond {A = ℕ} (would_serve triangle (network_after triangle base) (faults_by triangle after) one_service (circuit 2) at) 1 0
goes = (floods_as_surveyed triangle base after (circuit 2) broadcast during [] one_service has_rested (is_run events (omega arith)) a_window).0

leaves_once : times_left (next_origin (network_after triangle (base ++ after))) (circuit 1) (run triangle events).entries ≡ 1
leaves_once = goes (circuit 1) ∙ ap (λ (b : Bool). cond {A = ℕ} b 1 0) (decided 1 ∙ serves)

leaves_not : times_left (next_origin (network_after triangle (base ++ after))) (circuit 0) (run triangle events).entries ≡ 0
leaves_not = goes (circuit 0) ∙ ap (λ (b : Bool). cond {A = ℕ} b 1 0) (decided 0 ∙ serves_not)

-- ---- what is lost is told

lost : is_lost triangle (reached comes_up) one_service (circuit 2) (circuit 0) (fault.Edge a ∷ []) ≡ true
unfolding evaluated
lost = refl

its_case : IsTold (is_lost triangle (reached comes_up) one_service (circuit 2) (circuit 0)) (fault.Edge a ∷ [])
its_case = (changes_are_told triangle (reached comes_up) (fault.Edge a ∷ []) one_service (circuit 2) (circuit 0)).0 lost

-- with the connection of the other core edge to the spoke edge that one is lost too, by both faults and by neither alone
both_lost : is_lost triangle (reached comes_up) one_service (circuit 2) (circuit 1) (fault.Session b x ∷ fault.Edge a ∷ []) ≡ true
unfolding evaluated
both_lost = refl

their_case : IsTold (is_lost triangle (reached comes_up) one_service (circuit 2) (circuit 1)) (fault.Session b x ∷ fault.Edge a ∷ [])
their_case = (changes_are_told triangle (reached comes_up) (fault.Session b x ∷ fault.Edge a ∷ []) one_service (circuit 2) (circuit 1)).0 both_lost

not_by_one : is_lost triangle (reached comes_up) one_service (circuit 2) (circuit 1) (fault.Edge a ∷ []) ≡ false
unfolding evaluated
not_by_one = refl

not_by_other : is_lost triangle (reached comes_up) one_service (circuit 2) (circuit 1) (fault.Session b x ∷ []) ≡ false
unfolding evaluated
not_by_other = refl
