-- What holds of faults in every run of a checked plan.
use Rattle.std.specs.Prelude.{◌≡◌, ◌++◌, ◌&&◌, ◌==◌, not, ℕ, true, false, List, ◌∷◌, Some, None, Ok, if◌then◌else◌}
use Rattle.net_base.specs.declared.plan.Plan.{Plan}
use Rattle.net_base.specs.declared.plan.places.CircuitId.{CircuitId}
use Rattle.net_base.specs.declared.plan.places.ServiceId.{ServiceId}
use Rattle.net_base.specs.declared.plan.places.WireId.{WireId}
use Rattle.net_base.specs.declared.plan.wire_plan.WirePlan.{WirePlan}
use Rattle.net_base.specs.declared.trace.event.Event.{Event}
use Rattle.net_base.specs.declared.trace.event.Event.TheVariants.{Frame}
use Rattle.net_base.specs.plan.Places.{service_of, wire_row}
use Rattle.net_base.specs.trace.Isolated.{inner_at}
use Rattle.network_model.specs.Delivery.{next_delivery}
use Rattle.network_model.specs.Frame.{next_origin}
use Rattle.network_model.specs.OnceEach.{LeftWithin, times_left}
use Rattle.network_model.specs.Reach.{is_circuit_on}
use Rattle.network_model.specs.Run.{run, state_after}
use Rattle.network_model.specs.State.{NetworkState}
use Rattle.network_model.specs.Step.{step}
use Rattle.network_model.specs.Window.{all_spare, has_copies, is_flooded_frame}
use Rattle.flight_laws.specs.Laws.{IsRun, network_after}
use Rattle.flood_laws.specs.Reached.{is_reached}
use Rattle.settle_laws.specs.Laws.{HasLabels}
use Rattle.settle_laws.specs.Sound.{is_sound}
use Rattle.survey_laws.specs.declared.fault.Fault.{Fault}
use Rattle.survey_laws.specs.declared.fault.Fault.TheVariants as fault
use Rattle.survey_laws.specs.Cases.{IsTold, is_found, is_lost}
use Rattle.survey_laws.specs.Faults.{all_take_or_pass, faults_by, is_circuit_taken, is_spoke_end_of, is_taken, number_after}
use Rattle.survey_laws.specs.Would.{would_serve, would_sound}

-- what faults leave of a network, exactly
pub record AreExact (plan : Plan) (before now : NetworkState) (faults : List Fault) : Type 0 where
  -- each wire is sound where it was, and no fault takes it
  pub sound : (wire : WireId) (row : WirePlan) → wire_row plan wire ≡ Some row → is_sound now wire.0 row ≡ would_sound before faults wire.0 row
  -- each spoke has the last number that was set, at its spoke edge
  pub numbers : (edge : ℕ) (wire : WireId) → is_spoke_end_of edge (wire_row plan wire) ≡ true → (now.edges edge).priority wire.0 ≡ number_after wire.0 faults ((before.edges edge).priority wire.0)
  -- each circuit is on where it was, and no fault takes it
  pub circuits : (circuit : CircuitId) → is_circuit_on plan now circuit ≡ (is_circuit_on plan before circuit && not (is_circuit_taken faults circuit.0))

-- Faults are exact: events that take something or pass by leave the same whatever the state in which they come, be they applied or
-- idle, and in the midst of deliveries, frames and packets
abbrev pub FaultsAreExact : Type 0
FaultsAreExact = (plan : Plan) (base after : List Event) → IsRun plan (base ++ after) → all_take_or_pass after ≡ true
    → AreExact plan (network_after plan base) (network_after plan (base ++ after)) (faults_by plan after)

-- a run with such events behind some base has come to rest: nothing is on its way, and no end of the service is idle for want of a label
pub record HasRested (plan : Plan) (base after : List Event) (service : ServiceId) : Type 0 where
  pub run : IsRun plan (base ++ after)
  pub plain : all_take_or_pass after ≡ true
  pub rest : next_delivery plan (network_after plan (base ++ after)) ≡ None
  pub labels : HasLabels plan (network_after plan (base ++ after)) service

-- then whom a frame reaches is decided by the state before them and by the faults
abbrev pub RestsAsSurveyed : Type 0
RestsAsSurveyed = (plan : Plan) (base after : List Event) (service : ServiceId) → HasRested plan base after service → (sender circuit : CircuitId)
    → is_reached plan (network_after plan (base ++ after)) service sender circuit ≡ would_serve plan (network_after plan base) (faults_by plan after) service sender circuit

-- the window of a flooded frame that enters then: no copy of it is lost or repeated, and it is over
pub record RestedWindow (plan : Plan) (before : List Event) (circuit : CircuitId) (octets : List ℕ) (during : List Event) (service : ServiceId) : Type 0 where
  pub sender : service_of plan circuit ≡ Some service
  pub on : is_circuit_on plan (network_after plan before) circuit ≡ true
  pub frame : List ℕ
  pub formed : inner_at plan circuit octets ≡ Ok frame
  pub flooded : is_flooded_frame plan (network_after plan before) service frame (Frame circuit octets ∷ during) ≡ true
  pub spared : all_spare plan (next_origin (network_after plan before)) (step plan (network_after plan before) (Frame circuit octets)).state during ≡ true
  pub over : has_copies (state_after plan (step plan (network_after plan before) (Frame circuit octets)).state during) (next_origin (network_after plan before)) ≡ false

-- and so it leaves once at each circuit that is so decided, and nowhere else, over at most twelve segments
abbrev pub FloodsAsSurveyed : Type 0
FloodsAsSurveyed = (plan : Plan) (base after : List Event) (sender : CircuitId) (octets : List ℕ) (during more : List Event) (service : ServiceId)
    → HasRested plan base after service → IsRun plan ((base ++ after) ++ Frame sender octets ∷ (during ++ more)) → RestedWindow plan (base ++ after) sender octets during service
    → ((circuit : CircuitId)
    → times_left (next_origin (network_after plan (base ++ after))) circuit (run plan ((base ++ after) ++ Frame sender octets ∷ (during ++ more))).entries
    ≡ (if would_serve plan (network_after plan base) (faults_by plan after) service sender circuit then 1 else 0))
    × LeftWithin 12 (next_origin (network_after plan (base ++ after))) (run plan ((base ++ after) ++ Frame sender octets ∷ (during ++ more))).entries

-- two lists of faults take the same wires and circuits, and set the same numbers
pub record TakeTheSame (plan : Plan) (one other : List Fault) : Type 0 where
  pub wires : (wire : ℕ) (row : WirePlan) → is_taken one wire row ≡ is_taken other wire row
  pub numbers : (wire had : ℕ) → number_after wire one had ≡ number_after wire other had
  pub circuits : (circuit : ℕ) → is_circuit_taken one circuit ≡ is_circuit_taken other circuit

-- so one row holds of every order of the events, and of every event that makes the fault
abbrev pub SameFaults : Type 0
SameFaults = (plan : Plan) (before : NetworkState) (one other : List Fault) → TakeTheSame plan one other → (service : ServiceId) (sender circuit : CircuitId)
    → would_serve plan before one service sender circuit ≡ would_serve plan before other service sender circuit

-- a circuit that goes off takes itself alone
abbrev pub CircuitAlone : Type 0
CircuitAlone = (plan : Plan) (before : NetworkState) (faults : List Fault) (lost : CircuitId) (service : ServiceId) (sender circuit : CircuitId)
    → would_serve plan before (fault.Circuit lost ∷ faults) service sender circuit ≡ (would_serve plan before faults service sender circuit && not (circuit.0 == lost.0))

-- what a case of several faults changes, a case of some of them was the first to change: where those are told that are the first to change
-- something, each two sites that lose or find each other stand in one of them
abbrev pub ChangesAreTold : Type 0
ChangesAreTold = (plan : Plan) (before : NetworkState) (faults : List Fault) (service : ServiceId) (sender circuit : CircuitId)
    → (is_lost plan before service sender circuit faults ≡ true → IsTold (is_lost plan before service sender circuit) faults)
    × (is_found plan before service sender circuit faults ≡ true → IsTold (is_found plan before service sender circuit) faults)
