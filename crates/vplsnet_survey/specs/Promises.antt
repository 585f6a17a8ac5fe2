-- What holds of what a survey tells, for the network that some events leave: failures behind them, in whatever order.
use Rattle.std.specs.Prelude.{◌≡◌, ◌++◌, ◌&&◌, ◌==◌, not, ℕ, true, false, List, ◌∷◌, Some, if◌then◌else◌}
use Rattle.net_base.specs.declared.plan.Plan.{Plan}
use Rattle.net_base.specs.declared.plan.circuit_plan.CircuitPlan.{CircuitPlan}
use Rattle.net_base.specs.declared.plan.places.CircuitId.{CircuitId}
use Rattle.net_base.specs.declared.plan.places.ServiceId.{ServiceId}
use Rattle.net_base.specs.declared.trace.event.Event.{Event}
use Rattle.net_base.specs.declared.trace.event.Event.TheVariants.{Frame}
use Rattle.net_base.specs.plan.Places.{circuit_row}
use Rattle.network_model.specs.Frame.{next_origin}
use Rattle.network_model.specs.OnceEach.{LeftWithin, times_left}
use Rattle.network_model.specs.Reach.{is_site}
use Rattle.network_model.specs.Run.{run}
use Rattle.flight_laws.specs.Laws.{IsRun, network_after}
use Rattle.flood_laws.specs.Reached.{is_reached}
use Rattle.survey_laws.specs.declared.fault.Fault.{Fault}
use Rattle.survey_laws.specs.declared.fault.Fault.TheVariants as fault
use Rattle.survey_laws.specs.Cases.{IsTold, is_found, is_lost}
use Rattle.survey_laws.specs.Faults.{all_take_or_pass, faults_by, is_circuit_taken}
use Rattle.survey_laws.specs.Laws.{AreExact, HasRested, RestedWindow, TakeTheSame}
use Rattle.survey_laws.specs.Would.{would_reach, would_serve}

-- what failures do to the network that the events of a base leave
pub record KeepsFaults (plan : Plan) (base : List Event) : Type 0 where
  -- failures are exact: whatever the state in which they come, and whatever else goes on, they leave what the base has, less what they take
  pub exact : (after : List Event) → IsRun plan (base ++ after) → all_take_or_pass after ≡ true
      → AreExact plan (network_after plan base) (network_after plan (base ++ after)) (faults_by plan after)
  -- once all has settled behind them, whom a flooded frame reaches is what is worked out from the base and from them
  pub rests : (after : List Event) (service : ServiceId) → HasRested plan base after service → (sender circuit : CircuitId)
      → is_reached plan (network_after plan (base ++ after)) service sender circuit ≡ would_serve plan (network_after plan base) (faults_by plan after) service sender circuit
  -- and a flooded frame that enters then leaves once at each of these circuits, and nowhere else, within twelve segments
  pub floods : (after : List Event) (sender : CircuitId) (octets : List ℕ) (during more : List Event) (service : ServiceId) → HasRested plan base after service
      → IsRun plan ((base ++ after) ++ Frame sender octets ∷ (during ++ more)) → RestedWindow plan (base ++ after) sender octets during service
      → ((circuit : CircuitId)
      → times_left (next_origin (network_after plan (base ++ after))) circuit (run plan ((base ++ after) ++ Frame sender octets ∷ (during ++ more))).entries
      ≡ (if would_serve plan (network_after plan base) (faults_by plan after) service sender circuit then 1 else 0))
      × LeftWithin 12 (next_origin (network_after plan (base ++ after))) (run plan ((base ++ after) ++ Frame sender octets ∷ (during ++ more))).entries
  -- of two sites it is what their edges would reach, as the text tells it
  pub sites : (faults : List Fault) (service : ServiceId) (sender circuit : CircuitId) (from to : CircuitPlan) → circuit_row plan sender ≡ Some from → circuit_row plan circuit ≡ Some to
      → is_site plan (network_after plan base) service circuit ≡ true → is_circuit_taken faults circuit.0 ≡ false → circuit.0 == sender.0 ≡ false
      → would_serve plan (network_after plan base) faults service sender circuit ≡ would_reach plan (network_after plan base) faults service from.edge.0 to.edge.0
  -- so one case holds of every order of its events, and of every event that makes a fault
  pub same : (one other : List Fault) → TakeTheSame plan one other → (service : ServiceId) (sender circuit : CircuitId)
      → would_serve plan (network_after plan base) one service sender circuit ≡ would_serve plan (network_after plan base) other service sender circuit
  -- a circuit that goes off takes itself alone
  pub alone : (faults : List Fault) (lost : CircuitId) (service : ServiceId) (sender circuit : CircuitId)
      → would_serve plan (network_after plan base) (fault.Circuit lost ∷ faults) service sender circuit
      ≡ (would_serve plan (network_after plan base) faults service sender circuit && not (circuit.0 == lost.0))
  -- and what a case of several faults changes, some case that is told was the first to change
  pub told : (faults : List Fault) (service : ServiceId) (sender circuit : CircuitId)
      → (is_lost plan (network_after plan base) service sender circuit faults ≡ true → IsTold (is_lost plan (network_after plan base) service sender circuit) faults)
      × (is_found plan (network_after plan base) service sender circuit faults ≡ true → IsTold (is_found plan (network_after plan base) service sender circuit) faults)
