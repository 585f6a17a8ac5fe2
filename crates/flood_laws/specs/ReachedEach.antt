-- Exactly once where wires lead: a flooded frame that enters a quiet service, be it calm or not, and loses or repeats no copy leaves once
-- at each circuit that it reaches and at no other one, within so many segments.
use Rattle.std.specs.Prelude.{◌≡◌, ◌++◌, ℕ, true, false, List, ◌∷◌, Some, Ok, if◌then◌else◌}
use Rattle.net_base.specs.declared.plan.Plan.{Plan}
use Rattle.net_base.specs.declared.plan.places.CircuitId.{CircuitId}
use Rattle.net_base.specs.declared.plan.places.ServiceId.{ServiceId}
use Rattle.net_base.specs.declared.trace.entry.Entry.{Entry}
use Rattle.net_base.specs.declared.trace.event.Event.{Event}
use Rattle.net_base.specs.declared.trace.event.Event.TheVariants.{Frame}
use Rattle.net_base.specs.plan.Places.{service_of}
use Rattle.net_base.specs.trace.Isolated.{inner_at}
use Rattle.network_model.specs.Calm.{is_quiet}
use Rattle.network_model.specs.Frame.{next_origin}
use Rattle.network_model.specs.OnceEach.{LeftWithin, times_left}
use Rattle.network_model.specs.Reach.{is_circuit_on}
use Rattle.network_model.specs.Run.{run, state_after}
use Rattle.network_model.specs.State.{empty_network}
use Rattle.network_model.specs.Step.{step}
use Rattle.network_model.specs.Window.{all_spare, has_copies, is_flooded_frame}
use Rattle.flood_laws.specs.Reached.{is_reached}

-- the window of a frame that enters a quiet service: as Window, but for the wires, which may carry frames or not
pub record QuietWindow (plan : Plan) (before : List Event) (circuit : CircuitId) (octets : List ℕ) (during : List Event) (service : ServiceId) : Type 0 where
  pub sender : service_of plan circuit ≡ Some service
  pub on : is_circuit_on plan (state_after plan (empty_network plan) before) circuit ≡ true
  pub frame : List ℕ
  pub formed : inner_at plan circuit octets ≡ Ok frame
  pub quiet : is_quiet plan (state_after plan (empty_network plan) before) service ≡ true
  pub flooded : is_flooded_frame plan (state_after plan (empty_network plan) before) service frame (Frame circuit octets ∷ during) ≡ true
  pub spared : all_spare plan (next_origin (state_after plan (empty_network plan) before)) (step plan (state_after plan (empty_network plan) before) (Frame circuit octets)).state during ≡ true
  pub over : has_copies (state_after plan (step plan (state_after plan (empty_network plan) before) (Frame circuit octets)).state during) (next_origin (state_after plan (empty_network plan) before)) ≡ false

-- the frame leaves once at each circuit that it reaches, and nowhere else
pub record ServedReached (most : ℕ) (plan : Plan) (before : List Event) (sender : CircuitId) (service : ServiceId) (entries : List Entry) : Type 0 where
  pub once : (circuit : CircuitId)
      → times_left (next_origin (state_after plan (empty_network plan) before)) circuit entries
      ≡ (if is_reached plan (state_after plan (empty_network plan) before) service sender circuit then 1 else 0)
  pub within : LeftWithin most (next_origin (state_after plan (empty_network plan) before)) entries

-- every such window of the run: the events are those before the frame, the frame, those of the window and those after it
abbrev pub ReachedEach : ℕ → Plan → List Event → Type 0
ReachedEach most plan events = (before : List Event) (circuit : CircuitId) (octets : List ℕ) (during after : List Event) (service : ServiceId)
    → events ≡ before ++ Frame circuit octets ∷ (during ++ after)
    → QuietWindow plan before circuit octets during service
    → ServedReached most plan before circuit service (run plan events).entries
