-- Exactly once: a flooded frame that enters a calm service and loses or repeats no copy reaches every other site of the
-- service exactly once, within so many segments.
use Rattle.std.specs.Prelude.{◌≡◌, ◌≤◌, ◌+◌, ◌++◌, ◌==◌, ◌&&◌, not, ℕ, List, [], ◌∷◌, if◌then◌else◌}
use Rattle.net_base.specs.declared.plan.Plan.{Plan}
use Rattle.net_base.specs.declared.trace.event.Event.{Event}
use Rattle.net_base.specs.declared.trace.event.Event.TheVariants.{Frame}
use Rattle.net_base.specs.declared.trace.entry.Entry.{Entry}
use Rattle.net_base.specs.declared.trace.entry.Entry.TheVariants.{Left}
use Rattle.net_base.specs.declared.plan.places.CircuitId.{CircuitId}
use Rattle.net_base.specs.declared.plan.places.ServiceId.{ServiceId}
use Rattle.network_model.specs.State.{empty_network}
use Rattle.network_model.specs.Run.{run, state_after}
use Rattle.network_model.specs.Reach.{is_site}
use Rattle.network_model.specs.Frame.{next_origin}
use Rattle.network_model.specs.Window.{Window}

-- how often a copy of the frame left at the circuit
abbrev pub times_left : ℕ → CircuitId → List Entry → ℕ
times_left origin circuit [] = 0
times_left origin circuit (Left at from hops octets ∷ es) = (if from == origin && at.0 == circuit.0 then 1 else 0) + times_left origin circuit es
times_left origin circuit (e ∷ es) = times_left origin circuit es

-- each copy of the frame that left had passed at most so many segments
abbrev pub LeftWithin : ℕ → ℕ → List Entry → Type 0
LeftWithin most origin [] = Unit {0}
LeftWithin most origin (Left at from hops octets ∷ es) = (from ≡ origin → hops ≤ most) × LeftWithin most origin es
LeftWithin most origin (e ∷ es) = LeftWithin most origin es

-- once at each site of the service but the sender, and nowhere else
pub record ServedOnce (most : ℕ) (plan : Plan) (before : List Event) (sender : CircuitId) (service : ServiceId) (entries : List Entry) : Type 0 where
  pub once : (circuit : CircuitId)
      → times_left (next_origin (state_after plan (empty_network plan) before)) circuit entries
      ≡ (if is_site plan (state_after plan (empty_network plan) before) service circuit && not (circuit.0 == sender.0) then 1 else 0)
  pub within : LeftWithin most (next_origin (state_after plan (empty_network plan) before)) entries

-- every window of the run: the events are those before the frame, the frame, those of the window and those after it
abbrev pub OnceEach : ℕ → Plan → List Event → Type 0
OnceEach most plan events = (before : List Event) (circuit : CircuitId) (octets : List ℕ) (during after : List Event) (service : ServiceId)
    → events ≡ before ++ Frame circuit octets ∷ (during ++ after)
    → Window plan before circuit octets during service
    → ServedOnce most plan before circuit service (run plan events).entries
