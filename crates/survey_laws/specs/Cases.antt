-- Which cases of several faults need not be told: those in which nothing changes that does not change by fewer of their faults.
use Rattle.std.specs.Prelude.{◌≡◌, ◌⊎◌, ◌<◌, ◌&&◌, not, Bool, true, false, List, [], ◌∷◌, length}
use Rattle.net_base.specs.declared.plan.Plan.{Plan}
use Rattle.net_base.specs.declared.plan.places.CircuitId.{CircuitId}
use Rattle.net_base.specs.declared.plan.places.ServiceId.{ServiceId}
use Rattle.network_model.specs.State.{NetworkState}
use Rattle.survey_laws.specs.declared.fault.Fault.{Fault}
use Rattle.survey_laws.specs.Would.{would_serve}

-- some of these faults, or all, or none, in their order
abbrev pub AreSomeOf : List Fault → List Fault → Type 0
AreSomeOf [] faults = Unit {0}
AreSomeOf (first ∷ few) [] = ⊥
AreSomeOf (first ∷ few) (one ∷ faults) = ((first ≡ one) × AreSomeOf few faults) ⊎ AreSomeOf (first ∷ few) faults

-- the faults make a site lose another one, which it reached without them, or find it, which it did not
abbrev pub is_lost : Plan → NetworkState → ServiceId → CircuitId → CircuitId → List Fault → Bool
is_lost plan before service sender circuit faults = would_serve plan before [] service sender circuit && not (would_serve plan before faults service sender circuit)

abbrev pub is_found : Plan → NetworkState → ServiceId → CircuitId → CircuitId → List Fault → Bool
is_found plan before service sender circuit faults = not (would_serve plan before [] service sender circuit) && would_serve plan before faults service sender circuit

-- these faults change something, and no fewer of them do
pub record ChangesFirst (changes : List Fault → Bool) (faults : List Fault) : Type 0 where
  pub here : changes faults ≡ true
  pub fewer : (few : List Fault) → AreSomeOf few faults → length few < length faults → changes few ≡ false

-- so it is with some of the faults of a case
pub record IsTold (changes : List Fault → Bool) (faults : List Fault) : Type 0 where
  pub told : List Fault
  pub some : AreSomeOf told faults
  pub first : ChangesFirst changes told
