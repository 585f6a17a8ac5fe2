-- Where frames left, and how often.
use Rattle.std.specs.Prelude.{◌≡◌, ◌≤◌, ◌<◌, ◌==◌, ◌&&◌, ◌||◌, nat_lt, ℕ, Bool, true, false, List, Option, Some, None, slice_get, if◌then◌else◌}
use Rattle.std.specs.List.{list_any}
use Rattle.hvpls_spokes.specs.PortSet.{holds_port}
use Rattle.net_base.specs.declared.plan.places.CircuitId.{CircuitId}
use Rattle.net_base.specs.declared.trace.entry.Entry.{Entry}
use Rattle.net_base.specs.declared.trace.entry.Entry.TheVariants.{Left}
use Rattle.seen_network.specs.Once.{times_seen}
use Rattle.seen_state.specs.Numbered.{Values, value_at}
use Rattle.window_audit.specs.declared.leavings.Leavings.{Leavings}

-- where the copies of frames left, and the place of each frame there, by the number under which it entered
pub record ExitLists : Type 0 where
  pub places : Values ℕ
  pub rows : List Leavings

-- each place is one of so many, and of one frame
pub record AreApart (places : Values ℕ) (count : ℕ) : Type 0 where
  pub within : (number place : ℕ) → value_at places number ≡ Some place → place < count
  pub apart : (a b place : ℕ) → value_at places a ≡ Some place → value_at places b ≡ Some place → a ≡ b

-- what stands at a place, where there is one
abbrev pub row_at : List Leavings → Option ℕ → Option Leavings
row_at rows None = None
row_at rows (Some place) = slice_get rows place

-- where the copies of a frame left
abbrev pub leavings_of : ExitLists → ℕ → Option Leavings
leavings_of exits origin = row_at exits.rows (value_at exits.places origin)

-- one left at the circuit
abbrev pub has_left : Option Leavings → ℕ → Bool
has_left None circuit = false
has_left (Some leavings) circuit = holds_port leavings.at circuit

-- two left at one circuit
abbrev pub is_again : Option Leavings → Bool
is_again None = false
is_again (Some leavings) = leavings.again

-- one had passed more than twelve segments
abbrev pub is_far : Option Leavings → Bool
is_far None = false
is_far (Some leavings) = leavings.far

-- a copy of the frame left that had passed more than twelve segments
abbrev pub left_far : ℕ → Entry → Bool
left_far origin (Left at from hops octets) = from == origin && nat_lt 12 hops
left_far origin e = false

-- a frame left at one circuit twice
pub record LeftTwice (origin : ℕ) (trace : List Entry) : Type 0 where
  pub circuit : CircuitId
  pub twice : 2 ≤ times_seen origin circuit trace

-- they tell where each frame left, whether it left twice at one circuit, and whether it had come too far
pub record HasExits (exits : ExitLists) (trace : List Entry) : Type 0 where
  pub at : (origin : ℕ) (circuit : CircuitId) → has_left (leavings_of exits origin) circuit.0 ≡ nat_lt 0 (times_seen origin circuit trace)
  pub beyond : (origin : ℕ) (circuit : CircuitId) → 512 ≤ circuit.0 → times_seen origin circuit trace ≡ 0
  pub once : (origin : ℕ) → is_again (leavings_of exits origin) ≡ false → (circuit : CircuitId) → times_seen origin circuit trace ≤ 1
  pub again : (origin : ℕ) → is_again (leavings_of exits origin) ≡ true → LeftTwice origin trace
  pub far : (origin : ℕ) → is_far (leavings_of exits origin) ≡ list_any (left_far origin) trace

-- a frame leaves at one of 512 circuits
abbrev pub IsAtPort : Entry → Type 0
IsAtPort (Left at from hops octets) = at.0 < 512
IsAtPort e = Unit {0}

-- a frame left once more
pub record HasLeft (at : CircuitId) (from hops : ℕ) (old new : ExitLists) : Type 0 where
  pub at_is : (origin circuit : ℕ) → has_left (leavings_of new origin) circuit ≡ (if origin == from && circuit == at.0 then true else has_left (leavings_of old origin) circuit)
  pub again_is : (origin : ℕ) → is_again (leavings_of new origin) ≡ (is_again (leavings_of old origin) || (origin == from && has_left (leavings_of old origin) at.0))
  pub far_is : (origin : ℕ) → is_far (leavings_of new origin) ≡ (is_far (leavings_of old origin) || (origin == from && nat_lt 12 hops))
