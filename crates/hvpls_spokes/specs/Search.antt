-- What a search ends at.
use Rattle.std.specs.Prelude.{ℕ, Bool, Option, Some, None, if◌then◌else◌}

-- the place, where what stands there passes the test
abbrev pub place_if : {X : Type 0} → (X → Bool) → ℕ → Option X → Option ℕ
place_if test place None = None
place_if test place (Some x) = if test x then Some place else None

-- what stands there, where it passes the test
abbrev pub kept_if : {X : Type 0} → (X → Bool) → Option X → Option X
kept_if test None = None
kept_if test (Some x) = if test x then Some x else None
