-- What a sink keeps.
use Rattle.std.specs.Prelude.{ℕ, List}

-- the octets that a sink took, and how many of its calls failed
pub record Kept : Type 0 where
  pub octets : List ℕ
  pub faults : ℕ
