-- Which edges the core edges meet, by the pairs that are meshed.
use Rattle.std.specs.Prelude.{◌≡◌, ◌==◌, ◌&&◌, ◌||◌, nat_lt, ℕ, Bool, true, false, List, Option, Some, None, length, slice_index_or}
use Rattle.net_base.specs.declared.plan.places.EdgeId.{EdgeId}
use Rattle.survey_reach.specs.declared.met.Met.{Met}
use Rattle.survey_reach.specs.Reach.{place_of}
use Rattle.survey_reach.specs.Words.{has_pair, in_word}

-- two core edges are one, or meshed, where there are both
abbrev pub meet : List ℕ → Option ℕ → Option ℕ → Bool
meet meshes None other = false
meet meshes (Some a) None = false
meet meshes (Some a) (Some b) = a == b || has_pair meshes a b

-- the core edge of an edge
abbrev pub core_at : List (Option EdgeId) → ℕ → Option ℕ
core_at cores edge = place_of (slice_index_or cores edge None)

-- a core edge, where there is one, meets that of an edge
abbrev pub meets : List ℕ → List (Option EdgeId) → Option ℕ → ℕ → Bool
meets meshes cores None edge = false
meets meshes cores (Some core) edge = nat_lt edge (length cores) && meet meshes (Some core) (core_at cores edge)

-- an edge reaches another one: it is the same, or its core edge meets the other one's
abbrev pub meets_by : List ℕ → List (Option EdgeId) → ℕ → ℕ → Bool
meets_by meshes cores a b = b == a || meets meshes cores (core_at cores a) b

-- what is known of core edges is what they meet
pub record AreMet (meshes : List ℕ) (cores : List (Option EdgeId)) (met : Met) : Type 0 where
  pub each : (core : ℕ) → in_word met.known core ≡ true → (edge : ℕ) → has_pair met.rows core edge ≡ meets meshes cores (Some core) edge
