-- Names, and their places in a list.
use Rattle.std.specs.Prelude.{◌≡◌, position, ℕ, Bool, List, Option}
use Rattle.std.specs.Map.{lookup}
use Rattle.std.specs.Option.{is_none}
use Rattle.std.specs.Str.{bytes_eq}
use Rattle.net_base.specs.plan.Faults.{first_clash}
use denote.Ref.{Bor}

-- the place of the first such name
abbrev pub place_in : List (List ℕ) → List ℕ → Option ℕ
place_in names name = position (bytes_eq name) names

-- the entries give each name its place
pub record FindsNames (names : List (List ℕ)) (entries : List (Bor (List ℕ) × ℕ)) : Type 0 where
  pub place : (name : Bor (List ℕ)) → lookup (λ k. bytes_eq name.now k.now) entries ≡ place_in names name.now

-- each name stands once
abbrev pub are_distinct : List (List ℕ) → Bool
are_distinct names = is_none (first_clash bytes_eq names)
