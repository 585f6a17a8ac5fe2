-- What goes from neighbour to neighbour along a path, in the other direction than that of `seen_laws`: what the first edge has towards the
-- second goes on to the end of the path, where each switching point passes it on.
use Rattle.std.proofs.Common.{ℕ, List, [], ◌∷◌, Option, Some, ◌≡◌}
use Rattle.net_base.specs.declared.plan.places.EdgeId.{EdgeId}
use Rattle.flood_laws.proofs.MateLemmas.{Mates, OfEach, OfLast}

-- of the last two, from the last to the one before
abbrev pub OfLastBack : (ℕ → ℕ → Type 0) → List EdgeId → Type 0
OfLastBack P path = OfLast (λ a b. P b a) path

-- what holds of each two holds of the last two
pub last_of_each : (P : ℕ → ℕ → Type 0) (path : List EdgeId) → OfEach P path → OfLast P path
last_of_each P [] each = tt
last_of_each P (only ∷ []) each = tt
last_of_each P (before ∷ last ∷ []) each = each.0
last_of_each P (first ∷ next ∷ other ∷ rest) each = last_of_each P (next ∷ other ∷ rest) each.1

-- a switching point passes on what it has from one neighbour to the other one, where something holds of it and of that neighbour
abbrev pub GoesOn : (ℕ → ℕ → Option EdgeId) → (ℕ → ℕ → Type 0) → (ℕ → ℕ → Type 0) → Type 0
GoesOn f C P = (x w y : EdgeId) → f x.0 w.0 ≡ Some y → C x.0 y.0 → P w.0 x.0 → P x.0 y.0

-- so what the first edge has towards the second goes on to the end of the path
pub on_from_first : (f : ℕ → ℕ → Option EdgeId) (C P : ℕ → ℕ → Type 0) → GoesOn f C P → (first next : EdgeId) (rest : List EdgeId) → Mates f (first ∷ next ∷ rest) → OfEach C (first ∷ next ∷ rest)
    → P first.0 next.0 → OfEach P (first ∷ next ∷ rest)
on_from_first f C P on first next [] mates all here = (here, tt)
on_from_first f C P on first next (third ∷ rest) mates all here =
    (here, on_from_first f C P on next third rest mates.1 all.1 (on next first third mates.0.0 all.1.0 here))

-- and what the last one has towards the one before goes back to its start
pub back_from_last : (f : ℕ → ℕ → Option EdgeId) (C P : ℕ → ℕ → Type 0) → GoesOn f C P → (path : List EdgeId) → Mates f path → OfEach (λ a b. C b a) path → OfLastBack P path
    → OfEach (λ a b. P b a) path
back_from_last f C P on [] mates all last = tt
back_from_last f C P on (only ∷ []) mates all last = tt
back_from_last f C P on (before ∷ only ∷ []) mates all last = (last, tt)
back_from_last f C P on (before ∷ point ∷ next ∷ rest) mates all last =
    let later = back_from_last f C P on (point ∷ next ∷ rest) mates.1 all.1 last in
    (on point next before mates.0.1 all.0 later.0, later)
