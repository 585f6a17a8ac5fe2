-- An edge stands inside a path where it stands before its last one, behind its first one.
use Rattle.std.proofs.Common.{◌≡◌, ◌<◌, ◌≤◌, ◌+◌, ◌∙◌, ℕ, zero, suc, false, List, [], ◌∷◌, length, drop, refl, sym, arith}
use Rattle.net_base.specs.declared.plan.places.EdgeId.{EdgeId}
use Rattle.net_base.specs.trace.Split.{is_before_last, is_inside}

-- an edge of which so many others stand in front is not before the last one, where no two are left
few_left : (edge : EdgeId) (path : List EdgeId) → length path ≤ 1 → is_before_last edge path ≡ false
few_left edge [] few = refl
few_left edge (e ∷ []) few = refl
few_left edge (e ∷ (next ∷ rest)) few = absurd (omega (arith, few))

inside_is : (edge : EdgeId) (path : List EdgeId) → is_inside edge path ≡ is_before_last edge (drop 1 path)
inside_is edge [] = refl
inside_is edge (first ∷ rest) = refl

dropped : (n : ℕ) (path : List EdgeId) → length path ≤ n + 1 → length (drop n path) ≤ 1
dropped zero path few = omega (arith, few)
dropped (suc n) [] few = omega arith
dropped (suc n) (e ∷ path) few = dropped n path (omega (arith, few))

pub none_inside : (edge : EdgeId) (path : List EdgeId) (at : ℕ) → (at + 1 < length path → ⊥) → is_before_last edge (drop at path) ≡ is_before_last edge (drop 1 path) → is_inside edge path ≡ false
none_inside edge path at out same = inside_is edge path ∙ (sym same ∙ few_left edge (drop at path) (dropped at path (few (length path) (at + 1) out))) where
  few : (a b : ℕ) → (b < a → ⊥) → a ≤ b
  few a b not = omega (arith, not)
