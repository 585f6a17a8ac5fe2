-- Where no element of a list passes a test, each of them fails.
use Rattle.std.proofs.Common.{◌≡◌, ◌<◌, ◌∙◌, ℕ, zero, suc, Bool, false, List, [], ◌∷◌, None, is_some, length, get_or, position, ap, sym, arith}
use Rattle.std.specs.List.{list_any}
use Rattle.std.proofs.lemmas.Bool.{or_parts}
use Rattle.hvpls_spokes.proofs.SearchLemmas.{any_found}

module _ {X : Type 0} (test : X → Bool) where
  fails_each : (xs : List X) → list_any test xs ≡ false → (i : ℕ) (d : X) → i < length xs → test (get_or xs i d) ≡ false
  fails_each [] none i d within = absurd (omega (arith, within))
  fails_each (x ∷ xs) none zero d within = (or_parts (test x) (list_any test xs) none).0
  fails_each (x ∷ xs) none (suc i) d within = fails_each xs (or_parts (test x) (list_any test xs) none).1 i d (omega (arith, within))

  -- where there is none, each element fails
  pub fails_all : (xs : List X) → position test xs ≡ None → (i : ℕ) (d : X) → i < length xs → test (get_or xs i d) ≡ false
  fails_all xs none i d within = fails_each xs (sym (any_found test xs) ∙ ap is_some none) i d within
