-- One value more or less, at its place or among the others.
use Rattle.std.proofs.Common.{◌≡◌, ◌==◌, ◌∙◌, ℕ, Bool, true, false, List, Option, Some, cond, refl, ap, arith}
use Rattle.std.proofs.lemmas.Bool.{eqb-true}
use Rattle.std.proofs.lemmas.Bool.Decides.{nat_tests}
use Rattle.std.specs.BTreeMap.{is_at}
use Rattle.std.specs.Map.{lookup}
use Rattle.std.specs.Ordering.{nat_cmp}
use Rattle.numbered_row.specs.Places.{Places, has_place, placed_at}
use Rattle.numbered_row.proofs.PlaceLemmas.{placed_past}
use Rattle.seen_state.specs.Numbered.{Values, or_other, value_at}

same_number : (a x : ℕ) → is_at (nat_cmp a) x ≡ (x == a)
same_number a x = grind (arith, nat_tests)

-- a value at its place
pub put_placed : {V : Type 0} (old new : Places V) (others : List (ℕ × V)) (number : ℕ) (value : V) → ((n : ℕ) → placed_at new n ≡ cond (n == number) (Some value) (placed_at old n))
    → (n : ℕ) → value_at (record { row = new; others = others }) n ≡ cond (n == number) (Some value) (value_at (record { row = old; others = others }) n)
put_placed old new others number value put n = ap (λ o. or_other o (lookup (is_at (nat_cmp n)) others)) (put n) ∙ by (n == number) where
  by : (b : Bool) → or_other (cond b (Some value) (placed_at old n)) (lookup (is_at (nat_cmp n)) others) ≡ cond b (Some value) (or_other (placed_at old n) (lookup (is_at (nat_cmp n)) others))
  by true = refl
  by false = refl

-- a value among the others
pub put_other : {V : Type 0} (row : Places V) (old new : List (ℕ × V)) (number : ℕ) (value : V) → has_place row number ≡ false
    → ((q : ℕ) → lookup (is_at (nat_cmp q)) new ≡ cond (is_at (nat_cmp number) q) (Some value) (lookup (is_at (nat_cmp q)) old))
    → (n : ℕ) → value_at (record { row = row; others = new }) n ≡ cond (n == number) (Some value) (value_at (record { row = row; others = old }) n)
put_other row old new number value out put n = ap (or_other (placed_at row n)) (put n ∙ ap (λ b. cond b (Some value) (lookup (is_at (nat_cmp n)) old)) (same_number number n)) ∙ by (n == number) refl where
  by : (b : Bool) → (n == number) ≡ b → or_other (placed_at row n) (cond b (Some value) (lookup (is_at (nat_cmp n)) old)) ≡ cond b (Some value) (or_other (placed_at row n) (lookup (is_at (nat_cmp n)) old))
  by true here = ap (λ o. or_other o (Some value)) (ap (placed_at row) (eqb-true n number here) ∙ placed_past row.first row.places number out)
  by false away = refl

-- as before
pub values_kept : {V : Type 0} (old new : Places V) (others : List (ℕ × V)) → ((n : ℕ) → placed_at new n ≡ placed_at old n)
    → (n : ℕ) → value_at (record { row = new; others = others }) n ≡ value_at (record { row = old; others = others }) n
values_kept old new others kept n = ap (λ o. or_other o (lookup (is_at (nat_cmp n)) others)) (kept n)

-- a value more, where each was as before first
pub put_behind : {V : Type 0} (old between new : Values V) (number : ℕ) (value : V) → ((n : ℕ) → value_at between n ≡ value_at old n) → ((n : ℕ) → value_at new n ≡ cond (n == number) (Some value) (value_at between n))
    → (n : ℕ) → value_at new n ≡ cond (n == number) (Some value) (value_at old n)
put_behind {V} old between new number value kept put n = put n ∙ ap (λ (v : Option V). cond (n == number) (Some value) v) (kept n)

pub ruleset numbered_puts = (put_placed, put_other)
