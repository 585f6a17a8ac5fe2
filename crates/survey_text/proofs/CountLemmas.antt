-- Numbers of pairs.
use Rattle.std.proofs.Common.{◌≡◌, ◌≤◌, ◌+◌, ◌*◌, ◌∙◌, if◌then◌else◌, ℕ, Bool, true, false, List, [], ◌∷◌, drop, refl, ap, arith}
use Rattle.net_values.proofs.NumberLemmas.{from_none}
use Rattle.net_base.specs.declared.plan.edge_plan.EdgePlan.{EdgePlan}
use Rattle.survey_reach.specs.Words.{in_word}
use Rattle.survey_reach.proofs.WordLemmas.{none_in_zero as none_on}
use Rattle.survey_text.specs.Relations.{sites_where}

pub product_fits : (a b : ℕ) → a ≤ 65535 → b ≤ 4194240 → a * b ≤ 274869518400
product_fits a b few most = grind (arith, few, most)

none_at : (count : ℕ → ℕ) (place : ℕ) (rows : List EdgePlan) → sites_where count (in_word 0) place rows ≡ 0
none_at count place [] = refl
none_at count place (row ∷ rows) = by (in_word 0 place) (count place) (sites_where count (in_word 0) (place + 1) rows) (none_on place) (none_at count (place + 1) rows)
  where
    by : (b : Bool) (n m : ℕ) → b ≡ false → m ≡ 0 → (if b then n else 0) + m ≡ 0
    by true n m e f = absurd (cc e)
    by false n m e f = from_none m ∙ f

zero_times : (a b : ℕ) → b ≡ 0 → a * b ≡ 0
zero_times a b e = grind (arith, e)

pub none_behind : (count : ℕ → ℕ) (a place : ℕ) (rows : List EdgePlan) → a * sites_where count (in_word 0) place rows ≡ 0
none_behind count a place rows = zero_times a _ (none_at count place rows)
