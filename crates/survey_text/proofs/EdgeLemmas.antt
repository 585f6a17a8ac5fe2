-- Edges one by one.
use Rattle.std.proofs.Common.{◌≡◌, ◌≢◌, ◌<◌, ◌+◌, ◌*◌, ◌&&◌, ◌||◌, ◌∙◌, if◌then◌else◌, nat_eq, nat_lt, ℕ, Bool, true, false, List, [], ◌∷◌, length, drop, refl, ap, arith, sym}
use Rattle.std.proofs.lemmas.Bool.{eqb-true, le-ltb, lt-ltb}
use Rattle.std.proofs.lemmas.Bool.Decides.{nat_tests}
use Rattle.std.proofs.lemmas.List.{at_drop_more}
use Rattle.net_values.proofs.NumberLemmas.{lt_next}
use Rattle.net_base.specs.declared.plan.edge_plan.EdgePlan.{EdgePlan}
use Rattle.survey_reach.specs.Words.{in_word}
use Rattle.survey_reach.proofs.WordLemmas.{none_in_zero as none_on}
use Rattle.survey_text.specs.Relations.{any_edge, pairs_where, sites_where}

pub any_step : (test : ℕ → Bool) (place i : ℕ) (rows : List EdgePlan) → i < length rows → any_edge test place (drop i rows) ≡ test place || any_edge test (place + 1) (drop (i + 1) rows)
any_step test place i [] h = absurd (omega (arith, h))
any_step test place i (row ∷ rows) h = at_drop_more (any_edge test place) (row ∷ rows) i row h

pub sites_step : (count : ℕ → ℕ) (test : ℕ → Bool) (place i : ℕ) (rows : List EdgePlan) → i < length rows
    → sites_where count test place (drop i rows) ≡ (if test place then count place else 0) + sites_where count test (place + 1) (drop (i + 1) rows)
sites_step count test place i [] h = absurd (omega (arith, h))
sites_step count test place i (row ∷ rows) h = at_drop_more (sites_where count test place) (row ∷ rows) i row h

pub pairs_step : (count : ℕ → ℕ) (pair : ℕ → ℕ → Bool) (place i : ℕ) (rows : List EdgePlan) → i < length rows
    → pairs_where count pair place (drop i rows) ≡ count place * sites_where count (pair place) (place + 1) (drop (i + 1) rows) + pairs_where count pair (place + 1) (drop (i + 1) rows)
pairs_step count pair place i [] h = absurd (omega (arith, h))
pairs_step count pair place i (row ∷ rows) h = at_drop_more (pairs_where count pair place) (row ∷ rows) i row h

-- the word without a bit has no edge
pub none_in_zero : (place : ℕ) (rows : List EdgePlan) → any_edge (in_word 0) place rows ≡ false
none_in_zero place [] = refl
none_in_zero place (row ∷ rows) = ap (λ (b : Bool). b || any_edge (in_word 0) (place + 1) rows) (none_on place) ∙ none_in_zero (place + 1) rows

-- no edge passes a test that none does
pub none_passes : (test : ℕ → Bool) (place : ℕ) (rows : List EdgePlan) → ((k : ℕ) → test k ≡ false) → any_edge test place rows ≡ false
none_passes test place [] none = refl
none_passes test place (row ∷ rows) none = ap (λ (b : Bool). b || any_edge test (place + 1) rows) (none place) ∙ none_passes test (place + 1) rows none

pub any_same : (test other : ℕ → Bool) (place : ℕ) (rows : List EdgePlan) → ((k : ℕ) → test k ≡ other k) → any_edge test place rows ≡ any_edge other place rows
any_same test other place rows same = ap (λ (t : ℕ → Bool). any_edge t place rows) (λ i. λ k. same k i)

pub sites_same : (count : ℕ → ℕ) (test other : ℕ → Bool) (place : ℕ) (rows : List EdgePlan) → ((k : ℕ) → test k ≡ other k) → sites_where count test place rows ≡ sites_where count other place rows
sites_same count test other place rows same = ap (λ (t : ℕ → Bool). sites_where count t place rows) (λ i. λ k. same k i)

-- ---- a word of the edges that pass a test

pub cut_start : (test : ℕ → Bool) (k : ℕ) → in_word 0 k ≡ nat_lt k 0 && test k
cut_start test k = none_on k ∙ sym (ap (λ (t : Bool). t && test k) (le-ltb k 0 (omega arith)))

pub cut_more : (test : ℕ → Bool) (edge old new : ℕ) → ((k : ℕ) → in_word old k ≡ nat_lt k edge && test k) → test edge ≡ true → in_word new edge ≡ true
    → ((k : ℕ) → k ≢ edge → in_word new k ≡ in_word old k) → (k : ℕ) → in_word new k ≡ nat_lt k (edge + 1) && test k
cut_more test edge old new so_far passes on others k = by (nat_eq k edge) refl
  where
    by : (b : Bool) → nat_eq k edge ≡ b → in_word new k ≡ nat_lt k (edge + 1) && test k
    by true same =
        let here : k ≡ edge = eqb-true k edge same in
        let below : nat_lt k (edge + 1) ≡ true = lt-ltb k (edge + 1) (omega (arith, here)) in
        (ap (in_word new) here ∙ on) ∙ sym ((λ i. below i && test k) ∙ (ap test here ∙ passes))
    by false apart = others k (grind (arith, nat_tests, apart)) ∙ (so_far k ∙ ap (λ (t : Bool). t && test k) (sym (lt_next k edge apart)))

pub cut_other : (test : ℕ → Bool) (edge old : ℕ) → ((k : ℕ) → in_word old k ≡ nat_lt k edge && test k) → test edge ≡ false → (k : ℕ) → in_word old k ≡ nat_lt k (edge + 1) && test k
cut_other test edge old so_far fails k = so_far k ∙ by (nat_eq k edge) refl
  where
    none : (b : Bool) → b && false ≡ false
    none true = refl
    none false = refl

    by : (b : Bool) → nat_eq k edge ≡ b → nat_lt k edge && test k ≡ nat_lt k (edge + 1) && test k
    by true same =
        let off : test k ≡ false = ap test (eqb-true k edge same) ∙ fails in
        ((λ i. nat_lt k edge && off i) ∙ none (nat_lt k edge)) ∙ sym ((λ i. nat_lt k (edge + 1) && off i) ∙ none (nat_lt k (edge + 1)))
    by false apart = ap (λ (t : Bool). t && test k) (sym (lt_next k edge apart))

pub cut_end : (test : ℕ → Bool) (word edge count : ℕ) → count ≡ edge → ((k : ℕ) → in_word word k ≡ nat_lt k edge && test k) → (k : ℕ) → in_word word k ≡ nat_lt k count && test k
cut_end test word edge count is so_far k = so_far k ∙ ap (λ (n : ℕ). nat_lt k n && test k) (sym is)
