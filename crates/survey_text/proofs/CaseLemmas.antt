-- How many cases there are, counted fault by fault.
use Rattle.std.proofs.Common.{◌≡◌, ◌+◌, ◌∙◌, if◌then◌else◌, ℕ, zero, suc, Bool, true, false, List, [], ◌∷◌, ◌++◌, length, nat_lt, refl, ap, arith, sym}
use Rattle.std.proofs.lemmas.List.{append-nil, length-append}
use Rattle.net_values.proofs.NumberLemmas.{suc_is_add}
use Rattle.survey_laws.specs.declared.fault.Fault.{Fault}
use Rattle.survey_text.specs.Cases.{cases_of, pairs, triples, triples_with, with_one}

-- how many pairs, and how many triples, so many faults make
abbrev pub pairs_at : ℕ → ℕ
pairs_at zero = 0
pairs_at (suc n) = n + pairs_at n

abbrev pub triples_at : ℕ → ℕ
triples_at zero = 0
triples_at (suc n) = pairs_at n + triples_at n

pub pairs_next : (n : ℕ) → pairs_at (n + 1) ≡ pairs_at n + n
pairs_next n = ap pairs_at (sym (suc_is_add n)) ∙ omega arith

pub triples_next : (n : ℕ) → triples_at (n + 1) ≡ triples_at n + pairs_at n
triples_next n = ap triples_at (sym (suc_is_add n)) ∙ omega arith

with_count : (front faults : List Fault) → length (with_one front faults) ≡ length faults
with_count front [] = refl
with_count front (next ∷ faults) = ap suc (with_count front faults)

pairs_count : (faults : List Fault) → length (pairs faults) ≡ pairs_at (length faults)
pairs_count [] = refl
pairs_count (one ∷ faults) = length-append (with_one (one ∷ []) faults) (pairs faults) ∙ both (pairs_count faults) where
  both : length (pairs faults) ≡ pairs_at (length faults) → length (with_one (one ∷ []) faults) + length (pairs faults) ≡ length faults + pairs_at (length faults)
  both later = λ i. with_count (one ∷ []) faults i + later i

with_two_count : (one : Fault) (faults : List Fault) → length (triples_with one faults) ≡ pairs_at (length faults)
with_two_count one [] = refl
with_two_count one (next ∷ faults) = length-append (with_one (one ∷ next ∷ []) faults) (triples_with one faults) ∙ both (with_two_count one faults) where
  both : length (triples_with one faults) ≡ pairs_at (length faults) → length (with_one (one ∷ next ∷ []) faults) + length (triples_with one faults) ≡ length faults + pairs_at (length faults)
  both later = λ i. with_count (one ∷ next ∷ []) faults i + later i

triples_count : (faults : List Fault) → length (triples faults) ≡ triples_at (length faults)
triples_count [] = refl
triples_count (one ∷ faults) = length-append (triples_with one faults) (triples faults) ∙ both (triples_count faults) where
  both : length (triples faults) ≡ triples_at (length faults) → length (triples_with one faults) + length (triples faults) ≡ pairs_at (length faults) + triples_at (length faults)
  both later = λ i. with_two_count one faults i + later i

pub counted : (most : ℕ) (list : List Fault) (ones twos threes all : ℕ) → length list ≡ ones → twos ≡ pairs_at ones → threes ≡ triples_at ones
    → all ≡ (if nat_lt most 2 then ones else if nat_lt most 3 then ones + twos else ones + (twos + threes)) → all ≡ length (cases_of most list)
counted most list ones twos threes all is_ones is_twos is_threes is =
    is ∙ (by (nat_lt most 2) (nat_lt most 3) ∙ sym (length-append (with_one [] list) (if nat_lt most 2 then [] else if nat_lt most 3 then pairs list else pairs list ++ triples list)))
  where
    one_by_one : length (with_one [] list) ≡ ones
    one_by_one = with_count [] list ∙ is_ones

    two_by_two : length (pairs list) ≡ twos
    two_by_two = pairs_count list ∙ (ap pairs_at is_ones ∙ sym is_twos)

    three_by_three : length (triples list) ≡ threes
    three_by_three = triples_count list ∙ (ap triples_at is_ones ∙ sym is_threes)

    by : (p q : Bool) → (if p then ones else if q then ones + twos else ones + (twos + threes))
        ≡ length (with_one [] list) + length (if p then [] else if q then pairs list else pairs list ++ triples list)
    by true q = omega (arith, one_by_one)
    by false true = omega (arith, one_by_one, two_by_two)
    by false false = omega (arith, one_by_one, two_by_two, three_by_three, length-append (pairs list) (triples list))

pub ruleset case_steps = (pairs_next, triples_next, counted)
