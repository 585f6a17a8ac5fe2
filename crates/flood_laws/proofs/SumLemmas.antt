-- Sums over the wires of a plan by their places and rows.
use Rattle.std.proofs.Common.{◌≡◌, ◌+◌, ◌*◌, ◌∙◌, ◌⊎◌, ℕ, zero, suc, Bool, true, false, List, [], ◌∷◌, Some, cond, slice_get, refl, ap, sym, subst, nat_eq, zero-add, add-zero, arith, inl, inr}
use Rattle.std.proofs.lemmas.Bool.{cases_Bool}
use Rattle.std.proofs.lemmas.Bool.Decides.{nat_tests}
use Rattle.net_values.proofs.BoolLemmas.{clash_at, first_fails, second_fails}
use Rattle.net_values.proofs.NumberLemmas.{step_into}
use Rattle.net_base.specs.declared.plan.wire_plan.WirePlan.{WirePlan}
use Rattle.net_base.specs.plan.Roles.{any_wire, count_wires}
use Rattle.flood_laws.specs.Due.{sum_wires}

same_from : (f g : ℕ → WirePlan → ℕ) (place : ℕ) (rows : List WirePlan)
    → ((k : ℕ) (row : WirePlan) → slice_get rows k ≡ Some row → f (place + k) row ≡ g (place + k) row) → sum_wires f place rows ≡ sum_wires g place rows
same_from f g place [] same = refl
same_from f g place (row ∷ rows) same =
    let none : place + 0 ≡ place = add-zero place in
    let here : f place row ≡ g place row = subst (λ n. f n row ≡ g n row) none (same 0 row refl) in
    let rest : sum_wires f (place + 1) rows ≡ sum_wires g (place + 1) rows =
    same_from f g (place + 1) rows (λ k later is. subst (λ n. f n later ≡ g n later) (step_into place k) (same (suc k) later is)) in
    omega (arith, here, rest)

-- two sums agree where they agree at each wire
pub sum-same : (f g : ℕ → WirePlan → ℕ) (rows : List WirePlan) → ((k : ℕ) (row : WirePlan) → slice_get rows k ≡ Some row → f k row ≡ g k row) → sum_wires f 0 rows ≡ sum_wires g 0 rows
sum-same f g rows same = same_from f g 0 rows (λ k row is. subst (λ n. f n row ≡ g n row) (sym (zero-add k)) (same k row is))

none_from : (place : ℕ) (rows : List WirePlan) → sum_wires (λ k row. 0) place rows ≡ 0
none_from place [] = refl
none_from place (row ∷ rows) = omega (arith, none_from (place + 1) rows)

-- the sum of nothing at each wire
pub sum-none : (f : ℕ → WirePlan → ℕ) (rows : List WirePlan) → ((k : ℕ) (row : WirePlan) → slice_get rows k ≡ Some row → f k row ≡ 0) → sum_wires f 0 rows ≡ 0
sum-none f rows none = sum-same f (λ k row. 0) rows none ∙ none_from 0 rows

-- the sum of two together
pub sum-add : (f g : ℕ → WirePlan → ℕ) (place : ℕ) (rows : List WirePlan) → sum_wires (λ k row. f k row + g k row) place rows ≡ sum_wires f place rows + sum_wires g place rows
sum-add f g place [] = refl
sum-add f g place (row ∷ rows) = omega (arith, sum-add f g (place + 1) rows)

-- the sum over the wires that pass a test is their count, so many times
pub sum-times : (test : ℕ → WirePlan → Bool) (n place : ℕ) (rows : List WirePlan) → sum_wires (λ k row. cond (test k row) n 0) place rows ≡ count_wires test place rows * n
sum-times test n place [] = grind arith
sum-times test n place (row ∷ rows) = by (test place row) (count_wires test (place + 1) rows) (sum_wires (λ k r. cond (test k r) n 0) (place + 1) rows) (sum-times test n (place + 1) rows) where
  by : (b : Bool) (count rest : ℕ) → rest ≡ count * n → cond b n 0 + rest ≡ (cond b 1 0 + count) * n
  by true count rest same = grind (arith, same)
  by false count rest same = grind (arith, same)

past_from : (f : ℕ → WirePlan → ℕ) (place at more : ℕ) (rows : List WirePlan) → place ≡ at + suc more → sum_wires (λ k row. cond (nat_eq k at) (f k row) 0) place rows ≡ 0
past_from f place at more [] past = refl
past_from f place at more (row ∷ rows) past =
    let away : nat_eq place at ≡ false = apart place at more past in
    let rest = past_from f (place + 1) at (suc more) rows (omega (arith, past)) in
    rw away (omega (arith, rest))
  where
    apart : (m n d : ℕ) → m ≡ n + suc d → nat_eq m n ≡ false
    apart m n d past = grind (arith, nat_tests)

at_from : (f : ℕ → WirePlan → ℕ) (place at k : ℕ) (w : WirePlan) (rows : List WirePlan) → at ≡ place + k → slice_get rows k ≡ Some w
    → sum_wires (λ j row. cond (nat_eq j at) (f j row) 0) place rows ≡ f at w
at_from f place at k w [] there is = absurd (cc (is))
at_from f place at zero w (row ∷ rows) there is =
    let same : row ≡ w = cc (is) in
    let here : nat_eq place at ≡ true = equal place at there in
    let at_is : at ≡ place = omega (arith, there) in
    let rest = past_from f (place + 1) at 0 rows (omega (arith, there)) in
    rw here (omega (arith, rest, ap (f at) same, ap (λ n. f n row) at_is))
  where
    equal : (m n : ℕ) → n ≡ m + 0 → nat_eq m n ≡ true
    equal m n there = grind (arith, nat_tests)
at_from f place at (suc k) w (row ∷ rows) there is =
    let away : nat_eq place at ≡ false = apart place at k there in
    let rest = at_from f (place + 1) at k w rows (omega (arith, there)) is in
    rw away (omega (arith, rest))
  where
    apart : (m n d : ℕ) → n ≡ m + suc d → nat_eq m n ≡ false
    apart m n d past = grind (arith, nat_tests)

-- the sum over one place is what is there
pub sum-at : (f : ℕ → WirePlan → ℕ) (at : ℕ) (w : WirePlan) (rows : List WirePlan) → slice_get rows at ≡ Some w → sum_wires (λ k row. cond (nat_eq k at) (f k row) 0) 0 rows ≡ f at w
sum-at f at w rows is = at_from f 0 at at w rows (sym (zero-add at)) is

-- some wire that passes a test, and its place
pub record FoundWire (test : ℕ → WirePlan → Bool) (place : ℕ) (rows : List WirePlan) : Type 0 where
  pub k : ℕ
  pub row : WirePlan
  pub is : slice_get rows k ≡ Some row
  pub passes : test (place + k) row ≡ true

-- where some wire passes, there is one
pub wire_found : (test : ℕ → WirePlan → Bool) (place : ℕ) (rows : List WirePlan) → any_wire test place rows ≡ true → FoundWire test place rows
wire_found test place [] some = absurd (cc (some))
wire_found test place (row ∷ rows) some = elim (cases_Bool (test place row)) [
  | inl here ↦ record { k = 0; row = row; is = refl; passes = subst (λ n. test n row ≡ true) (sym (add-zero place)) here }
  | inr away ↦
      (let found = wire_found test (place + 1) rows (rw away at some) in
      record { k = suc found.k; row = found.row; is = found.is; passes = subst (λ n. test n found.row ≡ true) (sym (step_into place found.k)) found.passes })
]

-- where none passes, no one does
pub none_of_any : (test : ℕ → WirePlan → Bool) (rows : List WirePlan) (k : ℕ) (row : WirePlan) → any_wire test 0 rows ≡ false → slice_get rows k ≡ Some row → test k row ≡ false
none_of_any test rows k row none is = subst (λ n. test n row ≡ false) (zero-add k) (from 0 k rows none is) where
  from : (place k : ℕ) (rows : List WirePlan) → any_wire test place rows ≡ false → slice_get rows k ≡ Some row → test (place + k) row ≡ false
  from place k [] none is = absurd (cc (is))
  from place zero (x ∷ xs) none is =
      let same : x ≡ row = cc (is) in
      ap (λ n. test n row) (add-zero place) ∙ (ap (test place) (sym same) ∙ first_fails (test place x) (any_wire test (place + 1) xs) none)
  from place (suc k) (x ∷ xs) none is = ap (λ n. test n row) (step_into place k) ∙ from (place + 1) k xs (second_fails (test place x) (any_wire test (place + 1) xs) none) is

-- wires that pass a test are none, or one, where any two that do are one
no_count : (test : ℕ → WirePlan → Bool) (place : ℕ) (rows : List WirePlan) → ((k : ℕ) (row : WirePlan) → slice_get rows k ≡ Some row → test (place + k) row ≡ false) → count_wires test place rows ≡ 0
no_count test place [] none = refl
no_count test place (row ∷ rows) none =
    let here : test place row ≡ false = ap (λ n. test n row) (sym (add-zero place)) ∙ none 0 row refl in
    let rest : count_wires test (place + 1) rows ≡ 0 = no_count test (place + 1) rows (λ k other is. ap (λ n. test n other) (sym (step_into place k)) ∙ none (suc k) other is) in
    rw here (omega (arith, rest))

pub few_count : (test : ℕ → WirePlan → Bool) (place : ℕ) (rows : List WirePlan)
    → ((i j : ℕ) (w v : WirePlan) → slice_get rows i ≡ Some w → test (place + i) w ≡ true → slice_get rows j ≡ Some v → test (place + j) v ≡ true → i ≡ j)
    → (count_wires test place rows ≡ 0) ⊎ (count_wires test place rows ≡ 1)
few_count test place [] one = inl refl
few_count test place (row ∷ rows) one = elim (cases_Bool (test place row)) [
  | inl here ↦
      (let rest : count_wires test (place + 1) rows ≡ 0 = no_count test (place + 1) rows (λ k other is. elim (cases_Bool (test (place + 1 + k) other)) [
        | inl too ↦ absurd (cc (one 0 (suc k) row other refl (ap (λ n. test n row) (add-zero place) ∙ here) is (ap (λ n. test n other) (step_into place k) ∙ too)))
        | inr away ↦ away
      ]) in
      inr (rw here (omega (arith, rest))))
  | inr away ↦ elim (few_count test (place + 1) rows (λ i j w v is passes other also.
      one_less i j (one (suc i) (suc j) w v is (ap (λ n. test n w) (step_into place i) ∙ passes) other (ap (λ n. test n v) (step_into place j) ∙ also)))) [
        | inl none ↦ inl (rw away (omega (arith, none)))
        | inr some ↦ inr (rw away (omega (arith, some)))
      ]
]
  where
    one_less : (n m : ℕ) → suc n ≡ suc m → n ≡ m
    one_less n m e = omega (arith, e)

pub past_count : (test : ℕ → WirePlan → Bool) (place k : ℕ) (w : WirePlan) (rows : List WirePlan) → count_wires test place rows ≡ 0 → slice_get rows k ≡ Some w → test (place + k) w ≡ false
past_count test place k w [] count is = absurd (cc (is))
past_count test place zero w (row ∷ rows) count is =
    let same : row ≡ w = cc (is) in
    first (test place row) (count_wires test (place + 1) rows) count (ap (test place) same ∙ ap (λ n. test n w) (sym (add-zero place)))
  where
    first : (b : Bool) (n : ℕ) {c : Bool} → cond b 1 0 + n ≡ 0 → b ≡ c → c ≡ false
    first true n none same = absurd (omega arith)
    first false n none same = sym same
past_count test place (suc k) w (row ∷ rows) count is =
    subst (λ n. test n w ≡ false) (sym (step_into place k)) (past_count test (place + 1) k w rows (rest (test place row) (count_wires test (place + 1) rows) count) is)
  where
    rest : (b : Bool) (n : ℕ) → cond b 1 0 + n ≡ 0 → n ≡ 0
    rest true n none = absurd (omega arith)
    rest false n none = omega arith

-- after the first wire, if that passes the test, none does
none_after : (test : ℕ → WirePlan → Bool) (place j : ℕ) (w v : WirePlan) (row : WirePlan) (rows : List WirePlan) → count_wires test place (row ∷ rows) ≡ 1 → row ≡ w → test (place + 0) w ≡ true
    → slice_get rows j ≡ Some v → test (place + suc j) v ≡ false
none_after test place j w v row rows count same passes is =
    ap (λ n. test n v) (step_into place j) ∙ past_count test (place + 1) j v rows (rest (test place row) (count_wires test (place + 1) rows) count here) is
  where
    here : test place row ≡ true
    here = ap (test place) same ∙ (ap (λ n. test n w) (sym (add-zero place)) ∙ passes)

    rest : (b : Bool) (n : ℕ) → cond b 1 0 + n ≡ 1 → b ≡ true → n ≡ 0
    rest true n one passes = omega arith
    rest false n one passes = absurd (cc (passes))

-- two wires that pass a test have one place, where one wire passes it
pub one_of_count : (test : ℕ → WirePlan → Bool) (place i j : ℕ) (w v : WirePlan) (rows : List WirePlan) → count_wires test place rows ≡ 1
    → slice_get rows i ≡ Some w → test (place + i) w ≡ true → slice_get rows j ≡ Some v → test (place + j) v ≡ true → i ≡ j
one_of_count test place i j w v [] count is passes other also = absurd (cc (is))
one_of_count test place zero zero w v (row ∷ rows) count is passes other also = refl
one_of_count test place zero (suc j) w v (row ∷ rows) count is passes other also =
    let same : row ≡ w = cc (is) in
    clash_at (test (place + suc j) v) also (none_after test place j w v row rows count same passes other)
one_of_count test place (suc i) zero w v (row ∷ rows) count is passes other also =
    let same : row ≡ v = cc (other) in
    clash_at (test (place + suc i) w) passes (none_after test place i v w row rows count same also is)
one_of_count test place (suc i) (suc j) w v (row ∷ rows) count is passes other also =
    later (test place row) count refl (λ one. one_of_count test (place + 1) i j w v rows one is (ap (λ n. test n w) (sym (step_into place i)) ∙ passes) other
    (ap (λ n. test n v) (sym (step_into place j)) ∙ also))
  where
    keeps : (n : ℕ) → 0 + n ≡ 1 → n ≡ 1
    keeps n one = omega arith

    later : (b : Bool) → cond b 1 0 + count_wires test (place + 1) rows ≡ 1 → test place row ≡ b → (count_wires test (place + 1) rows ≡ 1 → i ≡ j) → suc i ≡ suc j
    later true one here same = clash_at (test (place + suc i) w) passes (none_after test place i row w row rows count refl (ap (λ n. test n row) (add-zero place) ∙ here) is)
    later false one here same = ap suc (same (keeps _ one))
