-- A word that does not fit ends the reading.
use Rattle.std.proofs.Common.{◌≡◌, ◌<◌, ◌≤◌, ◌+◌, ◌++◌, ◌∙◌, ℕ, zero, suc, Bool, true, false, List, [], ◌∷◌, length, get_or, drop, slice_get, Option, Some, None, is_some, option_and_then, Result, Ok, Err, if◌then◌else◌, refl, sym, ap, arith, append_assoc}
use Rattle.std.proofs.lemmas.List.{at_drop_more}
use Rattle.net_base.specs.declared.plan.Plan.{Plan}
use Rattle.line_shapes.specs.Shapes.{◌>>=◌, AreShort, Form, first_said, form_at, line_said, row_of_word, word_found, value_in, values_said, with_values}
use Rattle.line_shapes.specs.declared.kind.Kind.{Kind}

number_of : Result ℕ ℕ → ℕ
number_of (Ok value) = 0
number_of (Err number) = number

stopped : (r : Result ℕ ℕ) (f : ℕ → Result (List ℕ) ℕ) (front : List ℕ) (whole : Result (List ℕ) ℕ) (number : ℕ) → Err number ≡ r → with_values front (r >>= f) ≡ whole → Err number ≡ whole
unfolding number_of
stopped (Ok value) f front whole number e same = cc e
stopped (Err n) f front whole number e same = let is : number ≡ n = ap number_of e in rw is same

pub fails : (plan : Plan) (words : List (List ℕ)) (kinds : List Kind) (front : List ℕ) (place number : ℕ) (none : Kind) (whole : Result (List ℕ) ℕ) → place < length kinds
    → Err number ≡ word_found (place + 1 + 1) (option_and_then (value_in plan (get_or kinds place none)) (slice_get words (place + 1)))
    → with_values front (values_said plan words (place + 1) (drop place kinds)) ≡ whole → Err number ≡ whole
fails plan words kinds front place number none whole lt e same =
    stopped (word_found (place + 1 + 1) (option_and_then (value_in plan (get_or kinds place none)) (slice_get words (place + 1))))
    (λ value. values_said plan words (place + 1 + 1) (drop (place + 1) kinds) >>= (λ values. Ok (value ∷ values))) front whole number e
    (ap (with_values front) (sym (at_drop_more (values_said plan words (place + 1)) kinds place none lt)) ∙ same)

-- a value more
pub goes_on : (plan : Plan) (words : List (List ℕ)) (kinds : List Kind) (front new : List ℕ) (place value : ℕ) (none : Kind) (whole : Result (List ℕ) ℕ) → place < length kinds
    → new ≡ front ++ value ∷ [] → Ok value ≡ word_found (place + 1 + 1) (option_and_then (value_in plan (get_or kinds place none)) (slice_get words (place + 1)))
    → with_values front (values_said plan words (place + 1) (drop place kinds)) ≡ whole → with_values new (values_said plan words (place + 1 + 1) (drop (place + 1) kinds)) ≡ whole
goes_on plan words kinds front new place value none whole lt is e same =
    ap (λ (l : List ℕ). with_values l (values_said plan words (place + 1 + 1) (drop (place + 1) kinds))) is
    ∙ (sym (by (values_said plan words (place + 1 + 1) (drop (place + 1) kinds)))
    ∙ (ap (λ (r : Result ℕ ℕ). with_values front (r >>= (λ v. values_said plan words (place + 1 + 1) (drop (place + 1) kinds) >>= (λ values. Ok (v ∷ values))))) e
    ∙ (ap (with_values front) (sym (at_drop_more (values_said plan words (place + 1)) kinds place none lt)) ∙ same))) where
      by : (rest : Result (List ℕ) ℕ) → with_values front (rest >>= (λ values. Ok (value ∷ values))) ≡ with_values (front ++ value ∷ []) rest
      by (Ok values) = ap Ok (sym (append_assoc front (value ∷ []) values))
      by (Err number) = refl

-- ---- how far a line is read

-- a reading ends at this word at most
abbrev pub StopsBy : {A : Type 0} → ℕ → Result A ℕ → Type 0
StopsBy last (Ok x) = Unit {0}
StopsBy last (Err word) = word ≤ last

values_early : (plan : Plan) (words : List (List ℕ)) (at last : ℕ) (kinds : List Kind) → at + length kinds + 1 ≤ last → StopsBy last (values_said plan words at kinds)
values_early plan words at last [] few = of_test (is_some (slice_get words at)) where
  of_test : (test : Bool) → StopsBy {A = List ℕ} last (if test then Err (at + 1) else Ok [])
  of_test true = omega (arith, few)
  of_test false = tt
values_early plan words at last (kind ∷ kinds) few =
    of_word (option_and_then (value_in plan kind) (slice_get words at)) (values_said plan words (at + 1) kinds) (values_early plan words (at + 1) last kinds (omega (arith, few))) where
      of_word : (o : Option ℕ) (r : Result (List ℕ) ℕ) → StopsBy last r → StopsBy {A = List ℕ} last (word_found (at + 1) o >>= (λ value. r >>= (λ values. Ok (value ∷ values))))
      of_word None r is = omega (arith, few)
      of_word (Some value) (Ok values) is = tt
      of_word (Some value) (Err word) is = is

short_at : (forms : List Form) (row : ℕ) → AreShort forms → length (form_at forms row).kinds ≤ 3
short_at [] row short = omega arith
short_at (f ∷ forms) zero short = short.0
short_at (f ∷ forms) (suc row) short = short_at forms row short.1

-- no line is wrong behind its fifth word
pub line_early : (plan : Plan) (forms : List Form) (words : List (List ℕ)) → AreShort forms → StopsBy 5 (line_said plan forms words)
unfolding line_said
line_early plan forms words short = of_row (row_of_word forms (first_said words)) where
  of_values : (row : ℕ) (r : Result (List ℕ) ℕ) → StopsBy 5 r → StopsBy {A = ℕ × List ℕ} 5 (r >>= (λ values. Ok (row, values)))
  of_values row (Ok values) is = tt
  of_values row (Err word) is = is

  of_row : (o : Option ℕ) → StopsBy {A = ℕ × List ℕ} 5 (word_found 1 o >>= (λ row. values_said plan words 1 (form_at forms row).kinds >>= (λ values. Ok (row, values))))
  of_row None = omega arith
  of_row (Some row) =
      of_values row (values_said plan words 1 (form_at forms row).kinds) (values_early plan words 1 5 (form_at forms row).kinds (omega (arith, short_at forms row short)))
