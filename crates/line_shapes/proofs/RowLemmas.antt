-- Rows of a table.
use denote.Ref.{Bor}
use Rattle.std.proofs.Common.{◌≡◌, ◌==◌, ◌<◌, ◌≤◌, ℕ, zero, suc, Bool, true, false, List, [], ◌∷◌, length, map, get_or, position, refl, ap, arith}
use Rattle.std.specs.List.{position_or_len}
use Rattle.std.specs.Str.{bytes_eq}
use Rattle.std.proofs.lemmas.Bool.Decides.{nat_tests}
use Rattle.std.proofs.lemmas.List.{length-map}
use Rattle.std.proofs.lemmas.Slice.Eq.{bytes_eq-Decides}
use Rattle.plan_names.specs.Names.{place_in}
use Rattle.line_shapes.specs.Shapes.{AreShort, form_at, form_of, has_word, no_form, row_of_word}
use Rattle.line_shapes.specs.declared.shape.Shape.{Shape}

-- the form of the row at which a shape stands
pub at_row : (shapes : List Shape) (row : ℕ) (none : Shape) → row < length shapes → form_at (map form_of shapes) row ≡ form_of (get_or shapes row none)
at_row [] row none lt = absurd (omega (arith, lt))
at_row (shape ∷ shapes) zero none lt = refl
at_row (shape ∷ shapes) (suc row) none lt = at_row shapes row none (omega (arith, lt))

-- and how many words it has
pub short_row : (shapes : List Shape) (row : ℕ) (none : Shape) → row < length shapes → AreShort (map form_of shapes) → length (get_or shapes row none).1.now ≤ 3
short_row [] row none lt short = absurd (omega (arith, lt))
short_row (shape ∷ shapes) zero none lt short = short.0
short_row (shape ∷ shapes) (suc row) none lt short = short_row shapes row none (omega (arith, lt)) short.1

-- no row stands behind the last one
pub no_row : (shapes : List Shape) (row : ℕ) → length shapes ≤ row → no_form ≡ form_at (map form_of shapes) row
no_row [] row past = refl
no_row (shape ∷ shapes) zero past = absurd (omega (arith, past))
no_row (shape ∷ shapes) (suc row) past = no_row shapes row (omega (arith, past))

same_place : {X Y : Type 0} (f : Y → X) (test : X → Bool) (rows : List Y) → position_or_len (λ (y : Y). test (f y)) rows ≡ position_or_len test (map f rows)
same_place f test [] = refl
same_place f test (y ∷ rows) = rw (same_place f test rows) refl

same_position : {X Y : Type 0} (f : Y → X) (test : X → Bool) (rows : List Y) → position (λ (y : Y). test (f y)) rows ≡ position test (map f rows)
same_position f test rows = rw (same_place f test rows, length-map rows f) refl

-- the row of a word, by the shapes
pub row_is : (shapes : List Shape) (word : List ℕ) → position (λ (s : Shape). bytes_eq s.0.now word) shapes ≡ row_of_word (map form_of shapes) word
row_is shapes word = same_position form_of (has_word word) shapes

-- the place of a word among others
pub place_is : (words : List (Bor (List ℕ))) (word : List ℕ) → position (λ (other : Bor (List ℕ)). bytes_eq word other.now) words ≡ place_in (map (λ (w : Bor (List ℕ)). w.now) words) word
place_is words word = same_position (λ (w : Bor (List ℕ)). w.now) (bytes_eq word) words

-- words of two lengths are two
pub other_length : (a b : List ℕ) → (length a == length b) ≡ false → bytes_eq a b ≡ false
other_length a b other = by (bytes_eq a b) refl where
  by : (c : Bool) → bytes_eq a b ≡ c → c ≡ false
  by false is = refl
  by true is = absurd (grind (arith, nat_tests, other, ap (λ (l : List ℕ). length l) ((bytes_eq-Decides a b).0 is)))
