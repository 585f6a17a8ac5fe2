-- Eight octets side by side, and their halves.
use Rattle.std.proofs.Common.{◌≡◌, ◌<◌, ◌+◌, ◌/◌, ◌%◌, ◌++◌, ◌==◌, ◌&&◌, ℕ, zero, suc, Bool, true, cond, ltb, List, [], ◌∷◌, Fits, w8, length, map, slice_index, refl, arith}
use Rattle.std.specs.Prelude.{replicate, get_or}
use Rattle.std.specs.Simd.Lanes.{Each1, sel_l, top, zip2}
use Rattle.std.proofs.lemmas.Bool.Decides.{Decides-below_and, Decides-eqb}
use Rattle.hex.specs.Hex.{encode_with, lower_digits}
use Rattle.text_pieces.specs.Pieces.{hex}

-- ---- eight lanes, one by one
abbrev Each : ℕ → (List ℕ → Type 0) → Type 0
Each zero P = P []
Each (suc n) P = (x : ℕ) → Each n (λ xs. P (x ∷ xs))

each : (n : ℕ) (P : List ℕ → Type 0) → Each n P → (w : List ℕ) → length w ≡ n → P w
each zero P all [] e = all
each zero P all (x ∷ xs) e = absurd (omega arith)
each (suc n) P all [] e = absurd (omega arith)
each (suc n) P all (x ∷ xs) e = each n (λ ys. P (x ∷ ys)) (all x) xs (omega arith)

abbrev half_at : List ℕ → ℕ → ℕ
half_at w k = get_or (zip2 (λ a b. a / b) w (replicate 8 16) ++ zip2 (λ a b. a % b) w (replicate 8 16)) k 0

abbrev halves_of : List ℕ → List ℕ
halves_of w = half_at w 0 ∷ half_at w 8 ∷ half_at w 1 ∷ half_at w 9 ∷ half_at w 2 ∷ half_at w 10 ∷ half_at w 3 ∷ half_at w 11
    ∷ half_at w 4 ∷ half_at w 12 ∷ half_at w 5 ∷ half_at w 13 ∷ half_at w 6 ∷ half_at w 14 ∷ half_at w 7 ∷ half_at w 15 ∷ []

-- the digits of the halves are those of the octets
pub digits_of_halves : (w : List ℕ) → length w ≡ 8 → map (slice_index lower_digits) (halves_of w) ≡ hex w
unfolding encode_with
digits_of_halves w long = each 8 (λ w. map (slice_index lower_digits) (halves_of w) ≡ hex w) (λ a b c d e f g h. refl) w long

high : (x : ℕ) → Fits w8 x → x / 16 < 16
high x fit = let small : x < 256 = fit.fits in omega (arith, small)

low : (x : ℕ) → x % 16 < 16
low x = omega arith

both : {rest : Type 0} (x : ℕ) → Fits w8 x → rest → (x / 16 < 16) × ((x % 16 < 16) × rest)
both x fit behind = (high x fit, (low x, behind))

-- each half is below 16
pub halves_below : (w : List ℕ) → length w ≡ 8 → Each1 (Fits w8) w → Each1 (λ half. half < 16) (halves_of w)
halves_below w long = each 8 (λ w. Each1 (Fits w8) w → Each1 (λ half. half < 16) (halves_of w))
    (λ a b c d e f g h fit. both a fit.0 (both b fit.1.0 (both c fit.1.1.0 (both d fit.1.1.1.0 (both e fit.1.1.1.1.0 (both f fit.1.1.1.1.1.0 (both g fit.1.1.1.1.1.1.0 (both h fit.1.1.1.1.1.1.1.0 tt))))))))
    w long

-- ---- the digit of each half
abbrev less : ℕ → ℕ → ℕ
less a b = cond (ltb a b) 255 0

abbrev plus : ℕ → ℕ → ℕ
plus a b = (a + b) % 256

abbrev made : ℕ → ℕ
made half = cond (top 7 (less half 10)) (plus half 48) (plus half 87)

all_made : ℕ → Bool
all_made zero = true
all_made (suc n) = (made n == slice_index lower_digits n) && all_made n

made_is : (half : ℕ) → half < 16 → made half ≡ slice_index lower_digits half
unfolding all_made
made_is = (Decides-below_and (λ n. made n == slice_index lower_digits n) (λ n. made n ≡ slice_index lower_digits n) all_made (λ n. Decides-eqb _ _) refl (λ _. refl) 16).0 refl

-- the digit of each half is made by whether it is a figure
pub digits_made : (halves : List ℕ) (n : ℕ) → length halves ≡ n → Each1 (λ half. half < 16) halves
    → sel_l (map (top 7) (zip2 less halves (replicate n 10))) (zip2 plus halves (replicate n 48)) (zip2 plus halves (replicate n 87)) ≡ map (slice_index lower_digits) halves
digits_made [] n size below = refl
digits_made (half ∷ halves) zero size below = absurd (omega (arith, size))
digits_made (half ∷ halves) (suc n) size below = λ k. made_is half below.0 k ∷ digits_made halves n (omega (arith, size)) below.1 k
