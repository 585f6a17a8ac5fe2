-- Ends that are made idle one by one.
use Rattle.std.proofs.Common.{◌≡◌, ◌<◌, ◌≤◌, ◌+◌, ◌∙◌, ℕ, zero, suc, List, [], ◌∷◌, length, set, take, map, replicate, refl, ap, sym, arith}
use Rattle.pw_signalling.specs.AnyEnd.{end_of}
use Rattle.pw_signalling.specs.declared.pw_end.PwEnd.{PwEnd}
use Rattle.pw_signalling.specs.End.{EndState, fresh}
use Rattle.pw_ends.proofs.KeptLemmas.{all_seen}

-- one end more is idle
pub idle_more : (ends : List PwEnd) (slot : ℕ) (end : PwEnd) → slot < length ends → end_of end ≡ fresh → take slot (map end_of ends) ≡ replicate slot fresh
    → take (slot + 1) (map end_of (set ends slot end)) ≡ replicate (slot + 1) fresh
idle_more ends slot end within is so_far =
    let next : slot + 1 ≡ suc slot = omega arith in
    rw next (by ends slot end within is so_far)
  where
    heads : (a b : EndState) (xs ys : List EndState) → a ∷ xs ≡ b ∷ ys → a ≡ b
    heads a b xs ys is = cc

    tails : (a b : EndState) (xs ys : List EndState) → a ∷ xs ≡ b ∷ ys → xs ≡ ys
    tails a b xs ys is = cc

    two : {x y : EndState} {xs ys : List EndState} → x ≡ y → xs ≡ ys → (x ∷ xs) ≡ (y ∷ ys)
    two first rest = λ i. first i ∷ rest i

    by : (ends : List PwEnd) (slot : ℕ) (end : PwEnd) → slot < length ends → end_of end ≡ fresh → take slot (map end_of ends) ≡ replicate slot fresh
        → take (suc slot) (map end_of (set ends slot end)) ≡ replicate (suc slot) fresh
    by [] slot end within is so_far = absurd (omega (arith, within))
    by (e ∷ es) zero end within is so_far = two is refl
    by (e ∷ es) (suc slot) end within is so_far =
        two (heads (end_of e) fresh (take slot (map end_of es)) (replicate slot fresh) so_far)
        (by es slot end (omega (arith, within)) is (tails (end_of e) fresh (take slot (map end_of es)) (replicate slot fresh) so_far))

-- all are
pub idle_all : (ends : List PwEnd) (slot count : ℕ) → length ends ≡ count → count ≤ slot → slot ≤ count → take slot (map end_of ends) ≡ replicate slot fresh → map end_of ends ≡ replicate count fresh
idle_all ends slot count long past within so_far =
    let whole : slot ≡ count = omega (arith, past, within) in
    let seen : length (map end_of ends) ≡ count = all_seen ends ∙ long in
    sym (taken (map end_of ends) slot (omega (arith, seen, past))) ∙ (so_far ∙ ap (λ (n : ℕ). replicate n fresh) whole)
  where
    taken : (xs : List EndState) (n : ℕ) → length xs ≤ n → take n xs ≡ xs
    taken [] zero past = refl
    taken [] (suc n) past = refl
    taken (x ∷ xs) zero past = absurd (omega (arith, past))
    taken (x ∷ xs) (suc n) past = ap (λ (l : List EndState). x ∷ l) (taken xs n (omega (arith, past)))

pub ruleset idle_steps = (idle_more, idle_all)
