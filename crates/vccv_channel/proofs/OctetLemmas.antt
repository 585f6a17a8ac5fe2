-- Numbers and pieces in rows of octets.
use Rattle.std.proofs.Common.{◌≡◌, ◌≤◌, ◌<◌, ◌+◌, ◌++◌, ◌∙◌, ℕ, zero, suc, List, [], ◌∷◌, length, take, drop, get_or, ap, sym, arith, append_assoc, length-append}
use Rattle.std.proofs.lemmas.List.{get_or-drop, get_or-take, length-take-le}
use Rattle.std.proofs.lemmas.Slice.{drop-append-drop}
use Rattle.std.proofs.Math.Seq.{take-append_seam}
use Rattle.net_base.specs.trace.Frame.{pair_at}
use Rattle.net_values.specs.Octets.{AreOctets}

-- a piece that is written behind what was made stands behind it, and the rest is as it was
pub added_behind : (base made piece one two : List ℕ) (at end : ℕ) → one ≡ made ++ drop at base → at ≡ length made → end ≡ at + length piece → two
    ≡ (take at one ++ piece) ++ drop end one → two ≡ (made ++ piece) ++ drop end base
added_behind base made piece one two at end begun place behind written =
    let front : take at one ≡ made = ap (λ (l : List ℕ). take at l) begun ∙ (ap (λ (n : ℕ). take n (made ++ drop at base)) place ∙ take-append_seam made (drop at base)) in
    let back : drop end one ≡ drop end base = ap (λ (l : List ℕ). drop end l) begun ∙ drop-append-drop at base made end (omega arith) (sym place) in
    written ∙ (ap (λ (l : List ℕ). (l ++ piece) ++ drop end one) front ∙ ap (λ (l : List ℕ). (made ++ piece) ++ l) back)

-- two pieces that are written one behind another at a place
pub added_at : (base front back one two : List ℕ) (at middle end : ℕ) → at ≤ length base → middle ≡ at + length front → end ≡ middle + length back
    → one ≡ (take at base ++ front) ++ drop middle base → two ≡ (take middle one ++ back) ++ drop end one → two ≡ (take at base ++ (front ++ back)) ++ drop end base
added_at base front back one two at middle end within first second begun written =
    let len : length (take at base ++ front) ≡ middle = length-append (take at base) front ∙ (ap (λ (n : ℕ). n + length front) (length-take-le at base within) ∙ sym first) in
    added_behind base (take at base ++ front) back one two middle end begun (sym len) second written ∙ ap (λ (l : List ℕ). l ++ drop end base) (append_assoc (take at base) front back)

-- three pieces that are written one behind another at a place
pub added_three : (base p q r one two three : List ℕ) (at a b c : ℕ) → at ≤ length base
    → a ≡ at + length p → one ≡ (take at base ++ p) ++ drop a base → b ≡ a + length q → two ≡ (take a one ++ q) ++ drop b one
    → c ≡ b + length r → three ≡ (take b two ++ r) ++ drop c two
    → three ≡ (take at base ++ (p ++ (q ++ r))) ++ drop c base
added_three base p q r one two three at a b c within ea o eb t ec h =
    let second = added_at base p q one two at a b within ea eb o t in
    let pq = length-append p q in
    added_at base (p ++ q) r two three at b c within (omega (arith, ea, eb, pq)) ec second h ∙ ap (λ (l : List ℕ). (take at base ++ l) ++ drop c base) (append_assoc p q r)

-- rows of octets
pub octets_none : AreOctets []
octets_none at = omega arith

pub octets_cons : (a : ℕ) (xs : List ℕ) → a < 256 → AreOctets xs → AreOctets (a ∷ xs)
octets_cons a xs fits octets zero = fits
octets_cons a xs fits octets (suc at) = octets at

pub octets_append : (xs ys : List ℕ) → AreOctets xs → AreOctets ys → AreOctets (xs ++ ys)
octets_append [] ys xo yo = yo
octets_append (x ∷ xs) ys xo yo = octets_cons x (xs ++ ys) (xo 0) (octets_append xs ys (λ (at : ℕ). xo (suc at)) yo)

pub octets_take : (n : ℕ) (xs : List ℕ) → AreOctets xs → AreOctets (take n xs)
octets_take zero xs xo = octets_none
octets_take (suc n) [] xo = octets_none
octets_take (suc n) (x ∷ xs) xo = octets_cons x (take n xs) (xo 0) (octets_take n xs (λ (at : ℕ). xo (suc at)))

pub octets_drop : (n : ℕ) (xs : List ℕ) → AreOctets xs → AreOctets (drop n xs)
octets_drop n xs xo = λ (at : ℕ). let e = get_or-drop n xs at 0 in let o = xo (n + at) in omega (arith, e, o)

-- a number at the front of octets is that of the whole
pub pair_take : (n : ℕ) (xs : List ℕ) (at : ℕ) → at + 2 ≤ n → pair_at (take n xs) at ≡ pair_at xs at
pair_take n xs at within =
    let first : get_or (take n xs) at 0 ≡ get_or xs at 0 = get_or-take n xs at 0 (omega arith) in
    let second : get_or (take n xs) (at + 1) 0 ≡ get_or xs (at + 1) 0 = get_or-take n xs (at + 1) 0 (omega arith) in
    omega (arith, first, second)
