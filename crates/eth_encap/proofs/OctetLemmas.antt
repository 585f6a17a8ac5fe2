-- Pieces in rows of octets.
use Rattle.std.proofs.Common.{◌≡◌, ◌+◌, ◌++◌, ◌∙◌, ℕ, List, length, take, drop, ap, sym, arith}
use Rattle.std.proofs.lemmas.Slice.{drop-append-drop}
use Rattle.std.proofs.Math.Seq.{take-append_seam}

-- a piece that is written behind what was made stands behind it, and the rest is as it was
pub added_behind : (base made piece one two : List ℕ) (at end : ℕ) → one ≡ made ++ drop at base → at ≡ length made → end ≡ at + length piece → two
    ≡ (take at one ++ piece) ++ drop end one → two ≡ (made ++ piece) ++ drop end base
added_behind base made piece one two at end begun place behind written =
    let front : take at one ≡ made = ap (λ (l : List ℕ). take at l) begun ∙ (ap (λ (n : ℕ). take n (made ++ drop at base)) place ∙ take-append_seam made (drop at base)) in
    let back : drop end one ≡ drop end base = ap (λ (l : List ℕ). drop end l) begun ∙ drop-append-drop at base made end (omega arith) (sym place) in
    written ∙ (ap (λ (l : List ℕ). (l ++ piece) ++ drop end one) front ∙ ap (λ (l : List ℕ). (made ++ piece) ++ l) back)
