-- Pieces that are written one behind another.
use Rattle.std.proofs.Common.{◌≡◌, ◌≤◌, ◌+◌, ◌++◌, ◌∙◌, ℕ, List, length, take, drop, ap, sym, arith, append_assoc, length-append}
use Rattle.std.proofs.lemmas.Slice.{drop-append-drop}
use Rattle.std.proofs.Math.Seq.{take-append_seam}
use Rattle.std.proofs.lemmas.List.{length-take-le}

-- a piece that is written behind what was made stands behind it, and the rest is as it was
pub added_behind : (base made piece one two : List ℕ) (at end : ℕ) → one ≡ made ++ drop at base → at ≡ length made → end ≡ at + length piece → two
    ≡ (take at one ++ piece) ++ drop end one → two ≡ (made ++ piece) ++ drop end base
added_behind base made piece one two at end begun place behind written =
    let front : take at one ≡ made = ap (λ (l : List ℕ). take at l) begun ∙ (ap (λ (n : ℕ). take n (made ++ drop at base)) place ∙ take-append_seam made (drop at base)) in
    let back : drop end one ≡ drop end base = ap (λ (l : List ℕ). drop end l) begun ∙ drop-append-drop at base made end (omega arith) (sym place) in
    written ∙ (ap (λ (l : List ℕ). (l ++ piece) ++ drop end one) front ∙ ap (λ (l : List ℕ). (made ++ piece) ++ l) back)

-- two pieces that are written one behind another at a place
pub added_at : (base front back one two : List ℕ) (at middle end : ℕ) → at ≤ length base → middle ≡ at + length front → end ≡ middle + length back
    → one ≡ (take at base ++ front) ++ drop middle base → two ≡ (take middle one ++ back) ++ drop end one → two ≡ (take at base ++ (front ++ back)) ++ drop end base
added_at base front back one two at middle end within first second begun written =
    let len : length (take at base ++ front) ≡ middle = length-append (take at base) front ∙ (ap (λ (n : ℕ). n + length front) (length-take-le at base within) ∙ sym first) in
    added_behind base (take at base ++ front) back one two middle end begun (sym len) second written ∙ ap (λ (l : List ℕ). l ++ drop end base) (append_assoc (take at base) front back)

-- four pieces that are written one behind another at a place
pub added_four : (base p q r s one two three four : List ℕ) (at a b c d : ℕ) → at ≤ length base
    → a ≡ at + length p → one ≡ (take at base ++ p) ++ drop a base → b ≡ a + length q → two ≡ (take a one ++ q) ++ drop b one
    → c ≡ b + length r → three ≡ (take b two ++ r) ++ drop c two → d ≡ c + length s → four ≡ (take c three ++ s) ++ drop d three
    → four ≡ (take at base ++ (((p ++ q) ++ r) ++ s)) ++ drop d base
added_four base p q r s one two three four at a b c d within ea o eb t ec h ed f =
    let second = added_at base p q one two at a b within ea eb o t in
    let pq = length-append p q in
    let third = added_at base (p ++ q) r two three at b c within (omega (arith, ea, eb, pq)) ec second h in
    let pqr = length-append (p ++ q) r in
    added_at base ((p ++ q) ++ r) s three four at c d within (omega (arith, ea, eb, ec, pq, pqr)) ed third f
