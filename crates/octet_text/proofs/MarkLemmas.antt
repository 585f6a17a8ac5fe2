-- The first octet that is a mark cuts a text.
use Rattle.std.proofs.Common.{◌≡◌, ◌<◌, ◌≤◌, ◌+◌, ◌==◌, ◌∙◌, ℕ, zero, suc, Bool, true, false, not, cond, List, [], ◌∷◌, Some, None, is_some, length, nat_lt, take, drop, refl, ap, sym, add-one, arith, if◌then◌else◌}
use Rattle.std.proofs.lemmas.Bool.{lt-ltb}
use Rattle.std.proofs.lemmas.List.{take_all}
use Rattle.std.proofs.lemmas.Bool.Decides.{nat_tests}
use Rattle.std.specs.List.{after_first, before_first, position_or_len}
use Rattle.net_values.proofs.NumberLemmas.{not_below_itself}
use Rattle.memchr.specs.Find.{Nowhere, Passes, is_byte}
use Rattle.octet_text.specs.Cut.{before_mark, behind_mark}

-- what is so at no place of a text is so at no place of what follows its first octet
behind_first : (mark c : ℕ) (cs : List ℕ) (k : ℕ) → Nowhere (Passes (is_byte mark) (c ∷ cs)) 0 (suc k) → Nowhere (Passes (is_byte mark) cs) 0 k
behind_first mark c cs k none j low high passes = none (suc j) (omega arith) (omega (arith, high)) passes

-- the first octet is none
first_other : (mark c : ℕ) (cs : List ℕ) (k : ℕ) → Nowhere (Passes (is_byte mark) (c ∷ cs)) 0 (suc k) → (c == mark) ≡ false
first_other mark c cs k none = by (c == mark) refl where
  by : (b : Bool) → (c == mark) ≡ b → (c == mark) ≡ false
  by true is = absurd (none 0 (omega arith) (omega arith) is)
  by false is = is

-- a text without a mark is all before it
pub none_before : (mark : ℕ) (text : List ℕ) → Nowhere (Passes (is_byte mark) text) 0 (length text) → before_mark mark text ≡ text
none_before mark [] none = refl
none_before mark (c ∷ cs) none = rw (first_other mark c cs (length cs) none) (ap (λ (l : List ℕ). c ∷ l) (none_before mark cs (behind_first mark c cs (length cs) none)))

none_behind : (mark : ℕ) (text : List ℕ) → Nowhere (Passes (is_byte mark) text) 0 (length text) → behind_mark mark text ≡ None
none_behind mark [] none = refl
none_behind mark (c ∷ cs) none = rw (first_other mark c cs (length cs) none) (none_behind mark cs (behind_first mark c cs (length cs) none))

-- a text is cut at its first mark
pub front_at : (mark : ℕ) (text : List ℕ) (at : ℕ) → at < length text → Nowhere (Passes (is_byte mark) text) 0 at → Passes (is_byte mark) text at → before_mark mark text ≡ take at text
front_at mark [] at within none is = absurd (omega (arith, within))
front_at mark (c ∷ cs) zero within none is = rw (is) refl
front_at mark (c ∷ cs) (suc k) within none is =
    rw (first_other mark c cs k none) (ap (λ (l : List ℕ). c ∷ l) (front_at mark cs k (omega (arith, within)) (behind_first mark c cs k none) is))

behind_at : (mark : ℕ) (text : List ℕ) (at : ℕ) → at < length text → Nowhere (Passes (is_byte mark) text) 0 at → Passes (is_byte mark) text at
    → behind_mark mark text ≡ Some (drop (suc at) text)
behind_at mark [] at within none is = absurd (omega (arith, within))
behind_at mark (c ∷ cs) zero within none is = rw (is) refl
behind_at mark (c ∷ cs) (suc k) within none is =
    rw (first_other mark c cs k none) (behind_at mark cs k (omega (arith, within)) (behind_first mark c cs k none) is)

pub back_at : (mark : ℕ) (text : List ℕ) (at : ℕ) → at < length text → Nowhere (Passes (is_byte mark) text) 0 at → Passes (is_byte mark) text at
    → behind_mark mark text ≡ (if nat_lt at (length text) then Some (drop (at + 1) text) else None)
back_at mark text at within none is = rw (lt-ltb at (length text) within, add-one at) (behind_at mark text at within none is)

pub back_none : (mark : ℕ) (text : List ℕ) → Nowhere (Passes (is_byte mark) text) 0 (length text)
    → behind_mark mark text ≡ (if nat_lt (length text) (length text) then Some (drop (length text + 1) text) else None)
back_none mark text none = rw (not_below_itself (length text)) (none_behind mark text none)

-- a mark among the first sixteen octets cuts a text of as many
pub near_front : (mark : ℕ) (text : List ℕ) (at : ℕ) → 16 ≤ length text → at < 16 → Nowhere (Passes (is_byte mark) text) 0 at → (at < 16 → Passes (is_byte mark) text at) → before_mark mark text ≡ take at text
near_front mark text at long near none is = front_at mark text at (omega (arith, long, near)) none (is near)

pub near_back : (mark : ℕ) (text : List ℕ) (at : ℕ) → 16 ≤ length text → at < 16 → Nowhere (Passes (is_byte mark) text) 0 at → (at < 16 → Passes (is_byte mark) text at)
    → behind_mark mark text ≡ (if nat_lt at (length text) then Some (drop (at + 1) text) else None)
near_back mark text at long near none is = back_at mark text at (omega (arith, long, near)) none (is near)

-- the text goes on behind what stands before its first mark where there is one
pub longer_behind : (mark : ℕ) (text : List ℕ) → nat_lt (length (before_mark mark text)) (length text) ≡ is_some (behind_mark mark text)
longer_behind mark [] = refl
longer_behind mark (c ∷ cs) = by (c == mark) (longer_behind mark cs) where
  by : (b : Bool) → nat_lt (length (before_mark mark cs)) (length cs) ≡ is_some (behind_mark mark cs)
      → nat_lt (length (if b then [] else c ∷ before_mark mark cs)) (length (c ∷ cs)) ≡ is_some (if b then Some cs else behind_mark mark cs)
  by true rest = lt-ltb 0 (length (c ∷ cs)) (omega arith)
  by false rest =
      let less : nat_lt (length (c ∷ before_mark mark cs)) (length (c ∷ cs)) ≡ nat_lt (length (before_mark mark cs)) (length cs) = grind (arith, nat_tests) in
      less ∙ rest

-- ---- the same by the place of the first mark

pub before_is : (mark : ℕ) (text : List ℕ) → before_mark mark text ≡ before_first (λ octet. octet == mark) text
before_is mark [] = refl
before_is mark (c ∷ cs) = by (c == mark) (before_is mark cs) where
  by : (b : Bool) → before_mark mark cs ≡ before_first (λ octet. octet == mark) cs
      → (if b then [] else c ∷ before_mark mark cs) ≡ take (cond (not b) (1 + position_or_len (λ octet. octet == mark) cs) 0) (c ∷ cs)
  by true rest = refl
  by false rest =
      let more : 1 + position_or_len (λ octet. octet == mark) cs ≡ suc (position_or_len (λ octet. octet == mark) cs) = omega arith in
      ap (λ (l : List ℕ). c ∷ l) rest ∙ sym (ap (λ n. take n (c ∷ cs)) more)

-- a text whose first mark is at its end has none
pub no_mark_before : (mark : ℕ) (text : List ℕ) → position_or_len (λ octet. octet == mark) text ≡ length text → before_mark mark text ≡ text
no_mark_before mark text e = before_is mark text ∙ take_all (position_or_len (λ octet. octet == mark) text) text (omega (arith, e))

pub mark_behind : (mark : ℕ) (text : List ℕ) → position_or_len (λ octet. octet == mark) text < length text → behind_mark mark text ≡ Some (after_first (λ octet. octet == mark) text)
mark_behind mark [] lt = absurd (omega (arith, lt))
mark_behind mark (c ∷ cs) lt = by (c == mark) lt (mark_behind mark cs) where
  by : (b : Bool) → cond (not b) (1 + position_or_len (λ octet. octet == mark) cs) 0 < length (c ∷ cs)
      → (position_or_len (λ octet. octet == mark) cs < length cs → behind_mark mark cs ≡ Some (after_first (λ octet. octet == mark) cs))
      → (if b then Some cs else behind_mark mark cs) ≡ Some (drop (cond (not b) (1 + position_or_len (λ octet. octet == mark) cs) 0 + 1) (c ∷ cs))
  by true lt later = refl
  by false lt later =
      let more : 1 + position_or_len (λ octet. octet == mark) cs + 1 ≡ suc (position_or_len (λ octet. octet == mark) cs + 1) = omega arith in
      later (omega (arith, lt)) ∙ ap Some (sym (ap (λ n. drop n (c ∷ cs)) more))

pub no_mark_behind : (mark : ℕ) (text : List ℕ) → position_or_len (λ octet. octet == mark) text ≡ length text → behind_mark mark text ≡ None
no_mark_behind mark [] e = refl
no_mark_behind mark (c ∷ cs) e = by (c == mark) e (no_mark_behind mark cs) where
  by : (b : Bool) → cond (not b) (1 + position_or_len (λ octet. octet == mark) cs) 0 ≡ length (c ∷ cs) → (position_or_len (λ octet. octet == mark) cs ≡ length cs → behind_mark mark cs ≡ None)
      → (if b then Some cs else behind_mark mark cs) ≡ None
  by true e later = absurd (omega (arith, e))
  by false e later = later (omega (arith, e))
