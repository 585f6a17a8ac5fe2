-- Words of sixteen bits in rows of octets.
use Rattle.std.proofs.Common.{◌≡◌, ◌≤◌, ◌+◌, ◌*◌, ◌-◌, ◌%◌, ◌∙◌, ℕ, List, [], ◌∷◌, length, drop, get_or, refl, ap, sym, arith}
use Rattle.std.proofs.lemmas.List.{drop_more, drop_all}
use Rattle.net_base.specs.trace.Frame.{pair_at}
use Rattle.vccv_channel.specs.Checksum.{words, ones_plus, ones_total, ones_sum}

-- at a place with an octet behind it a word of both begins
pub word_pair : (xs : List ℕ) (at : ℕ) → at + 2 ≤ length xs → words (drop at xs) ≡ pair_at xs at ∷ words (drop (at + 2) xs)
word_pair xs at long =
    let next : drop (at + 1 + 1) xs ≡ drop (at + 2) xs = ap (λ (n : ℕ). drop n xs) (omega arith) in
    let second : drop (at + 1) xs ≡ get_or xs (at + 1) 0 ∷ drop (at + 2) xs = drop_more xs (at + 1) 0 (omega arith) ∙ ap (λ (l : List ℕ). get_or xs (at + 1) 0 ∷ l) next in
    let first : drop at xs ≡ get_or xs at 0 ∷ get_or xs (at + 1) 0 ∷ drop (at + 2) xs = drop_more xs at 0 (omega arith) ∙ ap (λ (l : List ℕ). get_or xs at 0 ∷ l) second in
    ap words first

-- the last octet alone is a word
pub word_alone : (xs : List ℕ) (at : ℕ) → at + 1 ≡ length xs → words (drop at xs) ≡ get_or xs at 0 * 256 ∷ words (drop (at + 2) xs)
word_alone xs at last =
    let none : drop (at + 1) xs ≡ [] = drop_all (at + 1) xs (omega arith) in
    let nothing : drop (at + 2) xs ≡ [] = drop_all (at + 2) xs (omega arith) in
    let first : drop at xs ≡ get_or xs at 0 ∷ [] = drop_more xs at 0 (omega arith) ∙ ap (λ (l : List ℕ). get_or xs at 0 ∷ l) none in
    rw (first, nothing) refl

-- the sum is that of the words from a place on, which is even
pub record IsSummedFrom (sum at : ℕ) (octets : List ℕ) : Type 0 where
  pub within : at ≤ length octets + 1
  pub even : at % 2 ≡ 0
  pub sum_of : sum ≡ ones_sum (drop at octets)

pub sum_starts : (xs : List ℕ) → IsSummedFrom 0 (length xs + length xs % 2) xs
sum_starts xs =
    let none : drop (length xs + length xs % 2) xs ≡ [] = drop_all (length xs + length xs % 2) xs (omega arith) in
    record { within = omega arith; even = omega arith; sum_of = sym (ap ones_sum none) }

pub sum_more : (xs : List ℕ) (sum word at more : ℕ) → IsSummedFrom sum at xs → 2 ≤ at → words (drop (at - 2) xs) ≡ word ∷ words (drop (at - 2 + 2) xs) → more ≡ ones_plus word sum
    → IsSummedFrom more (at - 2) xs
sum_more xs sum word at more from two is added =
    let back : at - 2 + 2 ≡ at = omega arith in
    let rest : ones_sum (drop (at - 2 + 2) xs) ≡ sum = ap (λ (n : ℕ). ones_sum (drop n xs)) back ∙ sym from.sum_of in
    record {
      within = omega (arith, from.within);
      even = omega (arith, from.even);
      sum_of = added ∙ sym (ap ones_total is ∙ ap (λ (s : ℕ). ones_plus word s) rest);
    }

pub sum_whole : (xs : List ℕ) (sum at : ℕ) → IsSummedFrom sum at xs → at ≡ 0 → sum ≡ ones_sum xs
sum_whole xs sum at from none = from.sum_of ∙ ap (λ (n : ℕ). ones_sum (drop n xs)) none
