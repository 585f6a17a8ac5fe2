-- Sums in ones' complement.
use Rattle.std.proofs.Common.{◌≡◌, ◌<◌, ◌+◌, ◌-◌, ◌*◌, ◌/◌, ◌%◌, ◌++◌, ◌∙◌, ℕ, suc, List, [], ◌∷◌, length, refl, sym, ap, arith}
use Rattle.vccv_channel.specs.Checksum.{ones_plus, ones_sum, summed, IsSummed}
use Rattle.net_values.specs.Octets.{AreOctets}

plus_fits : (a b : ℕ) → a < 65536 → b < 65536 → ones_plus a b < 65536
unfolding ones_plus
plus_fits a b fa fb = omega arith

plus_zero : (b : ℕ) → b < 65536 → ones_plus 0 b ≡ b
unfolding ones_plus
plus_zero b fb = omega arith

plus_assoc : (a b c : ℕ) → a < 65536 → b < 65536 → c < 65536 → ones_plus a (ones_plus b c) ≡ ones_plus (ones_plus a b) c
unfolding ones_plus
plus_assoc a b c fa fb fc = omega arith

plus_comm : (a b : ℕ) → ones_plus a b ≡ ones_plus b a
unfolding ones_plus
plus_comm a b = omega arith

-- a number and its complement are all ones
plus_complement : (s : ℕ) → s < 65536 → ones_plus (65535 - s) s ≡ 65535
unfolding ones_plus
plus_complement s fs = omega arith

plus_swap : (a b c : ℕ) → a < 65536 → b < 65536 → c < 65536 → ones_plus a (ones_plus b c) ≡ ones_plus b (ones_plus a c)
plus_swap a b c fa fb fc = plus_assoc a b c fa fb fc ∙ (ap (λ (s : ℕ). ones_plus s c) (plus_comm a b) ∙ sym (plus_assoc b a c fb fa fc))

-- behind the first two octets stand octets
behind_two : (a b : ℕ) (xs : List ℕ) → AreOctets (a ∷ b ∷ xs) → AreOctets xs
behind_two a b xs octets = λ (i : ℕ). octets (suc (suc i))

pub sum_fits : (xs : List ℕ) → AreOctets xs → ones_sum xs < 65536
sum_fits [] octets = omega arith
sum_fits (a ∷ []) octets = let high : a < 256 = octets 0 in plus_fits (a * 256) 0 (omega arith) (omega arith)
sum_fits (a ∷ b ∷ xs) octets =
    let high : a < 256 = octets 0 in
    let low : b < 256 = octets 1 in
    plus_fits (a * 256 + b) (ones_sum xs) (omega arith) (sum_fits xs (behind_two a b xs octets))

-- the sum of two parts with 0 between them, the first of an even number of octets, is that of their sums
pub sum_apart : (front back : List ℕ) → AreOctets front → AreOctets back → length front % 2 ≡ 0 → ones_sum (front ++ (0 ∷ 0 ∷ back)) ≡ ones_plus (ones_sum front) (ones_sum back)
sum_apart [] back fo bo even = refl
sum_apart (a ∷ []) back fo bo even = absurd (omega arith)
sum_apart (a ∷ b ∷ xs) back fo bo even =
    let high : a < 256 = fo 0 in
    let low : b < 256 = fo 1 in
    let rest : AreOctets xs = behind_two a b xs fo in
    let next : length xs % 2 ≡ 0 = omega arith in
    ap (λ (s : ℕ). ones_plus (a * 256 + b) s) (sum_apart xs back rest bo next)
    ∙ plus_assoc (a * 256 + b) (ones_sum xs) (ones_sum back) (omega arith) (sum_fits xs rest) (sum_fits back bo)

-- a word that stands in the place of 0 is added
sum_with : (front back : List ℕ) (high low word : ℕ) → AreOctets front → AreOctets back → length front % 2 ≡ 0 → word < 65536 → high * 256 + low ≡ word
    → ones_sum (front ++ (high ∷ low ∷ back)) ≡ ones_plus word (ones_sum (front ++ (0 ∷ 0 ∷ back)))
sum_with [] back high low word fo bo even fits is =
    ap (λ (w : ℕ). ones_plus w (ones_sum back)) is ∙ ap (λ (s : ℕ). ones_plus word s) (sym (plus_zero (ones_sum back) (sum_fits back bo)))
sum_with (a ∷ []) back high low word fo bo even fits is = absurd (omega arith)
sum_with (a ∷ b ∷ xs) back high low word fo bo even fits is =
    let first : a < 256 = fo 0 in
    let second : b < 256 = fo 1 in
    let rest : AreOctets xs = behind_two a b xs fo in
    let next : length xs % 2 ≡ 0 = omega arith in
    let apart = sum_apart xs back rest bo next in
    let small : ones_sum (xs ++ (0 ∷ 0 ∷ back)) < 65536 = rw apart (plus_fits (ones_sum xs) (ones_sum back) (sum_fits xs rest) (sum_fits back bo)) in
    ap (λ (s : ℕ). ones_plus (a * 256 + b) s) (sum_with xs back high low word rest bo next fits is)
    ∙ plus_swap (a * 256 + b) word (ones_sum (xs ++ (0 ∷ 0 ∷ back))) (omega arith) fits small

-- the two octets of a word are it
pub word_of : (word : ℕ) → word < 65536 → word / 256 % 256 * 256 + word % 256 ≡ word
word_of word fits = omega arith

-- with its checksum a row of octets sums to all ones
pub summed_is : (front back : List ℕ) → AreOctets front → AreOctets back → length front % 2 ≡ 0 → IsSummed (summed front back)
summed_is front back fo bo even =
    let apart = sum_apart front back fo bo even in
    let small : ones_sum (front ++ (0 ∷ 0 ∷ back)) < 65536 = rw apart (plus_fits (ones_sum front) (ones_sum back) (sum_fits front fo) (sum_fits back bo)) in
    let word : ℕ = 65535 - ones_sum (front ++ (0 ∷ 0 ∷ back)) in
    let fits : word < 65536 = omega arith in
    sum_with front back (word / 256 % 256) (word % 256) word fo bo even fits (word_of word fits)
    ∙ plus_complement (ones_sum (front ++ (0 ∷ 0 ∷ back))) small
