-- Numbers in octets.
use Rattle.std.proofs.Common.{◌≡◌, ◌≤◌, ◌<◌, ◌+◌, ◌*◌, ◌/◌, ◌%◌, ◌++◌, ℕ, zero, suc, List, [], ◌∷◌, length, get_or, take, drop, ap, arith}
use Rattle.byteorder.specs.Endian.{big_number}
use Rattle.byteorder.specs.Numbers.{big_number-reads_back}
use Rattle.ldp_grammar.specs.Octets.{two, four, two_at, four_at}

abbrev pub AreOctets : List ℕ → Type 0
AreOctets xs = (i : ℕ) → get_or xs i 0 < 256

-- two octets stand for one number
pub same_two : (m n : ℕ) → m < 65536 → n < 65536 → m / 256 % 256 ≡ n / 256 % 256 → m % 256 ≡ n % 256 → m ≡ n
same_two m n m_fits n_fits high low = omega arith

-- the two octets of the number in two octets are these
two_of : (n a b : ℕ) → a < 256 → b < 256 → n ≡ a * 256 + b → two n ≡ a ∷ b ∷ []
two_of n a b fa fb is =
    let high : n / 256 % 256 ≡ a = omega arith in
    let low : n % 256 ≡ b = omega arith in
    λ i. high i ∷ low i ∷ []

pub two_read : (xs : List ℕ) → AreOctets xs → 2 ≤ length xs → two (two_at 0 xs) ++ drop 2 xs ≡ xs
two_read [] octets long = absurd (omega arith)
two_read (a ∷ []) octets long = absurd (omega arith)
two_read (a ∷ b ∷ xs) octets long =
    let e : two (two_at 0 (a ∷ b ∷ xs)) ≡ a ∷ b ∷ [] = two_of (two_at 0 (a ∷ b ∷ xs)) a b (octets 0) (octets 1) (omega arith) in
    ap (λ (l : List ℕ). l ++ xs) e

-- four octets stand for one number
pub same_four : (m n : ℕ) → m < 4294967296 → n < 4294967296 → m / 16777216 % 256 ≡ n / 16777216 % 256 → m / 65536 % 256 ≡ n / 65536 % 256 → m / 256 % 256 ≡ n / 256 % 256 → m % 256 ≡ n % 256 → m ≡ n
same_four m n m_fits n_fits a b c d = omega arith

four_of : (n a b c d : ℕ) → a < 256 → b < 256 → c < 256 → d < 256 → n ≡ a * 16777216 + (b * 65536 + (c * 256 + d)) → four n ≡ a ∷ b ∷ c ∷ d ∷ []
four_of n a b c d fa fb fc fd is =
    let first : n / 16777216 % 256 ≡ a = omega arith in
    let second : n / 65536 % 256 ≡ b = omega arith in
    let third : n / 256 % 256 ≡ c = omega arith in
    let last : n % 256 ≡ d = omega arith in
    λ i. first i ∷ second i ∷ third i ∷ last i ∷ []

pub four_read : (xs : List ℕ) → AreOctets xs → 4 ≤ length xs → four (four_at 0 xs) ++ drop 4 xs ≡ xs
four_read [] octets long = absurd (omega arith)
four_read (a ∷ []) octets long = absurd (omega arith)
four_read (a ∷ b ∷ []) octets long = absurd (omega arith)
four_read (a ∷ b ∷ c ∷ []) octets long = absurd (omega arith)
four_read (a ∷ b ∷ c ∷ d ∷ xs) octets long =
    let e : four (four_at 0 (a ∷ b ∷ c ∷ d ∷ xs)) ≡ a ∷ b ∷ c ∷ d ∷ [] = four_of (four_at 0 (a ∷ b ∷ c ∷ d ∷ xs)) a b c d (octets 0) (octets 1) (octets 2) (octets 3) (omega arith) in
    ap (λ (l : List ℕ). l ++ xs) e

-- the number that is written is the number that is read
pub read_two : (n : ℕ) (more : List ℕ) → n < 65536 → big_number 2 (two n ++ more) ≡ n
read_two n more fits = big_number-reads_back 2 n more fits

pub read_four : (n : ℕ) (more : List ℕ) → n < 4294967296 → big_number 4 (four n ++ more) ≡ n
read_four n more fits = big_number-reads_back 4 n more fits

-- parts of octets are octets
none_octet : (i : ℕ) → get_or [] i 0 < 256
none_octet i = omega arith

pub octets_drop : (n : ℕ) (xs : List ℕ) → AreOctets xs → AreOctets (drop n xs)
octets_drop zero xs octets = octets
octets_drop (suc n) [] octets = none_octet
octets_drop (suc n) (x ∷ xs) octets = octets_drop n xs (λ i. octets (suc i))

pub octet_front : (x : ℕ) (xs : List ℕ) → x < 256 → AreOctets xs → (i : ℕ) → get_or (x ∷ xs) i 0 < 256
octet_front x xs fits octets zero = fits
octet_front x xs fits octets (suc i) = octets i

pub octets_take : (n : ℕ) (xs : List ℕ) → AreOctets xs → AreOctets (take n xs)
octets_take zero xs octets = none_octet
octets_take (suc n) [] octets = none_octet
octets_take (suc n) (x ∷ xs) octets = octet_front x (take n xs) (octets 0) (octets_take n xs (λ i. octets (suc i)))

pub octets_before : (front more : List ℕ) → AreOctets (front ++ more) → AreOctets front
octets_before [] more octets = none_octet
octets_before (x ∷ front) more octets = octet_front x front (octets 0) (octets_before front more (λ i. octets (suc i)))
