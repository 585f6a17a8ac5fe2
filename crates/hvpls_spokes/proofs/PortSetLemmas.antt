-- A bit of a row of words is set or cleared, and the others stay; and a set whose ports are below a number.
use Rattle.std.proofs.Common.{◌≡◌, ◌≢◌, ◌<◌, ◌≤◌, ◌/◌, ◌%◌, ◌*◌, ◌^◌, ℕ, Bool, true, false, refl, List, length, get_or, set, bit_and, bit_or, nat_eq, inl, inr, ap, arith, eq-eqb, w64, get_or-set_same, get_or-set_other}
use Rattle.std.proofs.lemmas.Bool.{cases_eq}
use Rattle.std.proofs.lemmas.Nat.Bits.{bit_at_set_same, bit_at_set_other, bit_at_clear_same, bit_at_clear_other}
use Rattle.std.specs.Int.{bit_at, bit_not}
use Rattle.hvpls_spokes.specs.PortSet.{holds_port}

-- a word is replaced by one that has the same bits but for that of a port
other_bits : (words : List ℕ) (port p word : ℕ) → port < 512 → length words ≡ 8 → p ≢ port
    → ((bit : ℕ) → bit < 64 → bit ≢ port % 64 → bit_at word bit ≡ bit_at (get_or words (port / 64) 0) bit)
    → holds_port (set words (port / 64) word) p ≡ holds_port words p
other_bits words port p word fits len ne same = elim (cases_eq (p / 64) (port / 64)) [
  | inl together ↦
      let within : port / 64 < length words = omega arith in
      let low : p % 64 < 64 = omega arith in
      let other : p % 64 ≢ port % 64 = λ e. absurd (ne (omega arith)) in
      rw (together, get_or-set_same) (ap (λ (bit : ℕ). nat_eq bit 1) (same (p % 64) low other))
  | inr apart ↦ rw get_or-set_other
]

pub set_same : (words : List ℕ) (port : ℕ) → port < 512 → length words ≡ 8 → holds_port (set words (port / 64) (bit_or (get_or words (port / 64) 0) (1 * 2 ^ (port % 64) % 2 ^ 64))) port ≡ true
set_same words port fits len =
    let within : port / 64 < length words = omega arith in
    let low : port % 64 < 64 = omega arith in
    rw get_or-set_same (eq-eqb _ _ (bit_at_set_same w64 (get_or words (port / 64) 0) (port % 64) low))

pub set_other : (words : List ℕ) (port p : ℕ) → port < 512 → length words ≡ 8 → p ≢ port
    → holds_port (set words (port / 64) (bit_or (get_or words (port / 64) 0) (1 * 2 ^ (port % 64) % 2 ^ 64))) p ≡ holds_port words p
set_other words port p fits len ne =
    let low : port % 64 < 64 = omega arith in
    other_bits words port p _ fits len ne (λ bit within other. bit_at_set_other w64 (get_or words (port / 64) 0) (port % 64) low bit other)

pub clear_same : (words : List ℕ) (port : ℕ) → port < 512 → length words ≡ 8
    → holds_port (set words (port / 64) (bit_and (get_or words (port / 64) 0) (bit_not w64 (1 * 2 ^ (port % 64) % 2 ^ 64)))) port ≡ false
clear_same words port fits len =
    let within : port / 64 < length words = omega arith in
    let low : port % 64 < 64 = omega arith in
    rw get_or-set_same (ap (λ (bit : ℕ). nat_eq bit 1) (bit_at_clear_same w64 (get_or words (port / 64) 0) (port % 64) low))

pub clear_other : (words : List ℕ) (port p : ℕ) → port < 512 → length words ≡ 8 → p ≢ port
    → holds_port (set words (port / 64) (bit_and (get_or words (port / 64) 0) (bit_not w64 (1 * 2 ^ (port % 64) % 2 ^ 64)))) p ≡ holds_port words p
clear_other words port p fits len ne =
    let low : port % 64 < 64 = omega arith in
    other_bits words port p _ fits len ne (λ bit within other. bit_at_clear_other w64 (get_or words (port / 64) 0) (port % 64) low bit within other)

-- a set whose ports are below a number does not have this one
pub beyond : (has_it : Bool) (port len : ℕ) → (has_it ≡ true → port < len) → len ≤ port → false ≡ has_it
beyond false port len below past = refl
beyond true port len below past = absurd (omega (arith, below refl))
