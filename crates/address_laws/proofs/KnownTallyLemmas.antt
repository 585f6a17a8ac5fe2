-- Sums over ports that pass tests: over fewer ports, over one port, and over the port that alone counts.
use Rattle.std.proofs.Common.{◌≡◌, ◌≤◌, ◌+◌, ◌&&◌, ℕ, zero, suc, Bool, true, false, List, [], ◌∷◌, Some, cond, not, slice_get, refl, ap, arith}
use Rattle.hvpls_spokes.specs.declared.port.Port.{Port}
use Rattle.flood_laws.proofs.TallyLemmas.{tally}

-- a port counts where it passes the test
abbrev pub where_passes : (Port → Bool) → (Port → ℕ) → Port → ℕ
where_passes test count x = cond (test x) (count x) 0

-- one port of a list counts no more than all
pub tally_at : (count : Port → ℕ) (xs : List Port) (k : ℕ) (x : Port) → slice_get xs k ≡ Some x → count x ≤ tally count xs
tally_at count [] k x is = absurd (cc (is))
tally_at count (y ∷ ys) zero x is =
    let same : y ≡ x = cc (is) in
    omega (arith, ap count same)
tally_at count (y ∷ ys) (suc k) x is = omega (arith, tally_at count ys k x is)

-- fewer ports count no more
pub tally_fewer : (count : Port → ℕ) (few many : Port → Bool) (xs : List Port) → ((x : Port) → few x ≡ true → many x ≡ true)
    → tally (where_passes few count) xs ≤ tally (where_passes many count) xs
tally_fewer count few many [] part = omega arith
tally_fewer count few many (x ∷ xs) part = omega (arith, here (few x) (many x) (count x) (part x), tally_fewer count few many xs part) where
  here : (p q : Bool) (n : ℕ) → (p ≡ true → q ≡ true) → cond p n 0 ≤ cond q n 0
  here true true n part = omega arith
  here true false n part = absurd (cc (part refl))
  here false true n part = omega arith
  here false false n part = omega arith

-- those that pass a test are those of them that pass another one too, and those that do not
tally_parts : (count : Port → ℕ) (test other : Port → Bool) (xs : List Port)
    → tally (where_passes test count) xs ≡ tally (where_passes (λ x. test x && other x) count) xs + tally (where_passes (λ x. test x && not (other x)) count) xs
tally_parts count test other [] = refl
tally_parts count test other (x ∷ xs) = omega (arith, here (test x) (other x) (count x), tally_parts count test other xs) where
  here : (p q : Bool) (n : ℕ) → cond p n 0 ≡ cond (p && q) n 0 + cond (p && not q) n 0
  here true true n = omega arith
  here true false n = omega arith
  here false q n = refl

-- Where all ports together count one, and those that are named do so alone, then of some of the ports the named ones count as much
-- as all of these.
pub named_alone : (count : Port → ℕ) (some all named : Port → Bool) (xs : List Port) → ((x : Port) → some x ≡ true → all x ≡ true)
    → tally (where_passes all count) xs ≡ 1 → 1 ≤ tally (where_passes (λ x. all x && named x) count) xs
    → tally (where_passes (λ x. some x && named x) count) xs ≡ tally (where_passes some count) xs
named_alone count some all named xs part one alone =
    omega (
      arith,
      one,
      alone,
      tally_parts count some named xs,
      tally_parts count all named xs,
      tally_fewer count (λ x. some x && not (named x)) (λ x. all x && not (named x)) xs (λ x. here (some x) (all x) (named x) (part x)),
    )
  where
    here : (p q r : Bool) → (p ≡ true → q ≡ true) → p && not r ≡ true → q && not r ≡ true
    here true true r part is = is
    here true false r part is = absurd (cc (part refl))
    here false q r part is = absurd (cc (is))
