-- The laws of switching points.
use Rattle.std.proofs.Common.{◌≡◌, ◌≤◌, ◌<◌, ◌+◌, ◌*◌, ◌-◌, ◌==◌, ◌/◌, ◌%◌, ◌++◌, ◌&&◌, ◌||◌, ◌∙◌, not, nat_lt, ℕ, Bool, true, false, List, [], ◌∷◌, Option, Some, None, Ok, is_some, length, drop, refl, ap, sym, arith}
use Rattle.std.proofs.lemmas.Bool.Decides.{nat_tests}
use Rattle.std.proofs.lemmas.Slice.Eq.{bytes_eq-Decides}
use Rattle.std.specs.List.{list_any}
use Rattle.byteorder.specs.Endian.{big_number}
use Rattle.byteorder.specs.Numbers.{big_number-reads_back}
use Rattle.net_values.specs.declared.addr.Addr.{Addr}
use Rattle.pw_tlvs.specs.declared.point.Point.{Point}
use Rattle.pw_signalling.specs.declared.binding.Binding.{Binding}
use Rattle.pw_signalling.specs.declared.told.Told.{Told}
use Rattle.pw_signalling.specs.End.{EndState}
use Rattle.pw_stitch.specs.declared.side.Side.{Side}
use Rattle.pw_stitch.specs.declared.side.Side.TheVariants.{Before, After}
use Rattle.pw_stitch.specs.Accepting.{is_point_at, most_points}
use Rattle.pw_stitch.specs.Laws.{BreaksLoops, CarriesBothWays, ChangesLabelAlone}
use Rattle.pw_stitch.specs.Passing.{own_point, past_point}
use Rattle.pw_stitch.specs.Relabelling.{relabelled}
use Rattle.pw_stitch.specs.Side.{opposite}
use Rattle.pw_stitch.specs.Stitch.{has_told, is_joined_end}
use Rattle.pw_stitch.specs.Swap.{label_onward, next_by}

-- ---- loops

own_is_there : (own : Addr) (far : Option Addr) (pw_id : ℕ) → is_point_at own (own_point pw_id (Some own) far) ≡ true
own_is_there own far pw_id = (bytes_eq-Decides own.0 own.0).1 refl

found_behind : (own : Addr) (point : Point) (before more : List Point) → is_point_at own point ≡ true → list_any (is_point_at own) ((before ++ point ∷ []) ++ more) ≡ true
found_behind own point [] more is = ap (λ (b : Bool). b || list_any (is_point_at own) more) is
found_behind own point (first ∷ before) more is = by (is_point_at own first) (found_behind own point before more is) where
  by : (b : Bool) → list_any (is_point_at own) ((before ++ point ∷ []) ++ more) ≡ true → b || list_any (is_point_at own) ((before ++ point ∷ []) ++ more) ≡ true
  by true later = refl
  by false later = later

pub breaks_loops : BreaksLoops
breaks_loops own far pw_id binding told back more passed came =
    ap (λ (b : Bool). not b && nat_lt (length back.points) most_points)
    (ap (list_any (is_point_at own)) (came ∙ ap (λ (t : Told). t.points ++ more) (sym (same told passed)))
    ∙ found_behind own (own_point pw_id (Some own) far) binding.told.points more (own_is_there own far pw_id))
  where
    same : (told : Told) → Some (past_point (own_point pw_id (Some own) far) binding.told) ≡ Some told → past_point (own_point pw_id (Some own) far) binding.told ≡ told
    same told passed = cc (passed)

-- ---- packets

across : (side : Side) (ttl : ℕ) (remote : Option Binding) → is_some remote ≡ true → 2 ≤ ttl
    → (binding : Binding) × ((remote ≡ Some binding) × (next_by (opposite side) ttl (label_onward remote ttl) ≡ Ok (record { side = opposite side; label = binding.label; ttl = ttl - 1 })))
across side ttl None is lives = absurd (cc (is))
across side ttl (Some binding) is lives =
    let living : (ttl == 1) ≡ false = grind (arith, nat_tests) in
    (binding, (refl, rw living refl))

ends_joined : (before after : EndState) → is_joined_end before && is_joined_end after ≡ true → (is_some before.remote ≡ true) × (is_some after.remote ≡ true)
ends_joined before after through = parts (has_told before.local) (is_some before.remote) (has_told after.local) (is_some after.remote) through where
  parts : (p q r s : Bool) → (p && q) && (r && s) ≡ true → (q ≡ true) × (s ≡ true)
  parts true true true true h = (refl, refl)
  parts true true true false h = absurd (cc (h))
  parts true true false s h = absurd (cc (h))
  parts true false r s h = absurd (cc (h))
  parts false q r s h = absurd (cc (h))

pub carries_both_ways : CarriesBothWays
carries_both_ways stitch Before label ttl through mine other lives =
    let goes = across Before ttl stitch.after.remote (ends_joined stitch.before stitch.after through).1 lives in
    record { one = rw (mine, other) refl; binding = goes.0; bound = goes.1.0; next = rw mine goes.1.1 }
carries_both_ways stitch After label ttl through mine other lives =
    let goes = across After ttl stitch.before.remote (ends_joined stitch.before stitch.after through).0 lives in
    record { one = rw (other, mine) refl; binding = goes.0; bound = goes.1.0; next = rw other goes.1.1 }

-- ---- entries

number_fits : (n label ttl : ℕ) → label ≤ 1048575 → ttl < 256 → label * 4096 + (n / 256 % 16 * 256 + ttl) < 4294967296
number_fits n label ttl low short = omega (arith, low, short)

label_is : (n label ttl : ℕ) → ttl < 256 → (label * 4096 + (n / 256 % 16 * 256 + ttl)) / 4096 ≡ label
label_is n label ttl short = omega (arith, short)

class_is : (n label ttl : ℕ) → ttl < 256 → (label * 4096 + (n / 256 % 16 * 256 + ttl)) / 512 % 8 ≡ n / 512 % 8
class_is n label ttl short = omega (arith, short)

bottom_is : (n label ttl : ℕ) → ttl < 256 → (label * 4096 + (n / 256 % 16 * 256 + ttl)) / 256 % 2 ≡ n / 256 % 2
bottom_is n label ttl short = omega (arith, short)

ttl_is : (n label ttl : ℕ) → ttl < 256 → (label * 4096 + (n / 256 % 16 * 256 + ttl)) % 256 ≡ ttl
ttl_is n label ttl short = omega (arith, short)

pub changes_label_alone : ChangesLabelAlone
changes_label_alone label ttl packet is short = record {
  label = ap (λ (n : ℕ). n / 4096) reads ∙ label_is was label ttl short;
  class = ap (λ (n : ℕ). n / 512 % 8) reads ∙ class_is was label ttl short;
  bottom = ap (λ (n : ℕ). n / 256 % 2) reads ∙ bottom_is was label ttl short;
  ttl = ap (λ (n : ℕ). n % 256) reads ∙ ttl_is was label ttl short;
  behind = refl;
}
  where
    was : ℕ
    was = big_number 4 packet

    reads : big_number 4 (relabelled label ttl packet) ≡ label * 4096 + (was / 256 % 16 * 256 + ttl)
    reads = big_number-reads_back 4 (label * 4096 + (was / 256 % 16 * 256 + ttl)) (drop 4 packet) (number_fits was label ttl is.below short)
