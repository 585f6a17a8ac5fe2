-- Copies that are seen under way, whose numbers go up to a count.
use Rattle.std.proofs.Common.{◌≡◌, ◌≤◌, ◌<◌, ◌++◌, ℕ, Bool, true, false, List, [], ◌∷◌, cond, map, nat_eq, refl, ap, arith}
use Rattle.std.proofs.lemmas.Bool.{ne_eqb}
use Rattle.network_model.specs.declared.packet.Packet.{Packet}
use Rattle.network_model.specs.State.{all_older, lives_on, older}
use Rattle.seen_network.specs.Seen.{SeenCopy, without_copy}
use Rattle.seen_laws.specs.Shows.{AreUpTo, copy_of}

pub below_more : (most more : ℕ) (copies : List SeenCopy) → most ≤ more → AreUpTo most copies → AreUpTo more copies
below_more most more [] up below = tt
below_more most more (copy ∷ copies) up below = (omega (arith, up, below.0), below_more most more copies up below.1)

pub below_behind : (most : ℕ) (copies : List SeenCopy) (copy : SeenCopy) → AreUpTo most copies → copy.number ≤ most → AreUpTo most (copies ++ copy ∷ [])
below_behind most [] copy below is = (is, tt)
below_behind most (first ∷ copies) copy below is = (below.0, below_behind most copies copy below.1 is)

pub without_below : (most number : ℕ) (copies : List SeenCopy) → AreUpTo most copies → AreUpTo most (without_copy number copies)
without_below most number [] below = tt
without_below most number (copy ∷ copies) below = by (nat_eq copy.number number) (without_below most number copies below.1) where
  by : (b : Bool) → AreUpTo most (without_copy number copies) → AreUpTo most (cond b copies (copy ∷ without_copy number copies))
  by true rest = below.1
  by false rest = (below.0, rest)

-- a number above all of them is none of theirs
pub none_without : (most number : ℕ) (copies : List SeenCopy) → AreUpTo most copies → most < number → without_copy number copies ≡ copies
none_without most number [] below above = refl
none_without most number (copy ∷ copies) below above = rw apart (ap (λ (l : List SeenCopy). copy ∷ l) (none_without most number copies below.1 above)) where
  apart : nat_eq copy.number number ≡ false
  apart = ne_eqb copy.number number (λ same. omega (arith, same, below.0, above))

-- those that a tick leaves
pub older_below : (most : ℕ) (packets : List Packet) → AreUpTo most (map copy_of packets) → AreUpTo most (map copy_of (all_older packets))
older_below most [] below = tt
older_below most (p ∷ ps) below = by (lives_on p) (older_below most ps below.1) where
  by : (b : Bool) → AreUpTo most (map copy_of (all_older ps)) → AreUpTo most (map copy_of (cond b (older p ∷ all_older ps) (all_older ps)))
  by true rest = (below.0, rest)
  by false rest = rest
