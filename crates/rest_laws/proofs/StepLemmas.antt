-- How many edges have spoken on a way, and that a switching point is one more.
use Rattle.std.proofs.Common.{◌≡◌, ◌≤◌, ◌∙◌, ◌==◌, ◌||◌, ℕ, suc, Bool, true, false, length, List, [], ◌∷◌, Some, refl, sym, ap, arith, reverse}
use Rattle.std.proofs.lemmas.List.{length-reverse}
use Rattle.net_base.specs.declared.plan.places.EdgeId.{EdgeId}
use Rattle.net_base.specs.plan.Paths.{follows, has_repeat, joins, mate_on, up_to, way_from}
use Rattle.net_values.proofs.BoolLemmas.{clash}
use Rattle.network_model.proofs.ReversedLemmas.{follows_reversed, once_reversed}
use Rattle.network_model.proofs.WayLemmas.{Passes, Onward, Homeward, behind_first, earlier_stands, either_here, joins_is, later_stands, mate_passes, once_behind, one_way}

-- ---- towards the end of a path

up_next : (path : List EdgeId) (from me : ℕ) → has_repeat path ≡ false → follows path from me ≡ true → length (up_to path me) ≡ suc (length (up_to path from))
up_next [] from me once h = clash h
up_next (last ∷ []) from me once h = clash h
up_next (first ∷ next ∷ rest) from me once h =
    let late : (me == first.0) ≡ false = behind_first first (next ∷ rest) me once (later_stands first (next ∷ rest) from me h) in
    either_here (from == first.0) (me == next.0) (follows (next ∷ rest) from me) h
    (λ p q. rw (late, p, q) refl)
    (λ t. rw (late, behind_first first (next ∷ rest) from once (earlier_stands (next ∷ rest) from me t)) (ap suc (up_next (next ∷ rest) from me (once_behind first (next ∷ rest) once) t)))

up_short : (path : List EdgeId) (from to : ℕ) → has_repeat path ≡ false → follows path from to ≡ true → suc (length (up_to path from)) ≤ length path
up_short [] from to once h = clash h
up_short (last ∷ []) from to once h = clash h
up_short (first ∷ next ∷ rest) from to once h =
    either_here (from == first.0) (to == next.0) (follows (next ∷ rest) from to) h
    (λ p q. rw p (two (length rest)))
    (λ t. rw (behind_first first (next ∷ rest) from once (earlier_stands (next ∷ rest) from to t))
    (one_more (length (up_to (next ∷ rest) from)) (length rest) (up_short (next ∷ rest) from to (once_behind first (next ∷ rest) once) t)))
  where
    two : (n : ℕ) → 2 ≤ suc (suc n)
    two n = omega arith

    one_more : (m n : ℕ) → suc m ≤ suc n → suc (suc m) ≤ suc (suc n)
    one_more m n h = omega (arith, h)

reversed_length : (path : List EdgeId) → length (reverse path) ≡ length path
reversed_length path = length-reverse path

-- ---- either way

-- a switching point speaks after the neighbour from which it hears
pub spoken_next : (path : List EdgeId) (me from : ℕ) (to : EdgeId) → has_repeat path ≡ false → mate_on path me from ≡ Some to
    → length (way_from path me to.0) ≡ suc (length (way_from path from me))
spoken_next path me from to once mated = by (mate_passes path me from to mated) where
  by : Passes path me from to.0 → length (way_from path me to.0) ≡ suc (length (way_from path from me))
  by (Onward a b) = rw (a, b) (up_next path from me once a)
  by (Homeward a b) = rw (one_way path to.0 me once a, one_way path me from once b) (up_next (reverse path) from me (once_reversed path ∙ once) (follows_reversed path from me ∙ b))

shorter : (m n k : ℕ) → suc m ≤ n → n ≡ k → suc m ≤ k
shorter m n k h e = omega (arith, h, e)

-- whoever speaks is not the last
pub spoken_short : (path : List EdgeId) (from to : ℕ) → has_repeat path ≡ false → joins from to path ≡ true → suc (length (way_from path from to)) ≤ length path
spoken_short path from to once joined = by (follows path from to) refl where
  by : (b : Bool) → follows path from to ≡ b → suc (length (way_from path from to)) ≤ length path
  by true on = rw on (up_short path from to once on)
  by false off =
      let back : follows path to from ≡ true = ap (λ (b : Bool). b || follows path to from) (sym off) ∙ (sym (joins_is path from to) ∙ joined) in
      rw off (shorter (length (up_to (reverse path) from)) (length (reverse path)) (length path) (up_short (reverse path) from to (once_reversed path ∙ once) (follows_reversed path from to ∙ back))
      (reversed_length path))
