-- Two neighbours on a path without a repeat: one follows the other, one way alone, and a switching point passes on the same way.
use Rattle.std.proofs.Common.{◌≡◌, ◌==◌, ◌&&◌, ◌||◌, ◌∙◌, ℕ, Bool, true, false, List, [], ◌∷◌, Some, refl, sym, ap, subst, arith}
use Rattle.std.specs.List.{list_any}
use Rattle.std.proofs.lemmas.Bool.{or_parts, eqb-true, and_parts}
use Rattle.std.proofs.lemmas.Bool.Decides.{nat_tests}
use Rattle.net_values.proofs.BoolLemmas.{clash, or_later}
use Rattle.net_values.proofs.NumberLemmas.{same_number as is_same}
use Rattle.net_values.proofs.OptionLemmas.{of_choice, by_first_or}
use Rattle.net_base.specs.declared.plan.places.EdgeId.{EdgeId}
use Rattle.net_base.specs.plan.Paths.{follows, has_repeat, joins, mate_among, mate_on}

pub split : {P : Type 0} (b : Bool) → (b ≡ true → P) → (b ≡ false → P) → P
split true f g = f refl
split false f g = g refl

pub turned_test : (v w : ℕ) {b : Bool} → (v == w) ≡ b → (w == v) ≡ b
turned_test v w h = grind (arith, nat_tests)

-- the edge stands on the path
abbrev pub stands_on : ℕ → List EdgeId → Bool
stands_on a path = list_any (λ (e : EdgeId). e.0 == a) path

-- a test of a pair, or a later one
pub either_here : {P : Type 0} (p q r : Bool) → (p && q) || r ≡ true → (p ≡ true → q ≡ true → P) → (r ≡ true → P) → P
either_here true true r h f g = f refl refl
either_here true false r h f g = g h
either_here false q r h f g = g h

-- ---- of two neighbours one follows the other

pub joins_is : (path : List EdgeId) (a b : ℕ) → joins a b path ≡ follows path a b || follows path b a
joins_is [] a b = refl
joins_is (last ∷ []) a b = refl
joins_is (first ∷ next ∷ rest) a b = mix (a == first.0 && b == next.0) (b == first.0 && a == next.0) (follows (next ∷ rest) a b) (follows (next ∷ rest) b a) (joins_is (next ∷ rest) a b) where
  mix : (p q r s : Bool) {t : Bool} → t ≡ r || s → (p || q) || t ≡ (p || r) || (q || s)
  mix p q r s h = grind (arith, h)

-- both stand on the path, and the later one behind the first edge
pub earlier_stands : (path : List EdgeId) (a b : ℕ) → follows path a b ≡ true → stands_on a path ≡ true
earlier_stands [] a b h = clash h
earlier_stands (last ∷ []) a b h = clash h
earlier_stands (first ∷ next ∷ rest) a b h =
    either_here (a == first.0) (b == next.0) (follows (next ∷ rest) a b) h
    (λ p q. rw (turned_test a first.0 p) refl)
    (λ t. or_later (first.0 == a) (earlier_stands (next ∷ rest) a b t))

pub later_stands : (first : EdgeId) (rest : List EdgeId) (a b : ℕ) → follows (first ∷ rest) a b ≡ true → stands_on b rest ≡ true
later_stands first [] a b h = clash h
later_stands first (next ∷ rest) a b h =
    either_here (a == first.0) (b == next.0) (follows (next ∷ rest) a b) h
    (λ p q. rw (turned_test b next.0 q) refl)
    (λ t. or_later (next.0 == b) (later_stands next rest a b t))

-- an edge that does not stand on a path is another one than those that do
pub not_there : (path : List EdgeId) (a b : ℕ) → stands_on a path ≡ false → stands_on b path ≡ true → (a == b) ≡ false
not_there path a b none some = split {P = (a == b) ≡ false} (a == b)
    (λ same. clash (sym none ∙ (ap (λ (n : ℕ). stands_on n path) (eqb-true a b same) ∙ some)))
    (λ other. other)

-- what stands behind the first edge is another one
pub behind_first : (first : EdgeId) (rest : List EdgeId) (a : ℕ) → has_repeat (first ∷ rest) ≡ false → stands_on a rest ≡ true → (a == first.0) ≡ false
behind_first first rest a once there = turned_test first.0 a (not_there rest first.0 a (or_parts (stands_on first.0 rest) (has_repeat rest) once).0 there)

pub once_behind : (first : EdgeId) (rest : List EdgeId) → has_repeat (first ∷ rest) ≡ false → has_repeat rest ≡ false
once_behind first rest once = (or_parts (stands_on first.0 rest) (has_repeat rest) once).1

-- no edge is followed by one that it follows
pub one_way : (path : List EdgeId) (a b : ℕ) → has_repeat path ≡ false → follows path a b ≡ true → follows path b a ≡ false
one_way [] a b once h = refl
one_way (last ∷ []) a b once h = refl
one_way (first ∷ next ∷ rest) a b once h =
    let late : (b == first.0) ≡ false = behind_first first (next ∷ rest) b once (later_stands first (next ∷ rest) a b h) in
    either_here (a == first.0) (b == next.0) (follows (next ∷ rest) a b) h
    (λ p q. rw late (split {P = follows (next ∷ rest) b a ≡ false} (follows (next ∷ rest) b a)
    (λ t. clash (sym (behind_first first (next ∷ rest) a once (later_on next rest b a t)) ∙ p))
    (λ f. f)))
    (λ t. rw late (one_way (next ∷ rest) a b (once_behind first (next ∷ rest) once) t))
  where
    later_on : (next : EdgeId) (rest : List EdgeId) (x y : ℕ) → follows (next ∷ rest) x y ≡ true → stands_on y (next ∷ rest) ≡ true
    later_on next rest x y t = or_later (next.0 == y) (later_stands next rest x y t)

-- ---- a switching point passes on the same way

-- the two neighbours of a switching point: it follows one, and the other follows it
pub data Passes (path : List EdgeId) (me from to : ℕ) : Type 0 where
  Onward : follows path from me ≡ true → follows path me to ≡ true → Passes path me from to
  Homeward : follows path to me ≡ true → follows path me from ≡ true → Passes path me from to

here_follows : (first next : EdgeId) (rest : List EdgeId) (a b : ℕ) → (a == first.0) ≡ true → (b == next.0) ≡ true → follows (first ∷ next ∷ rest) a b ≡ true
here_follows first next rest a b p q = rw (p, q) refl

later_follows : (first next : EdgeId) (rest : List EdgeId) (a b : ℕ) → follows (next ∷ rest) a b ≡ true → follows (first ∷ next ∷ rest) a b ≡ true
later_follows first next rest a b h = or_later (a == first.0 && b == next.0) h

pub mate_passes : (path : List EdgeId) (me from : ℕ) (to : EdgeId) → mate_on path me from ≡ Some to → Passes path me from to.0
mate_passes [] me from to is = absurd (cc (is))
mate_passes (last ∷ []) me from to is = absurd (cc (is))
mate_passes (before ∷ last ∷ []) me from to is = absurd (cc (is))
mate_passes (before ∷ point ∷ next ∷ rest) me from to is =
    by_first_or (mate_among before point next me from) (mate_on (point ∷ next ∷ rest) me from) to is
    (λ here. of_choice (me == point.0 && from == before.0) (me == point.0 && from == next.0) next before to here
    (λ test same. let (p, q) = and_parts (me == point.0) (from == before.0) test in
    subst (λ (e : EdgeId). Passes (before ∷ point ∷ next ∷ rest) me from e.0) same
    (Onward (here_follows before point (next ∷ rest) from me q p) (later_follows before point (next ∷ rest) me next.0 (here_follows point next rest me next.0 p (is_same next.0)))))
    (λ test same. let (p, q) = and_parts (me == point.0) (from == next.0) test in
    subst (λ (e : EdgeId). Passes (before ∷ point ∷ next ∷ rest) me from e.0) same
    (Homeward (here_follows before point (next ∷ rest) before.0 me (is_same before.0) p) (later_follows before point (next ∷ rest) me from (here_follows point next rest me from p q)))))
    (λ later. longer (mate_passes (point ∷ next ∷ rest) me from to later))
  where
    longer : Passes (point ∷ next ∷ rest) me from to.0 → Passes (before ∷ point ∷ next ∷ rest) me from to.0
    longer (Onward a b) = Onward (later_follows before point (next ∷ rest) from me a) (later_follows before point (next ∷ rest) me to.0 b)
    longer (Homeward a b) = Homeward (later_follows before point (next ∷ rest) to.0 me a) (later_follows before point (next ∷ rest) me from b)

-- so the way is the same
pub way_kept : (path : List EdgeId) (me from : ℕ) (to : EdgeId) → has_repeat path ≡ false → mate_on path me from ≡ Some to → follows path me to.0 ≡ follows path from me
way_kept path me from to once is = by (mate_passes path me from to is) where
  by : Passes path me from to.0 → follows path me to.0 ≡ follows path from me
  by (Onward a b) = b ∙ sym a
  by (Homeward a b) = one_way path to.0 me once a ∙ sym (one_way path me from once b)

-- and a mate follows on
pub mate_of_way : (path : List EdgeId) (from me to : ℕ) → has_repeat path ≡ false → follows path from me ≡ true → follows path me to ≡ true → mate_on path me from ≡ Some (record { 0 = to })
mate_of_way [] from me to once a b = clash a
mate_of_way (last ∷ []) from me to once a b = clash a
mate_of_way (before ∷ last ∷ []) from me to once a b =
    either_here (from == before.0) (me == last.0) false a
    (λ p q. either_here (me == before.0) (to == last.0) false b
    (λ r s. clash (sym (behind_first before (last ∷ []) me once (rw (turned_test me last.0 q) refl)) ∙ r))
    (λ t. clash t))
    (λ t. clash t)
mate_of_way (before ∷ point ∷ next ∷ rest) from me to once a b =
    let late : (me == before.0) ≡ false = behind_first before (point ∷ next ∷ rest) me once (later_stands before (point ∷ next ∷ rest) from me a) in
    let on : follows (point ∷ next ∷ rest) me to ≡ true = rw late at b in
    either_here (from == before.0) (me == point.0) (follows (point ∷ next ∷ rest) from me) a
    (λ p q. rw (q, p) (first_on q on))
    (λ t. later (me == point.0) refl t on (mate_of_way (point ∷ next ∷ rest) from me to (once_behind before (point ∷ next ∷ rest) once) t on))
  where
    first_on : (me == point.0) ≡ true → follows (point ∷ next ∷ rest) me to ≡ true → Some next ≡ Some (record { 0 = to })
    first_on q on = either_here (me == point.0) (to == next.0) (follows (next ∷ rest) me to) on
        (λ r s. ap (λ (n : ℕ). Some (record { 0 = n })) (sym (eqb-true to next.0 s)))
        (λ t. clash (sym (behind_first point (next ∷ rest) me (once_behind before (point ∷ next ∷ rest) once) (earlier_stands (next ∷ rest) me to t)) ∙ q))

    later : (test : Bool) → (me == point.0) ≡ test → follows (point ∷ next ∷ rest) from me ≡ true → follows (point ∷ next ∷ rest) me to ≡ true
        → mate_on (point ∷ next ∷ rest) me from ≡ Some (record { 0 = to }) → mate_on (before ∷ point ∷ next ∷ rest) me from ≡ Some (record { 0 = to })
    later true q t on more = clash (sym (behind_first point (next ∷ rest) me (once_behind before (point ∷ next ∷ rest) once) (later_stands point (next ∷ rest) from me t)) ∙ q)
    later false q t on more = rw q more
