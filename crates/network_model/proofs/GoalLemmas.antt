-- The terminal edge that is travelled to: it stays where a switching point passes on, and is the edge that is reached where that is
-- a terminal edge.
use Rattle.std.proofs.Common.{◌≡◌, ◌==◌, ◌&&◌, ◌||◌, ◌∙◌, ℕ, Bool, true, false, List, [], ◌∷◌, Option, Some, None, if◌then◌else◌, refl, sym, ap, arith}
use Rattle.std.proofs.lemmas.Bool.Decides.{nat_tests}
use Rattle.std.proofs.lemmas.Bool.{eqb-true}
use Rattle.net_values.proofs.BoolLemmas.{clash, or_later, second_of_two}
use Rattle.net_values.proofs.NumberLemmas.{same_number as is_same}
use Rattle.net_base.specs.declared.plan.places.EdgeId.{EdgeId}
use Rattle.net_base.specs.plan.Paths.{follows, has_repeat, is_first, is_last, joins, mate_on}
use Rattle.network_model.specs.Goal.{first_or, goal, last_or}
use Rattle.network_model.proofs.WayLemmas.{Homeward, Onward, Passes, behind_first, earlier_stands, later_stands, joins_is, mate_of_way, mate_passes, once_behind, split, stands_on, way_kept}

-- a path with an edge has one first edge and one last one
pub one_last : (one other : EdgeId) (first : EdgeId) (rest : List EdgeId) → last_or one (first ∷ rest) ≡ last_or other (first ∷ rest)
one_last one other first [] = refl
one_last one other first (next ∷ rest) = one_last one other next rest

same_ends : (path : List EdgeId) (a b : ℕ) (one other : EdgeId) → follows path a b || follows path b a ≡ true → (t : Bool) → (if t then last_or one path else first_or one path)
    ≡ (if t then last_or other path else first_or other path)
same_ends [] a b one other h t = clash h
same_ends (first ∷ rest) a b one other h true = one_last one other first rest
same_ends (first ∷ rest) a b one other h false = refl

-- a switching point passes on towards the same terminal edge, from the same one
pub goal_kept : (path : List EdgeId) (me from to : EdgeId) → has_repeat path ≡ false → joins from.0 me.0 path ≡ true → mate_on path me.0 from.0 ≡ Some to → goal path me to ≡ goal path from me
goal_kept path me from to once joined is =
    ap (λ (t : Bool). if t then last_or to path else first_or to path) (way_kept path me.0 from.0 to once is)
    ∙ same_ends path from.0 me.0 to me (sym (joins_is path from.0 me.0) ∙ joined) (follows path from.0 me.0)

-- the last edge is where one comes that follows nothing
last_is : (other : EdgeId) (path : List EdgeId) (me : ℕ) → is_last me path ≡ true → (last_or other path).0 ≡ me
last_is other [] me is = clash is
last_is other (last ∷ []) me is = sym (eqb-true me last.0 is)
last_is other (first ∷ next ∷ rest) me is = last_is other (next ∷ rest) me is

first_is : (other : EdgeId) (path : List EdgeId) (me : ℕ) → is_first me path ≡ true → (first_or other path).0 ≡ me
first_is other [] me is = clash is
first_is other (first ∷ rest) me is = sym (eqb-true me first.0 is)

-- nothing follows the last edge, and the first follows nothing
pub last_stands : (path : List EdgeId) (a : ℕ) → is_last a path ≡ true → stands_on a path ≡ true
last_stands [] a is = clash is
last_stands (last ∷ []) a is = here a last.0 is where
  here : (a b : ℕ) → (a == b) ≡ true → (b == a) || false ≡ true
  here a b is = grind (arith, nat_tests)
last_stands (first ∷ next ∷ rest) a is = or_later (first.0 == a) (last_stands (next ∷ rest) a is)

pub ends_last : (path : List EdgeId) (a b : ℕ) → has_repeat path ≡ false → is_last a path ≡ true → follows path a b ≡ false
ends_last [] a b once is = refl
ends_last (last ∷ []) a b once is = refl
ends_last (first ∷ next ∷ rest) a b once is = rw (behind_first first (next ∷ rest) a once (last_stands (next ∷ rest) a is)) (ends_last (next ∷ rest) a b (once_behind first (next ∷ rest) once) is)

pub begins_first : (path : List EdgeId) (a b : ℕ) → has_repeat path ≡ false → is_first a path ≡ true → follows path b a ≡ false
begins_first [] a b once is = refl
begins_first (first ∷ rest) a b once is = split {P = follows (first ∷ rest) b a ≡ false} (follows (first ∷ rest) b a)
    (λ t. clash (sym (behind_first first rest a once (later_stands first rest b a t)) ∙ is))
    (λ f. f)

-- at a terminal edge it is there
pub goal_reached : (path : List EdgeId) (from me : EdgeId) → has_repeat path ≡ false → joins from.0 me.0 path ≡ true → is_first me.0 path || is_last me.0 path ≡ true → goal path from me ≡ me
goal_reached path from me once joined terminal =
    ap (λ (n : ℕ). record { 0 = n }) (split {P = (goal path from me).0 ≡ me.0} (is_first me.0 path)
    (λ f. rw (begins_first path me.0 from.0 once f) (first_is me path me.0 f))
    (λ f. let l : is_last me.0 path ≡ true = rw f at terminal in
    let t : follows path from.0 me.0 ≡ true = only (follows path from.0 me.0) (ends_last path me.0 from.0 once l) (sym (joins_is path from.0 me.0) ∙ joined) in
    rw t (last_is me path me.0 l)))
  where
    only : (p : Bool) {q : Bool} → q ≡ false → p || q ≡ true → p ≡ true
    only true h k = refl
    only false h k = clash (sym h ∙ k)

-- ---- an edge of a path that is no terminal edge passes on

-- it is followed by some edge, where it is not the last one
some_follows : (path : List EdgeId) (a : ℕ) → stands_on a path ≡ true → is_last a path ≡ false → (b : EdgeId) × (follows path a b.0 ≡ true)
some_follows [] a there not_last = clash there
some_follows (last ∷ []) a there not_last = clash (sym not_last ∙ same last.0 there) where
  same : (l : ℕ) → (l == a) || false ≡ true → (a == l) ≡ true
  same l h = grind (arith, nat_tests)
some_follows (first ∷ next ∷ rest) a there not_last = by (a == first.0) refl (λ t. some_follows (next ∷ rest) a t not_last) where
  here : (a == first.0) ≡ true → (a == first.0 && next.0 == next.0) || follows (next ∷ rest) a next.0 ≡ true
  here is = rw (is, is_same next.0) refl

  rest_there : (f : ℕ) {r : Bool} → (a == f) ≡ false → (f == a) || r ≡ true → r ≡ true
  rest_there f apart h = grind (arith, nat_tests)

  by : (t : Bool) → (a == first.0) ≡ t → (stands_on a (next ∷ rest) ≡ true → (b : EdgeId) × (follows (next ∷ rest) a b.0 ≡ true)) → (b : EdgeId) × (follows (first ∷ next ∷ rest) a b.0 ≡ true)
  by true is more = (next, here is)
  by false is more = let found = more (rest_there first.0 is there) in (found.0, or_later (a == first.0 && found.0.0 == next.0) found.1)

-- it follows some edge, where it is not the first one
follows_some : (path : List EdgeId) (a : ℕ) → stands_on a path ≡ true → is_first a path ≡ false → (b : EdgeId) × (follows path b.0 a ≡ true)
follows_some [] a there not_first = clash there
follows_some (last ∷ []) a there not_first = clash (sym not_first ∙ same last.0 there) where
  same : (l : ℕ) → (l == a) || false ≡ true → (a == l) ≡ true
  same l h = grind (arith, nat_tests)
follows_some (first ∷ next ∷ rest) a there not_first = by (a == next.0) refl (λ t e. follows_some (next ∷ rest) a t e) where
  here : (a == next.0) ≡ true → (first.0 == first.0 && a == next.0) || follows (next ∷ rest) first.0 a ≡ true
  here is = rw (is_same first.0, is) refl

  rest_there : (f : ℕ) {r : Bool} → (a == f) ≡ false → (f == a) || r ≡ true → r ≡ true
  rest_there f apart h = grind (arith, nat_tests)

  by : (t : Bool) → (a == next.0) ≡ t → (stands_on a (next ∷ rest) ≡ true → is_first a (next ∷ rest) ≡ false → (b : EdgeId) × (follows (next ∷ rest) b.0 a ≡ true)) → (b : EdgeId)
      × (follows (first ∷ next ∷ rest) b.0 a ≡ true)
  by true is more = (first, here is)
  by false is more = let found = more (rest_there first.0 not_first there) is in (found.0, or_later (found.0.0 == first.0 && a == next.0) found.1)

-- so it has a mate towards which it passes on what it has from a neighbour
pub has_mate : (path : List EdgeId) (from me : EdgeId) → has_repeat path ≡ false → joins from.0 me.0 path ≡ true → is_first me.0 path ≡ false → is_last me.0 path ≡ false
    → (to : EdgeId) × (mate_on path me.0 from.0 ≡ Some to)
has_mate path from me once joined not_first not_last = by (follows path from.0 me.0) refl where
  turned_mate : (b : EdgeId) → follows path b.0 me.0 ≡ true → follows path me.0 from.0 ≡ true → mate_on path me.0 from.0 ≡ Some b
  turned_mate b one two = back (mate_of_way path b.0 me.0 from.0 once one two)
    where
      back : mate_on path me.0 b.0 ≡ Some from → mate_on path me.0 from.0 ≡ Some b
      back is = place (Rattle.net_base.proofs.PathLemmas.mate_back path me.0 b.0 from once is) where
        place : Rattle.net_base.proofs.PathLemmas.place_of (mate_on path me.0 from.0) ≡ Some b.0 → mate_on path me.0 from.0 ≡ Some b
        place h = of (mate_on path me.0 from.0) h where
          of : (m : Option EdgeId) → Rattle.net_base.proofs.PathLemmas.place_of m ≡ Some b.0 → m ≡ Some b
          of None h = absurd (cc (h))
          of (Some e) h = let same : e.0 ≡ b.0 = cc (h) in ap (λ (n : ℕ). Some (record { 0 = n })) same

  by : (t : Bool) → follows path from.0 me.0 ≡ t → (to : EdgeId) × (mate_on path me.0 from.0 ≡ Some to)
  by true way = let found = some_follows path me.0 (behind path way) not_last in (found.0, mate_of_way path from.0 me.0 found.0.0 once way found.1) where
    behind : (p : List EdgeId) → follows p from.0 me.0 ≡ true → stands_on me.0 p ≡ true
    behind [] h = clash h
    behind (first ∷ rest) h = or_later (first.0 == me.0) (later_stands first rest from.0 me.0 h)
  by false way =
      let back : follows path me.0 from.0 ≡ true = second_of_two (follows path from.0 me.0) way (sym (joins_is path from.0 me.0) ∙ joined) in
      let found = follows_some path me.0 (earlier_stands path me.0 from.0 back) not_first in
      (found.0, turned_mate found.0 found.1 back)

-- and one that has a mate is no terminal edge
pub mate_inside : (path : List EdgeId) (me from : EdgeId) (to : EdgeId) → has_repeat path ≡ false → mate_on path me.0 from.0 ≡ Some to → is_first me.0 path || is_last me.0 path ≡ false
mate_inside path me from to once is = by (mate_passes path me.0 from.0 to is) where
  none : (f l : Bool) → (f ≡ true → false ≡ true) → (l ≡ true → false ≡ true) → f || l ≡ false
  none true l h k = sym (h refl)
  none false true h k = sym (k refl)
  none false false h k = refl

  by : Passes path me.0 from.0 to.0 → is_first me.0 path || is_last me.0 path ≡ false
  by (Onward a b) = none (is_first me.0 path) (is_last me.0 path) (λ f. sym (begins_first path me.0 from.0 once f) ∙ a) (λ l. sym (ends_last path me.0 to.0 once l) ∙ b)
  by (Homeward a b) = none (is_first me.0 path) (is_last me.0 path) (λ f. sym (begins_first path me.0 to.0 once f) ∙ a) (λ l. sym (ends_last path me.0 from.0 once l) ∙ b)
