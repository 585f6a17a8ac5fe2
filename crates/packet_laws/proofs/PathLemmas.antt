-- What goes along a wire comes from one of its terminal edges, and has its switching points behind it or before it.
use Rattle.std.proofs.Common.{◌≡◌, ◌≤◌, ◌+◌, ◌-◌, ◌==◌, ◌||◌, ◌∙◌, ℕ, Bool, true, false, List, [], ◌∷◌, Some, cond, length, reverse, refl, ap, sym, subst, arith}
use Rattle.std.proofs.lemmas.List.{length-reverse}
use Rattle.std.proofs.lemmas.Bool.{eqb-true}
use Rattle.net_values.proofs.BoolLemmas.{clash}
use Rattle.net_base.specs.declared.plan.Plan.{Plan}
use Rattle.net_base.specs.declared.plan.places.EdgeId.{EdgeId}
use Rattle.net_base.specs.declared.plan.wire_plan.WirePlan.{WirePlan}
use Rattle.net_base.specs.plan.Accepted.{IsWireOf}
use Rattle.net_base.specs.plan.Paths.{expected, first_edge, follows, has_repeat, is_first, is_last, joins, last_edge, mate_on, offer_of, points_on, up_to}
use Rattle.edge_model.specs.Ping.{far_terminal}
use Rattle.network_model.proofs.ReversedLemmas.{follows_reversed, last_reversed, once_reversed}
use Rattle.network_model.proofs.WayLemmas.{behind_first, earlier_stands, either_here, joins_is, later_stands, once_behind, split, turned_test, way_kept}
use Rattle.network_model.proofs.GoalLemmas.{ends_last, last_stands}
use Rattle.packet_laws.specs.Echoed.{packet_source}

-- two numbers apart
turned : (a b : ℕ) → (b == a) ≡ false → (a == b) ≡ false
turned a b apart = turned_test b a apart

other_number : (a b h : ℕ) → (a == h) ≡ true → (a == b) ≡ false → (b == h) ≡ false
other_number a b h is apart = subst (λ (n : ℕ). (b == n) ≡ false) (eqb-true a h is) (turned b a apart)

-- ---- the ends of a path

-- nothing comes before the first edge, and nothing after the last one
none_before : (path : List EdgeId) (a b : ℕ) → has_repeat path ≡ false → is_first b path ≡ true → follows path a b ≡ false
none_before [] a b once first = refl
none_before (head ∷ rest) a b once first = split {P = follows (head ∷ rest) a b ≡ false} (follows (head ∷ rest) a b)
    (λ h. clash (sym (behind_first head rest b once (later_stands head rest a b h)) ∙ first))
    (λ h. h)

-- a terminal edge is the first of the path, and its neighbour follows it, or it is the last and follows its neighbour
pub data IsSideOf (path : List EdgeId) (me peer : ℕ) : Type 0 where
  AtFirst : is_first me path ≡ true → follows path me peer ≡ true → follows path peer me ≡ false → IsSideOf path me peer
  AtLast : is_first me path ≡ false → is_last me path ≡ true → follows path peer me ≡ true → follows path me peer ≡ false → IsSideOf path me peer

pub side_of : (path : List EdgeId) (me peer : ℕ) → has_repeat path ≡ false → joins me peer path ≡ true → is_first me path || is_last me path ≡ true → IsSideOf path me peer
side_of path me peer once joined terminal = split {P = IsSideOf path me peer} (is_first me path)
    (λ first.
    let back : follows path peer me ≡ false = none_before path peer me once first in
    AtFirst first (other_of (follows path me peer) (follows path peer me) (sym (joins_is path me peer) ∙ joined) back) back)
    (λ other.
    let last : is_last me path ≡ true = behind (is_first me path) (is_last me path) terminal other in
    let on : follows path me peer ≡ false = ends_last path me peer once last in
    AtLast other last (behind (follows path me peer) (follows path peer me) (sym (joins_is path me peer) ∙ joined) on) on)
  where
    behind : (p q : Bool) → p || q ≡ true → p ≡ false → q ≡ true
    behind true q h none = clash (sym none)
    behind false q h none = h

    other_of : (p q : Bool) → p || q ≡ true → q ≡ false → p ≡ true
    other_of true q h none = refl
    other_of false q h none = clash (sym none ∙ h)

-- ---- how many points there are

counted : (plan : Plan) (row : WirePlan) (first : EdgeId) (rest : List EdgeId) → length (points_on plan row (first ∷ rest)) ≡ length rest
counted plan row first [] = refl
counted plan row first (point ∷ rest) = omega (arith, counted plan row point rest)

counted_way : (plan : Plan) (row : WirePlan) (way : List EdgeId) → 1 ≤ length way → length (points_on plan row way) + 1 ≡ length way
counted_way plan row [] some = absurd (omega (arith, some))
counted_way plan row (first ∷ rest) some = omega (arith, counted plan row first rest)

-- an edge that is the first of a path and its last stands there alone
alone : (next : EdgeId) (rest : List EdgeId) (b : ℕ) → has_repeat (next ∷ rest) ≡ false → (b == next.0) ≡ true → is_last b (next ∷ rest) ≡ true → length rest ≡ 0
alone next [] b once is last = refl
alone next (other ∷ rest) b once is last = clash (sym (behind_first next (other ∷ rest) b once (last_stands (other ∷ rest) b last)) ∙ is)

-- up to the last but one, one edge of a path is left out
up_to_last : (path : List EdgeId) (a b : ℕ) → has_repeat path ≡ false → follows path a b ≡ true → is_last b path ≡ true → length (up_to path a) + 1 ≡ length path
up_to_last [] a b once h last = clash h
up_to_last (head ∷ []) a b once h last = clash h
up_to_last (head ∷ next ∷ rest) a b once h last = either_here (a == head.0) (b == next.0) (follows (next ∷ rest) a b) h
    (λ p q. rw p (omega (arith, alone next rest b (once_behind head (next ∷ rest) once) q last)))
    (λ t.
    let early : (a == head.0) ≡ false = behind_first head (next ∷ rest) a once (earlier_stands (next ∷ rest) a b t) in
    rw early (omega (arith, up_to_last (next ∷ rest) a b (once_behind head (next ∷ rest) once) t last)))

way_counted : (plan : Plan) (row : WirePlan) (path : List EdgeId) (a b : ℕ) → 2 ≤ length path → has_repeat path ≡ false → follows path a b ≡ true → is_last b path ≡ true
    → length (points_on plan row (up_to path a)) + 2 ≡ length path
way_counted plan row path a b long once h last =
    let one : length (up_to path a) + 1 ≡ length path = up_to_last path a b once h last in
    omega (arith, one, counted_way plan row (up_to path a) (omega (arith, one, long)))

first_is_last : (path : List EdgeId) (a : ℕ) → is_first a path ≡ true → is_last a (reverse path) ≡ true
first_is_last [] a is = clash is
first_is_last (head ∷ rest) a is = last_reversed head rest a ∙ is

-- what a terminal edge is expected to hear has passed all switching points
pub all_points : (plan : Plan) (row : WirePlan) (me peer : ℕ) → IsWireOf plan row → joins me peer row.path ≡ true → is_first me row.path || is_last me row.path ≡ true
    → length (expected plan row peer me).points ≡ length row.path - 2
all_points plan row me peer wire joined terminal = by (side_of row.path me peer wire.once joined terminal) where
  less : (n m : ℕ) → n + 2 ≡ m → n ≡ m - 2
  less n m is = omega (arith, is)

  by : IsSideOf row.path me peer → length (expected plan row peer me).points ≡ length row.path - 2
  by (AtFirst first on back) =
      rw back (less (length (points_on plan row (up_to (reverse row.path) peer))) (length row.path)
      (way_counted plan row (reverse row.path) peer me (omega (arith, length-reverse row.path, wire.least)) (once_reversed row.path ∙ wire.once)
      (follows_reversed row.path peer me ∙ on) (first_is_last row.path me first)
      ∙ length-reverse row.path))
  by (AtLast other last back on) =
      rw back (less (length (points_on plan row (up_to row.path peer))) (length row.path) (way_counted plan row row.path peer me wire.least wire.once back last))

-- ---- from where it comes

edge_is : (a b : EdgeId) → (a.0 == b.0) ≡ true → b ≡ a
edge_is a b is = ap (λ (n : ℕ). record { 0 = n }) (sym (eqb-true a.0 b.0 is))

first_is : (path : List EdgeId) (me : EdgeId) → is_first me.0 path ≡ true → first_edge path ≡ Some me
first_is [] me is = clash is
first_is (head ∷ rest) me is = ap (λ (e : EdgeId). Some e) (edge_is me head is)

last_is : (path : List EdgeId) (me : EdgeId) → is_last me.0 path ≡ true → last_edge path ≡ Some me
last_is [] me is = clash is
last_is (head ∷ []) me is = ap (λ (e : EdgeId). Some e) (edge_is me head is)
last_is (head ∷ next ∷ rest) me is = last_is (next ∷ rest) me is

-- from a terminal edge itself, and to the other one
pub record HasTerminals (path : List EdgeId) (me : EdgeId) (peer : ℕ) : Type 0 where
  pub near : packet_source path me.0 peer ≡ Some me
  pub far : packet_source path peer me.0 ≡ far_terminal me path

pub terminals : (path : List EdgeId) (me : EdgeId) (peer : ℕ) → IsSideOf path me.0 peer → HasTerminals path me peer
terminals path me peer (AtFirst first on back) = record { near = rw on (first_is path me first); far = rw (back, first) refl }
terminals path me peer (AtLast other last back on) = record { near = rw on (last_is path me last); far = rw (back, other) refl }

-- a switching point passes on what comes from the same terminal edge
pub source_kept : (path : List EdgeId) (me from : ℕ) (to : EdgeId) → has_repeat path ≡ false → mate_on path me from ≡ Some to → packet_source path me to.0 ≡ packet_source path from me
source_kept path me from to once is = ap (λ (b : Bool). cond b (first_edge path) (last_edge path)) (way_kept path me from to once is)

-- ---- the other end

-- what one terminal edge is expected to hear is the offer of the other one
pub far_offer : (plan : Plan) (row : WirePlan) (me other : EdgeId) (peer : ℕ) → IsSideOf row.path me.0 peer → (me.0 == other.0) ≡ false → is_first other.0 row.path || is_last other.0 row.path ≡ true
    → (expected plan row peer me.0).offer ≡ offer_of row other.0
far_offer plan row me other peer (AtFirst first on back) apart terminal = rw (back, not_first row.path first) refl where
  not_first : (path : List EdgeId) → is_first me.0 path ≡ true → is_first other.0 path ≡ false
  not_first [] is = clash is
  not_first (head ∷ rest) is = other_number me.0 other.0 head.0 is apart
far_offer plan row me other peer (AtLast late last back on) apart terminal =
    rw (back, only_first (is_first other.0 row.path) (is_last other.0 row.path) terminal (not_last row.path last)) refl
  where
    only_first : (p q : Bool) → p || q ≡ true → q ≡ false → p ≡ true
    only_first true q h none = refl
    only_first false q h none = clash (sym none ∙ h)

    not_last : (path : List EdgeId) → is_last me.0 path ≡ true → is_last other.0 path ≡ false
    not_last [] is = refl
    not_last (head ∷ []) is = other_number me.0 other.0 head.0 is apart
    not_last (head ∷ next ∷ rest) is = not_last (next ∷ rest) is
