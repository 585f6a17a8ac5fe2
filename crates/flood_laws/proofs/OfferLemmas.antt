-- Of two neighbours on a path one follows the other, so where they are expected to tell the same mode both offers of the wire have it.
use Rattle.std.proofs.Common.{◌≡◌, ◌==◌, ◌&&◌, ◌||◌, ◌∙◌, ℕ, Bool, true, false, not, cond, List, [], ◌∷◌, refl, sym, ap, arith}
use Rattle.std.specs.List.{list_any}
use Rattle.std.proofs.lemmas.Bool.{eqb-true, or_parts}
use Rattle.std.proofs.lemmas.Bool.Decides.{nat_tests}
use Rattle.net_values.proofs.BoolLemmas.{clash}
use Rattle.net_base.specs.declared.plan.Plan.{Plan}
use Rattle.net_base.specs.declared.plan.offer.Offer.{Offer}
use Rattle.net_base.specs.declared.plan.places.EdgeId.{EdgeId}
use Rattle.net_base.specs.declared.plan.wire_plan.WirePlan.{WirePlan}
use Rattle.net_base.specs.plan.Paths.{expected, follows, has_repeat, is_first, joins, offer_of}
use Rattle.net_base.proofs.PathLemmas.{joins_turned}
use Rattle.flight_laws.proofs.NameLemmas.{split}

-- ---- an edge that does not stand on a path

-- it follows none, none follows it, and it is joined to none
record IsAway (path : List EdgeId) (a b : ℕ) : Type 0 where
  after : follows path a b ≡ false
  before : follows path b a ≡ false
  apart : joins a b path ≡ false

away : (path : List EdgeId) (a b : ℕ) → list_any (λ (e : EdgeId). e.0 == a) path ≡ false → IsAway path a b
away [] a b none = record { after = refl; before = refl; apart = refl }
away (last ∷ []) a b none = record { after = refl; before = refl; apart = refl }
away (first ∷ next ∷ rest) a b none =
    let here = or_parts (first.0 == a) (list_any (λ (e : EdgeId). e.0 == a) (next ∷ rest)) none in
    let there = or_parts (next.0 == a) (list_any (λ (e : EdgeId). e.0 == a) rest) here.1 in
    let more = away (next ∷ rest) a b here.1 in
    record {
      after = no_after first.0 next.0 (follows (next ∷ rest) a b) here.0 there.0 more.after;
      before = no_before first.0 next.0 (follows (next ∷ rest) b a) here.0 there.0 more.before;
      apart = no_segment first.0 next.0 (joins a b (next ∷ rest)) here.0 there.0 more.apart;
    }
  where
    no_after : (f n : ℕ) (later : Bool) → (f == a) ≡ false → (n == a) ≡ false → later ≡ false → (a == f && b == n) || later ≡ false
    no_after f n later here there more = grind (arith, nat_tests)

    no_before : (f n : ℕ) (later : Bool) → (f == a) ≡ false → (n == a) ≡ false → later ≡ false → (b == f && a == n) || later ≡ false
    no_before f n later here there more = grind (arith, nat_tests)

    no_segment : (f n : ℕ) (later : Bool) → (f == a) ≡ false → (n == a) ≡ false → later ≡ false → ((a == f && b == n) || (b == f && a == n)) || later ≡ false
    no_segment f n later here there more = grind (arith, nat_tests)

-- ---- two neighbours

-- of two neighbours on a path without a repeat exactly one follows the other
pub follows_once : (path : List EdgeId) (a b : ℕ) → has_repeat path ≡ false → joins a b path ≡ true → follows path b a ≡ not (follows path a b)
follows_once [] a b once joined = clash joined
follows_once (last ∷ []) a b once joined = clash joined
follows_once (first ∷ next ∷ rest) a b once joined =
    let parts = or_parts (list_any (λ (e : EdgeId). e.0 == first.0) (next ∷ rest)) (has_repeat (next ∷ rest)) once in
    let apart = or_parts (next.0 == first.0) (list_any (λ (e : EdgeId). e.0 == first.0) rest) parts.0 in
    let none : (k : ℕ) → IsAway (next ∷ rest) first.0 k = λ k. away (next ∷ rest) first.0 k parts.0 in
    split {P = follows (first ∷ next ∷ rest) b a ≡ not (follows (first ∷ next ∷ rest) a b)} (joins a b (next ∷ rest))
    (λ later. beyond a b first.0 next.0 (follows (next ∷ rest) a b) (follows (next ∷ rest) b a)
    (other a b later none) (other b a (joins_turned (next ∷ rest) b a ∙ later) none)
    (follows_once (next ∷ rest) a b parts.1 later))
    (λ gone. split {P = follows (first ∷ next ∷ rest) b a ≡ not (follows (first ∷ next ∷ rest) a b)} (a == first.0)
    (λ same. one a b first.0 next.0 (follows (next ∷ rest) a b) (follows (next ∷ rest) b a) apart.0 same (rw gone at joined)
    (ap (λ (n : ℕ). follows (next ∷ rest) b n) (eqb-true a first.0 same) ∙ (none b).before))
    (λ differ. two a b first.0 next.0 (follows (next ∷ rest) a b) (follows (next ∷ rest) b a) differ (rw gone at joined)
    (λ same. ap (λ (n : ℕ). follows (next ∷ rest) a n) (eqb-true b first.0 same) ∙ (none a).before)))
  where
    other : (x y : ℕ) → joins x y (next ∷ rest) ≡ true → ((k : ℕ) → IsAway (next ∷ rest) first.0 k) → (x == first.0) ≡ false
    other x y there none = split {P = (x == first.0) ≡ false} (x == first.0)
        (λ same. clash (sym (none y).apart ∙ (ap (λ (n : ℕ). joins n y (next ∷ rest)) (sym (eqb-true x first.0 same)) ∙ there)))
        (λ differ. differ)

    beyond : (a b f n : ℕ) (p q : Bool) → (a == f) ≡ false → (b == f) ≡ false → q ≡ not p → (b == f && a == n) || q ≡ not ((a == f && b == n) || p)
    beyond a b f n p q one two opposite = grind (arith, nat_tests)

    one : (a b f n : ℕ) (p q : Bool) → (n == f) ≡ false → (a == f) ≡ true → ((a == f && b == n) || (b == f && a == n)) || false ≡ true → q ≡ false → (b == f && a == n) || q
        ≡ not ((a == f && b == n) || p)
    one a b f n p q apart same joined none = grind (arith, nat_tests)

    two : (a b f n : ℕ) (p q : Bool) → (a == f) ≡ false → ((a == f && b == n) || (b == f && a == n)) || false ≡ true → ((b == f) ≡ true → p ≡ false) → (b == f && a == n) || q
        ≡ not ((a == f && b == n) || p)
    two a b f n p q differ joined none =
        let back : b == f && a == n ≡ true = behind differ joined in
        let none_after : p ≡ false = none (first_of_two back) in
        rw (back, differ, none_after) refl
      where
        behind : (a == f) ≡ false → ((a == f && b == n) || (b == f && a == n)) || false ≡ true → b == f && a == n ≡ true
        behind differ joined = grind (arith, nat_tests)

        first_of_two : b == f && a == n ≡ true → (b == f) ≡ true
        first_of_two back = grind (arith, nat_tests)

-- ---- the mode of the offers

-- what two neighbours are expected to tell alike of their offers, the offer of each edge has
pub offers_same : (plan : Plan) (row : WirePlan) (from to edge : ℕ) (mode : Offer → Bool) → has_repeat row.path ≡ false → joins from to row.path ≡ true
    → mode (expected plan row to from).offer ≡ mode (expected plan row from to).offer → mode (offer_of row edge) ≡ mode (expected plan row from to).offer
offers_same plan row from to edge mode once joined same =
    by (follows row.path from to) (follows row.path to from) (is_first edge row.path) (follows_once row.path from to once joined) same
  where
    by : (p q first : Bool) → q ≡ not p → mode (cond q row.near row.far) ≡ mode (cond p row.near row.far) → mode (cond first row.near row.far) ≡ mode (cond p row.near row.far)
    by true true first opposite same = clash (sym opposite)
    by true false true opposite same = refl
    by true false false opposite same = same
    by false true true opposite same = same
    by false true false opposite same = refl
    by false false first opposite same = clash opposite
