-- The index of joined edges is made wire by wire, segment by segment.
use Rattle.std.proofs.Common.{◌≡◌, ◌==◌, ◌<◌, ◌≤◌, ◌-◌, ◌&&◌, ◌||◌, ◌∙◌, ◌∷◌, [], ℕ, Bool, true, false, List, cond, refl, ap, sym, subst, arith, nat_lt, length, drop, slice_index_or, take, take_all}
use Rattle.std.proofs.lemmas.Bool.Decides.{nat_tests}
use Rattle.std.specs.List.{list_any}
use Rattle.net_values.proofs.BoolLemmas.{or_false, or_assoc}
use Rattle.net_base.specs.declared.plan.Plan.{Plan}
use Rattle.net_base.specs.declared.plan.places.EdgeId.{EdgeId}
use Rattle.net_base.specs.declared.plan.wire_plan.WirePlan.{WirePlan}
use Rattle.net_base.specs.plan.Accepted.{IsWireOf}
use Rattle.net_base.specs.plan.Paths.{are_joined, joins, joins_first}
use Rattle.net_base.proofs.PathLemmas.{joins_step}
use Rattle.psn_net.specs.PairIndex.{IndexLists, IsClear, has_mark, put_pair}
use Rattle.psn_net.specs.SharedPlan.{IsJoinedIndex, are_below}

-- the marks of two edges were put, in either order
pub both_marked : (old mid new : IndexLists) (x y : ℕ) → has_mark mid ≡ put_pair x y true (has_mark old) → has_mark new ≡ put_pair y x true (has_mark mid)
    → (a b : ℕ) → has_mark new a b ≡ (has_mark old a b || ((a == x && b == y) || (b == x && a == y)))
both_marked old mid new x y first second a b =
    ap (λ (f : ℕ → ℕ → Bool). f a b) second ∙ (ap (λ (f : ℕ → ℕ → Bool). put_pair y x true f a b) first ∙ by (a == x) (b == y) (b == x) (a == y) (has_mark old a b))
  where
    by : (p q r s o : Bool) → cond (s && r) true (cond (p && q) true o) ≡ (o || ((p && q) || (r && s)))
    by true true true true true = refl
    by true true true true false = refl
    by true true true false true = refl
    by true true true false false = refl
    by true true false true true = refl
    by true true false true false = refl
    by true true false false true = refl
    by true true false false false = refl
    by true false true true true = refl
    by true false true true false = refl
    by true false true false true = refl
    by true false true false false = refl
    by true false false true true = refl
    by true false false true false = refl
    by true false false false true = refl
    by true false false false false = refl
    by false q true true true = refl
    by false q true true false = refl
    by false q true false true = refl
    by false q true false false = refl
    by false q false true true = refl
    by false q false true false = refl
    by false q false false true = refl
    by false q false false false = refl

-- the first segment of a path was marked, and the rest is to come
pub path_more : (old new : IndexLists) (path : List EdgeId) (first : EdgeId) (rest : List EdgeId) → path ≡ first ∷ rest
    → ((a b : ℕ) → has_mark new a b ≡ (has_mark old a b || joins_first a b first rest))
    → (a b : ℕ) → has_mark new a b || joins a b rest ≡ has_mark old a b || joins a b path
path_more old new path first rest is h a b =
    ap (λ (p : Bool). p || joins a b rest) (h a b) ∙ (or_assoc (has_mark old a b) (joins_first a b first rest) (joins a b rest)
    ∙ ap (λ (p : Bool). has_mark old a b || p) (sym (joins_step a b first rest) ∙ ap (joins a b) (sym is)))

pub path_split : (path : List EdgeId) (d : EdgeId) → 1 ≤ length path → path ≡ record { 0 = (slice_index_or path 0 d).0 } ∷ take (length path - 1) (drop 1 path)
path_split [] d some = absurd (omega (arith, some))
path_split (first ∷ rest) d some = sym (ap (λ (more : List EdgeId). first ∷ more) (take_all (length (first ∷ rest) - 1) rest (omega arith)))

pub path_end : (index : IndexLists) (a b : ℕ) → has_mark index a b || joins a b [] ≡ has_mark index a b
path_end index a b = or_false (has_mark index a b)

pub below_first : (size : ℕ) (first : EdgeId) (rest : List EdgeId) → are_below size (first ∷ rest) ≡ true → first.0 < size
below_first size first rest h = by (nat_lt first.0 size) refl h
  where
    by : (p : Bool) → nat_lt first.0 size ≡ p → p && are_below size rest ≡ true → first.0 < size
    by true e h = grind (arith, nat_tests, e)
    by false e h = absurd (cc (h))

pub below_rest : (size : ℕ) (first : EdgeId) (rest : List EdgeId) → are_below size (first ∷ rest) ≡ true → are_below size rest ≡ true
below_rest size first rest h = by (nat_lt first.0 size) h
  where
    by : (p : Bool) → p && are_below size rest ≡ true → are_below size rest ≡ true
    by true h = h
    by false h = absurd (cc (h))

pub ruleset path_steps = (below_first, below_rest)

-- the same of the wires
pub wire_more : (old new : IndexLists) (row : WirePlan) (rest : List WirePlan)
    → ((a b : ℕ) → has_mark new a b ≡ (has_mark old a b || joins a b row.path))
    → (a b : ℕ) → has_mark new a b || list_any (λ (w : WirePlan). joins a b w.path) rest ≡ has_mark old a b || list_any (λ (w : WirePlan). joins a b w.path) (row ∷ rest)
wire_more old new row rest h a b =
    ap (λ (p : Bool). p || list_any (λ (w : WirePlan). joins a b w.path) rest) (h a b) ∙ or_assoc (has_mark old a b) (joins a b row.path) (list_any (λ (w : WirePlan). joins a b w.path) rest)

pub wire_end : (index : IndexLists) (a b : ℕ) → has_mark index a b || list_any (λ (w : WirePlan). joins a b w.path) [] ≡ has_mark index a b
wire_end index a b = or_false (has_mark index a b)

pub path_below : (plan : Plan) (row : WirePlan) (size : ℕ) → size ≡ length plan.edges → IsWireOf plan row → are_below size row.path ≡ true
path_below plan row size is wire = subst (λ (n : ℕ). are_below n row.path ≡ true) (sym is) wire.edges

pub ruleset wire_steps = (wire_more, wire_end, path_below)

-- the joined edges were marked where no pair had a mark
pub joined_all : (plan : Plan) (old new : IndexLists) → IsClear old.rows → length new.rows ≡ length plan.edges
    → ((a b : ℕ) → has_mark new a b ≡ (has_mark old a b || are_joined plan a b)) → IsJoinedIndex plan new
joined_all plan old new clear size marked = record { size = size; each = λ a b. marked a b ∙ ap (λ (p : Bool). p || are_joined plan a b) (clear.each a b) }
