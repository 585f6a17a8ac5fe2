-- What is told of a pseudowire is what the plan has an edge tell, but for its status.
use Rattle.std.proofs.Common.{◌≡◌, ◌==◌, ◌&&◌, ◌||◌, ◌++◌, ◌∙◌, ℕ, Bool, true, false, List, [], ◌∷◌, reverse, refl, sym, subst, arith}
use Rattle.std.specs.List.{list_any}
use Rattle.std.proofs.lemmas.Bool.{or_parts}
use Rattle.std.proofs.lemmas.Bool.Decides.{nat_tests}
use Rattle.std.proofs.lemmas.List.{reverse-append}
use Rattle.net_values.proofs.BoolLemmas.{clash, or_later}
use Rattle.net_values.proofs.NumberLemmas.{apart_back, equal_back}
use Rattle.net_base.specs.declared.plan.Plan.{Plan}
use Rattle.net_base.specs.declared.plan.places.EdgeId.{EdgeId}
use Rattle.net_base.specs.declared.plan.wire_plan.WirePlan.{WirePlan}
use Rattle.net_base.specs.plan.Paths.{expected, follows, has_repeat, is_first, is_last, joins, offer_of, points_on, up_to}
use Rattle.edge_model.specs.EndPlaces.{is_terminal}
use Rattle.flight_laws.proofs.NameLemmas.{split}
use Rattle.flight_laws.proofs.PlaceLemmas.{joined_there, not_there}
use Rattle.network_model.proofs.GoalLemmas.{ends_last}

-- ---- a terminal edge is expected to tell its own offer

-- the last edge of a path stands on it
last_there : (path : List EdgeId) (edge : ℕ) → is_last edge path ≡ true → list_any (λ (e : EdgeId). e.0 == edge) path ≡ true
last_there [] edge is = clash is
last_there (last ∷ []) edge is = here edge last.0 is
  where
    here : (a b : ℕ) → (a == b) ≡ true → (b == a) || false ≡ true
    here a b is = grind (arith, nat_tests)
last_there (first ∷ next ∷ rest) edge is = or_later (first.0 == edge) (last_there (next ∷ rest) edge is)

-- the second edge of a path without a repeat follows the first one, which is joined to no other
first_follows : (path : List EdgeId) (edge to : ℕ) → has_repeat path ≡ false → is_first edge path ≡ true → joins edge to path ≡ true → follows path edge to ≡ true
first_follows [] edge to once is joined = clash joined
first_follows (last ∷ []) edge to once is joined = clash joined
first_follows (first ∷ next ∷ rest) edge to once is joined =
    let parts = or_parts (list_any (λ (e : EdgeId). e.0 == first.0) (next ∷ rest)) (has_repeat (next ∷ rest)) once in
    split {P = follows (first ∷ next ∷ rest) edge to ≡ true} (joins edge to (next ∷ rest))
    (λ later. clash (sym (not_there (next ∷ rest) first.0 edge parts.0 (joined_there (next ∷ rest) edge to later)) ∙ equal_back edge first.0 is))
    (λ none. here edge to first.0 next.0 (follows (next ∷ rest) edge to) is (or_parts (next.0 == first.0) (list_any (λ (e : EdgeId). e.0 == first.0) rest) parts.0).0 (rw none at joined))
  where
    here : (a b f n : ℕ) (later : Bool) → (a == f) ≡ true → (n == f) ≡ false → ((a == f && b == n) || (b == f && a == n)) || false ≡ true → (a == f && b == n) || later ≡ true
    here a b f n later is apart joined = grind (arith, nat_tests)

-- the way of an edge that is the first of a path is that edge alone
alone : (plan : Plan) (row : WirePlan) (path : List EdgeId) (edge : ℕ) → is_first edge path ≡ true → points_on plan row (up_to path edge) ≡ []
alone plan row [] edge is = refl
alone plan row (first ∷ rest) edge is = rw is refl

-- the last edge of a path is the first of the path from its other end
last_first : (path : List EdgeId) (edge : ℕ) → is_last edge path ≡ true → is_first edge (reverse path) ≡ true
last_first [] edge is = clash is
last_first (last ∷ []) edge is = is
last_first (first ∷ next ∷ rest) edge is =
    subst (λ (es : List EdgeId). is_first edge es ≡ true) (sym (reverse-append (first ∷ []) (next ∷ rest))) (more (reverse (next ∷ rest)) (last_first (next ∷ rest) edge is))
  where
    more : (es : List EdgeId) → is_first edge es ≡ true → is_first edge (es ++ reverse (first ∷ [])) ≡ true
    more [] is = clash is
    more (e ∷ es) is = is

-- the first edge is not the last one of a path that joins it
first_not_last : (path : List EdgeId) (edge to : ℕ) → has_repeat path ≡ false → joins edge to path ≡ true → is_last edge path ≡ true → is_first edge path ≡ false
first_not_last [] edge to once joined is = clash joined
first_not_last (last ∷ []) edge to once joined is = clash joined
first_not_last (first ∷ next ∷ rest) edge to once joined is =
    let parts = or_parts (list_any (λ (e : EdgeId). e.0 == first.0) (next ∷ rest)) (has_repeat (next ∷ rest)) once in
    apart_back first.0 edge (not_there (next ∷ rest) first.0 edge parts.0 (last_there (next ∷ rest) edge is))

-- a terminal edge of a wire tells its own offer, which no point has passed on
pub record TellsOwnOffer (plan : Plan) (row : WirePlan) (from to : ℕ) : Type 0 where
  pub offer : (expected plan row from to).offer ≡ offer_of row from
  pub points : (expected plan row from to).points ≡ []

terminal_first : (plan : Plan) (row : WirePlan) (from to : ℕ) → has_repeat row.path ≡ false → joins from to row.path ≡ true → is_first from row.path ≡ true → TellsOwnOffer plan row from to
terminal_first plan row from to once joined first =
    let next : follows row.path from to ≡ true = first_follows row.path from to once first joined in
    record { offer = rw (next, first) refl; points = rw next (alone plan row row.path from first) }

terminal_last : (plan : Plan) (row : WirePlan) (from to : ℕ) → has_repeat row.path ≡ false → joins from to row.path ≡ true → is_last from row.path ≡ true → TellsOwnOffer plan row from to
terminal_last plan row from to once joined last =
    let none : follows row.path from to ≡ false = ends_last row.path from to once last in
    let other : is_first from row.path ≡ false = first_not_last row.path from to once joined last in
    record { offer = rw (none, other) refl; points = rw none (alone plan row (reverse row.path) from (last_first row.path from last)) }

pub tells_own_offer : (plan : Plan) (row : WirePlan) (from to : EdgeId) → has_repeat row.path ≡ false → joins from.0 to.0 row.path ≡ true → is_terminal row from ≡ true
    → TellsOwnOffer plan row from.0 to.0
tells_own_offer plan row from to once joined terminal = split {P = TellsOwnOffer plan row from.0 to.0} (is_first from.0 row.path)
    (λ first. terminal_first plan row from.0 to.0 once joined first)
    (λ other. terminal_last plan row from.0 to.0 once joined (rw other at terminal))
