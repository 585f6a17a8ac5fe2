-- An edge is joined with those that its ends are beside.
use Rattle.std.proofs.Common.{◌≡◌, ◌∙◌, ◌+◌, ◌++◌, ◌||◌, ◌&&◌, ℕ, Bool, true, false, List, [], ◌∷◌, cond, nat_eq, refl, ap, sym}
use Rattle.std.proofs.lemmas.Bool.{eqb-true}
use Rattle.std.specs.List.{list_any}
use Rattle.net_values.proofs.BoolLemmas.{or_assoc}
use Rattle.net_values.proofs.NumberLemmas.{equal_turned}
use Rattle.net_base.specs.declared.plan.Plan.{Plan}
use Rattle.net_base.specs.declared.plan.places.EdgeId.{EdgeId}
use Rattle.net_base.specs.declared.plan.places.WireId.{WireId}
use Rattle.net_base.specs.declared.plan.wire_plan.WirePlan.{WirePlan}
use Rattle.net_base.specs.plan.Paths.{are_joined, joins}
use Rattle.edge_model.specs.declared.end_place.EndPlace.{EndPlace}
use Rattle.edge_model.specs.EndPlaces.{end_place_at, end_places, places_along, places_at, places_from}
use Rattle.provider_edge.specs.EndOf.{is_end_beside}

any_append : {X : Type 0} (f : X → Bool) (xs ys : List X) → list_any f (xs ++ ys) ≡ list_any f xs || list_any f ys
any_append {X = X} f [] ys = refl
any_append {X = X} f (x ∷ xs) ys = ap (λ (b : Bool). f x || b) (any_append f xs ys) ∙ sym (or_assoc (f x) (list_any f xs) (list_any f ys))

-- the ends at a segment
at_segment : (wire : WireId) (row : WirePlan) (me : EdgeId) (peer segment : ℕ) (first next : EdgeId)
    → list_any (is_end_beside peer) (places_at wire row me segment first next) ≡ (nat_eq me.0 first.0 && nat_eq peer next.0) || (nat_eq peer first.0 && nat_eq me.0 next.0)
at_segment wire row me peer segment first next =
    by (nat_eq me.0 first.0) (nat_eq me.0 next.0) (nat_eq peer first.0) (nat_eq peer next.0) (equal_turned first.0 peer) (equal_turned next.0 peer) refl refl refl refl
  where
    beside_next : List EndPlace
    beside_next = end_place_at wire row me segment 0 next ∷ []

    beside_first : List EndPlace
    beside_first = end_place_at wire row me segment 1 first ∷ []

    by : (a b c d : Bool) → nat_eq first.0 peer ≡ c → nat_eq next.0 peer ≡ d → nat_eq me.0 first.0 ≡ a → nat_eq me.0 next.0 ≡ b → nat_eq peer first.0 ≡ c → nat_eq peer next.0 ≡ d
        → list_any (is_end_beside peer) (cond a beside_next (cond b beside_first [])) ≡ (a && d) || (c && b)
    by true false true true f n ma mb pf pn = rw n refl
    by true false true false f n ma mb pf pn = rw n refl
    by true false false true f n ma mb pf pn = rw n refl
    by true false false false f n ma mb pf pn = rw n refl
    by false true true d f n ma mb pf pn = rw f refl
    by false true false d f n ma mb pf pn = rw f refl
    by false false true d f n ma mb pf pn = refl
    by false false false d f n ma mb pf pn = refl
    by true true true true f n ma mb pf pn = rw n refl
    by true true false false f n ma mb pf pn = rw n refl
    by true true false true f n ma mb pf pn = rw n refl
    by true true true false f n ma mb pf pn =
        let one : first.0 ≡ next.0 = sym (eqb-true me.0 first.0 ma) ∙ eqb-true me.0 next.0 mb in
        let wrong : true ≡ false = sym pf ∙ (ap (λ (n : ℕ). nat_eq peer n) one ∙ pn) in
        absurd (cc (wrong))

-- those along a path
along_path : (wire : WireId) (row : WirePlan) (me : EdgeId) (peer segment : ℕ) (path : List EdgeId) → list_any (is_end_beside peer) (places_along wire row me segment path) ≡ joins me.0 peer path
along_path wire row me peer segment [] = refl
along_path wire row me peer segment (last ∷ []) = refl
along_path wire row me peer segment (first ∷ next ∷ rest) =
    any_append (is_end_beside peer) (places_at wire row me segment first next) (places_along wire row me (segment + 1) (next ∷ rest))
    ∙ (ap (λ (b : Bool). b || list_any (is_end_beside peer) (places_along wire row me (segment + 1) (next ∷ rest))) (at_segment wire row me peer segment first next)
    ∙ ap (λ (b : Bool). ((nat_eq me.0 first.0 && nat_eq peer next.0) || (nat_eq peer first.0 && nat_eq me.0 next.0)) || b) (along_path wire row me peer (segment + 1) (next ∷ rest)))

-- those of the wires from a place on
of_wires : (me : EdgeId) (peer wire : ℕ) (rows : List WirePlan) → list_any (is_end_beside peer) (places_from me wire rows) ≡ list_any (λ row. joins me.0 peer row.path) rows
of_wires me peer wire [] = refl
of_wires me peer wire (row ∷ rows) =
    any_append (is_end_beside peer) (places_along (record { 0 = wire }) row me 0 row.path) (places_from me (wire + 1) rows)
    ∙ (ap (λ (b : Bool). b || list_any (is_end_beside peer) (places_from me (wire + 1) rows)) (along_path (record { 0 = wire }) row me peer 0 row.path)
    ∙ ap (λ (b : Bool). joins me.0 peer row.path || b) (of_wires me peer (wire + 1) rows))

pub beside_joined : (plan : Plan) (me peer : EdgeId) (places : List EndPlace) (beside : Bool) → places ≡ end_places plan me → beside ≡ list_any (is_end_beside peer.0) places → beside
    ≡ are_joined plan me.0 peer.0
beside_joined plan me peer places beside are is = is ∙ (ap (list_any (is_end_beside peer.0)) are ∙ of_wires me peer.0 0 plan.wires)
