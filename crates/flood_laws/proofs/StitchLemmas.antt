-- A wire that carries frames is stitched: at each of its switching points both sides are advertised and bound, so a copy there goes on.
use Rattle.std.proofs.Common.{◌≡◌, ◌==◌, ◌&&◌, ◌||◌, ◌∙◌, ℕ, Bool, true, false, List, [], ◌∷◌, Option, Some, None, is_some, nat_eq, refl, ap, sym, subst, arith}
use Rattle.std.proofs.lemmas.Bool.Decides.{nat_tests}
use Rattle.std.proofs.lemmas.Bool.{eqb-true, or_parts, eq-eqb}
use Rattle.std.specs.List.{AllByRecursion, list_all}
use Rattle.net_values.proofs.BoolLemmas.{first_holds, clash, second_holds, second_of_two, implied}
use Rattle.net_base.specs.declared.plan.Plan.{Plan}
use Rattle.net_base.specs.declared.plan.wire_plan.WirePlan.{WirePlan}
use Rattle.net_base.specs.declared.plan.places.EdgeId.{EdgeId}
use Rattle.net_base.specs.declared.plan.places.WireId.{WireId}
use Rattle.net_base.specs.plan.Accepted.{IsChecked}
use Rattle.net_base.specs.plan.Paths.{has_repeat, is_first, is_last, joins, mate_on}
use Rattle.net_base.specs.plan.Places.{wire_row}
use Rattle.net_base.proofs.PathLemmas.{mate_joined}
use Rattle.pw_signalling.specs.declared.binding.Binding.{Binding}
use Rattle.pw_signalling.specs.End.{EndState}
use Rattle.pw_stitch.specs.Stitch.{has_told, is_joined_end}
use Rattle.edge_model.specs.declared.end_place.EndPlace.{EndPlace}
use Rattle.edge_model.specs.EndPlaces.{end_places, is_named}
use Rattle.edge_model.specs.Ends.{is_joined_place, is_stitched}
use Rattle.edge_model.specs.State.{EdgeState}
use Rattle.network_model.specs.Calm.{carries, first_forwards, inner_stitched, is_joined_up, last_forwards}
use Rattle.network_model.specs.State.{NetworkState}
use Rattle.flight_laws.proofs.PlaceLemmas.{IsFound, NamedEnd, end_of, find_holds}
use Rattle.flight_laws.proofs.RuledMendLemmas.{wire_fits}
use Rattle.network_model.proofs.WayLemmas.{Homeward, Onward, Passes, earlier_stands, mate_passes, split, stands_on, turned_test}
use Rattle.network_model.proofs.GoalLemmas.{mate_inside}

-- a switching point of a stitched path is stitched
pub point_stitched : (plan : Plan) (network : NetworkState) (wire : ℕ) (path : List EdgeId) (me : EdgeId) → inner_stitched plan network wire path ≡ true → stands_on me.0 path ≡ true
    → is_last me.0 path ≡ false
    → is_stitched plan (network.edges me.0) (record { 0 = wire }) ≡ true
point_stitched plan network wire [] me all there not_last = clash there
point_stitched plan network wire (last ∷ []) me all there not_last = clash (sym not_last ∙ here me.0 last.0 there) where
  here : (a b : ℕ) → (b == a) || false ≡ true → (a == b) ≡ true
  here a b h = grind (arith, nat_tests)
point_stitched plan network wire (point ∷ next ∷ rest) me all there not_last = split {P = is_stitched plan (network.edges me.0) (record { 0 = wire }) ≡ true} (point.0 == me.0)
    (λ same. subst (λ (n : ℕ). is_stitched plan (network.edges n) (record { 0 = wire }) ≡ true) (eqb-true point.0 me.0 same)
    (first_holds (is_stitched plan (network.edges point.0) (record { 0 = wire })) (inner_stitched plan network wire (next ∷ rest)) all))
    (λ apart. point_stitched plan network wire (next ∷ rest) me
    (second_holds (is_stitched plan (network.edges point.0) (record { 0 = wire })) (inner_stitched plan network wire (next ∷ rest)) all) (rw apart at there) not_last)

-- an edge that passes on stands behind the first edge
inside_stands : (path : List EdgeId) (me from : ℕ) (to : EdgeId) → mate_on path me from ≡ Some to → is_first me path ≡ false → stands_on me path ≡ true
inside_stands path me from to is not_first = by (mate_passes path me from to is) where
  by : Passes path me from to.0 → stands_on me path ≡ true
  by (Onward a b) = earlier_stands path me to.0 b
  by (Homeward a b) = earlier_stands path me from b

-- a wire that carries frames is stitched at each switching point
pub carries_stitched : (plan : Plan) (network : NetworkState) (wire : WireId) (row : WirePlan) (me from to : EdgeId) → has_repeat row.path ≡ false → carries plan network wire.0 row
    ≡ true → mate_on row.path me.0 from.0 ≡ Some to
    → is_stitched plan (network.edges me.0) wire ≡ true
carries_stitched plan network wire row me from to once live is = by row.path once (second_holds (first_forwards plan network wire.0 row.path && last_forwards plan network wire.0 row.path) (is_joined_up plan network wire.0 row.path) live) is where
  by : (path : List EdgeId) → has_repeat path ≡ false → is_joined_up plan network wire.0 path ≡ true → mate_on path me.0 from.0 ≡ Some to → is_stitched plan (network.edges me.0) wire ≡ true
  by [] once up is = clash up
  by (first ∷ rest) once up is =
      let ends = or_parts (me.0 == first.0) (is_last me.0 (first ∷ rest)) (mate_inside (first ∷ rest) me from to once is) in
      point_stitched plan network wire.0 rest me up (rest_stands first rest ends.0 (inside_stands (first ∷ rest) me.0 from.0 to is ends.0))
      (not_last first rest ends.1 (rest_stands first rest ends.0 (inside_stands (first ∷ rest) me.0 from.0 to is ends.0)))
    where
      rest_stands : (first : EdgeId) (rest : List EdgeId) → (me.0 == first.0) ≡ false → stands_on me.0 (first ∷ rest) ≡ true → stands_on me.0 rest ≡ true
      rest_stands first rest apart there = second_of_two (first.0 == me.0) (turned_test me.0 first.0 apart) there

      not_last : (first : EdgeId) (rest : List EdgeId) → is_last me.0 (first ∷ rest) ≡ false → stands_on me.0 rest ≡ true → is_last me.0 rest ≡ false
      not_last first [] none there = clash there
      not_last first (next ∷ rest) none there = none

-- ---- at a stitched switching point each side is advertised and bound

all_by : {X : Type 0} (test : X → Bool) (xs : List X) → list_all test xs ≡ true → AllByRecursion (λ x. test x ≡ true) xs
all_by test [] all = tt
all_by test (x ∷ xs) all = (first_holds (test x) (list_all test xs) all, all_by test xs (second_holds (test x) (list_all test xs) all))

pub record IsJoinedSide (end : EndState) : Type 0 where
  pub binding : Binding
  pub bound : end.remote ≡ Some binding
  pub advertises : has_told end.local ≡ true

joined_side : (end : EndState) → is_joined_end end ≡ true → IsJoinedSide end
joined_side end is = by end.remote refl (second_holds (has_told end.local) (is_some end.remote) is) where
  by : (o : Option Binding) → end.remote ≡ o → is_some o ≡ true → IsJoinedSide end
  by None at some = clash some
  by (Some binding) at some = record { binding = binding; bound = at; advertises = first_holds (has_told end.local) (is_some end.remote) is }

pub side_joined : (plan : Plan) (edge : EdgeState) (me peer : EdgeId) (wire : WireId) (row : WirePlan) → IsChecked plan → edge.me ≡ me → wire_row plan wire ≡ Some row
    → joins me.0 peer.0 row.path ≡ true
    → is_stitched plan edge wire ≡ true → IsJoinedSide (edge.ends wire.0 peer.0)
side_joined plan edge me peer wire row checked at is joined all =
    let end : NamedEnd plan me peer wire row = end_of plan me peer wire row checked is joined in
    let each : AllByRecursion (λ (p : EndPlace). is_joined_place edge wire p ≡ true) (end_places plan me) =
    all_by (is_joined_place edge wire) (end_places plan me) (ap (λ (m : EdgeId). list_all (is_joined_place edge wire) (end_places plan m)) (sym at) ∙ all) in
    let found : IsFound (λ (p : EndPlace). is_joined_place edge wire p ≡ true) (is_named peer row.pw_id) end.place =
    find_holds (λ (p : EndPlace). is_joined_place edge wire p ≡ true) (is_named peer row.pw_id) (end_places plan me) end.place each end.named in
    joined_side (edge.ends wire.0 peer.0)
    (subst (λ (w : WireId). is_joined_end (edge.ends w.0 peer.0) ≡ true) end.wire_is
    (subst (λ (k : EdgeId). is_joined_end (edge.ends end.place.wire.0 k.0) ≡ true) end.peer_is
    (implied (nat_eq end.place.wire.0 wire.0) (eq-eqb end.place.wire.0 wire.0 (ap (λ (w : WireId). w.0) end.wire_is)) found.holds)))

-- so what a copy needs there to go on is there: where its wire carries frames, the side towards the mate is bound
pub relay_bound : (plan : Plan) (network : NetworkState) (wire : WireId) (row : WirePlan) (me from to : EdgeId) → IsChecked plan → (network.edges me.0).me ≡ me → wire_row plan wire
    ≡ Some row → carries plan network wire.0 row ≡ true
    → mate_on row.path me.0 from.0 ≡ Some to → IsJoinedSide ((network.edges me.0).ends wire.0 to.0)
relay_bound plan network wire row me from to checked at is live passes =
    side_joined plan (network.edges me.0) me to wire row checked at is (mate_joined row.path me.0 from.0 to passes)
    (carries_stitched plan network wire row me from to (wire_fits plan wire row checked is).once live passes)
