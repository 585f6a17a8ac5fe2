-- A switching point tells what it is expected to tell, and takes whatever it is expected to hear.
use Rattle.std.proofs.Common.{◌≡◌, ◌<◌, ◌==◌, ◌&&◌, ◌||◌, ◌++◌, ◌∙◌, not, ℕ, Bool, true, false, List, [], ◌∷◌, Option, Some, None, if◌then◌else◌, map, length, reverse, nat_lt, slice_get, option_and_then, option_map, refl, ap, sym, subst, arith}
use Rattle.std.proofs.lemmas.Bool.Decides.{nat_tests}
use Rattle.std.proofs.lemmas.List.{length-map, map-append}
use Rattle.std.proofs.lemmas.Option.{slice_get-get_or}
use Rattle.std.proofs.lemmas.Bool.{ltb-true, and_parts, or_parts}
use Rattle.std.specs.List.{list_any, list_all}
use Rattle.net_values.proofs.BoolLemmas.{clash, second_holds}
use Rattle.net_values.proofs.NumberLemmas.{none_below}
use Rattle.net_values.proofs.OptionLemmas.{some_same}
use Rattle.net_values.proofs.RowLemmas.{row_holds}
use Rattle.net_base.specs.declared.plan.Plan.{Plan}
use Rattle.net_base.specs.declared.plan.edge_plan.EdgePlan.{EdgePlan}
use Rattle.net_base.specs.declared.plan.offer.Offer.{Offer}
use Rattle.net_base.specs.declared.plan.places.EdgeId.{EdgeId}
use Rattle.net_base.specs.declared.plan.wire_plan.WirePlan.{WirePlan}
use Rattle.net_base.specs.plan.Accepted.{IsChecked, IsWireOf}
use Rattle.net_base.specs.plan.Places.{wire_row}
use Rattle.net_base.specs.plan.Paths.{edge_address, expected, follows, has_repeat, is_first, is_last, joins, mate_on, points_on, up_to}
use Rattle.net_base.proofs.PathLemmas.{joins_turned}
use Rattle.pw_tlvs.specs.declared.point.Point.{Point}
use Rattle.pw_tlvs.specs.declared.pw_fec.PwFec.{PwFec}
use Rattle.pw_signalling.specs.declared.told.Told.{Told}
use Rattle.pw_messages.specs.Content.{content_of}
use Rattle.pw_stitch.specs.Accepting.{accepts, is_address, is_point_at}
use Rattle.pw_stitch.specs.Passing.{own_point, past_point}
use Rattle.edge_model.specs.declared.end_place.EndPlace.{EndPlace}
use Rattle.edge_model.specs.EndPlaces.{end_named}
use Rattle.edge_model.specs.Signal.{accepts_at, takes_content}
use Rattle.network_model.proofs.GoalLemmas.{has_mate}
use Rattle.network_model.proofs.PointLemmas.{passes_offer, passes_points, point_at, points_heard}
use Rattle.network_model.proofs.ReversedLemmas.{follows_reversed, once_reversed}
use Rattle.network_model.proofs.WayLemmas.{Homeward, Onward, Passes, behind_first, later_stands, mate_passes, once_behind, one_way}
use Rattle.flight_laws.specs.Rules.{TellsExpected, TellsOfWire, point_of, expected_told}
use Rattle.flight_laws.proofs.PlaceLemmas.{IsEndOf, NamedEnd, end_of, named_is}
use Rattle.flight_laws.proofs.PlanLemmas.{addresses_apart, both_in}

-- ---- what is passed on

-- the other side of `from` at a switching point is `to`: what it holds of `from`, with its point, is what it should tell `to`
pub wanted_tells : (plan : Plan) (row : WirePlan) (me from to : EdgeId) (content : Told) → has_repeat row.path ≡ false → mate_on row.path me.0 from.0 ≡ Some to
    → TellsExpected plan row from.0 me.0 content
    → TellsExpected plan row me.0 to.0 (past_point (own_point row.pw_id (edge_address plan me) (edge_address plan from)) content)
wanted_tells plan row me from to content once is tells = record {
  content = same;
  carries = tells.carries ∙ ap (λ (o : Offer). o.status) (sym offer);
}
  where
    point : Point
    point = own_point row.pw_id (edge_address plan me) (edge_address plan from)

    offer : (expected plan row me.0 to.0).offer ≡ (expected plan row from.0 me.0).offer
    offer = passes_offer plan row me from to once is

    points : map point_of (expected plan row me.0 to.0).points ≡ map point_of (expected plan row from.0 me.0).points ++ point ∷ []
    points = ap (map point_of) (passes_points plan row me from to once is) ∙ map-append point_of (expected plan row from.0 me.0).points (point_at plan row me from ∷ [])

    same : past_point point content ≡ expected_told (expected plan row me.0 to.0) content.status
    same = ap (λ (t : Told). record t { points = t.points ++ point ∷ [] }) tells.content ∙ sym (λ i. record (content_of (offer i) content.status) { points = points i })

-- ---- what is accepted

-- the edges that have passed something on to an edge are other ones
others_before : (path : List EdgeId) (from me : ℕ) → has_repeat path ≡ false → follows path from me ≡ true → list_all (λ (e : EdgeId). not (e.0 == me)) (up_to path from) ≡ true
others_before [] from me once h = clash h
others_before (last ∷ []) from me once h = clash h
others_before (first ∷ next ∷ rest) from me once h = by (from == first.0) refl (λ q. others_before (next ∷ rest) from me (once_behind first (next ∷ rest) once) q) where
  apart : not (first.0 == me) ≡ true
  apart = away first.0 me (behind_first first (next ∷ rest) me once (later_stands first (next ∷ rest) from me h)) where
    away : (f m : ℕ) → (m == f) ≡ false → not (f == m) ≡ true
    away f m h = grind (arith, nat_tests)

  by : (t : Bool) → (from == first.0) ≡ t → (follows (next ∷ rest) from me ≡ true → list_all (λ (e : EdgeId). not (e.0 == me)) (up_to (next ∷ rest) from) ≡ true)
      → list_all (λ (e : EdgeId). not (e.0 == me)) (if t then first ∷ [] else first ∷ up_to (next ∷ rest) from) ≡ true
  by true is more = rw apart refl
  by false is more = rw (apart, more (rw is at h)) refl

-- two edges of a checked plan have two addresses
module _ (plan : Plan) (checked : IsChecked plan) (me : EdgeId) (own : EdgePlan) (own_is : slice_get plan.edges me.0 ≡ Some own) where
  apart_at : (e : EdgeId) → not (e.0 == me.0) ≡ true → (o : Option EdgePlan) → slice_get plan.edges e.0 ≡ o → is_address own.address (option_map (λ (r : EdgePlan). r.address) o) ≡ false
  apart_at e away None at = refl
  apart_at e away (Some r) at = addresses_apart plan me.0 e.0 own r checked own_is at (turned e.0 me.0 away) where
    turned : (a b : ℕ) → not (a == b) ≡ true → (b == a) ≡ false
    turned a b h = grind (arith, nat_tests)

  -- a way of other edges has no point with the own address
  none_own : (row : WirePlan) (before : EdgeId) (way : List EdgeId) → list_all (λ (e : EdgeId). not (e.0 == me.0)) way ≡ true
      → list_any (is_point_at own.address) (map point_of (points_on plan row (before ∷ way))) ≡ false
  none_own row before [] all = refl
  none_own row before (point ∷ way) all =
      let parts = and_parts (not (point.0 == me.0)) (list_all (λ (e : EdgeId). not (e.0 == me.0)) way) all in
      neither (apart_at point parts.0 (slice_get plan.edges point.0) refl) (none_own row point way parts.1)
    where
      neither : {p q : Bool} → p ≡ false → q ≡ false → p || q ≡ false
      neither {p} {q} h k = rw (h, k) refl

  points_clear : (row : WirePlan) (way : List EdgeId) → list_all (λ (e : EdgeId). not (e.0 == me.0)) way ≡ true → list_any (is_point_at own.address) (map point_of (points_on plan row way)) ≡ false
  points_clear row [] all = refl
  points_clear row (before ∷ way) all = none_own row before way (second_holds (not (before.0 == me.0)) (list_all (λ (e : EdgeId). not (e.0 == me.0)) way) all)

  accepts_expected : (row : WirePlan) (from to : EdgeId) (content : Told) → IsWireOf plan row → mate_on row.path me.0 from.0 ≡ Some to → TellsExpected plan row from.0 me.0 content
      → accepts own.address content ≡ true
  accepts_expected row from to content wire is tells =
      ap (accepts own.address) tells.content ∙ all (clear (mate_passes row.path me.0 from.0 to is)) (few (points_heard plan row me from to wire.once wire.most is))
    where
      clear : Passes row.path me.0 from.0 to.0 → list_any (is_point_at own.address) (map point_of (expected plan row from.0 me.0).points) ≡ false
      clear (Onward a b) = rw a (points_clear row (up_to row.path from.0) (others_before row.path from.0 me.0 wire.once a))
      clear (Homeward a b) = rw (one_way row.path me.0 from.0 wire.once b)
          (points_clear row (up_to (reverse row.path) from.0) (others_before (reverse row.path) from.0 me.0 (once_reversed row.path ∙ wire.once) (follows_reversed row.path from.0 me.0 ∙ b)))

      few : length (expected plan row from.0 me.0).points < 3 → nat_lt (length (map point_of (expected plan row from.0 me.0).points)) 3 ≡ true
      few h = ap (λ (n : ℕ). nat_lt n 3) (length-map (expected plan row from.0 me.0).points point_of) ∙ less (length (expected plan row from.0 me.0).points) h where
        less : (n : ℕ) → n < 3 → nat_lt n 3 ≡ true
        less n h = grind (arith, nat_tests)

      all : {p q : Bool} → p ≡ false → q ≡ true → not p && q ≡ true
      all {p} {q} h k = rw (h, k) refl

-- ---- what an end takes

-- an edge on a path has a row in the plan
pub row_there : (plan : Plan) (me peer : EdgeId) (row : WirePlan) → IsWireOf plan row → joins me.0 peer.0 row.path ≡ true → {P : Type 0}
    → ((own : EdgePlan) → slice_get plan.edges me.0 ≡ Some own → P) → P
row_there plan me peer row wire joined {P} follows_it = by (slice_get plan.edges me.0) refl where
  within : nat_lt me.0 (length plan.edges) ≡ true
  within = (both_in plan row.path me.0 peer.0 wire.edges joined).0

  never : (xs : List EdgePlan) (n : ℕ) → slice_get xs n ≡ None → nat_lt n (length xs) ≡ true → ⊥
  never [] n none less = none_below n less
  never (x ∷ xs) n none less = absurd (cc (sym (slice_get-get_or (x ∷ xs) n x (ltb-true n (length (x ∷ xs)) less)) ∙ none))

  by : (o : Option EdgePlan) → slice_get plan.edges me.0 ≡ o → P
  by None none = absurd (never plan.edges me.0 none within)
  by (Some own) is = follows_it own is

-- where the edge has not the wire's end, it has another side
pub passes_to : (plan : Plan) (me : EdgeId) (place : EndPlace) → IsChecked plan → (is : IsEndOf plan me place) → place.terminal ≡ false → (to : EdgeId)
    × (mate_on is.row.path me.0 place.peer.0 ≡ Some to)
passes_to plan me place checked is passes =
    let apart = or_parts (is_first me.0 is.row.path) (is_last me.0 is.row.path) (sym is.terminal ∙ passes) in
    has_mate is.row.path place.peer me (row_holds (IsWireOf plan) plan.wires place.wire.0 is.row is.is checked.wires).once
    (sym (joins_turned is.row.path me.0 place.peer.0) ∙ is.joined) apart.0 apart.1

-- an end takes what it is expected to hear
pub takes_expected : (plan : Plan) (me : EdgeId) (place : EndPlace) (content : Told) → IsChecked plan → (is : IsEndOf plan me place)
    → TellsExpected plan is.row place.peer.0 me.0 content → takes_content plan me place content ≡ true
takes_expected plan me place content checked is tells = by place.terminal refl where
  wire : IsWireOf plan is.row
  wire = row_holds (IsWireOf plan) plan.wires place.wire.0 is.row is.is checked.wires

  accepted : place.terminal ≡ false → accepts_at (edge_address plan me) content ≡ true
  accepted passes =
      let mated = passes_to plan me place checked is passes in
      row_there plan me place.peer is.row wire is.joined {P = accepts_at (edge_address plan me) content ≡ true}
      (λ own own_is. ap (λ (o : Option EdgePlan). accepts_at (option_map (λ (r : EdgePlan). r.address) o) content) own_is
      ∙ accepts_expected plan checked me own own_is is.row place.peer mated.0 content wire mated.1 tells)

  by : (terminal : Bool) → place.terminal ≡ terminal → terminal || accepts_at (edge_address plan me) content ≡ true
  by true is_end = refl
  by false passes = accepted passes

-- the end that the FEC of a planned mapping names takes what the mapping tells
pub takes_told : (plan : Plan) (me peer : EdgeId) (fec : PwFec) (place : EndPlace) (content : Told) → IsChecked plan → TellsOfWire plan peer.0 me.0 fec content
    → option_and_then (end_named plan me peer) fec.pw_id ≡ Some place
    → takes_content plan me place content ≡ true
takes_told plan me peer fec place content checked tells found =
    let near : NamedEnd plan me peer tells.wire tells.row = end_of plan me peer tells.wire tells.row checked tells.is (sym (joins_turned tells.row.path peer.0 me.0) ∙ tells.joined) in
    let same : near.place ≡ place = some_same (sym (ap (option_and_then (end_named plan me peer)) tells.named ∙ near.named) ∙ found) in
    subst (λ (p : EndPlace). takes_content plan me p content ≡ true) same (named_takes near)
  where
    named_takes : (near : NamedEnd plan me peer tells.wire tells.row) → takes_content plan me near.place content ≡ true
    named_takes near =
        let is : IsEndOf plan me near.place = (named_is plan me peer tells.row.pw_id near.place near.named).holds in
        let row : tells.row ≡ is.row = some_same (sym tells.is ∙ (ap (wire_row plan) (sym near.wire_is) ∙ is.is)) in
        takes_expected plan me near.place content checked is
        (subst (λ (r : WirePlan). TellsExpected plan r near.place.peer.0 me.0 content) row (subst (λ (k : EdgeId). TellsExpected plan tells.row k.0 me.0 content) (sym near.peer_is) tells.tells))
