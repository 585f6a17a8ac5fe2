-- The ends of an edge rise by wire, and by segment on each.
use Rattle.std.proofs.Common.{◌≡◌, ◌≤◌, ◌<◌, ◌+◌, ◌++◌, ℕ, nat_eq, List, [], ◌∷◌, refl, inl, inr, arith}
use Rattle.std.proofs.lemmas.Bool.{cases_Bool}
use Rattle.std.specs.List.{AllByRecursion}
use Rattle.net_values.proofs.RowLemmas.{all-append}
use Rattle.net_base.specs.declared.plan.places.EdgeId.{EdgeId}
use Rattle.net_base.specs.declared.plan.places.WireId.{WireId}
use Rattle.net_base.specs.declared.plan.wire_plan.WirePlan.{WirePlan}
use Rattle.edge_model.specs.declared.end_place.EndPlace.{EndPlace}
use Rattle.edge_model.specs.EndPlaces.{places_along, places_at, places_from}
use Rattle.edge_model.specs.Rising.{AreRisingPlaces, EndPlacesRise, IsBefore}
use Rattle.edge_model.proofs.PlaceLemmas.{all-map}

-- an end of this wire, at this segment or a later one
record IsBehind (wire segment : ℕ) (place : EndPlace) : Type 0 where
  of_wire : place.wire.0 ≡ wire
  behind : segment ≤ place.segment

-- an end of this wire or a later one
abbrev IsFrom : ℕ → EndPlace → Type 0
IsFrom wire place = wire ≤ place.wire.0

-- a list of which each end stands before all of another one rises with it
joined : (xs ys : List EndPlace) → AreRisingPlaces xs → AreRisingPlaces ys → AllByRecursion (λ x. AllByRecursion (IsBefore x) ys) xs → AreRisingPlaces (xs ++ ys)
joined [] ys first next before = next
joined (x ∷ xs) ys first next before = (all-append (IsBefore x) xs ys first.0 before.0, joined xs ys first.1 next before.1)

one_segment : (wire : WireId) (row : WirePlan) (me : EdgeId) (segment : ℕ) (first next : EdgeId)
    → AreRisingPlaces (places_at wire row me segment first next) × AllByRecursion (λ (place : EndPlace). (place.wire.0 ≡ wire.0) × (place.segment ≡ segment)) (places_at wire row me segment first next)
one_segment wire row me segment first next = elim (cases_Bool (nat_eq me.0 first.0)) [
  | inl here ↦ rw here ((tt, tt), ((refl, refl), tt))
  | inr away ↦ elim (cases_Bool (nat_eq me.0 next.0)) [
    | inl there ↦ rw (away, there) ((tt, tt), ((refl, refl), tt))
    | inr gone ↦ rw (away, gone) (tt, tt)
  ]
]

along : (wire : WireId) (row : WirePlan) (me : EdgeId) (segment : ℕ) (path : List EdgeId)
    → AreRisingPlaces (places_along wire row me segment path) × AllByRecursion (IsBehind wire.0 segment) (places_along wire row me segment path)
along wire row me segment [] = (tt, tt)
along wire row me segment (last ∷ []) = (tt, tt)
along wire row me segment (first ∷ next ∷ rest) =
    let here : List EndPlace = places_at wire row me segment first next in
    let others : List EndPlace = places_along wire row me (segment + 1) (next ∷ rest) in
    let one = one_segment wire row me segment first next in
    let more = along wire row me (segment + 1) (next ∷ rest) in (
      joined here others one.0 more.0 (all-map (λ (x : EndPlace). (x.wire.0 ≡ wire.0) × (x.segment ≡ segment)) (λ x. AllByRecursion (IsBefore x) others) here
          (λ x is. all-map (IsBehind wire.0 (segment + 1)) (IsBefore x) others (λ y behind. inr (same_wire x y is.0 behind.of_wire, later x y is.1 behind.behind)) more.1) one.1),
      all-append (IsBehind wire.0 segment) here others
          (all-map (λ (x : EndPlace). (x.wire.0 ≡ wire.0) × (x.segment ≡ segment)) (IsBehind wire.0 segment) here (λ x is. record { of_wire = is.0; behind = omega (arith, is.1) }) one.1)
          (all-map (IsBehind wire.0 (segment + 1)) (IsBehind wire.0 segment) others (λ x is. record { of_wire = is.of_wire; behind = omega (arith, is.behind) }) more.1),
    )
  where
    same_wire : (x y : EndPlace) → x.wire.0 ≡ wire.0 → y.wire.0 ≡ wire.0 → x.wire.0 ≡ y.wire.0
    same_wire x y one other = omega (arith, one, other)

    later : (x y : EndPlace) → x.segment ≡ segment → segment + 1 ≤ y.segment → x.segment < y.segment
    later x y one other = omega (arith, one, other)

from : (me : EdgeId) (wire : ℕ) (rows : List WirePlan) → AreRisingPlaces (places_from me wire rows) × AllByRecursion (IsFrom wire) (places_from me wire rows)
from me wire [] = (tt, tt)
from me wire (row ∷ rows) =
    let here : List EndPlace = places_along (record { 0 = wire }) row me 0 row.path in
    let others : List EndPlace = places_from me (wire + 1) rows in
    let one = along (record { 0 = wire }) row me 0 row.path in
    let more = from me (wire + 1) rows in (
      joined here others one.0 more.0 (all-map (IsBehind wire 0) (λ x. AllByRecursion (IsBefore x) others) here
          (λ x is. all-map (IsFrom (wire + 1)) (IsBefore x) others (λ y later. inl (lower x y is.of_wire later)) more.1) one.1),
      all-append (IsFrom wire) here others
          (all-map (IsBehind wire 0) (IsFrom wire) here (λ x is. omega (arith, is.of_wire)) one.1)
          (all-map (IsFrom (wire + 1)) (IsFrom wire) others (λ x is. omega (arith, is)) more.1),
    )
  where
    lower : (x y : EndPlace) → x.wire.0 ≡ wire → wire + 1 ≤ y.wire.0 → x.wire.0 < y.wire.0
    lower x y one other = omega (arith, one, other)

pub end_places_rise : EndPlacesRise
end_places_rise = record { rising = λ plan me. (from me 0 plan.wires).0 }
