-- The ends of an edge are those of the plan's segments there.
use Rattle.std.proofs.Common.{◌≡◌, ◌+◌, ◌||◌, ◌&&◌, ◌∙◌, ℕ, suc, true, nat_eq, List, [], ◌∷◌, Some, slice_get, refl, sym, ap, inl, inr}
use Rattle.std.proofs.lemmas.Bool.{cases_Bool}
use Rattle.std.specs.List.{AllByRecursion}
use Rattle.net_values.proofs.BoolLemmas.{or_true}
use Rattle.net_values.proofs.NumberLemmas.{same_number, add_zero, step_into, from_none_back}
use Rattle.net_values.proofs.RowLemmas.{all-append}
use Rattle.net_base.specs.declared.plan.Plan.{Plan}
use Rattle.net_base.specs.declared.plan.places.EdgeId.{EdgeId}
use Rattle.net_base.specs.declared.plan.places.WireId.{WireId}
use Rattle.net_base.specs.declared.plan.wire_plan.WirePlan.{WirePlan}
use Rattle.net_base.specs.plan.Paths.{joins}
use Rattle.net_base.specs.plan.Places.{wire_row}
use Rattle.edge_model.specs.declared.end_place.EndPlace.{EndPlace}
use Rattle.edge_model.specs.EndPlaces.{end_places, is_terminal, places_along, places_at, places_from}

-- the end of an edge at a segment of a wire of the plan, beside the edge at its other side
pub record IsEndOf (plan : Plan) (me : EdgeId) (place : EndPlace) : Type 0 where
  pub row : WirePlan
  pub is : wire_row plan place.wire ≡ Some row
  pub pw_id : place.pw_id ≡ row.pw_id
  pub terminal : place.terminal ≡ is_terminal row me
  pub joined : joins me.0 place.peer.0 row.path ≡ true

-- the same of one wire and a part of its path
record IsEndAlong (wire : WireId) (row : WirePlan) (me : EdgeId) (path : List EdgeId) (place : EndPlace) : Type 0 where
  of_wire : place.wire ≡ wire
  pw_id : place.pw_id ≡ row.pw_id
  terminal : place.terminal ≡ is_terminal row me
  joined : joins me.0 place.peer.0 path ≡ true

pub all-map : {A : Type 0} (P Q : A → Type 0) (xs : List A) → ((x : A) → P x → Q x) → AllByRecursion P xs → AllByRecursion Q xs
all-map P Q [] follows all = tt
all-map P Q (x ∷ xs) follows all = (follows x all.0, all-map P Q xs follows all.1)

at_segment : (wire : WireId) (row : WirePlan) (me : EdgeId) (segment : ℕ) (first next : EdgeId) (rest : List EdgeId)
    → AllByRecursion (IsEndAlong wire row me (first ∷ next ∷ rest)) (places_at wire row me segment first next)
at_segment wire row me segment first next rest = elim (cases_Bool (nat_eq me.0 first.0)) [
  | inl here ↦ rw here (record { of_wire = refl; pw_id = refl; terminal = refl; joined = rw (here, same_number next.0) refl }, tt)
  | inr away ↦ elim (cases_Bool (nat_eq me.0 next.0)) [
    | inl there ↦ rw (away, there) (record { of_wire = refl; pw_id = refl; terminal = refl; joined = rw (away, there, same_number first.0) refl }, tt)
    | inr gone ↦ rw (away, gone) tt
  ]
]

along : (wire : WireId) (row : WirePlan) (me : EdgeId) (segment : ℕ) (path : List EdgeId) → AllByRecursion (IsEndAlong wire row me path) (places_along wire row me segment path)
along wire row me segment [] = tt
along wire row me segment (last ∷ []) = tt
along wire row me segment (first ∷ next ∷ rest) =
    all-append (IsEndAlong wire row me (first ∷ next ∷ rest)) (places_at wire row me segment first next) (places_along wire row me (segment + 1) (next ∷ rest))
    (at_segment wire row me segment first next rest)
    (all-map (IsEndAlong wire row me (next ∷ rest)) (IsEndAlong wire row me (first ∷ next ∷ rest)) (places_along wire row me (segment + 1) (next ∷ rest))
    (λ place h. record {
      of_wire = h.of_wire;
      pw_id = h.pw_id;
      terminal = h.terminal;
      joined = rw h.joined (or_true ((nat_eq me.0 first.0 && nat_eq place.peer.0 next.0) || (nat_eq place.peer.0 first.0 && nat_eq me.0 next.0)));
    })
    (along wire row me (segment + 1) (next ∷ rest)))

from : (plan : Plan) (me : EdgeId) (wire : ℕ) (rows : List WirePlan) → ((k : ℕ) → slice_get rows k ≡ slice_get plan.wires (wire + k)) → AllByRecursion (IsEndOf plan me) (places_from me wire rows)
from plan me wire [] same = tt
from plan me wire (row ∷ rows) same =
    all-append (IsEndOf plan me) (places_along (record { 0 = wire }) row me 0 row.path) (places_from me (wire + 1) rows)
    (all-map (IsEndAlong (record { 0 = wire }) row me row.path) (IsEndOf plan me) (places_along (record { 0 = wire }) row me 0 row.path)
    (λ place h. record {
      row = row;
      is = ap (λ (w : WireId). slice_get plan.wires w.0) h.of_wire ∙ (ap (slice_get plan.wires) (add_zero wire) ∙ sym (same 0));
      pw_id = h.pw_id;
      terminal = h.terminal;
      joined = h.joined;
    })
    (along (record { 0 = wire }) row me 0 row.path))
    (from plan me (wire + 1) rows (λ k. same (suc k) ∙ ap (slice_get plan.wires) (step_into wire k)))

pub places_are : (plan : Plan) (me : EdgeId) → AllByRecursion (IsEndOf plan me) (end_places plan me)
places_are plan me = from plan me 0 plan.wires (λ k. ap (slice_get plan.wires) (from_none_back k))
