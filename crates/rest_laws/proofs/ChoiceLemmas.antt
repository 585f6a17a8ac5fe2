-- When an edge chooses the same spoke of a service again.
use Rattle.std.proofs.Common.{◌≡◌, ◌∙◌, filter, map, option_and_then, option_map, slice_get, cond, ℕ, Bool, true, false, List, [], ◌∷◌, Option, refl, sym, ap}
use Rattle.std.specs.List.{AllByRecursion}
use Rattle.net_base.specs.declared.plan.Plan.{Plan}
use Rattle.net_base.specs.declared.plan.places.EdgeId.{EdgeId}
use Rattle.net_base.specs.declared.plan.places.ServiceId.{ServiceId}
use Rattle.net_base.specs.declared.plan.places.WireId.{WireId}
use Rattle.net_base.specs.plan.Places.{wire_row}
use Rattle.spoke_redundancy.specs.declared.spoke.Spoke.{Spoke}
use Rattle.spoke_redundancy.specs.Choice.{chosen}
use Rattle.edge_model.specs.declared.end_place.EndPlace.{EndPlace}
use Rattle.edge_model.specs.EndPlaces.{end_places}
use Rattle.edge_model.specs.Spokes.{choice, is_spoke_row, is_usable, spoke_at, spoke_places}
use Rattle.edge_model.specs.State.{EdgeState}
use Rattle.flight_laws.proofs.PlaceLemmas.{IsEndOf, places_are}

-- where the spokes of a service that start at the edge would forward as before, it chooses the same one
pub choice_by_spokes : (plan : Plan) (me : EdgeId) (old new : EdgeState) (service : ServiceId) → old.me ≡ me → new.me ≡ me → new.priority ≡ old.priority
    → ((p : EndPlace) → IsEndOf plan me p → is_spoke_row service me (wire_row plan p.wire) ≡ true → is_usable new p ≡ is_usable old p)
    → choice plan new service ≡ choice plan old service
choice_by_spokes plan me old new service at at_new priorities usable =
    ap (λ (k : EdgeId). among k (map (spoke_at new) (spoke_places plan k service))) at_new
    ∙ (ap (among me) (all (end_places plan me) (places_are plan me)) ∙ ap (λ (k : EdgeId). among k (map (spoke_at old) (spoke_places plan k service))) (sym at))
  where
    among : EdgeId → List Spoke → Option WireId
    among k spokes = option_map (λ (place : EndPlace). place.wire) (option_and_then (slice_get (spoke_places plan k service)) (chosen spokes))

    test : EndPlace → Bool
    test p = is_spoke_row service me (wire_row plan p.wire)

    one : (p : EndPlace) → IsEndOf plan me p → test p ≡ true → spoke_at new p ≡ spoke_at old p
    one p here is =
        ap (λ (f : ℕ → ℕ). record { priority = f p.wire.0; usable = is_usable new p }) priorities
        ∙ ap (λ (u : Bool). record { priority = old.priority p.wire.0; usable = u }) (usable p here is)

    all : (places : List EndPlace) → AllByRecursion (IsEndOf plan me) places → map (spoke_at new) (filter test places) ≡ map (spoke_at old) (filter test places)
    all [] each = refl
    all (p ∷ ps) each = by (test p) refl (all ps each.1) where
      by : (b : Bool) → test p ≡ b → map (spoke_at new) (filter test ps) ≡ map (spoke_at old) (filter test ps) → map (spoke_at new) (cond b (p ∷ filter test ps) (filter test ps)) ≡ map (spoke_at old) (cond b (p ∷ filter test ps) (filter test ps))
      by true is rest = λ i. one p each.0 is i ∷ rest i
      by false is rest = rest
