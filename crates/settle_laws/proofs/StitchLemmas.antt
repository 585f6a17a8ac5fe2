-- A wire of a quiet service on which each two neighbours tell each other something is stitched at each of its switching points.
use Rattle.std.proofs.Common.{◌≡◌, ◌&&◌, ◌||◌, ◌∙◌, not, is_some, ℕ, Bool, true, false, List, [], ◌∷◌, Option, Some, nat_eq, refl, sym, ap}
use Rattle.std.proofs.lemmas.Bool.{eqb-true}
use Rattle.std.specs.List.{AllByRecursion, list_all}
use Rattle.net_base.specs.declared.plan.Plan.{Plan}
use Rattle.net_base.specs.declared.plan.places.EdgeId.{EdgeId}
use Rattle.net_base.specs.declared.plan.places.ServiceId.{ServiceId}
use Rattle.net_base.specs.declared.plan.places.WireId.{WireId}
use Rattle.net_base.specs.declared.plan.wire_plan.WirePlan.{WirePlan}
use Rattle.net_base.specs.plan.Paths.{joins}
use Rattle.net_base.specs.plan.Places.{wire_row}
use Rattle.net_base.specs.plan.Roles.{is_wire_of}
use Rattle.pw_tlvs.specs.declared.pw_status.PwStatus.{PwStatus}
use Rattle.pw_stitch.specs.Stitch.{has_told, is_joined_end}
use Rattle.edge_model.specs.declared.end_place.EndPlace.{EndPlace}
use Rattle.edge_model.specs.EndPlaces.{end_places}
use Rattle.edge_model.specs.Ends.{is_joined_place, is_stitched}
use Rattle.edge_model.specs.State.{end_at}
use Rattle.network_model.specs.Calm.{inner_stitched}
use Rattle.network_model.specs.State.{NetworkState}
use Rattle.flight_laws.proofs.PlaceLemmas.{IsEndOf, places_are, same_row}
use Rattle.flood_laws.proofs.MateLemmas.{OfEach, of_joined}
use Rattle.settle_laws.proofs.WireLemmas.{HasSettled, TellsWith, holds}

-- an edge advertises something to a neighbour, with some status
pub record TellsSome (network : NetworkState) (wire : WireId) (a b : ℕ) : Type 0 where
  pub status : Option PwStatus
  pub tells : TellsWith network wire status a b

both : (b c : Bool) → b ≡ true → c ≡ true → b && c ≡ true
both true c e h = h
both false c e h = e

module _ (plan : Plan) (network : NetworkState) (service : ServiceId) (has : HasSettled plan network service) (wire : WireId) (row : WirePlan) (is : wire_row plan wire ≡ Some row) (ours : is_wire_of service row ≡ true)
    (on : OfEach (λ a b. TellsSome network wire a b) row.path) (back : OfEach (λ a b. TellsSome network wire b a) row.path) where
  place_joined : (x : EdgeId) (place : EndPlace) → IsEndOf plan x place → is_joined_place (network.edges x.0) wire place ≡ true
  place_joined x place end = by (nat_eq place.wire.0 wire.0) refl where
    inside : nat_eq place.wire.0 wire.0 ≡ true → is_joined_end (end_at (network.edges x.0) place) ≡ true
    inside same =
        let at : place.wire.0 ≡ wire.0 = eqb-true place.wire.0 wire.0 same in
        let rows : end.row ≡ row = same_row end.row row (sym end.is ∙ (ap (λ (n : ℕ). wire_row plan (record { 0 = n })) at ∙ is)) in
        let joined : joins x.0 place.peer.0 row.path ≡ true = ap (λ (r : WirePlan). joins x.0 place.peer.0 r.path) (sym rows) ∙ end.joined in
        let told = of_joined (λ a b. TellsSome network wire a b) row.path x.0 place.peer.0 on back joined in
        ap (λ (n : ℕ). is_joined_end ((network.edges x.0).ends n place.peer.0)) {x = place.wire.0} {y = wire.0} at
        ∙ both (has_told ((network.edges x.0).ends wire.0 place.peer.0).local) (is_some ((network.edges x.0).ends wire.0 place.peer.0).remote) (ap has_told told.0.tells.is)
        (ap is_some (holds plan network service has wire row is ours x.0 place.peer.0 joined told.1.tells))

    by : (b : Bool) → nat_eq place.wire.0 wire.0 ≡ b → not b || is_joined_end (end_at (network.edges x.0) place) ≡ true
    by true same = inside same
    by false other = refl

  all_joined : (x : EdgeId) (places : List EndPlace) → AllByRecursion (IsEndOf plan x) places → list_all (is_joined_place (network.edges x.0) wire) places ≡ true
  all_joined x [] all = refl
  all_joined x (place ∷ places) all = rw (place_joined x place all.0) (all_joined x places all.1)

  stitched : (x : EdgeId) → is_stitched plan (network.edges x.0) wire ≡ true
  stitched x = ap (λ (m : EdgeId). list_all (is_joined_place (network.edges x.0) wire) (end_places plan m)) (has.ordered.placed x.0) ∙ all_joined x (end_places plan x) (places_are plan x)

  pub inner : (path : List EdgeId) → inner_stitched plan network wire.0 path ≡ true
  inner [] = refl
  inner (last ∷ []) = refl
  inner (point ∷ next ∷ rest) = rw (stitched point) (inner (next ∷ rest))
