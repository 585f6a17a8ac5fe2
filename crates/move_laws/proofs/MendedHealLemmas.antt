-- In every state of a run an end that advertises is of a wire that is on.
use Rattle.edge_model.specs.Settled.{is_mended}
use Rattle.edge_model.specs.EndPlaces.{end_places, is_named}
use Rattle.edge_model.specs.Mend.{is_up_with, offer_stands, wish, wish_by, wish_of}
use Rattle.edge_model.specs.State.{EdgeState, end_at}
use Rattle.edge_model.specs.declared.end_place.EndPlace.{EndPlace}
use Rattle.flight_laws.proofs.MendedRunLemmas.{IsMendedAt, run_mended_at}
use Rattle.flight_laws.proofs.PlaceLemmas.{IsEndOf, NamedEnd, end_of, find_holds}
use Rattle.flight_laws.specs.Laws.{IsRun, network_after}
use Rattle.move_laws.specs.Healing.{is_advertising}
use Rattle.net_base.specs.declared.plan.Plan.{Plan}
use Rattle.net_base.specs.declared.plan.places.EdgeId.{EdgeId}
use Rattle.net_base.specs.declared.plan.places.WireId.{WireId}
use Rattle.net_base.specs.declared.plan.wire_plan.WirePlan.{WirePlan}
use Rattle.net_base.specs.declared.trace.event.Event.{Event}
use Rattle.net_base.specs.plan.Accepted.{IsChecked}
use Rattle.net_base.specs.plan.Places.{wire_row}
use Rattle.network_model.specs.State.{NetworkState}
use Rattle.pw_signalling.specs.End.{Advertised, Idle, LocalPart, Withdrawing}
use Rattle.pw_signalling.specs.declared.told.Told.{Told}
use Rattle.std.proofs.Common.{Bool, List, None, Option, Some, ap, cond, false, is_some, refl, sym, true, ℕ, ◌&&◌, ◌∙◌, ◌≡◌}
use Rattle.net_values.proofs.BoolLemmas.{clash}

wish_on : (plan : Plan) (edge : EdgeState) (place : EndPlace) (row : Option WirePlan) → is_some (wish_of plan edge place row) ≡ true → edge.wire_on place.wire.0 ≡ true
wish_on plan edge place None some = clash some
wish_on plan edge place (Some row) some = by (edge.wire_on place.wire.0) refl some where
  by : (b : Bool) → edge.wire_on place.wire.0 ≡ b → is_some (cond (b && is_up_with (edge.peering place.peer.0)) (wish_by plan edge place row) None) ≡ true → b ≡ true
  by true is some = refl
  by false is some = clash some

mended_wish : (plan : Plan) (edge : EdgeState) (place : EndPlace) (local : LocalPart) → (end_at edge place).local ≡ local → is_advertising local ≡ true → is_mended plan edge place
    ≡ true → is_some (wish plan edge place) ≡ true
mended_wish plan edge place (Idle declined) at told mended = clash told
mended_wish plan edge place (Advertised label content) at told mended = stood (wish plan edge place) (rw at at mended)
  where
    stood : (wished : Option Told) → offer_stands place content wished ≡ true → is_some wished ≡ true
    stood None still = clash still
    stood (Some wished) still = refl
mended_wish plan edge place (Withdrawing label) at told mended = clash told

mended_on : (plan : Plan) (k : ℕ) (edge : EdgeState) → IsChecked plan → IsMendedAt plan k edge → (place : EndPlace) → IsEndOf plan (record { 0 = k }) place
    → is_advertising (end_at edge place).local ≡ true → edge.wire_on place.wire.0 ≡ true
mended_on plan k edge checked mended place end told =
    let near : NamedEnd plan (record { 0 = k }) place.peer place.wire end.row = end_of plan (record { 0 = k }) place.peer place.wire end.row checked end.is end.joined in
    let here : is_mended plan edge near.place ≡ true =
    (find_holds (λ (p : EndPlace). is_mended plan edge p ≡ true) (is_named place.peer end.row.pw_id) (end_places plan (record { 0 = k })) near.place mended.ends near.named).holds in
    let same : (end_at edge near.place).local ≡ (end_at edge place).local =
    ap (λ (w : WireId). (edge.ends w.0 near.place.peer.0).local) near.wire_is ∙ ap (λ (p : EdgeId). (edge.ends place.wire.0 p.0).local) near.peer_is in
    let wished = mended_wish plan edge near.place (end_at edge near.place).local refl (ap is_advertising same ∙ told) here in
    ap (λ (w : WireId). edge.wire_on w.0) (sym near.wire_is) ∙ wish_on plan edge near.place (wire_row plan near.place.wire) wished

-- so it is with each end of each edge
pub record HasMended (plan : Plan) (network : NetworkState) : Type 0 where
  pub on : (a : ℕ) (place : EndPlace) → IsEndOf plan (record { 0 = a }) place → is_advertising (end_at (network.edges a) place).local ≡ true → (network.edges a).wire_on place.wire.0 ≡ true

pub run_mended : (plan : Plan) (events : List Event) → IsRun plan events → HasMended plan (network_after plan events)
run_mended plan events run = record { on = λ a place end told. mended_on plan a ((network_after plan events).edges a) run.checked (run_mended_at plan events run a) place end told }
