-- An edge that has mended tells on what it holds of a spoke that is whole, or never will.
use Rattle.std.proofs.Common.{◌≡◌, ◌∙◌, ◌⊎◌, ◌||◌, ◌&&◌, Bool, None, Option, Some, ap, false, inl, inr, is_some, not, refl, sym, true, ℕ, ⊎_elim}
use Rattle.std.specs.List.{find}
use Rattle.net_values.proofs.BoolLemmas.{clash}
use Rattle.net_base.proofs.PathLemmas.{mate_joined}
use Rattle.net_base.specs.declared.plan.Plan.{Plan}
use Rattle.net_base.specs.declared.plan.places.EdgeId.{EdgeId}
use Rattle.net_base.specs.declared.plan.places.ServiceId.{ServiceId}
use Rattle.net_base.specs.declared.plan.places.WireId.{WireId}
use Rattle.net_base.specs.declared.plan.wire_plan.WirePlan.{WirePlan}
use Rattle.net_base.specs.plan.Accepted.{IsChecked}
use Rattle.net_base.specs.plan.Paths.{edge_address, has_repeat, mate}
use Rattle.net_base.specs.plan.Places.{wire_row}
use Rattle.network_model.proofs.GoalLemmas.{mate_inside}
use Rattle.network_model.specs.Absorb.{taken_all}
use Rattle.network_model.specs.State.{NetworkState}
use Rattle.pw_signalling.specs.End.{Advertised, Idle, LocalPart, Withdrawing}
use Rattle.pw_signalling.specs.declared.binding.Binding.{Binding}
use Rattle.pw_signalling.specs.declared.told.Told.{Told}
use Rattle.pw_stitch.specs.Passing.{own_point, wanted}
use Rattle.edge_model.proofs.MendedLemmas.{IsMended, mends_mended}
use Rattle.edge_model.proofs.OneEndLemmas.{has_one_end}
use Rattle.edge_model.specs.EndPlaces.{end_places, is_named, is_terminal}
use Rattle.edge_model.specs.Labels.{label_to_give}
use Rattle.edge_model.specs.Mend.{is_up_with, mends, wish}
use Rattle.edge_model.specs.Settled.{is_mended}
use Rattle.edge_model.specs.State.{EdgeState, end_at}
use Rattle.edge_model.specs.Work.{Work}
use Rattle.edge_model.specs.declared.end_place.EndPlace.{EndPlace}
use Rattle.flight_laws.proofs.AcrossLemmas.{other_side}
use Rattle.flight_laws.proofs.PlaceLemmas.{NamedEnd, end_of, find_holds, named_is, same_row}
use Rattle.flight_laws.proofs.RuledMendLemmas.{wire_fits}
use Rattle.flight_laws.specs.Across.{TellsAcross}
use Rattle.flight_laws.specs.Binding.{is_withdrawing}
use Rattle.move_laws.proofs.KeepMeshLemmas.{passed_is}
use Rattle.move_laws.proofs.StuckLemmas.{mended_or_stuck}
use Rattle.move_laws.specs.Healing.{GoesOn, KeepsSpokes, is_advertising, is_stuck, stays_idle}

-- ---- by mending

some_wanted : (o : Option Binding) (row : WirePlan) (plan : Plan) (me from : EdgeId) → is_some o ≡ true
    → is_some (wanted (own_point row.pw_id (edge_address plan me) (edge_address plan from)) o) ≡ true
some_wanted None row plan me from some = clash some
some_wanted (Some binding) row plan me from some = refl

pub mends_go_on : (plan : Plan) (service : ServiceId) (network : NetworkState) (me : EdgeId) (work : Work) → IsChecked plan → (mends plan taken_all work).edge.me ≡ me → work.edge.me ≡ me
    → KeepsSpokes plan service network me (mends plan taken_all work).edge → GoesOn plan service network me (mends plan taken_all work).edge
mends_go_on plan service network me work checked placed before spokes wire row from to onward mated held =
    ⊎_elim
    (λ (told : is_advertising (end_at edge near.place).local ≡ true). inl (told_as told))
    (λ (stuck : stays_idle edge near.place.wire.0 near.place.peer.0 (end_at edge near.place).local ≡ true). inr (stuck_as stuck))
    (mended_or_stuck near.place edge (wish plan edge near.place) (end_at edge near.place).local wishes here waits)
  where
    edge : EdgeState
    edge = (mends plan taken_all work).edge

    mended : IsMended plan (mends plan taken_all work).edge
    mended = mends_mended plan taken_all work (λ k. refl) (has_one_end plan work.edge.me checked)

    near : NamedEnd plan me to wire row
    near = end_of plan me to wire row checked onward.is (mate_joined row.path me.0 from.0 to mated)

    here : is_mended plan edge near.place ≡ true
    here = (find_holds (λ (p : EndPlace). is_mended plan edge p ≡ true) (is_named to row.pw_id) (end_places plan edge.me) near.place mended.ends
        (ap (λ (k : EdgeId). find (is_named to row.pw_id) (end_places plan k)) placed ∙ near.named)).holds

    once : has_repeat row.path ≡ false
    once = (wire_fits plan wire row checked onward.is).once

    row_is : wire_row plan near.place.wire ≡ Some row
    row_is = ap (wire_row plan) near.wire_is ∙ onward.is

    passes : near.place.terminal ≡ false
    passes = (named_is plan me to row.pw_id near.place near.named).holds.terminal
        ∙ (ap (λ (r : WirePlan). is_terminal r me) (same_row _ row (sym (named_is plan me to row.pw_id near.place near.named).holds.is ∙ row_is)) ∙ mate_inside row.path me from to once mated)

    back : mate row me.0 near.place.peer.0 ≡ Some from
    back = ap (λ (k : EdgeId). mate row me.0 k.0) near.peer_is ∙ other_side row.path me from to once mated

    wishes : edge.wire_on near.place.wire.0 ≡ true → is_up_with (edge.peering near.place.peer.0) ≡ true → is_some (wish plan edge near.place) ≡ true
    wishes on up = ap (λ (o : Option Told). is_some o) (passed_is plan edge near.place row row_is on up me from placed passes back)
        ∙ some_wanted (edge.ends near.place.wire.0 from.0).remote row plan me from (ap (λ (w : WireId). is_some (edge.ends w.0 from.0).remote) near.wire_is ∙ held)

    waits : is_withdrawing (end_at edge near.place).local ≡ false
    waits = ap (λ (w : WireId). is_withdrawing (edge.ends w.0 near.place.peer.0).local) near.wire_is
        ∙ (ap (λ (k : EdgeId). is_withdrawing (edge.ends wire.0 k.0).local) near.peer_is ∙ spokes.waits_not wire row to.0 onward)

    told_as : is_advertising (end_at edge near.place).local ≡ true → is_advertising (edge.ends wire.0 to.0).local ≡ true
    told_as told = ap (λ (k : EdgeId). is_advertising (edge.ends wire.0 k.0).local) (sym near.peer_is)
        ∙ (ap (λ (w : WireId). is_advertising (edge.ends w.0 near.place.peer.0).local) (sym near.wire_is) ∙ told)

    stuck_as : stays_idle edge near.place.wire.0 near.place.peer.0 (end_at edge near.place).local ≡ true → is_stuck edge wire.0 to.0 ≡ true
    stuck_as stuck = ap (λ (k : EdgeId). is_stuck edge wire.0 k.0) (sym near.peer_is) ∙ (ap (λ (w : WireId). is_stuck edge w.0 near.place.peer.0) (sym near.wire_is) ∙ stuck)

-- ---- in each state of a run

pub tells_go_on : (plan : Plan) (service : ServiceId) (network : NetworkState) (me : EdgeId) (edge : EdgeState)
    → ((from to : EdgeId) (wire : WireId) (row : WirePlan) → wire_row plan wire ≡ Some row → mate row me.0 from.0 ≡ Some to → TellsAcross plan me from to wire row edge)
    → KeepsSpokes plan service network me edge → GoesOn plan service network me edge
tells_go_on plan service network me edge tells spokes wire row from to onward mated held = by_held (edge.ends wire.0 from.0).remote refl held where
  across : TellsAcross plan me from to wire row edge
  across = tells from to wire row onward.is mated

  none : (o : Option ℕ) → o ≡ None → not (is_some o) ≡ true
  none o is = ap (λ (x : Option ℕ). not (is_some x)) is

  idle : (binding : Binding) → (edge.ends wire.0 from.0).remote ≡ Some binding → (on up : Bool) → edge.wire_on wire.0 ≡ on → is_up_with (edge.peering to.0) ≡ up
      → (edge.ends wire.0 to.0).local ≡ Idle false
      → not (on && up) || not (is_some (label_to_give edge)) ≡ true
  idle binding at true true on up local = none (label_to_give edge) (across.idle binding at on up local)
  idle binding at true false on up local = refl
  idle binding at false up on is_up local = refl

  by : (binding : Binding) → (edge.ends wire.0 from.0).remote ≡ Some binding → (local : LocalPart) → (edge.ends wire.0 to.0).local ≡ local → is_withdrawing local ≡ false
      → (is_advertising local ≡ true) ⊎ (stays_idle edge wire.0 to.0 local ≡ true)
  by binding at (Idle true) local waits = inr refl
  by binding at (Idle false) local waits = inr (idle binding at (edge.wire_on wire.0) (is_up_with (edge.peering to.0)) refl refl local)
  by binding at (Advertised label told) local waits = inl refl
  by binding at (Withdrawing label) local waits = clash (sym waits)

  by_held : (o : Option Binding) → (edge.ends wire.0 from.0).remote ≡ o → is_some o ≡ true → (is_advertising (edge.ends wire.0 to.0).local ≡ true) ⊎ (is_stuck edge wire.0 to.0 ≡ true)
  by_held None at some = clash some
  by_held (Some binding) at some = by binding at (edge.ends wire.0 to.0).local refl (spokes.waits_not wire row to.0 onward)
