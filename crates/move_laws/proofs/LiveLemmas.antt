-- Once an edge has mended, what it has learned at one of its spokes is at one that forwards.
use Rattle.edge_model.specs.Settled.{IsForgotten}
use Rattle.edge_model.proofs.MendedLemmas.{IsMended, mends_mended}
use Rattle.edge_model.proofs.OneEndLemmas.{has_one_end}
use Rattle.edge_model.proofs.SignalLemmas.{mends_signals}
use Rattle.edge_model.specs.EndPlaces.{end_places, is_end_of_wire}
use Rattle.edge_model.specs.Ends.{end_forwards, forwards_at, is_up, wire_end}
use Rattle.edge_model.specs.Mend.{mends, port_of_wire}
use Rattle.edge_model.specs.Role.{down_at}
use Rattle.edge_model.specs.State.{EdgeState, without_port}
use Rattle.edge_model.specs.Work.{Work}
use Rattle.edge_model.specs.declared.end_place.EndPlace.{EndPlace}
use Rattle.flight_laws.proofs.PlaceLemmas.{find_holds}
use Rattle.hvpls_spokes.proofs.PortsLemmas.{IsWired}
use Rattle.hvpls_spokes.proofs.WirePortLemmas.{LeadsToWire, found_wire_port, leads_by_spoke, same_wire_port, wired_at}
use Rattle.hvpls_spokes.specs.Port.{is_wire_port, ports_of}
use Rattle.hvpls_spokes.specs.declared.port.Port.TheVariants as port
use Rattle.mac_table.specs.declared.mac_entry.MacEntry.{MacEntry}
use Rattle.flood_laws.proofs.ChoiceLemmas.{all_by_place, filter_at}
use Rattle.flood_laws.proofs.LinkLemmas.{link_at}
use Rattle.move_laws.proofs.WireLemmas.{HasNext, HasPortAt, IsLinkEnd, link_end, next_of, port_found, service_is}
use Rattle.move_laws.specs.Healing.{IsAtLive}
use Rattle.net_base.specs.declared.plan.Plan.{Plan}
use Rattle.net_base.specs.declared.plan.places.EdgeId.{EdgeId}
use Rattle.net_base.specs.declared.plan.places.ServiceId.{ServiceId}
use Rattle.net_base.specs.declared.plan.places.WireId.{WireId}
use Rattle.net_base.specs.declared.plan.wire_plan.WirePlan.{WirePlan}
use Rattle.net_base.specs.declared.trace.down.Down.{Down}
use Rattle.net_base.specs.plan.Accepted.{IsChecked}
use Rattle.net_base.specs.plan.Paths.{is_first, is_last}
use Rattle.net_base.specs.plan.Places.{wire_row}
use Rattle.net_base.specs.plan.Roles.{is_wire_of}
use Rattle.network_model.specs.Absorb.{taken_all}
use Rattle.std.proofs.Common.{Bool, List, None, Option, Some, ap, false, filter, is_some, not, position, refl, slice_get, subst, sym, true, ℕ, ◌==◌, ◌||◌, ◌∙◌, ◌≡◌}
use Rattle.std.specs.List.{AllByRecursion}
use Rattle.net_values.proofs.BoolLemmas.{first_holds, clash}
use Rattle.net_values.proofs.NumberLemmas.{same_number}

pub mends_live : (plan : Plan) (service : ServiceId) (me : EdgeId) (work : Work) → IsChecked plan → work.edge.me ≡ me
    → AllByRecursion (IsAtLive plan service me.0 (mends plan taken_all work).edge) ((mends plan taken_all work).edge.learned service.0)
mends_live plan service me work checked placed = all_by_place (IsAtLive plan service me.0 edge) (edge.learned service.0) (λ k entry at wire leads. live k entry at wire leads) where
  edge : EdgeState
  edge = (mends plan taken_all work).edge

  me_is : edge.me ≡ me
  me_is = (mends_signals plan taken_all work).edge.me ∙ placed

  mended : IsMended plan edge
  mended = mends_mended plan taken_all work (λ k. refl) (has_one_end plan work.edge.me checked)

  no_port : (test : MacEntry → Bool) (k : ℕ) (entry : MacEntry) → filter test (edge.learned service.0) ≡ edge.learned service.0 → slice_get (edge.learned service.0) k ≡ Some entry → test entry ≡ true
  no_port test k entry same at = (filter_at test (edge.learned service.0) k entry (ap (λ (l : List MacEntry). slice_get l k) same ∙ at)).passes

  not_clash : {P : Type 0} (b : Bool) → b ≡ true → not b ≡ true → P
  not_clash true is wrong = clash wrong
  not_clash false is wrong = clash is

  live : (k : ℕ) (entry : MacEntry) → slice_get (edge.learned service.0) k ≡ Some entry → (wire : WireId) → slice_get (ports_of plan service me) entry.port ≡ Some (port.Spoke wire)
      → end_forwards plan edge wire ≡ true
  live k entry at wire leads = subst (λ (o : Option EndPlace). forwards_at plan edge o ≡ true) (sym found) (by (down_at plan edge place) refl) where
    to_wire : LeadsToWire (ports_of plan service me) entry.port wire.0
    to_wire = leads_by_spoke (ports_of plan service me) entry.port wire leads

    wired : IsWired plan.wires service me (wired_at plan service me entry.port wire.0 to_wire).0 wire.0
    wired = (wired_at plan service me entry.port wire.0 to_wire).1

    row : WirePlan
    row = wired.row

    other : HasNext row.path me.0
    other = next_of plan service row me.0 (link_at plan wire.0 row checked wired.is) wired.ends

    end : IsLinkEnd plan me other.peer wire row
    end = link_end plan service me other.peer wire row checked wired.ends wired.is other.joined

    place : EndPlace
    place = end.place

    found : wire_end plan edge.me wire ≡ Some place
    found = ap (λ (e : EdgeId). wire_end plan e wire) me_is ∙ end.found

    ours : row.service ≡ service
    ours = service_is row service (first_holds (is_wire_of service row) (is_first me.0 row.path || is_last me.0 row.path) wired.ends)

    here : HasPortAt plan service me wire row
    here = port_found plan service me wire row wired.is wired.ends

    port_is : port_of_wire plan edge place.wire row ≡ Some here.p
    port_is = ap (λ (w : WireId). position (is_wire_port w) (ports_of plan row.service edge.me)) end.wire_is
        ∙ (ap (λ (s : ServiceId). position (is_wire_port wire) (ports_of plan s edge.me)) ours ∙ (ap (λ (e : EdgeId). position (is_wire_port wire) (ports_of plan service e)) me_is ∙ here.found))

    same_port : (entry.port == here.p) ≡ true
    same_port = same_wire_port plan service me entry.port here.p wire.0 wire.0 to_wire (found_wire_port wire (ports_of plan service me) here.p here.found) ∙ same_number wire.0

    forgotten : IsForgotten plan edge place
    forgotten = (find_holds (IsForgotten plan edge) (is_end_of_wire wire) (end_places plan edge.me) place mended.forgotten found).holds

    gone : (why : Down) → down_at plan edge place ≡ Some why → filter (λ (e : MacEntry). not (e.port == here.p)) (edge.learned service.0) ≡ edge.learned service.0
    gone why down =
        subst (λ (s : ServiceId). filter (λ (e : MacEntry). not (e.port == here.p)) (edge.learned s.0) ≡ edge.learned s.0) ours
        (ap (λ (o : Option ℕ). without_port o (edge.learned row.service.0)) (sym port_is) ∙ forgotten row end.terminal (ap (wire_row plan) end.wire_is ∙ wired.is) (ap is_some down))

    by : (o : Option Down) → down_at plan edge place ≡ o → is_up o ≡ true
    by None down = refl
    by (Some why) down = not_clash (entry.port == here.p) same_port (no_port (λ (e : MacEntry). not (e.port == here.p)) k entry (gone why down) at)
