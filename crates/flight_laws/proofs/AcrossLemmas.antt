-- What a switching point tells on one side of a wire is what it holds on the other side.
use Rattle.std.proofs.Common.{◌≡◌, ◌&&◌, ◌∙◌, ℕ, Bool, true, false, not, cond, nat_eq, is_some, List, Option, Some, None, refl, sym, ap, subst}
use Rattle.std.proofs.lemmas.Bool.{eqb-true}
use Rattle.std.proofs.lemmas.Option.{same_Some}
use Rattle.net_values.proofs.BoolLemmas.{clash}
use Rattle.net_values.proofs.OptionLemmas.{none_some}
use Rattle.net_values.proofs.RowLemmas.{row_holds}
use Rattle.net_base.specs.declared.plan.Plan.{Plan}
use Rattle.net_base.specs.declared.plan.places.EdgeId.{EdgeId}
use Rattle.net_base.specs.declared.plan.places.WireId.{WireId}
use Rattle.net_base.specs.declared.plan.wire_plan.WirePlan.{WirePlan}
use Rattle.net_base.specs.plan.Accepted.{IsChecked, IsWireOf}
use Rattle.net_base.specs.plan.Paths.{edge_address, has_repeat, joins, mate_on, offer_of}
use Rattle.net_base.specs.plan.Places.{wire_row}
use Rattle.net_base.proofs.PathLemmas.{joins_turned, mate_back, mate_joined, place_of}
use Rattle.ldp_grammar.specs.declared.message.Message.{Message}
use Rattle.ldp_grammar.specs.declared.message.Message.TheVariants.{LabelMapping}
use Rattle.pw_tlvs.specs.declared.pw_status.PwStatus.{PwStatus}
use Rattle.pw_signalling.specs.declared.binding.Binding.{Binding}
use Rattle.pw_signalling.specs.declared.told.Told.{Told}
use Rattle.pw_signalling.specs.End.{EndState, Idle, Advertised}
use Rattle.pw_messages.specs.Content.{told_with}
use Rattle.pw_stitch.specs.Change.{without_status}
use Rattle.pw_stitch.specs.Passing.{own_point, passed_status, past_point, stated_or_clear, wanted}
use Rattle.pw_stitch.proofs.ChangeLemmas.{same_without_status}
use Rattle.edge_model.specs.Across.{held_beyond, held_from, held_of, mate_of}
use Rattle.edge_model.specs.declared.end_place.EndPlace.{EndPlace}
use Rattle.edge_model.specs.EndPlaces.{end_places, is_named, is_terminal}
use Rattle.edge_model.specs.Labels.{label_to_give}
use Rattle.edge_model.specs.Mend.{is_up_with, passed_from, passed_wish, offer_stands, terminal_wish, wish, wish_by, wish_of}
use Rattle.edge_model.specs.Role.{own_status, status_to_tell}
use Rattle.edge_model.specs.State.{EdgeState, end_at}
use Rattle.edge_model.specs.Settled.{is_mended, is_told}
use Rattle.network_model.proofs.GoalLemmas.{mate_inside}
use Rattle.flight_laws.specs.Across.{IsMappingTaken, PassesOn, RunsTakeMappings, RunsTellAcross, TellsAcross}
use Rattle.flight_laws.specs.Laws.{TellsContents, network_after}
use Rattle.flight_laws.specs.Rules.{FarTells, NearTells, TellsExpected, TellsPlan}
use Rattle.flight_laws.proofs.AcceptLemmas.{takes_told, wanted_tells}
use Rattle.flight_laws.proofs.MendedRunLemmas.{IsMendedAt, run_mended_at}
use Rattle.flight_laws.proofs.MentionLemmas.{all_kept}
use Rattle.flight_laws.proofs.PlaceLemmas.{IsEndOf, NamedEnd, end_of, find_holds, named_is}
use Rattle.flight_laws.proofs.RuledRunLemmas.{run_ruled, runs_keep_told_rule}
use Rattle.flight_laws.proofs.ToldLemmas.{TellsOwn}

-- ---- two contents

-- they are the same where they are without the status, and the status is
same_told : (one other : Told) → without_status one ≡ without_status other → one.status ≡ other.status → one ≡ other
same_told one other rest status = λ i. record (rest i) { status = status i }

-- both have a status or none, and a status that is told is the one of now
same_status : (one other : Option PwStatus) → is_some one ≡ is_some other → ((last : PwStatus) → one ≡ Some last → nat_eq last.0 (stated_or_clear other).0 ≡ true) → one ≡ other
same_status None None alike now = refl
same_status None (Some status) alike now = clash alike
same_status (Some last) None alike now = clash (sym alike)
same_status (Some last) (Some status) alike now = ap (λ (n : ℕ). Some (record { 0 = n })) (eqb-true last.0 status.0 (now last refl))

-- ---- one switching point

-- from the other side, the neighbour is the one from which it has what it passes on
pub other_side : (path : List EdgeId) (me from to : EdgeId) → has_repeat path ≡ false → mate_on path me.0 from.0 ≡ Some to → mate_on path me.0 to.0 ≡ Some from
other_side path me from to once mated = placed_at (mate_on path me.0 to.0) (mate_back path me.0 from.0 to once mated) where
  placed_at : (o : Option EdgeId) → place_of o ≡ Some from.0 → o ≡ Some from
  placed_at None e = none_some from.0 e
  placed_at (Some other) e = ap (λ (n : ℕ). Some (record { 0 = n })) (same_Some other.0 from.0 e)

module _ (plan : Plan) (checked : IsChecked plan) (me from to : EdgeId) (wire : WireId) (row : WirePlan) (is : wire_row plan wire ≡ Some row) (mated : mate_on row.path me.0 from.0 ≡ Some to) (edge : EdgeState) (mended : IsMendedAt plan me.0 edge) (tells : TellsOwn plan me.0 edge) where
  once : IsWireOf plan row
  once = row_holds (IsWireOf plan) plan.wires wire.0 row is checked.wires

  joined : joins me.0 to.0 row.path ≡ true
  joined = mate_joined row.path me.0 from.0 to mated

  near : NamedEnd plan me to wire row
  near = end_of plan me to wire row checked is joined

  end_is : IsEndOf plan me near.place
  end_is = (named_is plan me to row.pw_id near.place near.named).holds

  end_row : end_is.row ≡ row
  end_row = same_Some end_is.row row (sym end_is.is ∙ (ap (wire_row plan) near.wire_is ∙ is))

  switching : near.place.terminal ≡ false
  switching = end_is.terminal ∙ (ap (λ (r : WirePlan). is_terminal r me) end_row ∙ mate_inside row.path me from to once.once mated)

  back : mate_on row.path me.0 to.0 ≡ Some from
  back = other_side row.path me from to once.once mated

  place_row : wire_row plan near.place.wire ≡ Some row
  place_row = ap (wire_row plan) near.wire_is ∙ is

  beyond : mate_of edge.me near.place (wire_row plan near.place.wire) ≡ Some from
  beyond = ap (λ (k : EdgeId). mate_of k near.place (wire_row plan near.place.wire)) mended.me
      ∙ (ap (mate_of me near.place) place_row ∙ (ap (λ (k : EdgeId). mate_on row.path me.0 k.0) near.peer_is ∙ back))

  end_same : end_at edge near.place ≡ edge.ends wire.0 to.0
  end_same = ap (λ (w : WireId). edge.ends w.0 near.place.peer.0) near.wire_is ∙ ap (λ (k : EdgeId). edge.ends wire.0 k.0) near.peer_is

  ends : is_mended plan edge near.place ≡ true
  ends = (find_holds (λ (p : EndPlace). is_mended plan edge p ≡ true) (is_named to row.pw_id) (end_places plan me) near.place mended.ends near.named).holds

  statuses : is_told plan edge near.place ≡ true
  statuses = (find_holds (λ (p : EndPlace). is_told plan edge p ≡ true) (is_named to row.pw_id) (end_places plan me) near.place mended.statuses near.named).holds

  -- what it should tell, by what it holds on the other side
  wish_is : wish plan edge near.place ≡ cond (edge.wire_on wire.0 && is_up_with (edge.peering to.0))
      (wanted (own_point row.pw_id (edge_address plan me) (edge_address plan from)) (edge.ends wire.0 from.0).remote) None
  wish_is =
      ap (wish_of plan edge near.place) place_row
      ∙ (ap (λ (w : WireId). cond (edge.wire_on w.0 && is_up_with (edge.peering near.place.peer.0)) (wish_by plan edge near.place row) None) near.wire_is
      ∙ (ap (λ (k : EdgeId). cond (edge.wire_on wire.0 && is_up_with (edge.peering k.0)) (wish_by plan edge near.place row) None) near.peer_is
      ∙ ap (λ (o : Option Told). cond (edge.wire_on wire.0 && is_up_with (edge.peering to.0)) o None) passed))
    where
      passed : wish_by plan edge near.place row ≡ wanted (own_point row.pw_id (edge_address plan me) (edge_address plan from)) (edge.ends wire.0 from.0).remote
      passed =
          ap (λ (b : Bool). cond b (terminal_wish plan edge near.place (offer_of row edge.me.0)) (passed_wish plan edge near.place row)) switching
          ∙ (ap (λ (k : EdgeId). passed_from plan row k (held_of edge near.place.wire) (mate_on row.path k.0 near.place.peer.0)) mended.me
          ∙ (ap (λ (k : EdgeId). passed_from plan row me (held_of edge near.place.wire) (mate_on row.path me.0 k.0)) near.peer_is
          ∙ (ap (passed_from plan row me (held_of edge near.place.wire)) back
          ∙ ap (λ (w : WireId). wanted (own_point row.pw_id (edge_address plan me) (edge_address plan from)) (edge.ends w.0 from.0).remote) near.wire_is)))

  -- what it tells of its status
  status_is : status_to_tell plan edge near.place ≡ passed_status (edge.ends wire.0 from.0).remote
  status_is =
      ap (λ (b : Bool). cond b (own_status plan edge near.place) (passed_status (held_beyond plan edge near.place))) switching
      ∙ (ap (λ (o : Option EdgeId). passed_status (held_from (held_of edge near.place.wire) o)) beyond ∙ ap (λ (w : WireId). passed_status (edge.ends w.0 from.0).remote) near.wire_is)

  module _ (label : ℕ) (content : Told) (told : (edge.ends wire.0 to.0).local ≡ Advertised label content) where
    local_is : (end_at edge near.place).local ≡ Advertised label content
    local_is = ap (λ (e : EndState). e.local) end_same ∙ told

    still : offer_stands near.place content (wish plan edge near.place) ≡ true
    still = rw local_is at ends

    now : (last : PwStatus) → content.status ≡ Some last → nat_eq last.0 (status_to_tell plan edge near.place).0 ≡ true
    now last is = rw (local_is, is) at statuses

    planned : TellsExpected plan row me.0 to.0 content
    planned = subst (NearTells plan row me.0 to.0) told ((tells wire.0 to.0).near row is joined)

    heard : (binding : Binding) → (edge.ends wire.0 from.0).remote ≡ Some binding → TellsExpected plan row from.0 me.0 binding.told
    heard binding held = subst (FarTells plan row from.0 me.0) held
        ((tells wire.0 from.0).far row is (sym (joins_turned row.path me.0 from.0) ∙ mate_joined row.path me.0 to.0 from back))

    by_held : (held : Option Binding) → (edge.ends wire.0 from.0).remote ≡ held → (on up : Bool) → edge.wire_on wire.0 ≡ on → is_up_with (edge.peering to.0) ≡ up
        → offer_stands near.place content (cond (on && up) (wanted (own_point row.pw_id (edge_address plan me) (edge_address plan from)) held) None) ≡ true → PassesOn plan me from to wire row edge content
    by_held held there false up on_is up_is e = clash e
    by_held held there true false on_is up_is e = clash e
    by_held None there true true on_is up_is e = clash e
    by_held (Some binding) there true true on_is up_is e =
        let wished : Told = past_point (own_point row.pw_id (edge_address plan me) (edge_address plan from)) binding.told in
        let other : TellsExpected plan row me.0 to.0 wished = wanted_tells plan row me from to binding.told once.once mated (heard binding there) in
        record {
          binding = binding;
          held = there;
          content_is = same_told content wished ((same_without_status content wished).0 (rw switching at e))
              (same_status content.status binding.told.status (planned.carries ∙ sym other.carries)
              (λ last has. ap (λ (s : PwStatus). nat_eq last.0 s.0) (sym (status_is ∙ ap passed_status there)) ∙ now last has));
          on = on_is;
          up = up_is;
        }

    pub passes_on : PassesOn plan me from to wire row edge content
    passes_on = by_held (edge.ends wire.0 from.0).remote refl (edge.wire_on wire.0) (is_up_with (edge.peering to.0)) refl refl (ap (offer_stands near.place content) (sym wish_is) ∙ still)

  none_left : (binding : Binding) → (edge.ends wire.0 from.0).remote ≡ Some binding → edge.wire_on wire.0 ≡ true → is_up_with (edge.peering to.0) ≡ true → (edge.ends wire.0 to.0).local
      ≡ Idle false → label_to_give edge ≡ None
  none_left binding held on up idle = none_of (label_to_give edge) (rw (local_is, wished) at ends) where
    none_of : (r : Option ℕ) → not (is_some r) ≡ true → r ≡ None
    none_of None is = refl
    none_of (Some label) is = absurd (cc (is))

    local_is : (end_at edge near.place).local ≡ Idle false
    local_is = ap (λ (e : EndState). e.local) end_same ∙ idle

    wished : wish plan edge near.place ≡ Some (past_point (own_point row.pw_id (edge_address plan me) (edge_address plan from)) binding.told)
    wished = wish_is ∙ rw (on, up, held) refl

  pub tells_across : TellsAcross plan me from to wire row edge
  tells_across = record { advertised = passes_on; idle = none_left }

-- ---- the laws

pub runs_tell_across : RunsTellAcross
runs_tell_across plan events run me from to wire row is mated =
    tells_across plan run.checked me from to wire row is mated ((network_after plan events).edges me.0) (run_mended_at plan events run me.0) ((run_ruled plan events run).edges me.0).tells

taken : (plan : Plan) (from to : ℕ) → IsChecked plan → (m : Message) → TellsPlan plan from to m → IsMappingTaken plan to from m
taken plan from to checked (LabelMapping id fec label status points) tells =
    λ place named. takes_told plan (record { 0 = to }) (record { 0 = from }) fec place (told_with fec status points) checked tells named
taken plan from to checked m tells = tt

pub runs_take_mappings : RunsTakeMappings
runs_take_mappings plan events run from to apart =
    let contents : TellsContents plan (network_after plan events) from to = runs_keep_told_rule plan events run from to apart in
    record {
      messages = contents.messages;
      on_way = contents.on_way;
      taken = all_kept (TellsPlan plan from to) (IsMappingTaken plan to from) contents.messages (taken plan from to run.checked) contents.planned.told;
    }
