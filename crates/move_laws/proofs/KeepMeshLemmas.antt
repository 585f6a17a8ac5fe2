-- An edge keeps what it has for the service's mesh wires while their ends go on to tell what they told, but for the status, and to hold
-- what is told of what they hold.
use Rattle.std.proofs.Common.{◌≡◌, ◌∙◌, ◌||◌, ◌==◌, is_some, cond, Bool, true, false, ℕ, Option, Some, None, refl, sym, ap, subst}
use Rattle.std.proofs.lemmas.Bool.{and_from, or_parts, or_right}
use Rattle.net_values.proofs.BoolLemmas.{clash}
use Rattle.net_base.proofs.PathLemmas.{joins_turned, mate_joined}
use Rattle.net_base.specs.declared.plan.Plan.{Plan}
use Rattle.net_base.specs.declared.plan.places.EdgeId.{EdgeId}
use Rattle.net_base.specs.declared.plan.places.ServiceId.{ServiceId}
use Rattle.net_base.specs.declared.plan.places.WireId.{WireId}
use Rattle.net_base.specs.declared.plan.wire_plan.WirePlan.{WirePlan}
use Rattle.net_base.specs.plan.Accepted.{IsChecked}
use Rattle.net_base.specs.plan.Paths.{edge_address, has_repeat, is_first, is_last, joins, mate, offer_of}
use Rattle.net_base.specs.plan.Places.{wire_row}
use Rattle.net_base.specs.plan.Roles.{is_mesh_of}
use Rattle.network_model.proofs.GoalLemmas.{has_mate}
use Rattle.pw_messages.specs.Content.{content_of}
use Rattle.pw_signalling.specs.End.{Advertised, EndState, Idle, LocalPart, Withdrawing}
use Rattle.pw_signalling.specs.Rows.{binding_with_status, status_part, tell_part, telling, with_status}
use Rattle.pw_signalling.specs.declared.binding.Binding.{Binding}
use Rattle.pw_signalling.specs.declared.told.Told.{Told}
use Rattle.pw_status.specs.Status.{method_by}
use Rattle.pw_stitch.specs.Change.{is_same_but_status}
use Rattle.pw_stitch.specs.Passing.{own_point, past_point, wanted}
use Rattle.pw_tlvs.specs.declared.pw_status.PwStatus.{PwStatus}
use Rattle.edge_model.specs.Across.{held_of}
use Rattle.edge_model.specs.EndPlaces.{is_terminal}
use Rattle.edge_model.specs.Mend.{is_up_with, offer_stands, passed_from, passed_wish, status_held, status_offered, tells_status, terminal_wish, wish, wish_by, wish_of}
use Rattle.edge_model.specs.State.{EdgeState, end_at, with_end}
use Rattle.edge_model.specs.declared.end_place.EndPlace.{EndPlace}
use Rattle.flight_laws.proofs.AcrossLemmas.{other_side}
use Rattle.flight_laws.proofs.NameLemmas.{end_fact}
use Rattle.flight_laws.proofs.PlaceLemmas.{IsEndOf, same_row}
use Rattle.flight_laws.proofs.RuledMendLemmas.{wire_fits}
use Rattle.move_laws.specs.Healing.{KeepsMesh, StandsFor, is_advertising}

-- ---- an end that changes

-- what an end had told, of which no more than the status has changed
pub record WasTold (local : LocalPart) (content : Told) : Type 0 where
  pub label : ℕ
  pub before : Told
  pub was : local ≡ Advertised label before
  pub alike : (other : Told) → is_same_but_status before other ≡ is_same_but_status content other

-- an end that advertised goes on to, tells nothing new but a status, and what stood for what it held goes on to stand for it
pub record KeepsEnd (plan : Plan) (me : EdgeId) (old new : EndState) : Type 0 where
  pub told : is_advertising old.local ≡ true → is_advertising new.local ≡ true
  pub was : (label : ℕ) (content : Told) → new.local ≡ Advertised label content → WasTold old.local content
  pub stands : (row : WirePlan) (from : EdgeId) (content : Told) → StandsFor plan row me from content old.remote → StandsFor plan row me from content new.remote

-- an end with the same local part
pub keeps_local : (plan : Plan) (me : EdgeId) (old new : EndState) → new.local ≡ old.local
    → ((row : WirePlan) (from : EdgeId) (content : Told) → StandsFor plan row me from content old.remote → StandsFor plan row me from content new.remote) → KeepsEnd plan me old new
keeps_local plan me old new same stands = record {
  told = λ told. ap is_advertising same ∙ told;
  was = λ label content is. record { label = label; before = content; was = sym same ∙ is; alike = λ other. refl };
  stands = stands;
}

pub keeps_same : (plan : Plan) (me : EdgeId) (old new : EndState) → new ≡ old → KeepsEnd plan me old new
keeps_same plan me old new same = keeps_local plan me old new (ap (λ (e : EndState). e.local) same)
    (λ row from content stands. subst (λ (e : EndState). StandsFor plan row me from content e.remote) (sym same) stands)

-- a status is told
told_before : (status : PwStatus) (local : LocalPart) (label : ℕ) (content : Told) → tell_part status local ≡ Advertised label content → WasTold local content
told_before status (Idle declined) label content is = absurd (cc (is))
told_before status (Advertised own before) label content is =
    let same : with_status status before ≡ content = cc (is) in
    record { label = own; before = before; was = refl; alike = λ other. ap (λ (t : Told). is_same_but_status t other) same }
told_before status (Withdrawing own) label content is = absurd (cc (is))

pub still_told : (status : PwStatus) (local : LocalPart) → is_advertising (tell_part status local) ≡ is_advertising local
still_told status (Idle declined) = refl
still_told status (Advertised label content) = refl
still_told status (Withdrawing label) = refl

pub keeps_telling : (plan : Plan) (me : EdgeId) (status : PwStatus) (end : EndState) → KeepsEnd plan me end (telling status end)
keeps_telling plan me status end = record {
  told = λ told. still_told status end.local ∙ told;
  was = told_before status end.local;
  stands = λ row from content stands. stands;
}

-- a status is heard
pub keeps_status : (plan : Plan) (me : EdgeId) (status : PwStatus) (old new : EndState) → new.local ≡ old.local → new.remote ≡ status_part status old.remote → KeepsEnd plan me old new
keeps_status plan me status old new local remote = keeps_local plan me old new local
    (λ row from content stands. subst (StandsFor plan row me from content) (sym remote) (by row from content old.remote stands))
  where
    by : (row : WirePlan) (from : EdgeId) (content : Told) (held : Option Binding) → StandsFor plan row me from content held → StandsFor plan row me from content (status_part status held)
    by row from content None stands = absurd (cc (stands.is))
    by row from content (Some binding) stands =
        let same : binding ≡ stands.binding = cc (stands.is) in
        record {
          binding = binding_with_status status binding;
          is = refl;
          same = subst (λ (b : Binding). is_same_but_status content (past_point (own_point row.pw_id (edge_address plan me) (edge_address plan from)) b.told) ≡ true) (sym same) stands.same;
        }

-- ---- an edge

-- where the ends of the service's mesh wires keep so
pub mesh_kept : (plan : Plan) (service : ServiceId) (me : EdgeId) (old new : EdgeState) → IsChecked plan → new.wire_on ≡ old.wire_on → new.bits ≡ old.bits
    → ((wire : WireId) (row : WirePlan) (peer : ℕ) → wire_row plan wire ≡ Some row → is_mesh_of service row ≡ true → joins me.0 peer row.path ≡ true
    → KeepsEnd plan me (old.ends wire.0 peer) (new.ends wire.0 peer))
    → KeepsMesh plan service me.0 old → KeepsMesh plan service me.0 new
mesh_kept plan service me old new checked wires bits ends mesh = record {
  told = λ wire row peer is of_mesh joined. (ends wire row peer is of_mesh joined).told (mesh.told wire row peer is of_mesh joined);
  on = λ wire row peer is of_mesh joined. ap (λ (f : ℕ → Bool). f wire.0) wires ∙ mesh.on wire row peer is of_mesh joined;
  whole = λ wire row is of_mesh ended. ap (λ (f : ℕ → ℕ). f wire.0) bits ∙ mesh.whole wire row is of_mesh ended;
  across = across;
}
  where
    across : (wire : WireId) (row : WirePlan) (from to : EdgeId) (label : ℕ) (content : Told) → wire_row plan wire ≡ Some row → is_mesh_of service row ≡ true → mate row me.0 from.0 ≡ Some to
        → (new.ends wire.0 to.0).local ≡ Advertised label content → StandsFor plan row me from content (new.ends wire.0 from.0).remote
    across wire row from to label content is of_mesh mated at =
        let once : has_repeat row.path ≡ false = (wire_fits plan wire row checked is).once in
        let before : WasTold (old.ends wire.0 to.0).local content = (ends wire row to.0 is of_mesh (mate_joined row.path me.0 from.0 to mated)).was label content at in
        let stood = mesh.across wire row from to before.label before.before is of_mesh mated before.was in
        let stands : StandsFor plan row me from content (old.ends wire.0 from.0).remote = record {
          binding = stood.binding;
          is = stood.is;
          same = sym (before.alike (past_point (own_point row.pw_id (edge_address plan me) (edge_address plan from)) stood.binding.told)) ∙ stood.same;
        } in
        (ends wire row from.0 is of_mesh (mate_joined row.path me.0 to.0 from (other_side row.path me from to once mated))).stands row from content stands

pub put_rest : (place : EndPlace) (end : EndState) (edge : EdgeState) → ((with_end place end edge).wire_on ≡ edge.wire_on) × ((with_end place end edge).bits ≡ edge.bits)
unfolding with_end
put_rest place end edge = (refl, refl)

-- where an end is changed, and keeps so if it is of such a wire
pub mesh_put : (plan : Plan) (service : ServiceId) (me : EdgeId) (place : EndPlace) (end : EndState) (edge : EdgeState) → IsChecked plan
    → ((wire : WireId) (row : WirePlan) → wire_row plan wire ≡ Some row → is_mesh_of service row ≡ true → joins me.0 place.peer.0 row.path ≡ true → place.wire.0 ≡ wire.0
    → KeepsEnd plan me (end_at edge place) end)
    → KeepsMesh plan service me.0 edge → KeepsMesh plan service me.0 (with_end place end edge)
mesh_put plan service me place end edge checked keeps mesh =
    mesh_kept plan service me edge (with_end place end edge) checked (put_rest place end edge).0 (put_rest place end edge).1
    (λ wire row peer is of_mesh joined. end_fact (λ w k e. w ≡ wire.0 → k ≡ peer → KeepsEnd plan me (edge.ends w k) e) place end edge wire.0 peer
    (λ same also. keeps wire row is of_mesh (subst (λ (k : ℕ). joins me.0 k row.path ≡ true) (sym also) joined) same)
    (λ same also. keeps_same plan me (edge.ends wire.0 peer) (edge.ends wire.0 peer) refl) refl refl)
    mesh

-- ---- what has been told goes on to stand

by_bits : (told : Bool) (bits : ℕ) (content : Told) → bits ≡ 0 → is_some (cond (told || bits == 0) (Some content) None) ≡ true
by_bits told bits content none = rw none (either told)
  where
    either : (b : Bool) → is_some (cond (b || true) (Some content) None) ≡ true
    either true = refl
    either false = refl

-- what a terminal end tells stands while it tells anything
stands_terminal : (place : EndPlace) (content : Told) (wished : Option Told) → place.terminal ≡ true → is_some wished ≡ true → offer_stands place content wished ≡ true
stands_terminal place content None terminal some = clash some
stands_terminal place content (Some wished) terminal some = ap (λ (b : Bool). b || is_same_but_status content wished) terminal

-- the edge on the other side of a switching point
pub record HasOtherSide (row : WirePlan) (me next : EdgeId) : Type 0 where
  pub from : EdgeId
  pub mate_is : mate row me.0 from.0 ≡ Some next
  pub back : mate row me.0 next.0 ≡ Some from

pub has_other_side : (row : WirePlan) (me next : EdgeId) → has_repeat row.path ≡ false → joins me.0 next.0 row.path ≡ true → is_terminal row me ≡ false → HasOtherSide row me next
has_other_side row me next once joined inside =
    let neither = or_parts (is_first me.0 row.path) (is_last me.0 row.path) inside in
    let found = has_mate row.path next me once (sym (joins_turned row.path me.0 next.0) ∙ joined) neither.0 neither.1 in
    record { from = found.0; mate_is = other_side row.path me next found.0 once found.1; back = found.1 }

module _ (plan : Plan) (edge : EdgeState) (place : EndPlace) (row : WirePlan) (is : wire_row plan place.wire ≡ Some row) (on : edge.wire_on place.wire.0 ≡ true)
    (up : is_up_with (edge.peering place.peer.0) ≡ true) where
  wish_is : wish plan edge place ≡ wish_by plan edge place row
  wish_is = ap (λ (r : Option WirePlan). wish_of plan edge place r) is
      ∙ ap (λ (b : Bool). cond b (wish_by plan edge place row) None) (and_from (edge.wire_on place.wire.0) (is_up_with (edge.peering place.peer.0)) on up)

  -- a switching point tells what it holds
  pub passed_is : (me from : EdgeId) → edge.me ≡ me → place.terminal ≡ false → mate row me.0 place.peer.0 ≡ Some from
      → wish plan edge place ≡ wanted (own_point row.pw_id (edge_address plan me) (edge_address plan from)) (edge.ends place.wire.0 from.0).remote
  passed_is me from placed passes mated =
      wish_is
      ∙ (ap (λ (b : Bool). cond b (terminal_wish plan edge place (offer_of row edge.me.0)) (passed_wish plan edge place row)) passes
      ∙ (ap (λ (k : EdgeId). passed_from plan row k (held_of edge place.wire) (mate row k.0 place.peer.0)) placed
      ∙ ap (passed_from plan row me (held_of edge place.wire)) mated))

  pub across_stands : (me from : EdgeId) (content : Told) → edge.me ≡ me → place.terminal ≡ false → mate row me.0 place.peer.0 ≡ Some from
      → StandsFor plan row me from content (edge.ends place.wire.0 from.0).remote → offer_stands place content (wish plan edge place) ≡ true
  across_stands me from content placed passes mated stands =
      ap (offer_stands place content) (passed_is me from placed passes mated
      ∙ ap (wanted (own_point row.pw_id (edge_address plan me) (edge_address plan from))) stands.is)
      ∙ or_right place.terminal _ stands.same

  pub whole_stands : (content : Told) → place.terminal ≡ true → edge.bits place.wire.0 ≡ 0 → offer_stands place content (wish plan edge place) ≡ true
  whole_stands content terminal whole = stands_terminal place content (wish plan edge place) terminal
      (ap (λ (o : Option Told). is_some o) wish_is
      ∙ (ap (λ (b : Bool). is_some (cond b (terminal_wish plan edge place (offer_of row edge.me.0)) (passed_wish plan edge place row))) terminal
      ∙ by_bits (tells_status (method_by (offer_of row edge.me.0).status (status_held (end_at edge place).remote))) (edge.bits place.wire.0)
      (content_of (offer_of row edge.me.0) (status_offered plan edge place (offer_of row edge.me.0))) whole))

-- what an end of a mesh wire of the service has told
pub mesh_stands : (plan : Plan) (service : ServiceId) (me : EdgeId) (edge : EdgeState) (place : EndPlace) (label : ℕ) (content : Told) (row : WirePlan) → IsChecked plan → edge.me ≡ me
    → is_up_with (edge.peering place.peer.0) ≡ true → KeepsMesh plan service me.0 edge → IsEndOf plan me place → (end_at edge place).local ≡ Advertised label content
    → wire_row plan place.wire ≡ Some row → is_mesh_of service row ≡ true → offer_stands place content (wish plan edge place) ≡ true
mesh_stands plan service me edge place label content row checked placed up mesh end at is of_mesh = by (is_terminal row me) refl where
  rows : end.row ≡ row
  rows = same_row end.row row (sym end.is ∙ is)

  joined : joins me.0 place.peer.0 row.path ≡ true
  joined = ap (λ (r : WirePlan). joins me.0 place.peer.0 r.path) (sym rows) ∙ end.joined

  on : edge.wire_on place.wire.0 ≡ true
  on = mesh.on place.wire row place.peer.0 is of_mesh joined

  terminal_is : place.terminal ≡ is_terminal row me
  terminal_is = end.terminal ∙ ap (λ (r : WirePlan). is_terminal r me) rows

  by : (b : Bool) → is_terminal row me ≡ b → offer_stands place content (wish plan edge place) ≡ true
  by true ends = whole_stands plan edge place row is on up content (terminal_is ∙ ends) (mesh.whole place.wire row is of_mesh ends)
  by false inside =
      let behind : HasOtherSide row me place.peer = has_other_side row me place.peer (wire_fits plan place.wire row checked is).once joined inside in
      across_stands plan edge place row is on up me behind.from content placed (terminal_is ∙ inside) behind.back
      (mesh.across place.wire row behind.from place.peer label content is of_mesh behind.mate_is at)
