-- An edge that mends, or hears a MAC withdraw, goes on to speak mildly, and what it has learned it only forgets.
use Rattle.pw_messages.specs.Content.{mac_withdrawal, mapping, status_notification, withdrawal}
use Rattle.edge_model.specs.Mend.{advertising, is_up_with, mends, offer_stands, telling_status, tells_new_status, wish, withdrawing, withdraws}
use Rattle.edge_model.specs.Put.{stays}
use Rattle.edge_model.specs.Role.{status_to_tell}
use Rattle.edge_model.specs.Session.{says}
use Rattle.edge_model.specs.State.{EdgeState, end_at, with_end, with_kept, with_next_label, with_told_down}
use Rattle.edge_model.specs.Work.{Work, changes, gives}
use Rattle.edge_model.specs.declared.effect.Effect.TheVariants.{Wire}
use Rattle.edge_model.specs.declared.end_place.EndPlace.{EndPlace}
use Rattle.flight_laws.proofs.MendingLemmas.{KeptByRows, mends_keep}
use Rattle.flight_laws.proofs.NameLemmas.{end_fact, split}
use Rattle.flight_laws.proofs.OfferLemmas.{IsOfWires, clearance_is, mapping_sound, sound_can, status_is, withdrawal_is}
use Rattle.flight_laws.proofs.PieceLemmas.{IsPiece}
use Rattle.flight_laws.proofs.PlaceLemmas.{IsEndOf, member_by_pw_id}
use Rattle.flight_laws.proofs.SoundLemmas.{sound_giving, sound_same, sound_with_end}
use Rattle.flight_laws.proofs.SteadyLemmas.{IsSilent, WishesSoundly, advertised_up, end_small, next_is_label, status_small, wishes, with_end_rest, advertising_rest}
use Rattle.flight_laws.specs.Ends.{HasTypes}
use Rattle.flight_laws.specs.Sound.{CanBeMapped, IsSoundEnd, IsSoundPart, TellsSoundly, point_limit}
use Rattle.edge_model.specs.Labels.{giving, label_to_give}
use Rattle.ldp_grammar.specs.declared.message.Message.{Message}
use Rattle.move_laws.proofs.ForgetLemmas.{Forgets, left_then, mends_forget}
use Rattle.move_laws.proofs.HearingLemmas.{met_bound, met_said}
use Rattle.move_laws.proofs.KeepMeshLemmas.{keeps_telling, mesh_put, mesh_stands, still_told}
use Rattle.move_laws.proofs.KeepSpokesLemmas.{advertising_keeps, onward_stands, telling_keeps, withdrawing_keeps}
use Rattle.move_laws.proofs.LastLemmas.{holds_last, lasts_then, mends_hold}
use Rattle.move_laws.proofs.SaidEdgeLemmas.{says_like}
use Rattle.move_laws.proofs.SpeakLemmas.{Speaks, SpeaksAs, changed_speaks, gives_speaks, mesh_same, says_speaks, speaks_first, spokes_same}
use Rattle.move_laws.specs.Clearing.{IsMild, IsOnward, binds, keeps_binding, keeps_label, leaves_wire}
use Rattle.move_laws.specs.Healing.{IsMet, KeepsMesh, KeepsSpokes, Lasts, Stays, StaysOn, advertises_to, is_advertising, learned_in}
use Rattle.net_base.specs.declared.plan.Plan.{Plan}
use Rattle.net_base.specs.declared.plan.places.EdgeId.{EdgeId}
use Rattle.net_base.specs.declared.plan.places.ServiceId.{ServiceId}
use Rattle.net_base.specs.declared.plan.places.WireId.{WireId}
use Rattle.net_base.specs.declared.plan.wire_plan.WirePlan.{WirePlan}
use Rattle.net_base.specs.declared.trace.down.Down.{Down}
use Rattle.net_values.specs.declared.mac.Mac.{Mac}
use Rattle.net_base.specs.plan.Accepted.{IsChecked}
use Rattle.net_base.specs.plan.Paths.{follows, joins}
use Rattle.net_base.specs.plan.Places.{wire_row}
use Rattle.net_base.specs.plan.Roles.{is_mesh_of}
use Rattle.net_values.specs.Label.{IsLabel}
use Rattle.net_values.proofs.BoolLemmas.{clash}
use Rattle.flight_laws.proofs.WorksLemmas.{changed_edge, given_edge}
use Rattle.net_values.proofs.NumberLemmas.{same_number}
use Rattle.network_model.proofs.WayLemmas.{joins_is}
use Rattle.network_model.specs.Absorb.{taken_all}
use Rattle.network_model.specs.State.{NetworkState}
use Rattle.pw_signalling.specs.End.{Advertised, EndState, Idle, LocalPart}
use Rattle.pw_signalling.specs.Rows.{advertise_part, advertised, telling, with_status, withdrawn}
use Rattle.pw_signalling.specs.declared.told.Told.{Told}
use Rattle.pw_tlvs.specs.declared.pw_status.PwStatus.{PwStatus}
use Rattle.session_core.specs.Reasons.{is_fatal}
use Rattle.std.proofs.Common.{Bool, List, [], Option, Some, ap, false, not, refl, slice_get, sym, subst, nat_eq, true, ℕ, ◌==◌, ◌∙◌, ◌∷◌, ◌≡◌}
use Rattle.std.proofs.lemmas.Bool.{eq-eqb, eqb-true, or_left}

-- an end that is put, and one of another wire
pub end_here : (place : EndPlace) (end : EndState) (edge : EdgeState) → (with_end place end edge).ends place.wire.0 place.peer.0 ≡ end
unfolding with_end
end_here place end edge = rw (same_number place.wire.0, same_number place.peer.0) refl

pub end_else : (place : EndPlace) (end : EndState) (edge : EdgeState) (wire k : ℕ) → (place.wire.0 == wire) ≡ false → (with_end place end edge).ends wire k ≡ edge.ends wire k
end_else place end edge wire k other = end_fact (λ w p e. w ≡ wire → e ≡ edge.ends w p) place end edge wire k
    (λ same. clash (sym other ∙ (ap (λ (w : ℕ). w == wire) same ∙ same_number wire))) (λ same. refl) refl

-- an end beside another neighbour
end_beyond_it : (place : EndPlace) (end : EndState) (edge : EdgeState) (wire k : ℕ) → nat_eq k place.peer.0 ≡ false → (with_end place end edge).ends wire k ≡ edge.ends wire k
end_beyond_it place end edge wire k away = end_fact (λ w p e. nat_eq p place.peer.0 ≡ false → e ≡ edge.ends w p) place end edge wire k
    (λ other. clash (sym other ∙ same_number place.peer.0)) (λ other. refl) away

-- two edges of which one follows the other are joined
pub onward_joined : {plan : Plan} {service : ServiceId} {network : NetworkState} (a b : ℕ) (wire : WireId) (row : WirePlan) → IsOnward plan service network a b wire row → joins a b row.path ≡ true
onward_joined a b wire row onward = joins_is row.path a b ∙ or_left (follows row.path a b) (follows row.path b a) onward.next

-- what was said is told
pub spoken_as : (plan : Plan) (service : ServiceId) (network : NetworkState) (me : EdgeId) (peer : ℕ) (base : Work) (to : EdgeId) (message : ℕ → Message) (work : Work)
    → SpeaksAs plan service network me peer base (says taken_all to message work).work (advertises_to work.edge) → Speaks plan service network me peer base (says taken_all to message work).work
spoken_as plan service network me peer base to message work speaks =
    subst (λ (f : ℕ → ℕ → EndState). SpeaksAs plan service network me peer base (says taken_all to message work).work (λ place wire. is_advertising (f wire place).local))
    (sym (says_like to message work).ends) speaks

-- an end beside a peer with which the session is up has another local part
local_sound : (limit : ℕ) (up : Bool) (e : EndState) (local : LocalPart) → up ≡ true → IsSoundPart local → IsSoundEnd limit up e → IsSoundEnd limit up (record { local = local; remote = e.remote })
local_sound limit true e local is part sound = (part, sound.1)
local_sound limit false e local is part sound = clash is

module _ (plan : Plan) (service : ServiceId) (me : EdgeId) (checked : IsChecked plan) (types : HasTypes plan) where
  -- an end of which one thing is told is none of a mesh wire of the service where those are known to tell another
  module _ (edge : EdgeState) (place : EndPlace) (end : IsEndOf plan me place)
      (apart : (wire : WireId) (row : WirePlan) → wire_row plan wire ≡ Some row → is_mesh_of service row ≡ true → joins me.0 place.peer.0 row.path ≡ true → place.wire.0 ≡ wire.0 → ⊥) where
    not_named : (wire : WireId) (row : WirePlan) → wire_row plan wire ≡ Some row → is_mesh_of service row ≡ true → joins me.0 place.peer.0 row.path ≡ true → not (place.pw_id == row.pw_id) ≡ true
    not_named wire row is of_mesh joined = split {P = not (place.pw_id == row.pw_id) ≡ true} (place.wire.0 == wire.0)
        (λ same. absurd (apart wire row is of_mesh joined (eqb-true place.wire.0 wire.0 same)))
        (λ other. ap not (member_by_pw_id plan me place wire row checked is joined end ∙ other))

    mesh_else : (new : EndState) → KeepsMesh plan service me.0 edge → KeepsMesh plan service me.0 (with_end place new edge)
    mesh_else new mesh = mesh_put plan service me place new edge checked (λ wire row is of_mesh joined same. absurd (apart wire row is of_mesh joined same)) mesh

  -- so is an end that is idle
  idle_apart : (edge : EdgeState) (place : EndPlace) → KeepsMesh plan service me.0 edge → (end_at edge place).local ≡ Idle false → (wire : WireId) (row : WirePlan) → wire_row plan wire ≡ Some row
      → is_mesh_of service row ≡ true → joins me.0 place.peer.0 row.path ≡ true → place.wire.0 ≡ wire.0 → ⊥
  idle_apart edge place mesh at wire row is of_mesh joined same =
      clash (sym (ap (λ (l : LocalPart). is_advertising l) at) ∙ (ap (λ (w : ℕ). is_advertising (edge.ends w place.peer.0).local) same ∙ mesh.told wire row place.peer.0 is of_mesh joined))

  -- and an end whose content does not stand
  changed_apart : (edge : EdgeState) (place : EndPlace) (label : ℕ) (content : Told) → edge.me ≡ me → TellsSoundly (point_limit plan me.0) edge → KeepsMesh plan service me.0 edge
      → IsEndOf plan me place
      → (end_at edge place).local ≡ Advertised label content → offer_stands place content (wish plan edge place) ≡ false → (wire : WireId) (row : WirePlan) → wire_row plan wire ≡ Some row
      → is_mesh_of service row ≡ true → joins me.0 place.peer.0 row.path ≡ true → place.wire.0 ≡ wire.0 → ⊥
  changed_apart edge place label content placed sound mesh end at changed wire row is of_mesh joined same =
      clash (sym changed ∙ mesh_stands plan service me edge place label content row checked placed
      (advertised_up (point_limit plan me.0 place.wire.0) (is_up_with (edge.peering place.peer.0)) (end_at edge place) label content (sound.ends place.wire.0 place.peer.0) at).0 mesh end at
      (ap (λ (n : ℕ). slice_get plan.wires n) same ∙ is) of_mesh)

  mesh_label : (label : ℕ) (edge : EdgeState) → KeepsMesh plan service me.0 edge → KeepsMesh plan service me.0 (giving label edge)
  unfolding with_next_label with_kept
  mesh_label label edge mesh = mesh_same plan service me.0 edge _ refl refl refl mesh

  advertising_sound : (place : EndPlace) (label : ℕ) (content : Told) (edge : EdgeState) → is_up_with (edge.peering place.peer.0) ≡ true → (end_at edge place).local ≡ Idle false
      → CanBeMapped label content
      → TellsSoundly (point_limit plan me.0) edge → TellsSoundly (point_limit plan me.0) (advertising place label content edge)
  unfolding with_end
  advertising_sound place label content edge up at can sound =
      sound_giving label (with_end place (advertised label content (end_at edge place)) edge)
      (sound_with_end place (advertised label content (end_at edge place)) edge
      (local_sound (point_limit plan me.0 place.wire.0) (is_up_with (edge.peering place.peer.0)) (end_at edge place) (advertised label content (end_at edge place)).local up (rw at can)
      (sound.ends place.wire.0 place.peer.0)) sound)

  down_rest : (place : EndPlace) (down : Option Down) (edge : EdgeState)
      → ((with_told_down place.wire down edge).peering ≡ edge.peering) × ((with_told_down place.wire down edge).me ≡ edge.me)
      × (TellsSoundly (point_limit plan me.0) edge → TellsSoundly (point_limit plan me.0) (with_told_down place.wire down edge))
      × (KeepsMesh plan service me.0 edge → KeepsMesh plan service me.0 (with_told_down place.wire down edge))
  unfolding with_told_down
  down_rest place down edge = (refl, refl, λ sound. sound_same edge _ refl refl refl refl refl sound, λ mesh. mesh_same plan service me.0 edge _ refl refl refl mesh)

  silent_wire : (place : EndPlace) (down : Option Down) → IsSilent (Wire place.wire down)
  silent_wire place down = record { unsaid = tt; says = λ k. refl; closed = λ k. refl; well = tt }

  module _ (network : NetworkState) (peer : ℕ) (base : Work) where
    abbrev At : Work → Type 0
    At work = Speaks plan service network me peer base work

    -- an end is changed, and a message is said beside it
    module _ (change : EdgeState → EdgeState) (at : EndPlace) (end : EndState) (message : ℕ → Message) (work : Work) (its : IsEndOf plan me at)
        (ends_is : (change work.edge).ends ≡ (with_end at end work.edge).ends)
        (here : (wire : WireId) (row : WirePlan) → IsOnward plan service network me.0 at.peer.0 wire row → at.wire.0 ≡ wire.0 → (id : ℕ)
        → IsMet row.pw_id (is_advertising (end_at work.edge at).local) (message id ∷ []) (is_advertising end.local))
        (binds_none : (pw_id : ℕ) → (at.pw_id == pw_id) ≡ false → (id : ℕ) → binds pw_id (message id) ≡ false) where
      abbrev Now : ℕ → ℕ → Bool
      Now place wire = is_advertising ((with_end at end work.edge).ends wire place).local

      step : (wire : WireId) (row : WirePlan) → IsOnward plan service network me.0 at.peer.0 wire row → (id : ℕ)
          → IsMet row.pw_id (advertises_to work.edge at.peer.0 wire.0) (message id ∷ []) (Now at.peer.0 wire.0)
      step wire row onward id = split {P = IsMet row.pw_id (advertises_to work.edge at.peer.0 wire.0) (message id ∷ []) (Now at.peer.0 wire.0)} (at.wire.0 == wire.0)
          (λ is. (let same : at.wire.0 ≡ wire.0 = eqb-true at.wire.0 wire.0 is in
          subst (λ (w : ℕ). IsMet row.pw_id (advertises_to work.edge at.peer.0 w) (message id ∷ []) (Now at.peer.0 w)) same
          (subst (λ (e : EndState). IsMet row.pw_id (advertises_to work.edge at.peer.0 at.wire.0) (message id ∷ []) (is_advertising e.local)) (sym (end_here at end work.edge))
          (here wire row onward same id))))
          (λ other. subst (λ (e : EndState). IsMet row.pw_id (advertises_to work.edge at.peer.0 wire.0) (message id ∷ []) (is_advertising e.local))
          (sym (end_else at end work.edge wire.0 at.peer.0 other))
          (met_said row.pw_id (advertises_to work.edge at.peer.0 wire.0) (message id)
          (binds_none row.pw_id (member_by_pw_id plan me at wire row checked onward.is (onward_joined me.0 at.peer.0 wire row onward) its ∙ other) id)))

      now_is : (λ place wire. is_advertising ((change work.edge).ends wire place).local) ≡ Now
      now_is = ap (λ (f : ℕ → ℕ → EndState). λ (place : ℕ) (wire : ℕ). is_advertising (f wire place).local) ends_is

      does_speak : (change work.edge).peering ≡ work.edge.peering → (change work.edge).me ≡ work.edge.me → TellsSoundly (point_limit plan me.0) (change work.edge)
          → KeepsMesh plan service me.0 (change work.edge) → KeepsSpokes plan service network me (change work.edge) → IsOfWires message
          → ((id : ℕ) → IsMild plan service network me.0 at.peer.0 (message id)) → At work → At (says taken_all at.peer message (changes change work)).work
      does_speak peering same sound mesh spokes of_wires mild i =
          spoken_as plan service network me peer base at.peer message (changes change work)
          (subst (λ (e : EdgeState). SpeaksAs plan service network me peer base (says taken_all at.peer message (changes change work)).work (advertises_to e)) (sym (changed_edge change work))
          (subst (SpeaksAs plan service network me peer base (says taken_all at.peer message (changes change work)).work) (sym now_is)
          (says_speaks plan service network me peer base at.peer message (changes change work) of_wires (λ joined there id. mild id) (advertises_to work.edge) Now step
          (λ place away wire row onward. ap (λ (e : EndState). is_advertising e.local) (end_beyond_it at end work.edge wire.0 place away))
          (changed_speaks plan service network me peer base change work (advertises_to work.edge) (advertises_to work.edge) peering same (λ place wire row onward. refl) sound mesh spokes i))))

    -- an onward end of the place
    at_place : (place : EndPlace) (wire : WireId) (row : WirePlan) → IsOnward plan service network me.0 place.peer.0 wire row → place.wire.0 ≡ wire.0
        → IsOnward plan service network me.0 place.peer.0 place.wire row
    at_place place wire row onward same = subst (λ (n : ℕ). IsOnward plan service network me.0 place.peer.0 (record { 0 = n }) row) (sym same) onward

    advertising_ends : (place : EndPlace) (label : ℕ) (content : Told) (edge : EdgeState)
        → (advertising place label content edge).ends ≡ (with_end place (advertised label content (end_at edge place)) edge).ends
    unfolding with_end with_next_label with_kept
    advertising_ends place label content edge = refl

    row_advertises : (place : EndPlace) (label : ℕ) (content : Told) (work : Work) → IsEndOf plan me place → (end_at work.edge place).local ≡ Idle false → wish plan work.edge place ≡ Some content
        → label_to_give work.edge ≡ Some label → At work → At (says taken_all place.peer (mapping place.pw_id label content) (changes (advertising place label content) work)).work
    row_advertises place label content work is at wished give i =
        let told : WishesSoundly work.edge place content = wishes plan me checked types work.edge place content i.sound is wished in
        let one : IsLabel label = next_is_label work.edge label i.sound give in
        let can : CanBeMapped label content = sound_can 3 label content one told.sound in
        let rest = advertising_rest place content label work.edge in
        does_speak (advertising place label content) place (advertised label content (end_at work.edge place)) (mapping place.pw_id label content) work is
        (advertising_ends place label content work.edge)
        (λ wire row onward same id.
        subst (λ (b : Bool). IsMet row.pw_id b (mapping place.pw_id label content id ∷ []) (is_advertising (advertised label content (end_at work.edge place)).local)) (sym (ap is_advertising at))
        (subst (IsMet row.pw_id false (mapping place.pw_id label content id ∷ [])) (sym (ap is_advertising (ap (advertise_part label content) at)))
        (met_bound row.pw_id (mapping place.pw_id label content id)
        (member_by_pw_id plan me place wire row checked onward.is (onward_joined me.0 place.peer.0 wire row onward) is ∙ eq-eqb place.wire.0 wire.0 same))))
        (λ pw_id other id. other) rest.0 rest.1 (advertising_sound place label content work.edge told.up at can i.sound)
        (mesh_label label _ (mesh_else work.edge place is (idle_apart work.edge place i.mesh at) (advertised label content (end_at work.edge place)) i.mesh))
        (advertising_keeps plan service network me checked work.edge i.place i.spokes place label content is told.up at wished)
        (mapping_sound place.pw_id label content (end_small plan me place checked is) one told.sound)
        (λ id. record {
          plain = refl;
          labels = not_named work.edge place is (idle_apart work.edge place i.mesh at);
          onward = λ wire row onward. refl;
          back = λ wire row onward. refl;
        }) i

    row_withdraws : (place : EndPlace) (label : ℕ) (content : Told) (work : Work) → IsEndOf plan me place → (end_at work.edge place).local ≡ Advertised label content
        → offer_stands place content (wish plan work.edge place) ≡ false
        → At work → At (withdraws taken_all place label content work).work
    row_withdraws place label content work is at changed i =
        let can = advertised_up (point_limit plan me.0 place.wire.0) (is_up_with (work.edge.peering place.peer.0)) (end_at work.edge place) label content (i.sound.ends place.wire.0 place.peer.0) at in
        let rest = with_end_rest place (withdrawn (end_at work.edge place)) work.edge in
        does_speak (withdrawing place) place (withdrawn (end_at work.edge place)) (withdrawal place.pw_id label content) work is refl
        (λ wire row onward same id. absurd (no_onward can.0 wire row onward same))
        (λ pw_id other id. refl) rest.0 rest.1
        (sound_with_end place (withdrawn (end_at work.edge place)) work.edge
        (local_sound (point_limit plan me.0 place.wire.0) (is_up_with (work.edge.peering place.peer.0)) (end_at work.edge place) (withdrawn (end_at work.edge place)).local can.0
        (rw at can.1.is_label) (i.sound.ends place.wire.0 place.peer.0)) i.sound)
        (mesh_else work.edge place is (changed_apart work.edge place label content i.place i.sound i.mesh is at changed) (withdrawn (end_at work.edge place)) i.mesh)
        (withdrawing_keeps plan service network me checked work.edge i.place i.spokes place label content is can.0 at changed)
        (withdrawal_is place.pw_id label content (end_small plan me place checked is) can.1)
        (λ id. record {
          plain = refl;
          labels = not_named work.edge place is (changed_apart work.edge place label content i.place i.sound i.mesh is at changed);
          onward = λ wire row onward. split {P = not (place.pw_id == row.pw_id) ≡ true} (place.wire.0 == wire.0)
              (λ same. absurd (no_onward can.0 wire row onward (eqb-true place.wire.0 wire.0 same)))
              (λ other. ap not (member_by_pw_id plan me place wire row checked onward.is (onward_joined me.0 place.peer.0 wire row onward) is ∙ other));
          back = λ wire row onward. refl;
        }) i
      where
        no_onward : is_up_with (work.edge.peering place.peer.0) ≡ true → (wire : WireId) (row : WirePlan) → IsOnward plan service network me.0 place.peer.0 wire row → place.wire.0 ≡ wire.0 → ⊥
        no_onward up wire row onward same =
            clash (sym changed ∙ onward_stands plan service network me checked work.edge i.place i.spokes place row label content is (at_place place wire row onward same) up at)

    -- a message that binds and unbinds nothing
    mild_message : (place : EndPlace) (m : Message) → is_fatal m ≡ false → ((pw_id : ℕ) → leaves_wire pw_id m ≡ true) → ((pw_id : ℕ) → keeps_binding pw_id m ≡ true)
        → ((pw_id : ℕ) → keeps_label pw_id m ≡ true)
        → IsMild plan service network me.0 place.peer.0 m
    mild_message place m plain leaves keeps also = record {
      plain = plain;
      labels = λ wire row is mesh joined. leaves row.pw_id;
      onward = λ wire row onward. keeps row.pw_id;
      back = λ wire row onward. also row.pw_id;
    }

    row_tells : (place : EndPlace) (label : ℕ) (content : Told) (last : PwStatus) (work : Work) → IsEndOf plan me place → (end_at work.edge place).local ≡ Advertised label content
        → content.status ≡ Some last
        → last.0 == (status_to_tell plan work.edge place).0 ≡ false → At work → At (tells_new_status taken_all place content (status_to_tell plan work.edge place) work).work
    row_tells place label content last work is at told other i =
        let status : PwStatus = status_to_tell plan work.edge place in
        let can = advertised_up (point_limit plan me.0 place.wire.0) (is_up_with (work.edge.peering place.peer.0)) (end_at work.edge place) label content (i.sound.ends place.wire.0 place.peer.0) at in
        let rest = with_end_rest place (telling status (end_at work.edge place)) work.edge in
        does_speak (telling_status place status) place (telling status (end_at work.edge place)) (status_notification place.pw_id status content) work is refl
        (λ wire row onward same id. subst (IsMet row.pw_id (is_advertising (end_at work.edge place).local) (status_notification place.pw_id status content id ∷ []))
        (sym (still_told status (end_at work.edge place).local))
        (met_said row.pw_id (is_advertising (end_at work.edge place).local) (status_notification place.pw_id status content id) refl))
        (λ pw_id apart id. refl) rest.0 rest.1
        (sound_with_end place (telling status (end_at work.edge place)) work.edge
        (local_sound (point_limit plan me.0 place.wire.0) (is_up_with (work.edge.peering place.peer.0)) (end_at work.edge place) (telling status (end_at work.edge place)).local can.0
        (rw at (told_on label content status can.1)) (i.sound.ends place.wire.0 place.peer.0)) i.sound)
        (mesh_put plan service me place (telling status (end_at work.edge place)) work.edge checked (λ wire row at of_mesh joined same. keeps_telling plan me status (end_at work.edge place)) i.mesh)
        (telling_keeps plan service network me checked work.edge i.spokes place status)
        (status_is place.pw_id label status content (end_small plan me place checked is) (status_small plan work.edge place i.sound) can.1)
        (λ id. mild_message place (status_notification place.pw_id status content id) refl (λ pw_id. refl) (λ pw_id. refl) (λ pw_id. refl)) i
      where
        told_on : (label : ℕ) (content : Told) (status : PwStatus) → CanBeMapped label content → CanBeMapped label (with_status status content)
        told_on label content status can = record { is_label = can.is_label; kind = can.kind; group = can.group }

    row_clears : (place : EndPlace) (label : ℕ) (content : Told) (addresses : List Mac) (work : Work) → IsEndOf plan me place → (end_at work.edge place).local
        ≡ Advertised label content → IsPiece addresses
        → At work → At (says taken_all place.peer (mac_withdrawal place.pw_id addresses content) work).work
    row_clears place label content addresses work is at piece i =
        let can = advertised_up (point_limit plan me.0 place.wire.0) (is_up_with (work.edge.peering place.peer.0)) (end_at work.edge place) label content (i.sound.ends place.wire.0 place.peer.0) at in
        spoken_as plan service network me peer base place.peer (mac_withdrawal place.pw_id addresses content) work
        (says_speaks plan service network me peer base place.peer (mac_withdrawal place.pw_id addresses content) work
        (clearance_is place.pw_id label addresses content (end_small plan me place checked is) piece can.1)
        (λ joined there id. mild_message place (mac_withdrawal place.pw_id addresses content id) refl (λ pw_id. refl) (λ pw_id. refl) (λ pw_id. refl))
        (advertises_to work.edge) (advertises_to work.edge)
        (λ wire row onward id. met_said row.pw_id (advertises_to work.edge place.peer.0 wire.0) (mac_withdrawal place.pw_id addresses content id) refl)
        (λ place away wire row onward. refl) i)

    -- the edge is changed, but not its ends
    pub same_speak : (change : EdgeState → EdgeState) (work : Work) → (change work.edge).peering ≡ work.edge.peering → (change work.edge).me ≡ work.edge.me → (change work.edge).ends ≡ work.edge.ends
        → TellsSoundly (point_limit plan me.0) (change work.edge) → KeepsMesh plan service me.0 (change work.edge) → KeepsSpokes plan service network me (change work.edge) → At work
        → At (changes change work)
    same_speak change work peering same ends sound mesh spokes i =
        subst (λ (e : EdgeState). SpeaksAs plan service network me peer base (changes change work) (advertises_to e)) (sym (changed_edge change work))
        (changed_speaks plan service network me peer base change work (advertises_to work.edge) (advertises_to (change work.edge)) peering same
        (λ place wire row onward. ap (λ (f : ℕ → ℕ → EndState). is_advertising (f wire.0 place).local) ends) sound mesh spokes i)

    down_ends : (place : EndPlace) (down : Option Down) (edge : EdgeState) → ((with_told_down place.wire down edge).ends ≡ edge.ends) × ((with_told_down place.wire down edge).wire_on ≡ edge.wire_on)
        × ((with_told_down place.wire down edge).bits ≡ edge.bits)
    unfolding with_told_down
    down_ends place down edge = (refl, refl, refl)

    down_speak : (place : EndPlace) (down : Option Down) (work : Work) → At work → At (gives (Wire place.wire down) (changes (with_told_down place.wire down) work))
    down_speak place down work i =
        let rest = down_rest place down work.edge in
        let same = down_ends place down work.edge in
        subst (λ (e : EdgeState). SpeaksAs plan service network me peer base (gives (Wire place.wire down) (changes (with_told_down place.wire down) work)) (advertises_to e))
        (sym (given_edge (Wire place.wire down) (changes (with_told_down place.wire down) work)))
        (gives_speaks plan service network me peer base (Wire place.wire down) (changes (with_told_down place.wire down) work) (advertises_to (changes (with_told_down place.wire down) work).edge)
        (silent_wire place down)
        (same_speak (with_told_down place.wire down) work rest.0 rest.1 same.0 (rest.2 i.sound) (rest.3 i.mesh)
        (spokes_same plan service network me work.edge _ same.0 same.1 same.2 i.spokes) i))

    pub rows_speak : KeptByRows plan me At
    rows_speak = record {
      placed = λ work i. i.place;
      advertises = row_advertises;
      withdraws = row_withdraws;
      tells = row_tells;
      clears = row_clears;
      tells_down = λ place down work is i. down_speak place down work i;
      others = λ change work keeps peering i.
          same_speak change work peering keeps.me keeps.ends (sound_same work.edge (change work.edge) keeps.next_label keeps.kept keeps.bits peering keeps.ends i.sound)
          (mesh_same plan service me.0 work.edge (change work.edge) keeps.ends keeps.wire_on keeps.bits i.mesh)
          (spokes_same plan service network me work.edge (change work.edge) keeps.ends keeps.wire_on keeps.bits i.spokes) i;
    }

-- ---- what an edge at work stays

module _ (plan : Plan) (service : ServiceId) (network : NetworkState) (me : EdgeId) (peer : ℕ) where
  pub speaks_on : (old new : Work) → Stays plan service network me peer old → Speaks plan service network me peer old new → Lasts plan service me.0 peer old.edge new.edge → Forgets service old new
      → StaysOn plan service network me peer old new
  speaks_on old new stays speaks lasts forgets = record {
    stays = record {
      place = speaks.place;
      sound = speaks.sound;
      speaks = speaks.speaks;
      apart = speaks.apart;
      mesh = speaks.mesh;
      spokes = speaks.spokes;
      lasts = lasts_then plan service me.0 peer (network.edges me.0) old.edge new.edge stays.lasts lasts;
      table = left_then (learned_in service network me.0) (old.edge.learned service.0) (new.edge.learned service.0) stays.table forgets.left;
    };
    lasts = lasts;
    says = speaks.more;
    forgot = forgets.left;
  }

  pub mends_stay : (work : Work) → IsChecked plan → HasTypes plan → Stays plan service network me peer work
      → StaysOn plan service network me peer work (mends plan taken_all work)
  mends_stay work checked types stays =
      speaks_on work (mends plan taken_all work) stays
      (mends_keep plan me (Speaks plan service network me peer work) (rows_speak plan service me checked types network peer work) work (speaks_first plan service network me peer work stays))
      (holds_last plan service me.0 peer work.edge (mends plan taken_all work).edge me (mends_hold plan me work stays.place)) (mends_forget service plan work)
