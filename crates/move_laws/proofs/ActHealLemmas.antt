-- What an edge makes of a message about pseudowires, in a session that is up, leaves what it has for the service's mesh wires.
use Rattle.net_values.proofs.OptionLemmas.{some_same}
use Rattle.pw_signalling.specs.declared.told.Told.{Told}
use Rattle.network_model.proofs.WayLemmas.{way_kept}
use Rattle.net_base.proofs.PathLemmas.{joins_turned}
use Rattle.move_laws.proofs.StuckLemmas.{given_same, idle_on, release_idle, stuck_on, stuck_put}
use Rattle.move_laws.proofs.StayLemmas.{end_else, end_here, onward_joined, spoken_as}
use Rattle.move_laws.proofs.SaidEdgeLemmas.{IsLikeBefore, says_like}
use Rattle.move_laws.proofs.LastLemmas.{lasts_same, lasts_then}
use Rattle.move_laws.proofs.HearingLemmas.{met_said}
use Rattle.flight_laws.specs.Binding.{is_withdrawing}
use Rattle.flight_laws.proofs.RuledMendLemmas.{wire_fits}
use Rattle.pw_signalling.specs.Laws.{own_label}
use Rattle.pw_messages.specs.Content.{binding_in, pw_status_code, release}
use Rattle.edge_model.proofs.SessionLemmas.{any, says_works}
use Rattle.edge_model.specs.EndPlaces.{end_named}
use Rattle.edge_model.specs.Mend.{is_up_with}
use Rattle.edge_model.specs.Session.{says}
use Rattle.edge_model.specs.Signal.{end_of_fec, hears_mapping, hears_release, hears_status, hears_withdraw, maps_to, releases_label, takes_content, with_end_changed, with_named, with_released}
use Rattle.edge_model.specs.State.{EdgeState, end_at, with_end, with_ends_beside, with_kept, Peering}
use Rattle.edge_model.specs.Labels.{releasing, label_to_give, left_label}
use Rattle.edge_model.specs.Work.{Work, changes}
use Rattle.edge_model.specs.declared.end_place.EndPlace.{EndPlace}
use Rattle.flight_laws.proofs.NameLemmas.{beside_fact, end_fact, split}
use Rattle.flight_laws.proofs.OfferLemmas.{IsOfWires, release_is}
use Rattle.flight_laws.proofs.PlaceLemmas.{named_is, wire_by_pw_id, NamedEnd, end_of}
use Rattle.flight_laws.proofs.SoundLemmas.{sound_beside, sound_with_end}
use Rattle.flight_laws.specs.Messages.{IsSound}
use Rattle.flight_laws.specs.Sound.{IsSoundEnd, TellsSoundly, point_limit}
use Rattle.flight_laws.proofs.ActLemmas.{held_unless}
use Rattle.ldp_grammar.specs.declared.message.Message.TheVariants.{LabelMapping, LabelRelease, LabelWithdraw, Notification}
use Rattle.ldp_grammar.specs.declared.message.Message.{Message}
use Rattle.ldp_grammar.specs.declared.status_code.StatusCode.{StatusCode}
use Rattle.move_laws.proofs.KeepMeshLemmas.{KeepsEnd, keeps_same, keeps_status, mesh_kept}
use Rattle.move_laws.proofs.SpeakLemmas.{Speaks, changed_speaks, says_speaks}
use Rattle.move_laws.specs.Clearing.{leaves_wire, names_wire, names_wire_or_group, IsOnward, binds, keeps_binding, keeps_label}
use Rattle.move_laws.specs.Healing.{KeepsMesh, KeepsSpokes, Lasts, StandsFor, advertises_to, is_advertising, stays_idle}
use Rattle.net_base.specs.declared.plan.Plan.{Plan}
use Rattle.net_base.specs.declared.plan.places.EdgeId.{EdgeId}
use Rattle.net_base.specs.declared.plan.places.ServiceId.{ServiceId}
use Rattle.net_base.specs.declared.plan.places.WireId.{WireId}
use Rattle.net_base.specs.declared.plan.wire_plan.WirePlan.{WirePlan}
use Rattle.net_base.specs.plan.Accepted.{IsChecked}
use Rattle.net_base.specs.plan.Paths.{joins, mate}
use Rattle.net_base.specs.plan.Places.{wire_row}
use Rattle.net_base.specs.plan.Roles.{is_mesh_of}
use Rattle.network_model.specs.Absorb.{taken_all}
use Rattle.network_model.specs.State.{NetworkState, stands}
use Rattle.pw_signalling.specs.End.{EndState}
use Rattle.pw_signalling.specs.Rows.{bound, group_stated, group_unbound, is_in_group, released, stated, unbound, status_part}
use Rattle.pw_signalling.specs.declared.binding.Binding.{Binding}
use Rattle.pw_tlvs.specs.Written.{has_vlan, may_tell, writable_fec}
use Rattle.pw_tlvs.specs.declared.point.Point.{Point}
use Rattle.pw_tlvs.specs.declared.pw_fec.PwFec.{PwFec}
use Rattle.pw_tlvs.specs.declared.pw_status.PwStatus.{PwStatus}
use Rattle.std.proofs.Common.{Bool, List, None, Option, Some, ap, arith, cond, false, is_some, nat_eq, nat_le, not, option_and_then, refl, subst, sym, true, ℕ, ◌&&◌, ◌==◌, ◌∙◌, ◌≡◌, ◌≤◌, ◌||◌}
use Rattle.std.proofs.lemmas.Bool.Decides.{nat_tests}
use Rattle.std.proofs.lemmas.Bool.{eqb-true, not-true}
use Rattle.net_values.proofs.BoolLemmas.{clash, second_holds}
use Rattle.net_values.proofs.NumberLemmas.{same_number}

-- ---- ends beside the peer

-- an edge that has other ends beside a peer, but the same otherwise
pub record ChangesBeside (peer : ℕ) (old new : EdgeState) : Type 0 where
  pub me : new.me ≡ old.me
  pub peering : new.peering ≡ old.peering
  pub wires : new.wire_on ≡ old.wire_on
  pub bits : new.bits ≡ old.bits
  pub chosen : new.chosen ≡ old.chosen
  pub ends : (wire k : ℕ) → nat_eq k peer ≡ false → new.ends wire k ≡ old.ends wire k

-- what it has for the service's mesh wires it keeps, where their ends beside the peer do
pub mesh_beside : (plan : Plan) (service : ServiceId) (me : EdgeId) (peer : ℕ) (old new : EdgeState) → IsChecked plan → new.wire_on ≡ old.wire_on → new.bits ≡ old.bits
    → ((wire k : ℕ) → nat_eq k peer ≡ false → new.ends wire k ≡ old.ends wire k)
    → ((wire : WireId) (row : WirePlan) → wire_row plan wire ≡ Some row → is_mesh_of service row ≡ true → joins me.0 peer row.path ≡ true
    → KeepsEnd plan me (old.ends wire.0 peer) (new.ends wire.0 peer))
    → KeepsMesh plan service me.0 old → KeepsMesh plan service me.0 new
mesh_beside plan service me peer old new checked wires bits ends here mesh = mesh_kept plan service me old new checked wires bits
    (λ wire row k is of_mesh joined. split {P = KeepsEnd plan me (old.ends wire.0 k) (new.ends wire.0 k)} (nat_eq k peer)
    (λ same. subst (λ (n : ℕ). KeepsEnd plan me (old.ends wire.0 n) (new.ends wire.0 n)) (sym (eqb-true k peer same))
    (here wire row is of_mesh (subst (λ (n : ℕ). joins me.0 n row.path ≡ true) (eqb-true k peer same) joined)))
    (λ away. keeps_same plan me (old.ends wire.0 k) (new.ends wire.0 k) (ends wire.0 k away)))
    mesh

end_beside : (place : EndPlace) (end : EndState) (edge : EdgeState) → ChangesBeside place.peer.0 edge (with_end place end edge)
unfolding with_end
end_beside place end edge = record {
  me = refl;
  peering = refl;
  wires = refl;
  bits = refl;
  chosen = refl;
  ends = λ wire k away. end_fact (λ w p e. nat_eq p place.peer.0 ≡ false → e ≡ edge.ends w p) place end edge wire k (λ other. clash (sym other ∙ same_number place.peer.0)) (λ other. refl) away;
}

same_beside : (peer : ℕ) (edge : EdgeState) → ChangesBeside peer edge edge
same_beside peer edge = record { me = refl; peering = refl; wires = refl; bits = refl; chosen = refl; ends = λ wire k away. refl }

releasing_beside : (label : Option ℕ) (place : EndPlace) (edge : EdgeState) → ChangesBeside place.peer.0 edge (releasing label place edge)
unfolding with_kept
releasing_beside label place edge =
    let one : ChangesBeside place.peer.0 edge (with_end place (released label (end_at edge place)) edge) = end_beside place (released label (end_at edge place)) edge in
    record { me = one.me; peering = one.peering; wires = one.wires; bits = one.bits; chosen = one.chosen; ends = one.ends }

changed_beside : (peer : EdgeId) (change : EndState → EndState) (place : Option EndPlace) (edge : EdgeState) → ((p : EndPlace) → place ≡ Some p → p.peer ≡ peer)
    → ChangesBeside peer.0 edge (with_end_changed change place edge)
changed_beside peer change None edge beside = same_beside peer.0 edge
changed_beside peer change (Some place) edge beside =
    subst (λ (k : EdgeId). ChangesBeside k.0 edge (with_end place (change (end_at edge place)) edge)) (beside place refl) (end_beside place (change (end_at edge place)) edge)

all_beside : (peer : EdgeId) (change : EndState → EndState) (edge : EdgeState) → ChangesBeside peer.0 edge (with_ends_beside peer change edge)
unfolding with_ends_beside
all_beside peer change edge = record { me = refl; peering = refl; wires = refl; bits = refl; chosen = refl; ends = λ wire k away. rw away refl }

at_peer : (plan : Plan) (me peer : EdgeId) (pw_id : ℕ) (p : EndPlace) → end_named plan me peer pw_id ≡ Some p → p.peer ≡ peer
at_peer plan me peer pw_id p is = (named_is plan me peer pw_id p is).peer_is

fec_beside : (plan : Plan) (edge : EdgeState) (peer : EdgeId) (fec : PwFec) (p : EndPlace) → end_of_fec plan edge peer fec ≡ Some p → p.peer ≡ peer
fec_beside plan edge peer fec p is = by fec.pw_id is where
  by : (o : Option ℕ) → option_and_then (end_named plan edge.me peer) o ≡ Some p → p.peer ≡ peer
  by None is = absurd (cc (is))
  by (Some n) is = at_peer plan edge.me peer n p is

named_beside : (plan : Plan) (peer : EdgeId) (fec : PwFec) (one all : EndState → EndState) (pw_id : Option ℕ) (edge : EdgeState)
    → ChangesBeside peer.0 edge (with_named plan peer fec one all pw_id edge)
named_beside plan peer fec one all None edge = all_beside peer all edge
named_beside plan peer fec one all (Some n) edge = changed_beside peer one (end_named plan edge.me peer n) edge (λ p is. at_peer plan edge.me peer n p is)

-- ---- ends that keep what they have

-- each end that is changed
changed_keeps : (plan : Plan) (me : EdgeId) (change : EndState → EndState) (place : Option EndPlace) (edge : EdgeState) (wire k : ℕ) → ((end : EndState) → KeepsEnd plan me end (change end))
    → KeepsEnd plan me (edge.ends wire k) ((with_end_changed change place edge).ends wire k)
changed_keeps plan me change None edge wire k keeps = keeps_same plan me (edge.ends wire k) (edge.ends wire k) refl
changed_keeps plan me change (Some place) edge wire k keeps =
    end_fact (λ w p e. KeepsEnd plan me (edge.ends w p) e) place (change (end_at edge place)) edge wire k (keeps (end_at edge place)) (keeps_same plan me (edge.ends wire k) (edge.ends wire k) refl)

named_keeps : (plan : Plan) (me peer : EdgeId) (fec : PwFec) (one all : EndState → EndState) (pw_id : Option ℕ) (edge : EdgeState) (wire k : ℕ) → ((end : EndState) → KeepsEnd plan me end (one end))
    → ((end : EndState) → KeepsEnd plan me end (all end))
    → KeepsEnd plan me (edge.ends wire k) ((with_named plan peer fec one all pw_id edge).ends wire k)
named_keeps plan me peer fec one all None edge wire k keeps also =
    beside_fact (λ w p e. KeepsEnd plan me (edge.ends w p) e) peer all edge wire k (λ same. also (edge.ends wire k)) (keeps_same plan me (edge.ends wire k) (edge.ends wire k) refl)
named_keeps plan me peer fec one all (Some n) edge wire k keeps also = changed_keeps plan me one (end_named plan edge.me peer n) edge wire k keeps

stated_keeps : (plan : Plan) (me : EdgeId) (status : PwStatus) (end : EndState) → KeepsEnd plan me end (stated status end)
stated_keeps plan me status end = keeps_status plan me status end (stated status end) refl refl

group_stated_keeps : (plan : Plan) (me : EdgeId) (group : ℕ) (status : PwStatus) (end : EndState) → KeepsEnd plan me end (group_stated group status end)
group_stated_keeps plan me group status end = by (is_in_group group end.remote) where
  by : (b : Bool) → KeepsEnd plan me end (cond b (stated status end) end)
  by true = stated_keeps plan me status end
  by false = keeps_same plan me end end refl

-- ends of which the own part stays
changed_local : (change : EndState → EndState) (place : Option EndPlace) (edge : EdgeState) (wire k : ℕ) → ((end : EndState) → (change end).local ≡ end.local)
    → ((with_end_changed change place edge).ends wire k).local ≡ (edge.ends wire k).local
changed_local change None edge wire k same = refl
changed_local change (Some place) edge wire k same = end_fact (λ w p e. e.local ≡ (edge.ends w p).local) place (change (end_at edge place)) edge wire k (same (end_at edge place)) refl

named_local : (plan : Plan) (peer : EdgeId) (fec : PwFec) (one all : EndState → EndState) (pw_id : Option ℕ) (edge : EdgeState) (wire k : ℕ) → ((end : EndState) → (one end).local ≡ end.local)
    → ((end : EndState) → (all end).local ≡ end.local)
    → ((with_named plan peer fec one all pw_id edge).ends wire k).local ≡ (edge.ends wire k).local
named_local plan peer fec one all None edge wire k same also = beside_fact (λ w p e. e.local ≡ (edge.ends w p).local) peer all edge wire k (λ is. also (edge.ends wire k)) refl
named_local plan peer fec one all (Some n) edge wire k same also = changed_local one (end_named plan edge.me peer n) edge wire k same

group_unbound_local : (group : ℕ) (end : EndState) → (group_unbound group end).local ≡ end.local
group_unbound_local group end = by (is_in_group group end.remote) where
  by : (b : Bool) → (cond b (unbound None end) end).local ≡ end.local
  by true = refl
  by false = refl

group_stated_local : (group : ℕ) (status : PwStatus) (end : EndState) → (group_stated group status end).local ≡ end.local
group_stated_local group status end = by (is_in_group group end.remote) where
  by : (b : Bool) → (cond b (stated status end) end).local ≡ end.local
  by true = refl
  by false = refl

-- labels stay
changed_labels : (change : EndState → EndState) (place : Option EndPlace) (edge : EdgeState) → label_to_give (with_end_changed change place edge) ≡ label_to_give edge
unfolding with_end
changed_labels change None edge = refl
changed_labels change (Some place) edge = refl

named_labels : (plan : Plan) (peer : EdgeId) (fec : PwFec) (one all : EndState → EndState) (pw_id : Option ℕ) (edge : EdgeState)
    → label_to_give (with_named plan peer fec one all pw_id edge) ≡ label_to_give edge
unfolding with_ends_beside
named_labels plan peer fec one all None edge = refl
named_labels plan peer fec one all (Some n) edge = changed_labels one (end_named plan edge.me peer n) edge

-- the end of a wire beside a neighbour, where one is found
record IsFoundEnd (peer : EdgeId) (wire : WireId) (o : Option EndPlace) : Type 0 where
  place : EndPlace
  is : o ≡ Some place
  wire_is : place.wire ≡ wire
  peer_is : place.peer ≡ peer

-- an end that is not named
module _ (plan : Plan) (me peer : EdgeId) (edge : EdgeState) (wire : WireId) (row : WirePlan) (checked : IsChecked plan) (placed : edge.me ≡ me) (is : wire_row plan wire ≡ Some row)
    (joined : joins me.0 peer.0 row.path ≡ true) where
  place_else : (n : ℕ) (place : EndPlace) → end_named plan edge.me peer n ≡ Some place → (n == row.pw_id) ≡ false → (place.wire.0 == wire.0) ≡ false
  place_else n place found other = sym (wire_by_pw_id plan me peer n place wire row checked is joined (ap (λ (k : EdgeId). end_named plan k peer n) (sym placed) ∙ found)) ∙ other

  fec_else : (o : Option ℕ) (place : EndPlace) → option_and_then (end_named plan edge.me peer) o ≡ Some place → names_wire row.pw_id o ≡ false → (place.wire.0 == wire.0) ≡ false
  fec_else None place found other = absurd (cc (found))
  fec_else (Some n) place found other = place_else n place found other

  changed_else : (change : EndState → EndState) (o : Option EndPlace) → ((place : EndPlace) → o ≡ Some place → (place.wire.0 == wire.0) ≡ false)
      → (with_end_changed change o edge).ends wire.0 peer.0 ≡ edge.ends wire.0 peer.0
  changed_else change None other = refl
  changed_else change (Some place) other = end_else place (change (end_at edge place)) edge wire.0 peer.0 (other place refl)

  named_else : (fec : PwFec) (one all : EndState → EndState) (pw_id : Option ℕ) → names_wire_or_group row.pw_id pw_id ≡ false
      → (with_named plan peer fec one all pw_id edge).ends wire.0 peer.0 ≡ edge.ends wire.0 peer.0
  named_else fec one all None other = clash (sym other)
  named_else fec one all (Some n) other = changed_else one (end_named plan edge.me peer n) (λ place found. place_else n place found other)

  -- and one that is
  named_end : (o : Option EndPlace) → option_and_then (end_named plan edge.me peer) (Some row.pw_id) ≡ o → IsFoundEnd peer wire o
  named_end o found = subst (IsFoundEnd peer wire) (sym (sym found ∙ (ap (λ (k : EdgeId). end_named plan k peer row.pw_id) placed ∙ near.named)))
      (record { place = near.place; is = refl; wire_is = near.wire_is; peer_is = near.peer_is })
    where
      near : NamedEnd plan me peer wire row
      near = end_of plan me peer wire row checked is joined

-- ---- what is unbound is sound

unbound_sound : (limit : ℕ) (up : Bool) (label : Option ℕ) (end : EndState) → IsSoundEnd limit up end → IsSoundEnd limit up (unbound label end)
unbound_sound limit true label end sound = (sound.0, held_unless limit label end.remote sound.1)
unbound_sound limit false label end sound = (sound.0, rw (sound.1) refl)

group_sound : (limit : ℕ) (up : Bool) (group : ℕ) (end : EndState) → IsSoundEnd limit up end → IsSoundEnd limit up (group_unbound group end)
group_sound limit up group end sound = by (is_in_group group end.remote) where
  by : (b : Bool) → IsSoundEnd limit up (cond b (unbound None end) end)
  by true = unbound_sound limit up None end sound
  by false = sound

module _ (limit : ℕ → ℕ) (edge : EdgeState) (sound : TellsSoundly limit edge) where
  place_sound : (label : Option ℕ) (o : Option EndPlace) → TellsSoundly limit (with_end_changed (unbound label) o edge)
  place_sound label None = sound
  place_sound label (Some place) =
      sound_with_end place (unbound label (end_at edge place)) edge
      (unbound_sound (limit place.wire.0) (is_up_with (edge.peering place.peer.0)) label (end_at edge place) (sound.ends place.wire.0 place.peer.0)) sound

  named_sound : (plan : Plan) (peer : EdgeId) (fec : PwFec) (label pw_id : Option ℕ) → TellsSoundly limit (with_named plan peer fec (unbound label) (group_unbound fec.group) pw_id edge)
  named_sound plan peer fec label None = sound_beside peer (group_unbound fec.group) edge (λ most end is. group_sound most (is_up_with (edge.peering peer.0)) fec.group end is) sound
  named_sound plan peer fec label (Some n) = place_sound label (end_named plan edge.me peer n)

-- ---- a release

releasing_labels : (label : Option ℕ) (place : EndPlace) (edge : EdgeState) → label_to_give (releasing label place edge) ≡ label_to_give edge
unfolding with_kept with_end
releasing_labels label place edge = given_same edge.next_label (left_label (own_label (end_at edge place).local) (own_label (released label (end_at edge place)).local)) place.peer edge.kept

released_else : (label : Option ℕ) (place : EndPlace) (edge : EdgeState) (wire k : ℕ) → (place.wire.0 == wire) ≡ false → (releasing label place edge).ends wire k ≡ edge.ends wire k
unfolding with_kept
released_else label place edge wire k other = end_else place (released label (end_at edge place)) edge wire k other

released_remote : (label : Option ℕ) (place : EndPlace) (edge : EdgeState) (wire k : ℕ) → ((releasing label place edge).ends wire k).remote ≡ (edge.ends wire k).remote
unfolding with_kept
released_remote label place edge wire k = end_fact (λ w p e. e.remote ≡ (edge.ends w p).remote) place (released label (end_at edge place)) edge wire k refl refl

stuck_put_idle : (label : Option ℕ) (place : EndPlace) (edge : EdgeState) (wire k : ℕ) → stays_idle edge wire k (edge.ends wire k).local ≡ true
    → stays_idle edge wire k ((releasing label place edge).ends wire k).local ≡ true
unfolding with_kept
stuck_put_idle label place edge wire k idle = stuck_put place (released label (end_at edge place)) edge wire k (release_idle label edge place.wire.0 place.peer.0 (end_at edge place).local) idle

-- whether a binding is held
named_some : (plan : Plan) (peer : EdgeId) (fec : PwFec) (one all : EndState → EndState) (pw_id : Option ℕ) (edge : EdgeState) (wire k : ℕ)
    → ((end : EndState) → is_some (one end).remote ≡ is_some end.remote)
    → ((end : EndState) → is_some (all end).remote ≡ is_some end.remote)
    → is_some ((with_named plan peer fec one all pw_id edge).ends wire k).remote ≡ is_some (edge.ends wire k).remote
named_some plan peer fec one all None edge wire k same also = beside_fact (λ w p e. is_some e.remote ≡ is_some (edge.ends w p).remote) peer all edge wire k (λ is. also (edge.ends wire k)) refl
named_some plan peer fec one all (Some n) edge wire k same also = by (end_named plan edge.me peer n) where
  by : (o : Option EndPlace) → is_some ((with_end_changed one o edge).ends wire k).remote ≡ is_some (edge.ends wire k).remote
  by None = refl
  by (Some place) = end_fact (λ w p e. is_some e.remote ≡ is_some (edge.ends w p).remote) place (one (end_at edge place)) edge wire k (same (end_at edge place)) refl

-- ---- messages

-- a message of the peer leaves the service's mesh wires, and spokes that are whole
pub record LeavesAll (plan : Plan) (service : ServiceId) (network : NetworkState) (me peer : ℕ) (m : Message) : Type 0 where
  pub mesh : (wire : WireId) (row : WirePlan) → wire_row plan wire ≡ Some row → is_mesh_of service row ≡ true → joins me peer row.path ≡ true → leaves_wire row.pw_id m ≡ true
  pub onward : (wire : WireId) (row : WirePlan) → IsOnward plan service network peer me wire row → keeps_binding row.pw_id m ≡ true
  pub back : (wire : WireId) (row : WirePlan) → IsOnward plan service network me peer wire row → keeps_label row.pw_id m ≡ true

module _ (plan : Plan) (service : ServiceId) (network : NetworkState) (me peer : EdgeId) (checked : IsChecked plan) where
  -- a spoke from the peer on, and on to the peer
  abbrev From : WireId → WirePlan → Type 0
  From wire row = IsOnward plan service network peer.0 me.0 wire row

  -- an edge that has acted on a message that binds these wires
  pub record Acted (base old new : Work) (binds_it : ℕ → Bool) : Type 0 where
    pub speaks : Speaks plan service network me peer.0 base new
    pub chosen : new.edge.chosen ≡ old.edge.chosen
    pub lasts : Lasts plan service me.0 peer.0 old.edge new.edge
    pub bound : (wire : WireId) (row : WirePlan) → From wire row → is_some (new.edge.ends wire.0 peer.0).remote ≡ is_some (old.edge.ends wire.0 peer.0).remote || binds_it row.pw_id

  abbrev At : Work → Work → Type 0
  At base work = Speaks plan service network me peer.0 base work

  -- the ends of mesh wires beside the peer keep what they have
  abbrev KeepsMeshEnds : EdgeState → EdgeState → Type 0
  KeepsMeshEnds old new = (wire : WireId) (row : WirePlan) → wire_row plan wire ≡ Some row → is_mesh_of service row ≡ true → joins me.0 peer.0 row.path ≡ true
      → KeepsEnd plan me (old.ends wire.0 peer.0) (new.ends wire.0 peer.0)

  -- what acting changes
  record Changed (old new : EdgeState) : Type 0 where
    beside : ChangesBeside peer.0 old new
    labels : label_to_give new ≡ label_to_give old
    idle : (wire k : ℕ) → stays_idle old wire k (old.ends wire k).local ≡ true → stays_idle old wire k (new.ends wire k).local ≡ true
    own : (wire : WireId) (row : WirePlan) (place : ℕ) → IsOnward plan service network me.0 place wire row → (new.ends wire.0 place).local ≡ (old.ends wire.0 place).local
    behind : (wire : WireId) (row : WirePlan) (content : Told) → From wire row → StandsFor plan row me peer content (old.ends wire.0 peer.0).remote
        → StandsFor plan row me peer content (new.ends wire.0 peer.0).remote
    mesh : KeepsMeshEnds old new

  changed_lasts : (old new : EdgeState) → Changed old new → Lasts plan service me.0 peer.0 old new
  changed_lasts old new changed = record {
    bits = changed.beside.bits;
    remotes = λ wire k away. ap (λ (e : EndState). e.remote) (changed.beside.ends wire k away);
    stuck = λ wire k joined stuck. idle_on old new wire k (new.ends wire k).local changed.beside.wires (ap (λ (f : ℕ → Option Peering). is_up_with (f k)) changed.beside.peering)
        (λ none. changed.labels ∙ none) (changed.idle wire k stuck);
  }

  -- behind a switching point one comes from the peer
  from_peer : (wire : WireId) (row : WirePlan) (to : EdgeId) → IsOnward plan service network me.0 to.0 wire row → mate row me.0 peer.0 ≡ Some to → From wire row
  from_peer wire row to onward mated = record {
    is = onward.is;
    edge = onward.edge;
    from = onward.from;
    whole = onward.whole;
    next = sym (way_kept row.path me.0 peer.0 to (wire_fits plan wire row checked onward.is).once mated) ∙ onward.next;
  }

  changed_spokes : (old new : EdgeState) → Changed old new → KeepsSpokes plan service network me old → KeepsSpokes plan service network me new
  changed_spokes old new changed spokes = record {
    waits_not = λ wire row next onward. ap is_withdrawing (changed.own wire row next onward) ∙ spokes.waits_not wire row next onward;
    whole = λ wire row next onward first. ap (λ (f : ℕ → ℕ). f wire.0) changed.beside.bits ∙ spokes.whole wire row next onward first;
    on = λ wire row next onward told. ap (λ (f : ℕ → Bool). f wire.0) changed.beside.wires
        ∙ spokes.on wire row next onward (ap is_advertising (sym (changed.own wire row next onward)) ∙ told);
    across = λ wire row from to label content onward mated at.
        stands wire row from to content onward mated (spokes.across wire row from to label content onward mated (sym (changed.own wire row to.0 onward) ∙ at));
  }
    where
      stands : (wire : WireId) (row : WirePlan) (from to : EdgeId) (content : Told) → IsOnward plan service network me.0 to.0 wire row → mate row me.0 from.0 ≡ Some to
          → StandsFor plan row me from content (old.ends wire.0 from.0).remote → StandsFor plan row me from content (new.ends wire.0 from.0).remote
      stands wire row from to content onward mated held = split {P = StandsFor plan row me from content (new.ends wire.0 from.0).remote} (nat_eq from.0 peer.0)
          (λ is. (let same : from ≡ peer = ap (λ (n : ℕ). record { 0 = n }) (eqb-true from.0 peer.0 is) in
          subst (λ (k : EdgeId). StandsFor plan row me k content (new.ends wire.0 k.0).remote) (sym same)
          (changed.behind wire row content (from_peer wire row to onward (subst (λ (k : EdgeId). mate row me.0 k.0 ≡ Some to) same mated))
          (subst (λ (k : EdgeId). StandsFor plan row me k content (old.ends wire.0 k.0).remote) same held))))
          (λ away. subst (λ (e : EndState). StandsFor plan row me from content e.remote) (sym (changed.beside.ends wire.0 from.0 away)) held)

  -- by such a change
  acted : (base : Work) (change : EdgeState → EdgeState) (work : Work) (binds_it : ℕ → Bool) → Changed work.edge (change work.edge)
      → ((wire : WireId) (row : WirePlan) → From wire row → is_some ((change work.edge).ends wire.0 peer.0).remote ≡ is_some (work.edge.ends wire.0 peer.0).remote || binds_it row.pw_id)
      → TellsSoundly (point_limit plan me.0) (change work.edge) → At base work → Acted base work (changes change work) binds_it
  unfolding changes
  acted base change work binds_it changed bound sound speaks = record {
    speaks = changed_speaks plan service network me peer.0 base change work (advertises_to work.edge) (advertises_to (change work.edge)) changed.beside.peering changed.beside.me
        (λ place wire row onward. ap is_advertising (changed.own wire row place onward)) sound
        (mesh_beside plan service me peer.0 work.edge (change work.edge) checked changed.beside.wires changed.beside.bits changed.beside.ends changed.mesh speaks.mesh)
        (changed_spokes work.edge (change work.edge) changed speaks.spokes) speaks;
    chosen = changed.beside.chosen;
    lasts = changed_lasts work.edge (change work.edge) changed;
    bound = bound;
  }

  changed_sound : (change : EdgeState → EdgeState) (work : Work) → TellsSoundly (point_limit plan me.0) (changes change work).edge → TellsSoundly (point_limit plan me.0) (change work.edge)
  unfolding changes
  changed_sound change work sound = sound

  -- a FEC that names no mesh wire between the two, and none from the peer on
  record NamesNone (fec : PwFec) : Type 0 where
    mesh : (wire : WireId) (row : WirePlan) → wire_row plan wire ≡ Some row → is_mesh_of service row ≡ true → joins me.0 peer.0 row.path ≡ true → names_wire row.pw_id fec.pw_id ≡ false
    from : (wire : WireId) (row : WirePlan) → From wire row → names_wire row.pw_id fec.pw_id ≡ false

  -- a release of what came with it is said
  releases_acted : (base old work : Work) (fec : PwFec) (label : Option ℕ) (binds_it : ℕ → Bool) → IsOfWires (release fec label) → NamesNone fec → Acted base old work binds_it
      → Acted base old (says taken_all peer (release fec label) work).work binds_it
  releases_acted base old work fec label binds_it of_wires none acts =
      let like : IsLikeBefore work.edge (says taken_all peer (release fec label) work).work.edge = says_like peer (release fec label) work in
      record {
        speaks = spoken_as plan service network me peer.0 base peer (release fec label) work
            (says_speaks plan service network me peer.0 base peer (release fec label) work of_wires
            (λ joined there id. record {
              plain = refl;
              labels = λ wire row is of_mesh joins. ap not (none.mesh wire row is of_mesh joins);
              onward = λ wire row onward. refl;
              back = λ wire row onward. ap not (none.from wire row onward);
            })
            (advertises_to work.edge) (advertises_to work.edge) (λ wire row onward id. met_said row.pw_id (advertises_to work.edge peer.0 wire.0) (release fec label id) refl)
            (λ place away wire row onward. refl) acts.speaks);
        chosen = (says_works taken_all any peer (release fec label) work refl).edge.chosen ∙ acts.chosen;
        lasts = lasts_then plan service me.0 peer.0 old.edge work.edge (says taken_all peer (release fec label) work).work.edge acts.lasts (like_lasts work.edge _ like);
        bound = λ wire row from. ap (λ (f : ℕ → ℕ → EndState). is_some (f wire.0 peer.0).remote) like.ends ∙ acts.bound wire row from;
      }
    where
      like_lasts : (one other : EdgeState) → IsLikeBefore one other → Lasts plan service me.0 peer.0 one other
      like_lasts one other like = record {
        bits = like.bits;
        remotes = λ wire k away. ap (λ (f : ℕ → ℕ → EndState). (f wire k).remote) like.ends;
        stuck = λ wire k joined. stuck_on one other wire k like.wires (like.ups k) (λ none. like.labels ∙ none) (ap (λ (f : ℕ → ℕ → EndState). (f wire k).local) like.ends);
      }

  kind_fits : (fec : PwFec) → writable_fec fec ≡ true → fec.kind ≤ 0x7FFF
  kind_fits fec can = low fec.kind (has_vlan fec.params.vlan && may_tell fec.pw_id fec.params) can
    where
      low : (n : ℕ) (more : Bool) → nat_le n 0x7FFF && more ≡ true → n ≤ 0x7FFF
      low n more can = grind (arith, nat_tests)

  no_name : (pw_id : ℕ) (o : Option ℕ) → names_wire_or_group pw_id o ≡ false → names_wire pw_id o ≡ false
  no_name pw_id None other = refl
  no_name pw_id (Some n) other = other

  binds_none : ℕ → Bool
  binds_none pw_id = false

  or_none : (b : Bool) → b ≡ b || false
  or_none true = refl
  or_none false = refl

  -- two edges of which one follows the other are joined, seen from here
  here_joined : (wire : WireId) (row : WirePlan) → From wire row → joins me.0 peer.0 row.path ≡ true
  here_joined wire row from = sym (joins_turned row.path peer.0 me.0) ∙ onward_joined peer.0 me.0 wire row from

  pub withdraw_acts : (base : Work) (id : ℕ) (fec : PwFec) (label : Option ℕ) (work : Work) → IsSound (LabelWithdraw id fec label)
      → LeavesAll plan service network me.0 peer.0 (LabelWithdraw id fec label) → At base work
      → Acted base work (hears_withdraw plan taken_all peer fec label work) (λ pw_id. binds pw_id (LabelWithdraw id fec label))
  withdraw_acts base id fec label work said leaves speaks =
      let change : EdgeState → EdgeState = with_named plan peer fec (unbound label) (group_unbound fec.group) fec.pw_id in
      releases_acted base work (changes change work) fec label (λ pw_id. binds pw_id (LabelWithdraw id fec label))
      (release_is fec label (kind_fits fec said.1) said.0.1.group said.0.1.pw_id said.0.2)
      (record { mesh = λ wire row is of_mesh joins. no_name row.pw_id fec.pw_id (apart wire row is of_mesh joins); from = λ wire row from. no_name row.pw_id fec.pw_id (away wire row from) })
      (acted base change work (λ pw_id. binds pw_id (LabelWithdraw id fec label))
      (record {
        beside = named_beside plan peer fec (unbound label) (group_unbound fec.group) fec.pw_id work.edge;
        labels = named_labels plan peer fec (unbound label) (group_unbound fec.group) fec.pw_id work.edge;
        idle = λ wire k is. ap (stays_idle work.edge wire k) (named_local plan peer fec (unbound label) (group_unbound fec.group) fec.pw_id work.edge wire k (λ end. refl)
            (group_unbound_local fec.group)) ∙ is;
        own = λ wire row place onward. named_local plan peer fec (unbound label) (group_unbound fec.group) fec.pw_id work.edge wire.0 place (λ end. refl) (group_unbound_local fec.group);
        behind = λ wire row content from stands. subst (λ (e : EndState). StandsFor plan row me peer content e.remote) (sym (same_end wire row from)) stands;
        mesh = λ wire row is of_mesh joins. keeps_same plan me (work.edge.ends wire.0 peer.0) _
            (named_else plan me peer work.edge wire row checked speaks.place is joins fec (unbound label) (group_unbound fec.group) fec.pw_id (apart wire row is of_mesh joins));
      })
      (λ wire row from. ap (λ (e : EndState). is_some e.remote) (same_end wire row from) ∙ or_none (is_some (work.edge.ends wire.0 peer.0).remote))
      (named_sound (point_limit plan me.0) work.edge speaks.sound plan peer fec label fec.pw_id) speaks)
    where
      apart : (wire : WireId) (row : WirePlan) → wire_row plan wire ≡ Some row → is_mesh_of service row ≡ true → joins me.0 peer.0 row.path ≡ true → names_wire_or_group row.pw_id fec.pw_id ≡ false
      apart wire row is of_mesh joins = not-true (names_wire_or_group row.pw_id fec.pw_id) (leaves.mesh wire row is of_mesh joins)

      away : (wire : WireId) (row : WirePlan) → From wire row → names_wire_or_group row.pw_id fec.pw_id ≡ false
      away wire row from = not-true (names_wire_or_group row.pw_id fec.pw_id) (leaves.onward wire row from)

      same_end : (wire : WireId) (row : WirePlan) → From wire row
          → (with_named plan peer fec (unbound label) (group_unbound fec.group) fec.pw_id work.edge).ends wire.0 peer.0 ≡ work.edge.ends wire.0 peer.0
      same_end wire row from = named_else plan me peer work.edge wire row checked speaks.place from.is (here_joined wire row from) fec (unbound label) (group_unbound fec.group) fec.pw_id
          (away wire row from)

  module _ (base : Work) (id : ℕ) (fec : PwFec) (label : ℕ) (status : Option PwStatus) (points : List Point) (work : Work) (said : IsSound (LabelMapping id fec label status points))
      (leaves : LeavesAll plan service network me.0 peer.0 (LabelMapping id fec label status points))
      (taken : (place : EndPlace) → option_and_then (end_named plan me peer) fec.pw_id ≡ Some place → takes_content plan me place (binding_in fec label status points).told ≡ true)
      (unheld : (wire : WireId) (row : WirePlan) → From wire row → names_wire row.pw_id fec.pw_id ≡ true → is_some (work.edge.ends wire.0 peer.0).remote ≡ false) (speaks : At base work) where
    abbrev binding : Binding
    binding = binding_in fec label status points

    abbrev BindsIt : ℕ → Bool
    BindsIt pw_id = names_wire pw_id fec.pw_id

    mesh_apart : (wire : WireId) (row : WirePlan) → wire_row plan wire ≡ Some row → is_mesh_of service row ≡ true → joins me.0 peer.0 row.path ≡ true → names_wire row.pw_id fec.pw_id ≡ false
    mesh_apart wire row is of_mesh joins = not-true (names_wire row.pw_id fec.pw_id) (leaves.mesh wire row is of_mesh joins)

    -- the end that is found is at this edge
    placed_fec : (o : Option EndPlace) → end_of_fec plan work.edge peer fec ≡ o → option_and_then (end_named plan me peer) fec.pw_id ≡ o
    placed_fec o is = ap (λ (k : EdgeId). option_and_then (end_named plan k peer) fec.pw_id) (sym speaks.place) ∙ is

    -- where a spoke from the peer is named, its end is found
    found_end : (wire : WireId) (row : WirePlan) → From wire row → names_wire row.pw_id fec.pw_id ≡ true → (o : Option EndPlace) → end_of_fec plan work.edge peer fec ≡ o → IsFoundEnd peer wire o
    found_end wire row from named o is = named_end plan me peer work.edge wire row checked speaks.place from.is (here_joined wire row from) o
        (ap (option_and_then (end_named plan work.edge.me peer)) (sym (name_is fec.pw_id named)) ∙ is) where
          name_is : (n : Option ℕ) → names_wire row.pw_id n ≡ true → n ≡ Some row.pw_id
          name_is None named = clash named
          name_is (Some other) named = ap Some (eqb-true other row.pw_id named)

    changed_is : (change : EndState → EndState) (place : EndPlace) → end_of_fec plan work.edge peer fec ≡ Some place → ((end : EndState) → (change end).local ≡ end.local)
        → Changed work.edge (with_end_changed change (Some place) work.edge)
    changed_is change place is local = record {
      beside = changed_beside peer change (Some place) work.edge (λ p same. fec_beside plan work.edge peer fec p (is ∙ same));
      labels = changed_labels change (Some place) work.edge;
      idle = λ wire k idle. ap (stays_idle work.edge wire k) (changed_local change (Some place) work.edge wire k local) ∙ idle;
      own = λ wire row k onward. changed_local change (Some place) work.edge wire.0 k local;
      behind = λ wire row content from stands. split {P = StandsFor plan row me peer content ((with_end_changed change (Some place) work.edge).ends wire.0 peer.0).remote}
          (names_wire row.pw_id fec.pw_id)
          (λ named. none_held (work.edge.ends wire.0 peer.0).remote (unheld wire row from named) stands)
          (λ other. subst (λ (e : EndState). StandsFor plan row me peer content e.remote) (sym (else_end change place is wire row from.is (here_joined wire row from) other)) stands);
      mesh = λ wire row at of_mesh joins. keeps_same plan me (work.edge.ends wire.0 peer.0) _ (else_end change place is wire row at joins (mesh_apart wire row at of_mesh joins));
    }
      where
        none_held : {P : Type 0} {row : WirePlan} {content : Told} (held : Option Binding) → is_some held ≡ false → StandsFor plan row me peer content held → P
        none_held None none stands = absurd (cc (stands.is))
        none_held (Some binding) none stands = clash (sym none)

        else_end : (change : EndState → EndState) (place : EndPlace) → end_of_fec plan work.edge peer fec ≡ Some place → (wire : WireId) (row : WirePlan) → wire_row plan wire ≡ Some row
            → joins me.0 peer.0 row.path ≡ true
            → names_wire row.pw_id fec.pw_id ≡ false → (with_end_changed change (Some place) work.edge).ends wire.0 peer.0 ≡ work.edge.ends wire.0 peer.0
        else_end change place is wire row at joins other = changed_else plan me peer work.edge wire row checked speaks.place at joins change (Some place)
            (λ p same. fec_else plan me peer work.edge wire row checked speaks.place at joins fec.pw_id p (is ∙ same) other)

    -- taken: who is named is bound
    bound_is : (place : EndPlace) → end_of_fec plan work.edge peer fec ≡ Some place → (wire : WireId) (row : WirePlan) → From wire row
        → is_some ((with_end_changed (bound binding) (Some place) work.edge).ends wire.0 peer.0).remote ≡ is_some (work.edge.ends wire.0 peer.0).remote || BindsIt row.pw_id
    bound_is place is wire row from =
        split {P = is_some ((with_end_changed (bound binding) (Some place) work.edge).ends wire.0 peer.0).remote ≡ is_some (work.edge.ends wire.0 peer.0).remote || BindsIt row.pw_id}
        (names_wire row.pw_id fec.pw_id)
        (λ named. (let found : IsFoundEnd peer wire (Some place) = found_end wire row from named (Some place) is in
        let same : place ≡ found.place = some_same found.is in
        now_bound (ap (λ (p : EndPlace). p.wire.0) same ∙ ap (λ (w : WireId). w.0) found.wire_is) (ap (λ (p : EndPlace). p.peer.0) same ∙ ap (λ (k : EdgeId). k.0) found.peer_is)
        ∙ sym (either (is_some (work.edge.ends wire.0 peer.0).remote) named)))
        (λ other. ap (λ (e : EndState). is_some e.remote) (changed_else plan me peer work.edge wire row checked speaks.place from.is (here_joined wire row from) (bound binding) (Some place)
        (λ p same. fec_else plan me peer work.edge wire row checked speaks.place from.is (here_joined wire row from) fec.pw_id p (is ∙ same) other))
        ∙ (or_none (is_some (work.edge.ends wire.0 peer.0).remote) ∙ ap (λ (b : Bool). is_some (work.edge.ends wire.0 peer.0).remote || b) (sym other)))
      where
        either : (a : Bool) → names_wire row.pw_id fec.pw_id ≡ true → a || BindsIt row.pw_id ≡ true
        either true named = refl
        either false named = named

        now_bound : place.wire.0 ≡ wire.0 → place.peer.0 ≡ peer.0 → is_some ((with_end_changed (bound binding) (Some place) work.edge).ends wire.0 peer.0).remote ≡ true
        now_bound same also = subst (λ (w : ℕ). is_some ((with_end_changed (bound binding) (Some place) work.edge).ends w peer.0).remote ≡ true) same
            (subst (λ (k : ℕ). is_some ((with_end_changed (bound binding) (Some place) work.edge).ends place.wire.0 k).remote ≡ true) also
            (ap (λ (e : EndState). is_some e.remote) (end_here place (bound binding (end_at work.edge place)) work.edge)))

    -- refused or unknown: none is named
    none_named : ((wire : WireId) (row : WirePlan) → From wire row → names_wire row.pw_id fec.pw_id ≡ true → ⊥) → NamesNone fec
    none_named never = record { mesh = mesh_apart; from = λ wire row from. by wire row from (names_wire row.pw_id fec.pw_id) refl } where
      by : (wire : WireId) (row : WirePlan) → From wire row → (b : Bool) → names_wire row.pw_id fec.pw_id ≡ b → b ≡ false
      by wire row from true named = absurd (never wire row from named)
      by wire row from false other = refl

    released_acts : (now : Work) → NamesNone fec → Acted base work now BindsIt → Acted base work (releases_label taken_all peer fec (Some label) now) BindsIt
    released_acts now none acts =
        releases_acted base work now fec (Some label) BindsIt
        (release_is fec (Some label) (kind_fits fec (second_holds (is_some fec.pw_id) (writable_fec fec) said.1)) said.0.1.group said.0.1.pw_id said.0.2) none acts

    -- nothing is changed for spokes from the peer
    unbound_is : NamesNone fec → (place : EndPlace) → end_of_fec plan work.edge peer fec ≡ Some place → (wire : WireId) (row : WirePlan) → From wire row
        → is_some ((with_end_changed (unbound None) (Some place) work.edge).ends wire.0 peer.0).remote ≡ is_some (work.edge.ends wire.0 peer.0).remote || BindsIt row.pw_id
    unbound_is none place is wire row from =
        ap (λ (e : EndState). is_some e.remote) (changed_else plan me peer work.edge wire row checked speaks.place from.is (here_joined wire row from) (unbound None) (Some place)
        (λ p same. fec_else plan me peer work.edge wire row checked speaks.place from.is (here_joined wire row from) fec.pw_id p (is ∙ same) (none.from wire row from)))
        ∙ (or_none (is_some (work.edge.ends wire.0 peer.0).remote) ∙ ap (λ (b : Bool). is_some (work.edge.ends wire.0 peer.0).remote || b) (sym (none.from wire row from)))

    takes : (place : EndPlace) → end_of_fec plan work.edge peer fec ≡ Some place → (b : Bool) → takes_content plan work.edge.me place binding.told ≡ b
        → TellsSoundly (point_limit plan me.0) (cond b (changes (with_end_changed (bound binding) (Some place)) work)
        (releases_label taken_all peer fec (Some label) (changes (with_end_changed (unbound None) (Some place)) work))).edge
        → Acted base work (cond b (changes (with_end_changed (bound binding) (Some place)) work)
        (releases_label taken_all peer fec (Some label) (changes (with_end_changed (unbound None) (Some place)) work))) BindsIt
    takes place is true here sound =
        acted base (with_end_changed (bound binding) (Some place)) work BindsIt (changed_is (bound binding) place is (λ end. refl)) (bound_is place is)
        (changed_sound (with_end_changed (bound binding) (Some place)) work sound) speaks
    takes place is false refused sound =
        let none : NamesNone fec = none_named (λ wire row from named. not_taken) in
        released_acts (changes (with_end_changed (unbound None) (Some place)) work) none
        (acted base (with_end_changed (unbound None) (Some place)) work BindsIt (changed_is (unbound None) place is (λ end. refl)) (unbound_is none place is)
        (place_sound (point_limit plan me.0) work.edge speaks.sound None (Some place)) speaks)
      where
        not_taken : ⊥
        not_taken = clash (sym (ap (λ (k : EdgeId). takes_content plan k place binding.told) (sym speaks.place) ∙ refused) ∙ taken place (placed_fec (Some place) is))

    pub mapping_acts : TellsSoundly (point_limit plan me.0) (hears_mapping plan taken_all peer fec label status points work).edge
        → Acted base work (hears_mapping plan taken_all peer fec label status points work) (λ pw_id. binds pw_id (LabelMapping id fec label status points))
    mapping_acts sound = by (end_of_fec plan work.edge peer fec) refl sound where
      unfound : {wire : WireId} → IsFoundEnd peer wire None → ⊥
      unfound found = cc (found.is)

      by : (o : Option EndPlace) → end_of_fec plan work.edge peer fec ≡ o → TellsSoundly (point_limit plan me.0) (maps_to plan taken_all peer fec binding o work).edge
          → Acted base work (maps_to plan taken_all peer fec binding o work) BindsIt
      by None is sound =
          let none : NamesNone fec = none_named (λ wire row from named. unfound (found_end wire row from named None is)) in
          released_acts work none (record {
            speaks = speaks;
            chosen = refl;
            lasts = lasts_same plan service me.0 peer.0 work.edge;
            bound = λ wire row from. or_none (is_some (work.edge.ends wire.0 peer.0).remote) ∙ ap (λ (b : Bool). is_some (work.edge.ends wire.0 peer.0).remote || b) (sym (none.from wire row from));
          })
      by (Some place) is sound = takes place is (takes_content plan work.edge.me place binding.told) refl sound

  pub same_acted : (base : Work) (m : Message) (work : Work) → ((pw_id : ℕ) → binds pw_id m ≡ false) → At base work → Acted base work work (λ pw_id. binds pw_id m)
  same_acted base m work none speaks = record {
    speaks = speaks;
    chosen = refl;
    lasts = lasts_same plan service me.0 peer.0 work.edge;
    bound = λ wire row from. or_none (is_some (work.edge.ends wire.0 peer.0).remote) ∙ ap (λ (b : Bool). is_some (work.edge.ends wire.0 peer.0).remote || b) (sym (none row.pw_id));
  }

  pub status_acts : (base : Work) (id : ℕ) (code : StatusCode) (status : Option PwStatus) (fec : Option PwFec) (work : Work)
      → TellsSoundly (point_limit plan me.0) (hears_status plan peer code status fec work).edge → At base work
      → Acted base work (hears_status plan peer code status fec work) (λ pw_id. binds pw_id (Notification id code status fec))
  status_acts base id code None fec work sound speaks = same_acted base (Notification id code None fec) work (λ pw_id. refl) speaks
  status_acts base id code (Some status) None work sound speaks = same_acted base (Notification id code (Some status) None) work (λ pw_id. refl) speaks
  status_acts base id code (Some status) (Some fec) work sound speaks = by (code.code == pw_status_code) sound where
    keeps : (wire k : ℕ) → KeepsEnd plan me (work.edge.ends wire k) ((with_named plan peer fec (stated status) (group_stated fec.group status) fec.pw_id work.edge).ends wire k)
    keeps wire k = named_keeps plan me peer fec (stated status) (group_stated fec.group status) fec.pw_id work.edge wire k (stated_keeps plan me status) (group_stated_keeps plan me fec.group status)

    local : (wire k : ℕ) → ((with_named plan peer fec (stated status) (group_stated fec.group status) fec.pw_id work.edge).ends wire k).local ≡ (work.edge.ends wire k).local
    local wire k = named_local plan peer fec (stated status) (group_stated fec.group status) fec.pw_id work.edge wire k (λ end. refl) (group_stated_local fec.group status)

    by : (b : Bool) → TellsSoundly (point_limit plan me.0) (cond b (changes (with_named plan peer fec (stated status) (group_stated fec.group status) fec.pw_id) work) work).edge
        → Acted base work (cond b (changes (with_named plan peer fec (stated status) (group_stated fec.group status) fec.pw_id) work) work) (λ pw_id. false)
    by true sound = acted base (with_named plan peer fec (stated status) (group_stated fec.group status) fec.pw_id) work (λ pw_id. false)
        (record {
          beside = named_beside plan peer fec (stated status) (group_stated fec.group status) fec.pw_id work.edge;
          labels = named_labels plan peer fec (stated status) (group_stated fec.group status) fec.pw_id work.edge;
          idle = λ wire k is. ap (stays_idle work.edge wire k) (local wire k) ∙ is;
          own = λ wire row place onward. local wire.0 place;
          behind = λ wire row content from. (keeps wire.0 peer.0).stands row peer content;
          mesh = λ wire row is of_mesh joins. keeps wire.0 peer.0;
        })
        (λ wire row from. stated_some wire.0 ∙ or_none (is_some (work.edge.ends wire.0 peer.0).remote))
        (changed_sound (with_named plan peer fec (stated status) (group_stated fec.group status) fec.pw_id) work sound) speaks
      where
        one_some : (end : EndState) → is_some (stated status end).remote ≡ is_some end.remote
        one_some end = by_held end.remote where
          by_held : (held : Option Binding) → is_some (status_part status held) ≡ is_some held
          by_held None = refl
          by_held (Some held) = refl

        all_some : (end : EndState) → is_some (group_stated fec.group status end).remote ≡ is_some end.remote
        all_some end = by_group (is_in_group fec.group end.remote) where
          by_group : (b : Bool) → is_some (cond b (stated status end) end).remote ≡ is_some end.remote
          by_group true = one_some end
          by_group false = refl

        stated_some : (wire : ℕ) → is_some ((with_named plan peer fec (stated status) (group_stated fec.group status) fec.pw_id work.edge).ends wire peer.0).remote ≡ is_some
            (work.edge.ends wire peer.0).remote
        stated_some wire = named_some plan peer fec (stated status) (group_stated fec.group status) fec.pw_id work.edge wire peer.0 one_some all_some
    by false sound = same_acted base (Notification id code (Some status) (Some fec)) work (λ pw_id. refl) speaks

  pub release_acts : (base : Work) (id : ℕ) (fec : PwFec) (label : Option ℕ) (work : Work) → LeavesAll plan service network me.0 peer.0 (LabelRelease id fec label)
      → TellsSoundly (point_limit plan me.0) (hears_release plan peer fec label work).edge → At base work
      → Acted base work (hears_release plan peer fec label work) (λ pw_id. binds pw_id (LabelRelease id fec label))
  unfolding changes with_kept
  release_acts base id fec label work leaves sound speaks = by (end_of_fec plan work.edge peer fec) refl sound where
    by : (o : Option EndPlace) → end_of_fec plan work.edge peer fec ≡ o → TellsSoundly (point_limit plan me.0) (with_released label o work.edge)
        → Acted base work (changes (λ edge. with_released label o edge) work) (λ pw_id. false)
    by None is sound = acted base (λ edge. edge) work (λ pw_id. false)
        (record {
          beside = same_beside peer.0 work.edge;
          labels = refl;
          idle = λ wire k is. is;
          own = λ wire row place onward. refl;
          behind = λ wire row content from stands. stands;
          mesh = λ wire row at of_mesh joined. keeps_same plan me (work.edge.ends wire.0 peer.0) (work.edge.ends wire.0 peer.0) refl;
        })
        (λ wire row from. or_none (is_some (work.edge.ends wire.0 peer.0).remote)) speaks.sound speaks
    by (Some place) is sound = acted base (releasing label place) work (λ pw_id. false) (released_is place is)
        (λ wire row from. ap (λ (o : Option Binding). is_some o) (released_remote label place work.edge wire.0 peer.0) ∙ or_none (is_some (work.edge.ends wire.0 peer.0).remote)) sound speaks
      where
        released_is : (p : EndPlace) → end_of_fec plan work.edge peer fec ≡ Some p → Changed work.edge (releasing label p work.edge)
        released_is p found = record {
          beside = subst (λ (k : EdgeId). ChangesBeside k.0 work.edge (releasing label p work.edge)) (fec_beside plan work.edge peer fec p found) (releasing_beside label p work.edge);
          labels = releasing_labels label p work.edge;
          idle = λ wire k idle. stuck_put_idle label p work.edge wire k idle;
          own = λ wire row k onward. ap (λ (e : EndState). e.local) (own_end wire row k onward);
          behind = λ wire row content from stands. subst (StandsFor plan row me peer content) (sym (released_remote label p work.edge wire.0 peer.0)) stands;
          mesh = λ wire row at of_mesh joined. keeps_same plan me (work.edge.ends wire.0 peer.0) _
              (released_else label p work.edge wire.0 peer.0
              (fec_else plan me peer work.edge wire row checked speaks.place at joined fec.pw_id p found (not-true (names_wire row.pw_id fec.pw_id) (leaves.mesh wire row at of_mesh joined))));
        }
          where
            own_end : (wire : WireId) (row : WirePlan) (k : ℕ) → IsOnward plan service network me.0 k wire row → (releasing label p work.edge).ends wire.0 k ≡ work.edge.ends wire.0 k
            own_end wire row k onward = split {P = (releasing label p work.edge).ends wire.0 k ≡ work.edge.ends wire.0 k} (nat_eq k peer.0)
                (λ same. (let there : k ≡ peer.0 = eqb-true k peer.0 same in
                let its : IsOnward plan service network me.0 peer.0 wire row = subst (λ (n : ℕ). IsOnward plan service network me.0 n wire row) there onward in
                subst (λ (n : ℕ). (releasing label p work.edge).ends wire.0 n ≡ work.edge.ends wire.0 n) (sym there)
                (released_else label p work.edge wire.0 peer.0
                (fec_else plan me peer work.edge wire row checked speaks.place its.is (onward_joined me.0 peer.0 wire row its) fec.pw_id p found
                (not-true (names_wire row.pw_id fec.pw_id) (leaves.back wire row its))))))
                (λ away. (releasing_beside label p work.edge).ends wire.0 k (subst (λ (e : EdgeId). nat_eq k e.0 ≡ false) (sym (fec_beside plan work.edge peer fec p found)) away))
