-- A terminal edge of a wire of a quiet service: when it tells something, with which status, and when it forwards.
use Rattle.std.proofs.Common.{◌≡◌, ◌&&◌, ◌||◌, ◌∙◌, is_some, ℕ, Bool, true, false, cond, Option, Some, None, nat_eq, refl, sym, ap}
use Rattle.std.proofs.lemmas.Bool.{eqb-true, eq-eqb}
use Rattle.std.specs.List.{list_any}
use Rattle.net_values.proofs.BoolLemmas.{clash, first_holds, second_holds}
use Rattle.net_values.proofs.RowLemmas.{found_is_any}
use Rattle.net_base.specs.declared.plan.Plan.{Plan}
use Rattle.net_base.specs.declared.plan.offer.Offer.{Offer}
use Rattle.net_base.specs.declared.plan.places.EdgeId.{EdgeId}
use Rattle.net_base.specs.declared.plan.places.ServiceId.{ServiceId}
use Rattle.net_base.specs.declared.plan.places.WireId.{WireId}
use Rattle.net_base.specs.declared.plan.wire_plan.WirePlan.{WirePlan}
use Rattle.net_base.specs.plan.Paths.{expected, joins, offer_of}
use Rattle.net_base.specs.plan.Places.{wire_row}
use Rattle.net_base.specs.plan.Roles.{is_wire_of}
use Rattle.pw_tlvs.specs.declared.pw_status.PwStatus.{PwStatus}
use Rattle.pw_status.specs.Status.{combined, method_by}
use Rattle.pw_messages.specs.Content.{content_of}
use Rattle.pw_signalling.specs.declared.end_role.EndRole.{EndRole}
use Rattle.pw_signalling.specs.declared.told.Told.{Told}
use Rattle.pw_signalling.specs.Down.{down, fails_in}
use Rattle.pw_signalling.specs.End.{EndState, LocalPart, Idle, Advertised, Withdrawing}
use Rattle.pw_stitch.specs.Passing.{passed_status}
use Rattle.spoke_redundancy.specs.Telling.{is_not_chosen}
use Rattle.edge_model.specs.Across.{held_beyond}
use Rattle.edge_model.specs.declared.end_place.EndPlace.{EndPlace}
use Rattle.edge_model.specs.EndPlaces.{end_places, is_end_of_wire, is_named, is_terminal}
use Rattle.edge_model.specs.Ends.{end_forwards, forwards_at, is_up, wire_end}
use Rattle.edge_model.specs.Mend.{is_up_with, passed_wish, status_held, status_offered, tells_status, terminal_wish, wish, wish_of}
use Rattle.edge_model.specs.Role.{end_role_of, is_chosen, own_status, role_in, status_to_tell}
use Rattle.edge_model.specs.State.{end_at}
use Rattle.edge_model.proofs.OneEndLemmas.{one_neighbour}
use Rattle.network_model.specs.State.{NetworkState}
use Rattle.flight_laws.specs.Binding.{is_idle, is_withdrawing}
use Rattle.flight_laws.specs.Laws.{BothStand}
use Rattle.flight_laws.proofs.PlaceLemmas.{Finds, IsEndOf, IsFound, find_holds, find_some, named_is, places_are, same_row}
use Rattle.flight_laws.proofs.TellLemmas.{tells_own_offer}
use Rattle.settle_laws.specs.Laws.{HasLabel}
use Rattle.settle_laws.proofs.EndLemmas.{Fits, fits_up}
use Rattle.settle_laws.proofs.StatusLemmas.{IsStatusOf, whole_clear}
use Rattle.settle_laws.proofs.WireLemmas.{HasSettled, TellsWith, agreed, end_same, holds, local_is, mended_here, named, row_is, status_here, tells_expected, undeclined, wished}

-- both tests, of a wish
both_some : (a b : Bool) (content : Told) → is_some (cond a (cond b (Some content) None) None) ≡ a && b
both_some true true content = refl
both_some true false content = refl
both_some false b content = refl

-- an edge advertises something to a neighbour
pub record HasTold (network : NetworkState) (wire : WireId) (a b : ℕ) : Type 0 where
  pub label : ℕ
  pub content : Told
  pub is : ((network.edges a).ends wire.0 b).local ≡ Advertised label content

module _ (plan : Plan) (network : NetworkState) (service : ServiceId) (has : HasSettled plan network service) (wire : WireId) (row : WirePlan) (is : wire_row plan wire ≡ Some row) (ours : is_wire_of service row ≡ true)
    (e n : EdgeId) (joined : joins e.0 n.0 row.path ≡ true) (terminal : is_terminal row e ≡ true) where
  abbrev place : EndPlace
  place = (named plan network service has wire row is ours e n joined).place

  wire_is : place.wire ≡ wire
  wire_is = (named plan network service has wire row is ours e n joined).wire_is

  peer_is : place.peer ≡ n
  peer_is = (named plan network service has wire row is ours e n joined).peer_is

  same : end_at (network.edges e.0) place ≡ (network.edges e.0).ends wire.0 n.0
  same = end_same plan network service has wire row is ours e n joined

  me_is : (network.edges e.0).me ≡ e
  me_is = has.ordered.placed e.0

  row_here : wire_row plan place.wire ≡ Some row
  row_here = ap (wire_row plan) wire_is ∙ is

  at_end : place.terminal ≡ true
  at_end =
      let end : IsEndOf plan e place = (named_is plan e n row.pw_id place (named plan network service has wire row is ours e n joined).named).holds in
      end.terminal ∙ (ap (λ (r : WirePlan). is_terminal r e) (same_row end.row row (sym end.is ∙ row_here)) ∙ terminal)

  -- what the end is to the service
  abbrev pub role : EndRole
  role = end_role_of row e (is_chosen (network.edges e.0).chosen wire row)

  role_is : role_in (wire_row plan place.wire) (network.edges e.0).me (network.edges e.0).chosen place.wire ≡ role
  role_is =
      ap (λ (w : WireId). role_in (wire_row plan w) (network.edges e.0).me (network.edges e.0).chosen w) wire_is
      ∙ (ap (λ (o : Option WirePlan). role_in o (network.edges e.0).me (network.edges e.0).chosen wire) is
      ∙ ap (λ (m : EdgeId). end_role_of row m (is_chosen (network.edges e.0).chosen wire row)) me_is)

  -- ---- what it should tell

  -- its peer is told of failures by a status
  abbrev Methodical : Bool
  Methodical = tells_status (method_by (offer_of row e.0).status (status_held ((network.edges e.0).ends wire.0 n.0).remote))

  wish_is : is_some (wish plan (network.edges e.0) place)
      ≡ ((network.edges e.0).wire_on wire.0 && is_up_with ((network.edges e.0).peering n.0)) && (Methodical || nat_eq ((network.edges e.0).bits wire.0) 0)
  wish_is =
      ap (λ (o : Option WirePlan). is_some (wish_of plan (network.edges e.0) place o)) row_here
      ∙ (ap (λ (t : Bool). is_some (cond ((network.edges e.0).wire_on place.wire.0 && is_up_with ((network.edges e.0).peering place.peer.0))
      (cond t (terminal_wish plan (network.edges e.0) place (offer_of row (network.edges e.0).me.0)) (passed_wish plan (network.edges e.0) place row)) None)) at_end
      ∙ (both_some ((network.edges e.0).wire_on place.wire.0 && is_up_with ((network.edges e.0).peering place.peer.0))
      (tells_status (method_by (offer_of row (network.edges e.0).me.0).status (status_held (end_at (network.edges e.0) place).remote)) || nat_eq ((network.edges e.0).bits place.wire.0) 0)
      (content_of (offer_of row (network.edges e.0).me.0) (status_offered plan (network.edges e.0) place (offer_of row (network.edges e.0).me.0)))
      ∙ (ap (λ (w : WireId). ((network.edges e.0).wire_on w.0 && is_up_with ((network.edges e.0).peering place.peer.0))
      && (tells_status (method_by (offer_of row (network.edges e.0).me.0).status (status_held ((network.edges e.0).ends w.0 place.peer.0).remote)) || nat_eq ((network.edges e.0).bits w.0) 0)) wire_is
      ∙ (ap (λ (k : EdgeId). ((network.edges e.0).wire_on wire.0 && is_up_with ((network.edges e.0).peering k.0))
      && (tells_status (method_by (offer_of row (network.edges e.0).me.0).status (status_held ((network.edges e.0).ends wire.0 k.0).remote)) || nat_eq ((network.edges e.0).bits wire.0) 0)) peer_is
      ∙ ap (λ (m : EdgeId). ((network.edges e.0).wire_on wire.0 && is_up_with ((network.edges e.0).peering n.0))
      && (tells_status (method_by (offer_of row m.0).status (status_held ((network.edges e.0).ends wire.0 n.0).remote)) || nat_eq ((network.edges e.0).bits wire.0) 0)) me_is))))

  -- it tells something, where its wire is on, it is connected, and it has no failure bits
  pub tells : HasLabel network wire e.0 n.0 → BothStand network e.0 n.0 → (network.edges e.0).wire_on wire.0 ≡ true → is_up_with ((network.edges e.0).peering n.0) ≡ true
      → nat_eq ((network.edges e.0).bits wire.0) 0 ≡ true → HasTold network wire e.0 n.0
  tells labels both on up clear = by ((network.edges e.0).ends wire.0 n.0).local refl where
    wanted : is_some (wish plan (network.edges e.0) place) ≡ true
    wanted = wish_is ∙ (rw (on, up, clear) (either Methodical)) where
      either : (b : Bool) → b || true ≡ true
      either true = refl
      either false = refl

    idle : ((network.edges e.0).ends wire.0 n.0).local ≡ Idle false → false ≡ true
    idle at = rw (ap (λ (s : EndState). s.local) same ∙ at, wanted, labels (ap is_idle at)) at (mended_here plan network service has wire row is ours e n joined)

    by : (local : LocalPart) → ((network.edges e.0).ends wire.0 n.0).local ≡ local → HasTold network wire e.0 n.0
    by (Idle true) at = absurd (undeclined plan network service has wire row is ours e.0 n.0 joined both at)
    by (Idle false) at = clash (idle at)
    by (Advertised label content) at = record { label = label; content = content; is = at }
    by (Withdrawing label) at = clash (sym (agreed plan network service has wire row is ours e.0 n.0 joined both).one_waits_not ∙ ap is_withdrawing at)

  -- ---- what it tells

  module _ (label : ℕ) (content : Told) (told : ((network.edges e.0).ends wire.0 n.0).local ≡ Advertised label content) where
    status_now : status_to_tell plan (network.edges e.0) place ≡ combined ((network.edges e.0).bits wire.0) (is_not_chosen role)
    status_now =
        ap (λ (t : Bool). cond t (own_status plan (network.edges e.0) place) (passed_status (held_beyond plan (network.edges e.0) place))) at_end
        ∙ (ap (λ (w : WireId). combined ((network.edges e.0).bits w.0) (is_not_chosen (role_in (wire_row plan place.wire) (network.edges e.0).me (network.edges e.0).chosen place.wire))) wire_is
        ∙ ap (λ (r : EndRole). combined ((network.edges e.0).bits wire.0) (is_not_chosen r)) role_is)

    -- its status is that of its failure bits, and of standing by where it is a spoke that was not chosen
    pub status_of : IsStatusOf ((network.edges e.0).bits wire.0) (is_not_chosen role) content.status
    status_of status has_status =
        let here : nat_eq status.0 (status_to_tell plan (network.edges e.0) place).0 ≡ true =
        rw (local_is plan network service has wire row is ours e n joined label content told, has_status) at (status_here plan network service has wire row is ours e n joined) in
        ap (λ (k : ℕ). record { 0 = k }) (eqb-true status.0 (status_to_tell plan (network.edges e.0) place).0 here) ∙ status_now

    -- it has no failure bits, where it tells none
    pub clear_where_whole : fails_in content.status ≡ false → nat_eq ((network.edges e.0).bits wire.0) 0 ≡ true
    clear_where_whole whole = by content.status refl whole where
      offered : (expected plan row e.0 n.0).offer ≡ offer_of row e.0
      offered = (tells_own_offer plan row e n (row_is plan network service has wire row is ours).once joined terminal).offer

      carries : is_some content.status ≡ (offer_of row e.0).status
      carries = (tells_expected plan network service has wire row is ours e.0 n.0 joined label content told).carries ∙ ap (λ (o : Offer). o.status) offered

      unmethodical : (offer_of row e.0).status ≡ false → Methodical ≡ false
      unmethodical none = rw none refl

      by : (status : Option PwStatus) → content.status ≡ status → fails_in status ≡ false → nat_eq ((network.edges e.0).bits wire.0) 0 ≡ true
      by None at whole =
          let all : ((network.edges e.0).wire_on wire.0 && is_up_with ((network.edges e.0).peering n.0)) && (Methodical || nat_eq ((network.edges e.0).bits wire.0) 0) ≡ true =
          sym wish_is ∙ wished plan network service has wire row is ours e n joined label content told in
          let some : Methodical || nat_eq ((network.edges e.0).bits wire.0) 0 ≡ true =
          second_holds ((network.edges e.0).wire_on wire.0 && is_up_with ((network.edges e.0).peering n.0)) (Methodical || nat_eq ((network.edges e.0).bits wire.0) 0) all in
          rw (unmethodical (sym carries ∙ ap is_some at)) at some
      by (Some status) at whole =
          whole_clear ((network.edges e.0).bits wire.0) (is_not_chosen role) status ((has.ordered.sound e.0).bits wire.0) (status_of status at) whole

  -- ---- whether it forwards

  -- the terminal end of the wire is this one
  record IsHere : Type 0 where
    found : EndPlace
    is_found : wire_end plan e wire ≡ Some found
    found_wire : found.wire ≡ wire
    found_peer : found.peer ≡ n

  here : IsHere
  here =
      let some : list_any (is_end_of_wire wire) (end_places plan e) ≡ true =
      found_is_any (is_named n row.pw_id) (is_end_of_wire wire) (end_places plan e) place (named plan network service has wire row is ours e n joined).named
      (rw (eq-eqb place.wire.0 wire.0 (ap (λ (w : WireId). w.0) wire_is), at_end) refl) in
      let finds : Finds (is_end_of_wire wire) (end_places plan e) = find_some (is_end_of_wire wire) (end_places plan e) some in
      let one : IsFound (IsEndOf plan e) (is_end_of_wire wire) finds.place = find_holds (IsEndOf plan e) (is_end_of_wire wire) (end_places plan e) finds.place (places_are plan e) finds.is in
      let at : finds.place.wire ≡ wire = ap (λ (k : ℕ). record { 0 = k }) (eqb-true finds.place.wire.0 wire.0 (first_holds (nat_eq finds.place.wire.0 wire.0) finds.place.terminal one.passes)) in
      let rows : one.holds.row ≡ row = same_row one.holds.row row (sym one.holds.is ∙ (ap (wire_row plan) at ∙ is)) in
      record {
        found = finds.place;
        is_found = finds.is;
        found_wire = at;
        found_peer = ap (λ (k : ℕ). record { 0 = k }) (one_neighbour row.path e.0 finds.place.peer.0 n.0 (row_is plan network service has wire row is ours).once terminal
            (ap (λ (r : WirePlan). joins e.0 finds.place.peer.0 r.path) (sym rows) ∙ one.holds.joined) joined);
      }

  pub forwards_is : end_forwards plan (network.edges e.0) wire ≡ is_up (down role ((network.edges e.0).bits wire.0) ((network.edges e.0).ends wire.0 n.0))
  forwards_is =
      ap (forwards_at plan (network.edges e.0)) (ap (λ (m : EdgeId). wire_end plan m wire) me_is ∙ here.is_found)
      ∙ ap is_up (ap (λ (w : WireId). down (role_in (wire_row plan w) (network.edges e.0).me (network.edges e.0).chosen w) ((network.edges e.0).bits w.0) ((network.edges e.0).ends w.0 here.found.peer.0)) here.found_wire
      ∙ (ap (λ (k : EdgeId). down (role_in (wire_row plan wire) (network.edges e.0).me (network.edges e.0).chosen wire) ((network.edges e.0).bits wire.0) ((network.edges e.0).ends wire.0 k.0)) here.found_peer
      ∙ (ap (λ (o : Option WirePlan). down (role_in o (network.edges e.0).me (network.edges e.0).chosen wire) ((network.edges e.0).bits wire.0) ((network.edges e.0).ends wire.0 n.0)) is
      ∙ ap (λ (m : EdgeId). down (end_role_of row m (is_chosen (network.edges e.0).chosen wire row)) ((network.edges e.0).bits wire.0) ((network.edges e.0).ends wire.0 n.0)) me_is)))

  -- it does where what it tells fits what it is told
  pub forwards : {mine theirs : Option PwStatus} (own : TellsWith network wire mine e.0 n.0) (far : TellsWith network wire theirs n.0 e.0)
      → Fits role ((network.edges e.0).bits wire.0) own.content far.content → end_forwards plan (network.edges e.0) wire ≡ true
  forwards own far fits =
      let held = holds plan network service has wire row is ours e.0 n.0 joined far in
      forwards_is ∙ ap is_up (ap (down role ((network.edges e.0).bits wire.0)) (λ i. record { local = own.is i; remote = held i })
      ∙ fits_up role ((network.edges e.0).bits wire.0) own.label own.content (record { label = far.label; told = far.content }) fits)
