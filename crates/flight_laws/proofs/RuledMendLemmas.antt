-- Mending keeps the rules of labels and of told contents.
use Rattle.std.proofs.Common.{◌≡◌, ◌≤◌, ◌<◌, ◌^◌, ◌==◌, ◌&&◌, ◌||◌, ◌∙◌, ℕ, Bool, true, false, cond, map, nat_eq, List, [], ◌∷◌, Option, Some, None, refl, sym, ap, subst, arith}
use Rattle.std.proofs.lemmas.List.{length-map}
use Rattle.std.specs.List.{AllByRecursion}
use Rattle.net_base.specs.declared.plan.Plan.{Plan}
use Rattle.net_base.specs.declared.plan.offer.Offer.{Offer}
use Rattle.net_base.specs.declared.plan.places.EdgeId.{EdgeId}
use Rattle.net_base.specs.declared.plan.places.WireId.{WireId}
use Rattle.net_base.specs.declared.plan.wire_plan.WirePlan.{WirePlan}
use Rattle.net_base.specs.declared.trace.down.Down.{Down}
use Rattle.net_values.specs.declared.mac.Mac.{Mac}
use Rattle.net_base.specs.plan.Accepted.{IsChecked, IsOffer, IsWireOf}
use Rattle.net_base.specs.plan.Paths.{edge_address, expected, follows, joins, mate_on, offer_of, points_on, way_from}
use Rattle.net_base.proofs.PathLemmas.{joins_turned, mate_back, mate_joined, place_of}
use Rattle.net_base.specs.plan.Places.{wire_row}
use Rattle.net_base.proofs.CommonLemmas.{same_row}
use Rattle.net_values.specs.Label.{IsLabel}
use Rattle.net_values.proofs.NumberLemmas.{same_number, below_32_bits}
use Rattle.net_values.proofs.RowLemmas.{row_holds}
use Rattle.label_space.specs.Labels.{next_after, numbers_end}
use Rattle.label_space.proofs.LawLemmas.{after_within}
use Rattle.pw_tlvs.specs.declared.pw_status.PwStatus.{PwStatus}
use Rattle.pw_tlvs.specs.Written.{IsPointInRange}
use Rattle.ldp_grammar.specs.Written.{IsState, point_tlvs}
use Rattle.pw_status.specs.Status.{method_by}
use Rattle.pw_signalling.specs.declared.binding.Binding.{Binding}
use Rattle.pw_signalling.specs.declared.told.Told.{Told}
use Rattle.pw_signalling.specs.End.{EndState, Idle, Advertised}
use Rattle.pw_signalling.specs.Rows.{advertised, telling, withdrawn}
use Rattle.pw_messages.specs.Content.{content_of, mac_withdrawal, mapping, status_notification, withdrawal}
use Rattle.pw_stitch.specs.Passing.{own_point, passed_status, wanted}
use Rattle.spoke_redundancy.specs.Telling.{is_not_chosen}
use Rattle.edge_model.specs.Across.{held_from, held_of, mate_of}
use Rattle.edge_model.specs.declared.effect.Effect.TheVariants.{Wire}
use Rattle.edge_model.specs.declared.end_place.EndPlace.{EndPlace}
use Rattle.edge_model.specs.EndPlaces.{end_named}
use Rattle.edge_model.specs.Labels.{label_to_give}
use Rattle.edge_model.specs.Mend.{advertising, is_up_with, passed_from, passed_wish, status_held, status_offered, telling_status, tells_status, terminal_wish, wish, wish_by, wish_of, withdrawing}
use Rattle.edge_model.specs.Role.{role_at, status_to_tell}
use Rattle.edge_model.specs.Session.{says}
use Rattle.edge_model.specs.State.{EdgeState, end_at, with_end, with_next_label, with_told_down, with_kept}
use Rattle.edge_model.specs.Work.{Work, changes, gives}
use Rattle.network_model.specs.Absorb.{taken_all}
use Rattle.flight_laws.specs.Ends.{AreFieldOffers, HasTypes, IsFieldOffer, ends_at}
use Rattle.flight_laws.specs.Messages.{HaveOctets}
use Rattle.flight_laws.specs.Rules.{BindsGiven, FarTells, MayName, NearTells, TellsExpected, part_owns, point_of}
use Rattle.flight_laws.specs.Sound.{CanBeMapped, IsSoundTold}
use Rattle.network_model.proofs.PointLemmas.{points_three}
use Rattle.network_model.proofs.WayLemmas.{joins_is}
use Rattle.flight_laws.proofs.AcceptLemmas.{wanted_tells}
use Rattle.flight_laws.proofs.KeepLemmas.{KeepsEnds}
use Rattle.flight_laws.proofs.MendingLemmas.{KeptByRows}
use Rattle.flight_laws.proofs.MentionLemmas.{clearance_far, clearance_own, mapping_far, mapping_names, status_far, status_own, withdrawal_far, withdrawal_names}
use Rattle.flight_laws.proofs.NameLemmas.{IsToGive, advertised_next, end_fact, given_below, given_least, names_advertising, names_new, names_telling, names_withdrawing, to_give}
use Rattle.flight_laws.proofs.OfferLemmas.{IsOfWires, clearance_is, content_can, mapping_sound, offer_sound, own_in_range, own_octets, status_is, withdrawal_is}
use Rattle.flight_laws.proofs.PieceLemmas.{IsPiece}
use Rattle.flight_laws.proofs.PlaceLemmas.{IsEndOf, NamedEnd, end_of}
use Rattle.flight_laws.proofs.RuledLemmas.{ChangesEnds, IsQuietStep, IsRuled, WorksRuled, changes_keep, quiet_keeps}
use Rattle.flight_laws.proofs.RuledSessionLemmas.{SaysNothing, gives_quiet, says_ruled}
use Rattle.flight_laws.proofs.SaidLemmas.{ready}
use Rattle.flight_laws.proofs.SteadyLemmas.{edge_address_is, stated_small, small_status}
use Rattle.flight_laws.proofs.TellLemmas.{TellsOwnOffer, tells_own_offer}
use Rattle.flight_laws.proofs.ToldLemmas.{HeldFits, TellsAt, TellsOwn, clearance_tells, has_status, local_tells, mapping_tells, near_advertised, near_told, near_withdrawn, notification_tells, offer_tells, withdrawal_tells}
use Rattle.flight_laws.proofs.WorksLemmas.{changed_edge}

-- ---- what an end should tell

pub status_small : (plan : Plan) (edge : EdgeState) (me : ℕ) (place : EndPlace) → edge.bits place.wire.0 ≤ 31 → TellsOwn plan me edge → (status_to_tell plan edge place).0 < 2 ^ 32
status_small plan edge me place low tells = by_side place.terminal (small_status (edge.bits place.wire.0) (is_not_chosen (role_at plan edge place)) low) (across (mate_of edge.me place (wire_row plan place.wire))) where
  of_held : (held : Option Binding) → HeldFits held → (passed_status held).0 < 2 ^ 32
  of_held None fits = omega arith
  of_held (Some binding) fits = stated_small binding.told.status fits.1

  across : (from : Option EdgeId) → (passed_status (held_from (held_of edge place.wire) from)).0 < 2 ^ 32
  across None = omega arith
  across (Some from) = of_held (edge.ends place.wire.0 from.0).remote (tells place.wire.0 from.0).held

  by_side : (b : Bool) {one passed : PwStatus} → one.0 < 2 ^ 32 → passed.0 < 2 ^ 32 → (cond b one passed).0 < 2 ^ 32
  by_side true one passed = one
  by_side false one passed = passed

-- ---- what can be written

one_of : (b : Bool) (x y : Offer) (Q : Offer → Type 0) → Q x → Q y → Q (cond b x y)
one_of true x y Q p q = p
one_of false x y Q p q = q

pub offer_fits : (plan : Plan) (wire : WireId) (row : WirePlan) → HasTypes plan → wire_row plan wire ≡ Some row → AreFieldOffers row
offer_fits plan wire row types is = row_holds AreFieldOffers plan.wires wire.0 row is types.offers

pub wire_fits : (plan : Plan) (wire : WireId) (row : WirePlan) → IsChecked plan → wire_row plan wire ≡ Some row → IsWireOf plan row
wire_fits plan wire row checked is = row_holds (IsWireOf plan) plan.wires wire.0 row is checked.wires

pub pw_id_fits : (plan : Plan) (wire : WireId) (row : WirePlan) → IsChecked plan → wire_row plan wire ≡ Some row → row.pw_id < 2 ^ 32
pw_id_fits plan wire row checked is = below_32_bits row.pw_id (wire_fits plan wire row checked is).pw_id.1

-- what the plan has an edge tell can be told
pub told_can : (plan : Plan) (wire : WireId) (row : WirePlan) (from to label : ℕ) (told : Told) → HasTypes plan → wire_row plan wire ≡ Some row → TellsExpected plan row from to told
    → IsLabel label → CanBeMapped label told
told_can plan wire row from to label told types is tells label_is =
    let field : IsFieldOffer (expected plan row from to).offer =
    one_of (follows row.path from to) row.near row.far IsFieldOffer (offer_fits plan wire row types is).near (offer_fits plan wire row types is).far in
    let can : CanBeMapped label (content_of (expected plan row from to).offer told.status) = content_can label (expected plan row from to).offer told.status label_is field in
    record {
      is_label = label_is;
      kind = subst (λ (k : ℕ). k ≤ 0x7FFF) (sym (ap (λ (t : Told). t.kind) tells.content)) can.kind;
      group = subst (λ (k : ℕ). k < 2 ^ 32) (sym (ap (λ (t : Told). t.group) tells.content)) can.group;
    }

-- the points that are expected fit
points_fit : (plan : Plan) (row : WirePlan) → HasTypes plan → row.pw_id < 2 ^ 32 → (way : List EdgeId) → AllByRecursion IsPointInRange (map point_of (points_on plan row way))
    × HaveOctets (point_tlvs (map point_of (points_on plan row way)))
points_fit plan row types small [] = (tt, tt)
points_fit plan row types small (last ∷ []) = (tt, tt)
points_fit plan row types small (before ∷ point ∷ rest) =
    let later = points_fit plan row types small (point ∷ rest) in
    let near = edge_address_is plan point types in
    let far = edge_address_is plan before types in (
      (own_in_range row.pw_id (edge_address plan point) (edge_address plan before) small near far, later.0),
      (own_octets row.pw_id (edge_address plan point) (edge_address plan before) near far, later.1),
    )

-- what the plan has an edge tell is a content of a Label Mapping
pub told_sound : (plan : Plan) (wire : WireId) (row : WirePlan) (from to : ℕ) (told : Told) → IsChecked plan → HasTypes plan → wire_row plan wire ≡ Some row → joins from to row.path
    ≡ true → TellsExpected plan row from to told → IsState told.status
    → IsSoundTold 3 told
told_sound plan wire row from to told checked types is joined tells state =
    let fit : IsWireOf plan row = wire_fits plan wire row checked is in
    let base : IsSoundTold 3 (content_of (expected plan row from to).offer told.status) =
    offer_sound 3 (expected plan row from to).offer told.status state
    (one_of (follows row.path from to) row.near row.far IsFieldOffer (offer_fits plan wire row types is).near (offer_fits plan wire row types is).far)
    (one_of (follows row.path from to) row.near row.far IsOffer fit.near fit.far) in
    let points = points_fit plan row types (pw_id_fits plan wire row checked is) (way_from row.path from to) in
    subst (IsSoundTold 3) (sym tells.content) (record {
      kind = base.kind;
      group = base.group;
      mtu = base.mtu;
      description = base.description;
      vlan = base.vlan;
      octets = base.octets;
      status = base.status;
      few = subst (λ (n : ℕ). n ≤ 3) (sym (length-map (expected plan row from to).points point_of)) (points_three plan row from to fit.once fit.most (sym (joins_is row.path from to) ∙ joined));
      points = points.0;
      point_octets = points.1;
    })

label_below : (n : ℕ) → n < numbers_end → n ≤ 1048575
label_below n low = omega (arith, low)

pub label_below_next : (label next : ℕ) → label < next → next ≤ numbers_end → label ≤ 1048575
label_below_next label next low most = omega (arith, low, most)

given_label : (label next : ℕ) → 16 ≤ label → label < next → next ≤ numbers_end → IsLabel label
given_label label next least low most = record { above = least; below = label_below_next label next low most }

-- ---- rows

-- a row is the one of the wire
row_is : (plan : Plan) (wire : WireId) (one other : WirePlan) → wire_row plan wire ≡ Some one → wire_row plan wire ≡ Some other → other ≡ one
row_is plan wire one other is too = same_row (sym too ∙ is)

module _ (plan : Plan) (checked : IsChecked plan) (types : HasTypes plan) (others : ℕ → EdgeState) (me : EdgeId) (first : EdgeState) (held : ℕ → Option (List ℕ)) where
  abbrev At : Work → Type 0
  At work = WorksRuled plan others me.0 first held work

  -- what a named end may be named with, where the edge is at its place
  named_end : (place : EndPlace) (edge : EdgeState) (label : ℕ) → edge.me ≡ me → (end_is : IsEndOf plan me place) → MayName edge place.wire.0 place.peer.0 label
      → (named : NamedEnd plan me place.peer place.wire end_is.row) → MayName edge named.place.wire.0 place.peer.0 label
  named_end place edge label at end_is may named = subst (λ (w : WireId). MayName edge w.0 place.peer.0 label) (sym named.wire_is) may

  name_is : (place : EndPlace) (edge : EdgeState) → edge.me ≡ me → (end_is : IsEndOf plan me place) → (named : NamedEnd plan me place.peer place.wire end_is.row)
      → end_named plan edge.me (record { 0 = place.peer.0 }) place.pw_id ≡ Some named.place
  name_is place edge at end_is named = ap (λ (k : EdgeId). end_named plan k place.peer place.pw_id) at ∙ (ap (λ (n : ℕ). end_named plan me place.peer n) end_is.pw_id ∙ named.named)

  -- an end tells what it wishes: a terminal end its own offer, and another one what it holds on its other side
  abbrev WishTells : EndPlace → WirePlan → Told → Type 0
  WishTells place row content = TellsExpected plan row me.0 place.peer.0 content × IsState content.status

  offer_wished : (place : EndPlace) (edge : EdgeState) (content : Told) → edge.me ≡ me → edge.bits place.wire.0 ≤ 31 → TellsOwn plan me.0 edge → (end_is : IsEndOf plan me place)
      → place.terminal ≡ true
      → terminal_wish plan edge place (offer_of end_is.row edge.me.0) ≡ Some content → WishTells place end_is.row content
  offer_wished place edge content at low tells end_is terminal wished =
      by_method (tells_status (method_by (offer_of end_is.row edge.me.0).status (status_held (end_at edge place).remote)) || edge.bits place.wire.0 == 0) wished
    where
      own : TellsOwnOffer plan end_is.row me.0 place.peer.0
      own = tells_own_offer plan end_is.row me place.peer (wire_fits plan place.wire end_is.row checked end_is.is).once end_is.joined (sym end_is.terminal ∙ terminal)

      same : {a b : Told} → Some a ≡ Some b → a ≡ b
      same e = cc

      offered : (carries : Bool) → (offer_of end_is.row me.0).status ≡ carries → (status : PwStatus) → status.0 < 2 ^ 32
          → TellsExpected plan end_is.row me.0 place.peer.0 (content_of (offer_of end_is.row me.0) (cond carries (Some status) None)) × IsState (cond carries (Some status) None)
      offered true has status small = (offer_tells plan end_is.row me.0 place.peer.0 (Some status) own (sym has), small)
      offered false has status small = (offer_tells plan end_is.row me.0 place.peer.0 None own (sym has), tt)

      by_method : (told : Bool) → cond told (Some (content_of (offer_of end_is.row edge.me.0) (status_offered plan edge place (offer_of end_is.row edge.me.0)))) None ≡ Some content
          → TellsExpected plan end_is.row me.0 place.peer.0 content × IsState content.status
      by_method true e =
          subst (λ (c : Told). TellsExpected plan end_is.row me.0 place.peer.0 c × IsState c.status)
          (ap (λ (k : EdgeId). content_of (offer_of end_is.row k.0) (status_offered plan edge place (offer_of end_is.row k.0))) (sym at) ∙ same e)
          (offered (offer_of end_is.row me.0).status refl (status_to_tell plan edge place) (status_small plan edge me.0 place low tells))
      by_method false e = absurd (cc)

  -- the neighbour on the other side of an end is the one from which it has what it passes on
  passed_back : (place : EndPlace) (end_is : IsEndOf plan me place) (from : EdgeId) → mate_on end_is.row.path me.0 place.peer.0 ≡ Some from → mate_on end_is.row.path me.0 from.0 ≡ Some place.peer
  passed_back place end_is from is = placed_at (mate_on end_is.row.path me.0 from.0) (mate_back end_is.row.path me.0 place.peer.0 from (wire_fits plan place.wire end_is.row checked end_is.is).once is) where
    placed_at : (o : Option EdgeId) → place_of o ≡ Some place.peer.0 → o ≡ Some place.peer
    placed_at None e = absurd (cc)
    placed_at (Some edge) e = ap (λ (k : EdgeId). Some k) (ap (λ (n : ℕ). record { 0 = n }) (number e)) where
      number : {m n : ℕ} → Some m ≡ Some n → m ≡ n
      number e = cc

  passed_wished : (place : EndPlace) (edge : EdgeState) (content : Told) → edge.me ≡ me → TellsOwn plan me.0 edge → (end_is : IsEndOf plan me place)
      → passed_wish plan edge place end_is.row ≡ Some content → WishTells place end_is.row content
  passed_wished place edge content at tells end_is wished =
      by_mate (mate_on end_is.row.path me.0 place.peer.0) refl
      (ap (λ (k : EdgeId). passed_from plan end_is.row k (held_of edge place.wire) (mate_on end_is.row.path k.0 place.peer.0)) (sym at) ∙ wished)
    where
      same : {a b : Told} → Some a ≡ Some b → a ≡ b
      same e = cc

      by_held : (from : EdgeId) → mate_on end_is.row.path me.0 place.peer.0 ≡ Some from → (held : Option Binding) → (edge.ends place.wire.0 from.0).remote ≡ held
          → wanted (own_point end_is.row.pw_id (edge_address plan me) (edge_address plan from)) held ≡ Some content → TellsExpected plan end_is.row me.0 place.peer.0 content × IsState content.status
      by_held from mated None there e = absurd (cc)
      by_held from mated (Some binding) there e =
          let far : FarTells plan end_is.row from.0 me.0 (edge.ends place.wire.0 from.0).remote =
          (tells place.wire.0 from.0).far end_is.row end_is.is (sym (joins_turned end_is.row.path me.0 from.0) ∙ mate_joined end_is.row.path me.0 place.peer.0 from mated) in
          subst (λ (c : Told). TellsExpected plan end_is.row me.0 place.peer.0 c × IsState c.status) (same e) (
            wanted_tells plan end_is.row me from place.peer binding.told (wire_fits plan place.wire end_is.row checked end_is.is).once (passed_back place end_is from mated)
                (subst (FarTells plan end_is.row from.0 me.0) there far),
            (subst HeldFits there (tells place.wire.0 from.0).held).1,
          )

      by_mate : (from : Option EdgeId) → mate_on end_is.row.path me.0 place.peer.0 ≡ from → passed_from plan end_is.row me (held_of edge place.wire) from ≡ Some content
          → TellsExpected plan end_is.row me.0 place.peer.0 content × IsState content.status
      by_mate None mated e = absurd (cc)
      by_mate (Some from) mated e = by_held from mated (edge.ends place.wire.0 from.0).remote refl e

  wish_tells : (place : EndPlace) (edge : EdgeState) (content : Told) → edge.me ≡ me → edge.bits place.wire.0 ≤ 31 → TellsOwn plan me.0 edge → (end_is : IsEndOf plan me place)
      → wish plan edge place ≡ Some content
      → WishTells place end_is.row content
  wish_tells place edge content at low tells end_is wished =
      by_gate (edge.wire_on place.wire.0 && is_up_with (edge.peering place.peer.0)) (ap (wish_of plan edge place) (sym end_is.is) ∙ wished)
    where
      by_side : (terminal : Bool) → place.terminal ≡ terminal → cond terminal (terminal_wish plan edge place (offer_of end_is.row edge.me.0)) (passed_wish plan edge place end_is.row) ≡ Some content
          → TellsExpected plan end_is.row me.0 place.peer.0 content × IsState content.status
      by_side true terminal e = offer_wished place edge content at low tells end_is terminal e
      by_side false passes e = passed_wished place edge content at tells end_is e

      by_gate : (open_now : Bool) → cond open_now (wish_by plan edge place end_is.row) None ≡ Some content → TellsExpected plan end_is.row me.0 place.peer.0 content × IsState content.status
      by_gate true e = by_side place.terminal refl e
      by_gate false e = absurd (cc)

  -- the edge with the advertisement
  advertising_changes : (place : EndPlace) (label : ℕ) (content : Told) (work : Work) → (end_is : IsEndOf plan me place) → (end_at work.edge place).local ≡ Idle false
      → label_to_give work.edge ≡ Some label
      → TellsExpected plan end_is.row me.0 place.peer.0 content → At work → ChangesEnds plan others me.0 work.edge (advertising place label content work.edge)
  unfolding with_end with_next_label with_kept
  advertising_changes place label content work end_is idle given tells works = record {
    place = refl;
    peering = refl;
    keeps = names_advertising place label content work.edge false idle works.edge.owned works.edge.rests (to_give work.edge label works.edge.rests given);
    most = subst (λ (n : ℕ). n ≤ numbers_end) (sym (advertised_next place label content work.edge)) (after_within work.edge.next_label works.edge.most);
    bits = works.edge.bits;
    tells = λ wire peer. end_fact (λ w k e. TellsAt plan me.0 w k e) place (advertised label content (end_at work.edge place)) work.edge wire peer
        (local_tells plan me.0 place.wire.0 place.peer.0 (end_at work.edge place) (advertised label content (end_at work.edge place)).local
        (λ row is joined near. near_advertised plan row me.0 place.peer.0 label content (end_at work.edge place).local
        (subst (λ (r : WirePlan). TellsExpected plan r me.0 place.peer.0 content) (sym (row_is plan place.wire end_is.row row end_is.is is)) tells) near)
        (works.edge.tells place.wire.0 place.peer.0))
        (works.edge.tells wire peer);
    bound = λ place2 wire away. end_fact (λ w k e. k ≡ place2 → BindsGiven (others place2) w me.0 e.remote) place (advertised label content (end_at work.edge place)) work.edge wire place2
        (λ same. subst (λ (k : ℕ). BindsGiven (others k) place.wire.0 me.0 (end_at work.edge place).remote) same
        ((works.left place.peer.0 (subst (λ (k : ℕ). nat_eq k me.0 ≡ false) (sym same) away)).bound place.wire.0))
        (λ same. (works.left place2 away).bound wire) refl;
  }

  advertises_ruled : (place : EndPlace) (label : ℕ) (content : Told) (work : Work) → IsEndOf plan me place → (end_at work.edge place).local ≡ Idle false → wish plan work.edge place
      ≡ Some content → label_to_give work.edge ≡ Some label
      → At work → At (says taken_all place.peer (mapping place.pw_id label content) (changes (advertising place label content) work)).work
  advertises_ruled place label content work end_is idle wished given works =
      let told : WishTells place end_is.row content = wish_tells place work.edge content works.edge.place (works.edge.bits place.wire.0) works.edge.tells end_is wished in
      let tells : TellsExpected plan end_is.row me.0 place.peer.0 content = told.0 in
      let next : EdgeState = advertising place label content work.edge in
      let give : IsToGive work.edge label = to_give work.edge label works.edge.rests given in
      let new : ChangesEnds plan others me.0 work.edge next = advertising_changes place label content work end_is idle given tells works in
      let after : Work = changes (advertising place label content) work in
      let after_is : after.edge ≡ next = changed_edge (advertising place label content) work in
      let named : NamedEnd plan me place.peer place.wire end_is.row = end_of plan me place.peer place.wire end_is.row checked end_is.is end_is.joined in
      let label_is : IsLabel label =
      given_label label (next_after work.edge.next_label) (given_least 16 work.edge label works.edge.least give) (given_below work.edge label works.edge.rests give)
      (after_within work.edge.next_label works.edge.most) in
      let row_small : place.pw_id < 2 ^ 32 = subst (λ (n : ℕ). n < 2 ^ 32) (sym end_is.pw_id) (pw_id_fits plan place.wire end_is.row checked end_is.is) in
      let sayable : IsOfWires (mapping place.pw_id label content) =
      mapping_sound place.pw_id label content row_small label_is (told_sound plan place.wire end_is.row me.0 place.peer.0 content checked types end_is.is end_is.joined tells told.1) in
      says_ruled plan others me.0 first held place.peer (mapping place.pw_id label content) after
      (λ id low fit away. subst (λ (e : EdgeState). IsRuled plan me.0 place.peer.0 e (others place.peer.0) (mapping place.pw_id label content id)) (sym after_is) (record {
        fit = fit;
        ready = ready (ends_at plan me.0 place.peer.0) (mapping place.pw_id label content id) fit (sayable.said (ends_at plan me.0 place.peer.0) id low);
        own = mapping_names plan next place.peer.0 named.place place.pw_id label content id (name_is place next (new.place ∙ works.edge.place) end_is named)
            (named_end place next label (new.place ∙ works.edge.place) end_is (names_new place label content work.edge false idle works.edge.owned works.edge.rests give) named);
        far = mapping_far plan (others place.peer.0) me.0 place.pw_id label content id;
        tells = mapping_tells plan place.wire end_is.row me.0 place.peer.0 place.pw_id work.edge.next_label id content end_is.is end_is.joined end_is.pw_id tells;
      }))
      (changes_keep plan others me.0 first held (advertising place label content) work new works)

  -- what an end has told
  near_is : (place : EndPlace) (label : ℕ) (content : Told) (work : Work) → (end_is : IsEndOf plan me place) → (end_at work.edge place).local ≡ Advertised label content → At work
      → TellsExpected plan end_is.row me.0 place.peer.0 content
  near_is place label content work end_is at works = subst (NearTells plan end_is.row me.0 place.peer.0) at ((works.edge.tells place.wire.0 place.peer.0).near end_is.row end_is.is end_is.joined)

  -- its label is its own, and one
  owned_is : (place : EndPlace) (label : ℕ) (content : Told) (work : Work) → (end_at work.edge place).local ≡ Advertised label content → part_owns (end_at work.edge place).local label ≡ true
  owned_is place label content work at = rw at (same_number label)

  label_is : (place : EndPlace) (label : ℕ) (content : Told) (work : Work) → (end_at work.edge place).local ≡ Advertised label content → At work → IsLabel label
  label_is place label content work at works =
      let own : part_owns (end_at work.edge place).local label ≡ true = owned_is place label content work at in
      record {
        above = works.edge.least.owned place.wire.0 place.peer.0 label own;
        below = label_below_next label work.edge.next_label (works.edge.owned place.wire.0 place.peer.0 label own).below works.edge.most;
      }

  -- one end is another, which owns no more, tells what is planned, and holds the same
  end_changes : (place : EndPlace) (end : EndState) (edge : EdgeState) → Rattle.flight_laws.proofs.NameLemmas.KeepsNames edge (with_end place end edge) → end.remote
      ≡ (end_at edge place).remote → TellsAt plan me.0 place.wire.0 place.peer.0 end
      → (work : Work) → work.edge ≡ edge → At work → ChangesEnds plan others me.0 edge (with_end place end edge)
  unfolding with_end with_kept
  end_changes place end edge keeps remote tells work is works = record {
    place = refl;
    peering = refl;
    keeps = keeps;
    most = subst (λ (e : EdgeState). e.next_label ≤ numbers_end) is works.edge.most;
    bits = λ wire. subst (λ (e : EdgeState). e.bits wire ≤ 31) is (works.edge.bits wire);
    tells = λ wire peer. end_fact (λ w k e. TellsAt plan me.0 w k e) place end edge wire peer tells
        (subst (λ (e : EdgeState). TellsAt plan me.0 wire peer (e.ends wire peer)) is (works.edge.tells wire peer));
    bound = λ place2 wire away. end_fact (λ w k e. k ≡ place2 → BindsGiven (others place2) w me.0 e.remote) place end edge wire place2
        (λ same. subst (BindsGiven (others place2) place.wire.0 me.0) (sym remote)
        (subst (λ (k : ℕ). BindsGiven (others k) place.wire.0 me.0 (end_at edge place).remote) same
        (subst (λ (e : EdgeState). BindsGiven (others place.peer.0) place.wire.0 me.0 (end_at e place).remote) is
        ((works.left place.peer.0 (subst (λ (k : ℕ). nat_eq k me.0 ≡ false) (sym same) away)).bound place.wire.0))))
        (λ same. subst (λ (e : EdgeState). BindsGiven (others place2) wire me.0 (e.ends wire place2).remote) is ((works.left place2 away).bound wire)) refl;
  }

  withdraws_ruled : (place : EndPlace) (label : ℕ) (content : Told) (work : Work) → IsEndOf plan me place → (end_at work.edge place).local ≡ Advertised label content → At work
      → At (says taken_all place.peer (withdrawal place.pw_id label content) (changes (withdrawing place) work)).work
  withdraws_ruled place label content work end_is at works =
      let tells : TellsExpected plan end_is.row me.0 place.peer.0 content = near_is place label content work end_is at works in
      let new : ChangesEnds plan others me.0 work.edge (withdrawing place work.edge) =
      end_changes place (withdrawn (end_at work.edge place)) work.edge (names_withdrawing place work.edge) refl
      (local_tells plan me.0 place.wire.0 place.peer.0 (end_at work.edge place) (withdrawn (end_at work.edge place)).local
      (λ row is joined near. near_withdrawn plan row me.0 place.peer.0 (end_at work.edge place).local near) (works.edge.tells place.wire.0 place.peer.0))
      work refl works in
      let after : Work = changes (withdrawing place) work in
      let named : NamedEnd plan me place.peer place.wire end_is.row = end_of plan me place.peer place.wire end_is.row checked end_is.is end_is.joined in
      let row_small : place.pw_id < 2 ^ 32 = subst (λ (n : ℕ). n < 2 ^ 32) (sym end_is.pw_id) (pw_id_fits plan place.wire end_is.row checked end_is.is) in
      let sayable : IsOfWires (withdrawal place.pw_id label content) =
      withdrawal_is place.pw_id label content row_small (told_can plan place.wire end_is.row me.0 place.peer.0 label content types end_is.is tells (label_is place label content work at works)) in
      says_ruled plan others me.0 first held place.peer (withdrawal place.pw_id label content) after
      (λ id low fit away. subst (λ (e : EdgeState). IsRuled plan me.0 place.peer.0 e (others place.peer.0) (withdrawal place.pw_id label content id))
      (sym (changed_edge (withdrawing place) work)) (record {
        fit = fit;
        ready = ready (ends_at plan me.0 place.peer.0) (withdrawal place.pw_id label content id) fit (sayable.said (ends_at plan me.0 place.peer.0) id low);
        own = withdrawal_names plan (withdrawing place work.edge) place.peer.0 named.place place.pw_id label content id
            (name_is place (withdrawing place work.edge) (new.place ∙ works.edge.place) end_is named)
            (named_end place (withdrawing place work.edge) label (new.place ∙ works.edge.place) end_is
            (new.keeps.names place.wire.0 place.peer.0 label None (works.edge.owned place.wire.0 place.peer.0 label (owned_is place label content work at))) named);
        far = withdrawal_far plan (others place.peer.0) me.0 place.pw_id label content id;
        tells = withdrawal_tells plan place.wire end_is.row me.0 place.peer.0 place.pw_id label id content end_is.is end_is.joined end_is.pw_id tells;
      }))
      (changes_keep plan others me.0 first held (withdrawing place) work new works)

  tells_ruled : (place : EndPlace) (label : ℕ) (content : Told) (last status : PwStatus) (work : Work) → IsEndOf plan me place → (end_at work.edge place).local
      ≡ Advertised label content → content.status ≡ Some last → status.0 < 2 ^ 32 → At work
      → At (says taken_all place.peer (status_notification place.pw_id status content) (changes (telling_status place status) work)).work
  tells_ruled place label content last status work end_is at told small works =
      let tells : TellsExpected plan end_is.row me.0 place.peer.0 content = near_is place label content work end_is at works in
      let carries : (expected plan end_is.row me.0 place.peer.0).offer.status ≡ true = has_status plan end_is.row me.0 place.peer.0 content last tells told in
      let new : ChangesEnds plan others me.0 work.edge (telling_status place status work.edge) =
      end_changes place (telling status (end_at work.edge place)) work.edge (names_telling place status work.edge) refl
      (local_tells plan me.0 place.wire.0 place.peer.0 (end_at work.edge place) (telling status (end_at work.edge place)).local
      (λ row is joined near. near_told plan row me.0 place.peer.0 status (end_at work.edge place).local
      (subst (λ (r : WirePlan). (expected plan r me.0 place.peer.0).offer.status ≡ true) (sym (row_is plan place.wire end_is.row row end_is.is is)) carries) near)
      (works.edge.tells place.wire.0 place.peer.0))
      work refl works in
      let after : Work = changes (telling_status place status) work in
      let row_small : place.pw_id < 2 ^ 32 = subst (λ (n : ℕ). n < 2 ^ 32) (sym end_is.pw_id) (pw_id_fits plan place.wire end_is.row checked end_is.is) in
      let sayable : IsOfWires (status_notification place.pw_id status content) =
      status_is place.pw_id label status content row_small small
      (told_can plan place.wire end_is.row me.0 place.peer.0 label content types end_is.is tells (label_is place label content work at works)) in
      says_ruled plan others me.0 first held place.peer (status_notification place.pw_id status content) after
      (λ id low fit away. record {
        fit = fit;
        ready = ready (ends_at plan me.0 place.peer.0) (status_notification place.pw_id status content id) fit (sayable.said (ends_at plan me.0 place.peer.0) id low);
        own = status_own plan after.edge place.peer.0 place.pw_id status content id;
        far = status_far plan (others place.peer.0) me.0 place.pw_id status content id;
        tells = notification_tells plan place.wire end_is.row me.0 place.peer.0 place.pw_id id status content end_is.is end_is.joined end_is.pw_id tells carries;
      })
      (changes_keep plan others me.0 first held (telling_status place status) work new works)

  clears_ruled : (place : EndPlace) (label : ℕ) (content : Told) (addresses : List Mac) (work : Work) → IsEndOf plan me place → (end_at work.edge place).local
      ≡ Advertised label content → IsPiece addresses → At work
      → At (says taken_all place.peer (mac_withdrawal place.pw_id addresses content) work).work
  clears_ruled place label content addresses work end_is at piece works =
      let tells : TellsExpected plan end_is.row me.0 place.peer.0 content = near_is place label content work end_is at works in
      let row_small : place.pw_id < 2 ^ 32 = subst (λ (n : ℕ). n < 2 ^ 32) (sym end_is.pw_id) (pw_id_fits plan place.wire end_is.row checked end_is.is) in
      let sayable : IsOfWires (mac_withdrawal place.pw_id addresses content) =
      clearance_is place.pw_id label addresses content row_small piece
      (told_can plan place.wire end_is.row me.0 place.peer.0 label content types end_is.is tells (label_is place label content work at works)) in
      says_ruled plan others me.0 first held place.peer (mac_withdrawal place.pw_id addresses content) work
      (λ id low fit away. record {
        fit = fit;
        ready = ready (ends_at plan me.0 place.peer.0) (mac_withdrawal place.pw_id addresses content id) fit (sayable.said (ends_at plan me.0 place.peer.0) id low);
        own = clearance_own plan work.edge place.peer.0 place.pw_id addresses content id;
        far = clearance_far plan (others place.peer.0) me.0 place.pw_id addresses content id;
        tells = clearance_tells plan place.wire end_is.row me.0 place.peer.0 place.pw_id id addresses content end_is.is end_is.joined end_is.pw_id tells;
      }) works

  wire_nothing : (wire : WireId) (down : Option Down) → SaysNothing (Wire wire down)
  wire_nothing wire down = record { says = λ place. refl; closes = λ place. refl }

  down_quiet : (wire : WireId) (down : Option Down) (work : Work) → IsQuietStep work (changes (with_told_down wire down) work)
  unfolding changes with_told_down
  down_quiet wire down work = record { same = record { me = refl; ends = refl; bits = refl; next = refl; kept = refl }; peering = refl; said = λ place. refl; closed = λ place. refl }

  downs_ruled : (wire : WireId) (down : Option Down) (work : Work) → At work → At (gives (Wire wire down) (changes (with_told_down wire down) work))
  downs_ruled wire down work works =
      quiet_keeps plan others me.0 first held (changes (with_told_down wire down) work) (gives (Wire wire down) (changes (with_told_down wire down) work))
      (gives_quiet (Wire wire down) (changes (with_told_down wire down) work) (wire_nothing wire down))
      (quiet_keeps plan others me.0 first held work (changes (with_told_down wire down) work) (down_quiet wire down work) works)

  change_quiet : (change : EdgeState → EdgeState) (work : Work) → KeepsEnds work.edge (change work.edge) → (change work.edge).peering ≡ work.edge.peering → IsQuietStep work (changes change work)
  unfolding changes
  change_quiet change work keeps peering = record {
    same = record { me = keeps.me; ends = keeps.ends; bits = keeps.bits; next = keeps.next_label; kept = keeps.kept };
    peering = peering;
    said = λ place. refl;
    closed = λ place. refl;
  }

  pub rows_ruled : KeptByRows plan me (WorksRuled plan others me.0 first held)
  rows_ruled = record {
    placed = λ work works. works.edge.place;
    advertises = λ place label content work end_is idle wished given works. advertises_ruled place label content work end_is idle wished given works;
    withdraws = λ place label content work end_is at wished works. withdraws_ruled place label content work end_is at works;
    tells = λ place label content last work end_is at told other works. tells_ruled place label content last (status_to_tell plan work.edge place) work end_is at told
        (status_small plan work.edge me.0 place (works.edge.bits place.wire.0) works.edge.tells) works;
    clears = clears_ruled;
    tells_down = λ place down work end_is works. downs_ruled place.wire down work works;
    others = λ change work keeps peering works. quiet_keeps plan others me.0 first held work (changes change work) (change_quiet change work keeps peering) works;
  }
