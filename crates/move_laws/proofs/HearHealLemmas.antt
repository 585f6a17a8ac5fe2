-- An edge that hears a message of a neighbour goes on to heal.
use Rattle.std.proofs.lemmas.Map.Keys.{any_passes_from_place}
use Rattle.network_model.proofs.WayLemmas.{joins_is, way_kept}
use Rattle.move_laws.proofs.GoesOnLemmas.{mends_go_on}
use Rattle.move_laws.proofs.LastLemmas.{Holds, lasts_same, mends_hold, withdraw_holds}
use Rattle.move_laws.proofs.HearingLemmas.{cleared_next, cleared_where, met_next, met_unbound}
use Rattle.move_laws.proofs.StuckLemmas.{wait_one, stuck_on}
use Rattle.pw_signalling.specs.declared.binding.Binding.{Binding}
use Rattle.pw_signalling.specs.Laws.{own_label}
use Rattle.pw_signalling.specs.End.{EndState}
use Rattle.label_space.specs.declared.kept.Kept.{Kept}
use Rattle.label_space.specs.Labels.{number_to_give, numbers_end}
use Rattle.label_space.specs.Kept.{least_free}
use Rattle.flight_laws.specs.Binding.{is_withdrawing}
use Rattle.flight_laws.specs.Rules.{AllMessages}
use Rattle.flight_laws.specs.Across.{IsMappingTaken}
use Rattle.flight_laws.proofs.AcrossLemmas.{other_side}
use Rattle.flight_laws.proofs.KeepLemmas.{KeepsEnds, happens_keeps}
use Rattle.edge_model.specs.declared.end_place.EndPlace.{EndPlace}
use Rattle.edge_model.specs.Labels.{keeps_lost, keeps_one, label_to_give}
use Rattle.address_laws.specs.Sites.{Sites}
use Rattle.edge_model.proofs.SessionLemmas.{happens_with_ends_works, IsSessionWork}
use Rattle.edge_model.specs.Clear.{hears_mac_withdraw}
use Rattle.edge_model.specs.EndPlaces.{is_terminal}
use Rattle.edge_model.specs.Hear.{acts, acts_on, hears_message, hears_one, was_up}
use Rattle.edge_model.specs.Mend.{mends, is_up_with}
use Rattle.edge_model.specs.Session.{happens_with_ends, clears_ends, happens, losing_ends}
use Rattle.edge_model.specs.State.{has_end, is_there, put_at, EdgeState, Peering, with_ends_beside, with_kept}
use Rattle.edge_model.specs.Work.{Work, changes}
use Rattle.flight_laws.proofs.HearingLemmas.{up_heard}
use Rattle.flight_laws.proofs.NameLemmas.{split}
use Rattle.flight_laws.proofs.PieceLemmas.{heard_are, none_are_piece}
use Rattle.flight_laws.proofs.RuledMendLemmas.{wire_fits}
use Rattle.flight_laws.proofs.WorksLemmas.{event_spares}
use Rattle.flight_laws.specs.Ends.{HasTypes, ends_at}
use Rattle.flight_laws.specs.Facts.{flight}
use Rattle.flight_laws.specs.Meeting.{Spares, said_to}
use Rattle.flight_laws.specs.Messages.{IsSaidAcross}
use Rattle.flight_laws.specs.Sound.{TellsSoundly, point_limit}
use Rattle.hvpls_spokes.specs.Port.{ports_of}
use Rattle.hvpls_spokes.specs.declared.port.Port.TheVariants as port
use Rattle.hvpls_spokes.specs.declared.port.Port.{Port}
use Rattle.ldp_grammar.specs.declared.message.Message.TheVariants.{AddressWithdraw, Initialization, KeepAlive, LabelMapping, LabelRelease, LabelWithdraw, Notification}
use Rattle.ldp_grammar.specs.declared.message.Message.{Message}
use Rattle.mac_table.specs.declared.mac_entry.MacEntry.{MacEntry}
use Rattle.move_laws.proofs.ActHealLemmas.{Acted, LeavesAll, mapping_acts, mesh_beside, release_acts, same_acted, status_acts, withdraw_acts}
use Rattle.move_laws.proofs.ClearLemmas.{AreAtPort, withdraw_chosen, withdraw_goes_on, withdraw_passes, withdraw_port, withdraw_stays}
use Rattle.move_laws.proofs.ForgetLemmas.{acts_forget, all_left, event_forgets, forgets_none}
use Rattle.flood_laws.proofs.ChoiceLemmas.{all_by_place, all_get}
use Rattle.move_laws.proofs.MendHealLemmas.{heals_on, mends_heal, takes_same}
use Rattle.move_laws.proofs.PendingLemmas.{all_weaker, dead_on, of_service_joined, spoke_ours, tells_on}
use Rattle.move_laws.proofs.JoinLemmas.{joined_back}
use Rattle.move_laws.proofs.SpeakLemmas.{Speaks, mildly_spared, more_spared, speaks_first}
use Rattle.move_laws.proofs.StayLemmas.{speaks_on}
use Rattle.move_laws.proofs.PassingLemmas.{GoesOnTo, goes_on_to}
use Rattle.move_laws.proofs.WireLemmas.{IsMeshLink, IsSpokeOf, mesh_link, spoke_of}
use Rattle.move_laws.specs.Clearing.{IsCleared, IsMild, IsOnward, binds, clears, is_cleared_by, names_by_fec, names_wire, takes_clearing}
use Rattle.move_laws.specs.Healing.{ByMesh, BySpoke, EntryHeals, GoesOn, HasWays, IsDead, IsHealing, IsLost, IsMet, IsRight, IsSeen, IsSpokeTo, KeepsSpokes, Lasts, LeadsHome, OfMesh, OfSpoke, SpeaksMildly, StandsFor, Stays, StaysOn, TellsChoice, ToHear, ToHearMildly, Waits, WasSaid, Ways, WillBeRight, WillTell, advertises_to, chosen_in, is_advertising, is_stuck, learned_in, work_ways}
use Rattle.net_base.proofs.PathLemmas.{joins_turned, mate_joined}
use Rattle.net_base.specs.declared.plan.Plan.{Plan}
use Rattle.net_base.specs.declared.plan.places.EdgeId.{EdgeId}
use Rattle.net_base.specs.declared.plan.places.ServiceId.{ServiceId}
use Rattle.net_base.specs.declared.plan.places.WireId.{WireId}
use Rattle.net_base.specs.declared.plan.wire_plan.WirePlan.{WirePlan}
use Rattle.net_base.specs.plan.Accepted.{IsChecked}
use Rattle.net_base.specs.plan.Paths.{joins, follows, has_repeat, is_first, is_last, mate}
use Rattle.net_base.specs.plan.Places.{wire_row, is_mesh_class}
use Rattle.net_base.specs.plan.Roles.{are_joined_by, is_core_edge, is_mesh_of, is_wire_of, wire_ends_at}
use Rattle.network_model.proofs.GoalLemmas.{goal_reached, begins_first}
use Rattle.network_model.specs.Absorb.{taken_all}
use Rattle.network_model.specs.Goal.{goal}
use Rattle.network_model.specs.Reach.{far_of}
use Rattle.network_model.specs.State.{NetworkState, stands}
use Rattle.pw_tlvs.specs.declared.pw_fec.PwFec.{PwFec}
use Rattle.session_core.specs.Table.{Received, SessionEvent}
use Rattle.std.proofs.Common.{Bool, List, None, Option, Some, [], ap, cond, false, inl, nat_eq, refl, slice_get, subst, sym, true, ℕ, ◌&&◌, ◌++◌, ◌==◌, ◌||◌, ◌∙◌, ◌∷◌, ◌≡◌, ◌⊎◌, ⊎_elim, inr, is_some}
use Rattle.std.proofs.lemmas.Bool.{and_from, eqb-true, or_left, or_parts}
use Rattle.std.specs.List.{AllByRecursion}
use Rattle.net_values.proofs.BoolLemmas.{clash, and_false, first_holds, or_false, second_holds}
use Rattle.net_values.proofs.NumberLemmas.{same_number}

-- an edge at work heals, what it has still to hear leaves all as it is, and what it holds it tells on
pub record HearsHealing (plan : Plan) (service : ServiceId) (site : Sites) (network : NetworkState) (me : EdgeId) (peer : ℕ) (messages : List Message) (work : Work) : Type 0 where
  pub heals : IsHealing plan service site network me peer messages work
  pub mild : ToHearMildly plan service network me.0 peer messages
  pub met : are_joined_by plan service peer me.0 ≡ true → stands network peer me.0 ≡ true → (wire : WireId) (row : WirePlan) → IsOnward plan service network peer me.0 wire row
      → IsMet row.pw_id (is_some (work.edge.ends wire.0 peer).remote) messages (is_advertising ((network.edges peer).ends wire.0 me.0).local)
  pub taken : AllMessages (IsMappingTaken plan me.0 peer) messages
  pub goes_on : GoesOn plan service network me work.edge

-- a mesh wire of the service from the edge to another core edge, and its first segment on the way there
pub record MeshesTo (plan : Plan) (service : ServiceId) (me core : ℕ) : Type 0 where
  pub wire : WireId
  pub row : WirePlan
  pub is : wire_row plan wire ≡ Some row
  pub of_mesh : is_mesh_of service row ≡ true
  pub ends : wire_ends_at service me row ≡ true
  pub back : far_of core row.path ≡ Some me
  pub next : EdgeId
  pub joined : joins me next.0 row.path ≡ true
  pub goal_is : (goal row.path (record { 0 = me }) next).0 ≡ core

-- ---- labels of a session that ends

lost_free : (peer : EdgeId) (ends : ℕ → ℕ → EndState) (places : List EndPlace) (kept : List Kept) → least_free (keeps_lost peer ends places kept) ≡ least_free kept
lost_free peer ends [] kept = refl
lost_free peer ends (place ∷ places) kept =
    lost_free peer ends places (cond (place.peer.0 == peer.0) (keeps_one (own_label (ends place.wire.0 place.peer.0).local) place.peer kept) kept)
    ∙ by (place.peer.0 == peer.0)
  where
    by : (b : Bool) → least_free (cond b (keeps_one (own_label (ends place.wire.0 place.peer.0).local) place.peer kept) kept) ≡ least_free kept
    by true = wait_one (own_label (ends place.wire.0 place.peer.0).local) place.peer kept
    by false = refl

lost_same : (next : ℕ) (peer : EdgeId) (ends : ℕ → ℕ → EndState) (places : List EndPlace) (kept : List Kept) → number_to_give next (keeps_lost peer ends places kept) ≡ number_to_give next kept
lost_same next peer ends places kept = by (next == numbers_end) where
  by : (b : Bool) → cond b (least_free (keeps_lost peer ends places kept)) (Some next) ≡ cond b (least_free kept) (Some next)
  by true = lost_free peer ends places kept
  by false = refl

cleared_labels : (peer : EdgeId) (work : Work) → label_to_give (clears_ends peer work).edge ≡ label_to_give work.edge
unfolding changes with_ends_beside with_kept
cleared_labels peer work = by (has_end work.edge peer) where
  by : (b : Bool) → label_to_give (cond b work (changes (losing_ends peer) work)).edge ≡ label_to_give work.edge
  by true = refl
  by false = lost_same work.edge.next_label peer work.edge.ends work.edge.places work.edge.kept

event_labels : (peer : EdgeId) (event : SessionEvent) (work : Work) → label_to_give (happens_with_ends taken_all peer event work).edge ≡ label_to_give work.edge
event_labels peer event work =
    let kept : KeepsEnds work.edge (happens taken_all peer event work).edge = happens_keeps taken_all peer event work in
    cleared_labels peer (happens taken_all peer event work)
    ∙ (ap (λ (n : ℕ). number_to_give n (happens taken_all peer event work).edge.kept) kept.next_label ∙ ap (λ (ks : List Kept). number_to_give work.edge.next_label ks) kept.kept)

-- ---- one edge at work

module _ (plan : Plan) (service : ServiceId) (site : Sites) (network : NetworkState) (me peer : EdgeId) (checked : IsChecked plan) (types : HasTypes plan)
    (ways : HasWays plan service network me) where
  abbrev Healing : List Message → Work → Type 0
  Healing messages work = IsHealing plan service site network me peer.0 messages work

  abbrev WaysOf : List Message → Work → Ways
  WaysOf messages work = work_ways plan service network me.0 peer.0 messages work

  abbrev choices_of : Work → ℕ → Option WireId
  choices_of work = put_at (chosen_in service network) me.0 (work.edge.chosen service.0)

  abbrev tables_of : Work → ℕ → List MacEntry
  tables_of work = put_at (learned_in service network) me.0 (work.edge.learned service.0)

  chosen_same : (old new : Work) → new.edge.chosen ≡ old.edge.chosen → TellsChoice plan service network me old new
  chosen_same old new same = record { told = λ wire home spoke chosen. inl (ap (λ (f : ℕ → Option WireId). f service.0) (sym same) ∙ chosen) }

  -- an edge that goes on as it was
  stays_same : (work : Work) → Stays plan service network me peer.0 work → StaysOn plan service network me peer.0 work work
  stays_same work stays = speaks_on plan service network me peer.0 work work stays (speaks_first plan service network me peer.0 work stays) (lasts_same plan service me.0 peer.0 work.edge)
      (forgets_none service work work refl)

  -- what is taken along a wire
  takes_more : (old new : EdgeState) (row : WirePlan) (wire from at : ℕ) (more : Bool) → is_some (new.ends wire from).remote ≡ is_some (old.ends wire from).remote || more
      → takes_clearing old row wire from at || more ≡ true → takes_clearing new row wire from at ≡ true
  takes_more old new row wire from at more is takes = by (is_mesh_class row.class || (is_first at row.path || is_last at row.path)) (is_some (old.ends wire from).remote) is takes where
    by : (p q : Bool) → is_some (new.ends wire from).remote ≡ q || more → (p || q) || more ≡ true → p || is_some (new.ends wire from).remote ≡ true
    by true q is takes = refl
    by false q is takes = is ∙ takes

  takes_mesh : (edge : EdgeState) (row : WirePlan) (wire from at : ℕ) → is_mesh_of service row ≡ true → takes_clearing edge row wire from at ≡ true
  takes_mesh edge row wire from at mesh = ap (λ (m : Bool). (m || (is_first at row.path || is_last at row.path)) || is_some (edge.ends wire from).remote)
      (second_holds (is_wire_of service row) (is_mesh_class row.class) mesh)

  -- a message that clears nothing was heard, and binds what it says
  popped : (m : Message) (messages : List Message) (old new : EdgeState) → ((n : ℕ) → clears n m ≡ false)
      → ((wire : WireId) (row : WirePlan) → IsOnward plan service network peer.0 me.0 wire row → is_some (new.ends wire.0 peer.0).remote ≡ is_some (old.ends wire.0 peer.0).remote || binds row.pw_id m)
      → (wire : WireId) (row : WirePlan) → are_joined_by plan service peer.0 me.0 ≡ true → IsSeen plan service network peer.0 me.0 wire row
      → is_cleared_by row.pw_id (takes_clearing old row wire.0 peer.0 me.0) (m ∷ messages) ≡ true
      → is_cleared_by row.pw_id (takes_clearing new row wire.0 peer.0 me.0) messages ≡ true
  popped m messages old new plain bound wire row joined seen among = ⊎_elim
      (λ (here : takes_clearing old row wire.0 peer.0 me.0 && clears row.pw_id m ≡ true). clash (sym (plain row.pw_id) ∙ second_holds (takes_clearing old row wire.0 peer.0 me.0)
      (clears row.pw_id m) here))
      (λ (later : is_cleared_by row.pw_id (takes_clearing old row wire.0 peer.0 me.0 || binds row.pw_id m) messages ≡ true).
      cleared_where row.pw_id (takes_clearing old row wire.0 peer.0 me.0 || binds row.pw_id m) (takes_clearing new row wire.0 peer.0 me.0) messages (by seen) later)
      (cleared_next row.pw_id (takes_clearing old row wire.0 peer.0 me.0) m messages among)
    where
      by : IsSeen plan service network peer.0 me.0 wire row → takes_clearing old row wire.0 peer.0 me.0 || binds row.pw_id m ≡ true → takes_clearing new row wire.0 peer.0 me.0 ≡ true
      by (OfMesh mesh) takes = takes_mesh new row wire.0 peer.0 me.0 mesh
      by (OfSpoke onward) takes = takes_more old new row wire.0 peer.0 me.0 (binds row.pw_id m) (bound wire row onward) takes

  -- ---- all addresses are withdrawn

  module _ (fec : PwFec) (id : ℕ) (messages : List Message) (work : Work) (heals : Healing (AddressWithdraw id None (Some fec) (Some []) ∷ messages) work)
      (stand : (core : ℕ) → is_core_edge plan service core ≡ true → nat_eq core me.0 ≡ false → is_core_edge plan service me.0 ≡ true → MeshesTo plan service me.0 core)
      (goes : GoesOn plan service network me work.edge) where
    abbrev New : Work
    New = hears_mac_withdraw plan taken_all peer (Some fec) (Some []) work

    on : StaysOn plan service network me peer.0 work New
    on = withdraw_stays plan service network me peer.0 peer fec [] work checked types none_are_piece.are heals.stays

    chosen : New.edge.chosen ≡ work.edge.chosen
    chosen = withdraw_chosen plan peer fec [] work

    abbrev Goal : (core edge : ℕ) → WireId → WirePlan → (home p : ℕ) → Type 0
    Goal core edge wire row home p = WillBeRight plan service (WaysOf messages New) edge wire row home core p

    holds : Holds me work.edge New.edge
    holds = withdraw_holds plan me peer fec [] work none_are_piece.are heals.stays.place

    grown : (a b : ℕ) (wire : WireId) (row : WirePlan) → IsSeen plan service network a b wire row → a ≡ me.0 → are_joined_by plan service me.0 b ≡ true → stands network me.0 b ≡ true
        → IsCleared plan (network.edges b) me.0 b wire row (flight network me.0 b ++ said_to b work.effects)
        → (WaysOf messages New).way a b wire row
    grown a b wire row seen from joined there cleared =
        WasSaid seen from joined there (tells_on plan service network me.0 b wire row work New (on.says b joined there) (record { joined = joined; there = there; cleared = cleared })).cleared

    still_heard : (wire : WireId) (row : WirePlan) → is_cleared_by row.pw_id (takes_clearing work.edge row wire.0 peer.0 me.0) messages ≡ true
        → is_cleared_by row.pw_id (takes_clearing New.edge row wire.0 peer.0 me.0) messages ≡ true
    still_heard wire row among = ap (λ (b : Bool). is_cleared_by row.pw_id b messages) (takes_same work.edge New.edge row wire.0 peer.0 me.0 (holds.held wire.0 peer.0)) ∙ among

    still_dead : (edge : ℕ) (wire : WireId) (home : ℕ) (spoke : IsSpokeTo plan service edge wire home) → IsDead (put_at network.edges me.0 work.edge) wire spoke.row
        → IsDead (put_at network.edges me.0 New.edge) wire spoke.row
    still_dead edge wire home spoke = dead_on plan service network.edges me.0 peer.0 work.edge New.edge wire spoke.row spoke.is (spoke_ours service edge spoke.row spoke.from) on.lasts

    named_is : (n : ℕ) → names_by_fec n (Some fec) && true ≡ true → fec.pw_id ≡ Some n
    named_is n is = by fec.pw_id is where
      by : (o : Option ℕ) → names_wire n o && true ≡ true → o ≡ Some n
      by None is = clash is
      by (Some other) is = ap Some (eqb-true other n (left_part (other == n) is))
        where
          left_part : (a : Bool) → a && true ≡ true → a ≡ true
          left_part true is = refl
          left_part false is = clash is

    -- what the message cleared where it was taken, or one behind it clears
    either : {P : Type 0} (takes : Bool) (n : ℕ) → is_cleared_by n takes (AddressWithdraw id None (Some fec) (Some []) ∷ messages) ≡ true → (fec.pw_id ≡ Some n → takes ≡ true → P)
        → (is_cleared_by n takes messages ≡ true → P) → P
    either {P} takes n among here later = ⊎_elim
        (λ (now : takes && clears n (AddressWithdraw id None (Some fec) (Some [])) ≡ true). here (named_is n (second_holds takes _ now)) (first_holds takes _ now))
        (λ (more : is_cleared_by n (takes || false) messages ≡ true). later (ap (λ (b : Bool). is_cleared_by n b messages) (sym (or_false takes)) ∙ more))
        (cleared_next n takes (AddressWithdraw id None (Some fec) (Some [])) messages among)

    -- on the last segment of a spoke
    on_spoke : (edge : ℕ) (wire : WireId) (spoke : IsSpokeTo plan service edge wire me.0) → joins me.0 peer.0 spoke.row.path ≡ true → fec.pw_id ≡ Some spoke.row.pw_id
        → AreAtPort plan service me (port.Spoke wire) (New.edge.learned service.0)
    on_spoke edge wire spoke beside named =
        subst (λ (x : Port). AreAtPort plan service me x (New.edge.learned service.0)) (ap (λ (m : Bool). cond m (port.Mesh (record { 0 = wire.0 })) (port.Spoke (record { 0 = wire.0 }))) of.class)
        (withdraw_port plan service me peer wire spoke.row fec work checked of.ends_there heals.stays.place spoke.is of.ours beside named)
      where
        of : IsSpokeOf plan service edge me.0 spoke.row
        of = spoke_of plan service edge wire me.0 checked spoke

    on_mesh : (mesh : WireId) (row : WirePlan) → wire_row plan mesh ≡ Some row → is_mesh_of service row ≡ true → joins peer.0 me.0 row.path ≡ true → is_terminal row me ≡ true
        → fec.pw_id ≡ Some row.pw_id → AreAtPort plan service me (port.Mesh mesh) (New.edge.learned service.0)
    on_mesh mesh row is of_mesh joined ends named =
        subst (λ (x : Port). AreAtPort plan service me x (New.edge.learned service.0)) (ap (λ (m : Bool). cond m (port.Mesh (record { 0 = mesh.0 })) (port.Spoke (record { 0 = mesh.0 }))) link.class)
        (withdraw_port plan service me peer mesh row fec work checked (and_from (is_wire_of service row) (is_terminal row me) link.ours ends) heals.stays.place is link.ours
        (sym (joins_turned row.path peer.0 me.0) ∙ joined) named)
      where
        link : IsMeshLink plan service peer.0 me.0 row
        link = mesh_link plan service peer.0 me.0 mesh row is of_mesh joined

    -- it goes on from the home to another core edge
    goes_home : (core edge : ℕ) (wire : WireId) (spoke : IsSpokeTo plan service edge wire me.0) (p : ℕ) → is_core_edge plan service core ≡ true → nat_eq core me.0 ≡ false
        → joins me.0 peer.0 spoke.row.path ≡ true
        → fec.pw_id ≡ Some spoke.row.pw_id → Goal core edge wire spoke.row me.0 p
    goes_home core edge wire spoke p is away beside named =
        let mesh : MeshesTo plan service me.0 core = stand core is away (spoke_of plan service edge wire me.0 checked spoke).core in
        let link : IsMeshLink plan service me.0 mesh.next.0 mesh.row = mesh_link plan service me.0 mesh.next.0 mesh.wire mesh.row mesh.is mesh.of_mesh mesh.joined in
        let tells : WillTell plan service network me.0 mesh.next.0 mesh.wire mesh.row New =
        withdraw_passes plan service network me peer.0 checked types ways mesh.next mesh.wire mesh.row mesh.is
        (OfMesh mesh.of_mesh) link.by_service mesh.of_mesh mesh.joined mesh.ends peer edge wire fec work
        heals.stays spoke beside named in
        ByMesh mesh.wire mesh.row me mesh.next mesh.is mesh.of_mesh mesh.back mesh.joined mesh.goal_is (WasSaid (OfMesh mesh.of_mesh) refl tells.joined tells.there tells.cleared)

    -- it goes on at a switching point of a spoke, or the spoke is dead
    goes_along : (core edge : ℕ) (wire : WireId) (home : ℕ) (spoke : IsSpokeTo plan service edge wire home) (p : ℕ) → follows spoke.row.path peer.0 me.0 ≡ true → (network.edges edge).bits wire.0 ≡ 0
        → is_terminal spoke.row me ≡ false → is_some (work.edge.ends wire.0 peer.0).remote ≡ true → fec.pw_id ≡ Some spoke.row.pw_id → Goal core edge wire spoke.row home p
    goes_along core edge wire home spoke p way whole inside held named =
        let once : has_repeat spoke.row.path ≡ false = (wire_fits plan wire spoke.row checked spoke.is).once in
        let joined : joins peer.0 me.0 spoke.row.path ≡ true = joins_is spoke.row.path peer.0 me.0 ∙ or_left (follows spoke.row.path peer.0 me.0) (follows spoke.row.path me.0 peer.0) way in
        let next : GoesOnTo spoke.row.path peer me = goes_on_to spoke.row.path peer me once joined inside in
        let along : follows spoke.row.path me.0 next.to.0 ≡ true = way_kept spoke.row.path me.0 peer.0 next.to once next.mate_is ∙ way in
        let onward : IsOnward plan service network me.0 next.to.0 wire spoke.row = record { is = spoke.is; edge = edge; from = spoke.from; whole = whole; next = along } in
        let ours : is_wire_of service spoke.row ≡ true = spoke_ours service edge spoke.row spoke.from in
        ⊎_elim
        (λ (told : is_advertising (work.edge.ends wire.0 next.to.0).local ≡ true).
        let tells : WillTell plan service network me.0 next.to.0 wire spoke.row New =
        withdraw_goes_on plan service network me peer.0 checked types ways next.to wire spoke.row spoke.is (OfSpoke onward)
        (of_service_joined plan service me.0 next.to.0 wire spoke.row spoke.is ours along)
        peer fec work heals.stays (sym (joins_turned spoke.row.path peer.0 me.0) ∙ joined) next.mate_is named told in
        BySpoke me next.to along whole (WasSaid (OfSpoke onward) refl tells.joined tells.there tells.cleared))
        (λ (stuck : is_stuck work.edge wire.0 next.to.0 ≡ true). IsLost (record {
          at = me.0;
          next = next.to.0;
          inner = (or_parts (is_first me.0 spoke.row.path) (is_last me.0 spoke.row.path) inside).0;
          follows_it = along;
          stuck = ap (λ (e : EdgeState). is_stuck e wire.0 next.to.0) (ap (λ (b : Bool). cond b New.edge (network.edges me.0)) (same_number me.0)) ∙ holds.stuck wire.0 next.to.0 stuck;
        }))
        (goes wire spoke.row peer next.to onward next.mate_is held)

    -- it comes along a spoke from the peer
    spoke_heard : (core edge : ℕ) (wire : WireId) (home : ℕ) (spoke : IsSpokeTo plan service edge wire home) (p : ℕ) → follows spoke.row.path peer.0 me.0 ≡ true → (network.edges edge).bits wire.0 ≡ 0
        → fec.pw_id ≡ Some spoke.row.pw_id → takes_clearing work.edge spoke.row wire.0 peer.0 me.0 ≡ true
        → ((s : IsSpokeTo plan service edge wire me.0) → s.row ≡ spoke.row → joins me.0 peer.0 s.row.path ≡ true → home ≡ me.0 → Goal core edge wire spoke.row home p)
        → Goal core edge wire spoke.row home p
    spoke_heard core edge wire home spoke p way whole named takes at_home = by (is_terminal spoke.row me) refl where
      of : IsSpokeOf plan service edge home spoke.row
      of = spoke_of plan service edge wire home checked spoke

      once : has_repeat spoke.row.path ≡ false
      once = (wire_fits plan wire spoke.row checked spoke.is).once

      last : is_terminal spoke.row me ≡ true → is_last me.0 spoke.row.path ≡ true
      last ends = by_first (is_first me.0 spoke.row.path) refl ends where
        by_first : (b : Bool) → is_first me.0 spoke.row.path ≡ b → b || is_last me.0 spoke.row.path ≡ true → is_last me.0 spoke.row.path ≡ true
        by_first true first ends = clash (sym (begins_first spoke.row.path me.0 peer.0 once first) ∙ way)
        by_first false first ends = ends

      home_is : is_terminal spoke.row me ≡ true → home ≡ me.0
      home_is ends = of.last ∙ sym (eqb-true me.0 of.link.far.0 (sym (of.link.last me.0) ∙ (ap (is_last me.0) (sym of.link.path) ∙ last ends)))

      held : is_terminal spoke.row me ≡ false → is_some (work.edge.ends wire.0 peer.0).remote ≡ true
      held inside = third (is_mesh_class spoke.row.class) (is_terminal spoke.row me) of.class inside takes where
        third : (a b : Bool) → a ≡ false → b ≡ false → (a || b) || is_some (work.edge.ends wire.0 peer.0).remote ≡ true → is_some (work.edge.ends wire.0 peer.0).remote ≡ true
        third true b one other is = clash (sym one)
        third false true one other is = clash (sym other)
        third false false one other is = is

      by : (b : Bool) → is_terminal spoke.row me ≡ b → Goal core edge wire spoke.row home p
      by true ends = at_home (record { row = spoke.row; is = spoke.is; from = spoke.from; to = last ends }) refl
          (sym (joins_turned spoke.row.path peer.0 me.0) ∙ (joins_is spoke.row.path peer.0 me.0 ∙ or_left (follows spoke.row.path peer.0 me.0) (follows spoke.row.path me.0 peer.0) way)) (home_is ends)
      by false inside = goes_along core edge wire home spoke p way whole inside (held inside) named

    -- it goes on at a switching point of a mesh wire
    goes_past : (core edge : ℕ) (wire : WireId) (its : WirePlan) (home p : ℕ) (mesh : WireId) (row : WirePlan) → wire_row plan mesh ≡ Some row → is_mesh_of service row ≡ true
        → far_of core row.path ≡ Some home
        → joins peer.0 me.0 row.path ≡ true → (goal row.path peer me).0 ≡ core → fec.pw_id ≡ Some row.pw_id → is_terminal row me ≡ false → Goal core edge wire its home p
    goes_past core edge wire its home p mesh row at of_mesh far joined goal_is named inside =
        let on : GoesOnTo row.path peer me = goes_on_to row.path peer me (wire_fits plan mesh row checked at).once joined inside in
        let link : IsMeshLink plan service me.0 on.to.0 row = mesh_link plan service me.0 on.to.0 mesh row at of_mesh on.joined in
        let tells : WillTell plan service network me.0 on.to.0 mesh row New =
        withdraw_goes_on plan service network me peer.0 checked types ways on.to mesh row at (OfMesh of_mesh) link.by_service peer fec work heals.stays
        (sym (joins_turned row.path peer.0 me.0) ∙ joined) on.mate_is
        named (heals.stays.mesh.told mesh row on.to.0 at of_mesh on.joined) in
        ByMesh mesh row me on.to at of_mesh far on.joined (ap (λ (e : EdgeId). e.0) on.same_goal ∙ goal_is) (WasSaid (OfMesh of_mesh) refl tells.joined tells.there tells.cleared)

    -- where the wire ends it is there
    reached : (core : ℕ) (mesh : WireId) (row : WirePlan) → wire_row plan mesh ≡ Some row → joins peer.0 me.0 row.path ≡ true → (goal row.path peer me).0 ≡ core → is_terminal row me ≡ true
        → core ≡ me.0
    reached core mesh row at joined goal_is ends = sym goal_is ∙ ap (λ (e : EdgeId). e.0) (goal_reached row.path peer me (wire_fits plan mesh row checked at).once joined ends)

    -- it comes along a mesh wire from the peer
    mesh_heard : (core edge : ℕ) (wire : WireId) (its : WirePlan) (home p : ℕ) (mesh : WireId) (row : WirePlan) → wire_row plan mesh ≡ Some row → is_mesh_of service row ≡ true
        → far_of core row.path ≡ Some home
        → joins peer.0 me.0 row.path ≡ true → (goal row.path peer me).0 ≡ core → fec.pw_id ≡ Some row.pw_id
        → (core ≡ me.0 → is_terminal row me ≡ true → Goal core edge wire its home p) → Goal core edge wire its home p
    mesh_heard core edge wire its home p mesh row at of_mesh far joined goal_is named here = by (is_terminal row me) refl where
      by : (b : Bool) → is_terminal row me ≡ b → Goal core edge wire its home p
      by true ends = here (reached core mesh row at joined goal_is ends) ends
      by false inside = goes_past core edge wire its home p mesh row at of_mesh far joined goal_is named inside

    -- of a segment that leads from the peer here
    from_peer : {P : Type 0} (row : WirePlan) (core : ℕ) (a b : EdgeId) → a.0 ≡ peer.0 → b.0 ≡ me.0 → joins a.0 b.0 row.path ≡ true → (goal row.path a b).0 ≡ core
        → (joins peer.0 me.0 row.path ≡ true → (goal row.path peer me).0 ≡ core → P) → P
    from_peer row core a b from to joined goal_is follows =
        let one : a ≡ peer = ap (λ (n : ℕ). record { 0 = n }) from in
        let other : b ≡ me = ap (λ (n : ℕ). record { 0 = n }) to in
        follows (ap (λ (e : EdgeId). joins e.0 me.0 row.path) (sym one) ∙ (ap (λ (e : EdgeId). joins a.0 e.0 row.path) (sym other) ∙ joined))
        (ap (λ (e : EdgeId). (goal row.path e me).0) (sym one) ∙ (ap (λ (e : EdgeId). (goal row.path a e).0) (sym other) ∙ goal_is))

    -- of a segment of a spoke that leads from the peer here
    way_here : {P : Type 0} (path : List EdgeId) (a b : EdgeId) → a.0 ≡ peer.0 → b.0 ≡ me.0 → follows path a.0 b.0 ≡ true → (follows path peer.0 me.0 ≡ true → P) → P
    way_here path a b from to way on_it = on_it (ap (λ (n : ℕ). follows path n me.0) (sym from) ∙ (ap (λ (n : ℕ). follows path a.0 n) (sym to) ∙ way))

    -- an entry, by what is done where it arrives
    entry_heals : (core edge : ℕ) (wire : WireId) (home : ℕ) (spoke : IsSpokeTo plan service edge wire home) (p : ℕ)
        → ((s : IsSpokeTo plan service edge wire me.0) → s.row ≡ spoke.row → joins me.0 peer.0 s.row.path ≡ true → home ≡ me.0 → fec.pw_id ≡ Some spoke.row.pw_id → Goal core edge wire spoke.row home p)
        → ((mesh : WireId) (its : WirePlan) → wire_row plan mesh ≡ Some its → is_mesh_of service its ≡ true → far_of core its.path ≡ Some home → joins peer.0 me.0 its.path ≡ true → core ≡ me.0
        → is_terminal its me ≡ true → fec.pw_id ≡ Some its.pw_id → Goal core edge wire spoke.row home p)
        → WillBeRight plan service (WaysOf (AddressWithdraw id None (Some fec) (Some []) ∷ messages) work) edge wire spoke.row home core p → Goal core edge wire spoke.row home p
    entry_heals core edge wire home spoke p at_home at_end (IsRight at) = IsRight at
    entry_heals core edge wire home spoke p at_home at_end (IsLost dead) = IsLost (still_dead edge wire home spoke dead)
    entry_heals core edge wire home spoke p at_home at_end (BySpoke a b way whole (WasSaid seen from joined there cleared)) =
        BySpoke a b way whole (grown a.0 b.0 wire spoke.row seen from joined there cleared)
    entry_heals core edge wire home spoke p at_home at_end (BySpoke a b way whole (ToHear seen from to joined there among)) =
        either {P = Goal core edge wire spoke.row home p} (takes_clearing work.edge spoke.row wire.0 peer.0 me.0) spoke.row.pw_id among
        (λ named takes. way_here {P = Goal core edge wire spoke.row home p} spoke.row.path a b from to way
        (λ here. spoke_heard core edge wire home spoke p here whole named takes (λ s same beside home_is. at_home s same beside home_is named)))
        (λ later. BySpoke a b way whole (ToHear seen from to joined there (still_heard wire spoke.row later)))
    entry_heals core edge wire home spoke p at_home at_end (BySpoke a b way whole (Waits gone other pending)) = BySpoke a b way whole (Waits gone other pending)
    entry_heals core edge wire home spoke p at_home at_end (ByMesh mesh its a b at of_mesh far joins_it goal_is (WasSaid seen from joined there cleared)) =
        ByMesh mesh its a b at of_mesh far joins_it goal_is (grown a.0 b.0 mesh its seen from joined there cleared)
    entry_heals core edge wire home spoke p at_home at_end (ByMesh mesh its a b at of_mesh far joins_it goal_is (ToHear seen from to joined there among)) =
        either {P = Goal core edge wire spoke.row home p} (takes_clearing work.edge its mesh.0 peer.0 me.0) its.pw_id among
        (λ named takes. from_peer {P = Goal core edge wire spoke.row home p} its core a b from to joins_it goal_is
        (λ beside its_goal. mesh_heard core edge wire spoke.row home p mesh its at of_mesh far beside its_goal named (λ same ends. at_end mesh its at of_mesh far beside same ends named)))
        (λ later. ByMesh mesh its a b at of_mesh far joins_it goal_is (ToHear seen from to joined there (still_heard mesh its later)))
    entry_heals core edge wire home spoke p at_home at_end (ByMesh mesh its a b at of_mesh far joins_it goal_is (Waits gone other pending)) =
        ByMesh mesh its a b at of_mesh far joins_it goal_is (Waits gone other pending)

    -- an entry of another core edge
    away_heals : (core : ℕ) → is_core_edge plan service core ≡ true → nat_eq core me.0 ≡ false → (edge : ℕ) (wire : WireId) (home : ℕ) (spoke : IsSpokeTo plan service edge wire home) (p : ℕ)
        → WillBeRight plan service (WaysOf (AddressWithdraw id None (Some fec) (Some []) ∷ messages) work) edge wire spoke.row home core p → Goal core edge wire spoke.row home p
    away_heals core is away edge wire home spoke p = entry_heals core edge wire home spoke p
        (λ s same beside home_is named. subst (λ (h : ℕ). Goal core edge wire spoke.row h p) (sym home_is) (subst (λ (r : WirePlan). Goal core edge wire r me.0 p) same
        (goes_home core edge wire s p is away beside (named ∙ ap (λ (r : WirePlan). Some r.pw_id) (sym same)))))
        (λ mesh its at of_mesh far beside same ends named. clash (sym away ∙ (ap (λ (n : ℕ). n == me.0) same ∙ same_number me.0)))

    -- an entry of the edge's own
    abbrev AtMe : ℕ → Option Port
    AtMe p = slice_get (ports_of plan service me) p

    here_heals : (k : ℕ) (entry : MacEntry) → slice_get (New.edge.learned service.0) k ≡ Some entry → (edge : ℕ) (wire : WireId) (home : ℕ) (spoke : IsSpokeTo plan service edge wire home)
        → WillBeRight plan service (WaysOf (AddressWithdraw id None (Some fec) (Some []) ∷ messages) work) edge wire spoke.row home me.0 entry.port
        → Goal me.0 edge wire spoke.row home entry.port
    here_heals k entry stays_there edge wire home spoke = entry_heals me.0 edge wire home spoke entry.port
        (λ s same beside home_is named. IsRight (subst (LeadsHome plan me.0 home wire)
        (sym (all_get (λ (e : MacEntry). AtMe e.port ≡ Some (port.Spoke wire)) (New.edge.learned service.0) k entry
        (on_spoke edge wire s beside (named ∙ ap (λ (r : WirePlan). Some r.pw_id) (sym same))) stays_there)) (sym home_is, refl)))
        (λ mesh its at of_mesh far beside same ends named. IsRight (subst (LeadsHome plan me.0 home wire)
        (sym (all_get (λ (e : MacEntry). AtMe e.port ≡ Some (port.Mesh mesh)) (New.edge.learned service.0) k entry (on_mesh mesh its at of_mesh beside ends named) stays_there))
        (record { row = its; is = at; far = far })))

    choice_was : (edge : ℕ) (wire : WireId) → choices_of New edge ≡ Some wire → choices_of work edge ≡ Some wire
    choice_was edge wire is = ap (λ (f : ℕ → Option WireId). put_at (chosen_in service network) me.0 (f service.0) edge) (sym chosen) ∙ is

    -- the entries of the edge itself
    own_right : is_core_edge plan service me.0 ≡ true → AllByRecursion (EntryHeals plan service site (choices_of New) (WaysOf messages New) me.0) (New.edge.learned service.0)
    own_right is =
        let before : AllByRecursion (EntryHeals plan service site (choices_of work) (WaysOf (AddressWithdraw id None (Some fec) (Some []) ∷ messages) work) me.0)
        (work.edge.learned service.0) = own_table (heals.right me.0 is) in
        let left : AllByRecursion (EntryHeals plan service site (choices_of work) (WaysOf (AddressWithdraw id None (Some fec) (Some []) ∷ messages) work) me.0) (New.edge.learned service.0) =
        all_left (EntryHeals plan service site (choices_of work) (WaysOf (AddressWithdraw id None (Some fec) (Some []) ∷ messages) work) me.0) (work.edge.learned service.0)
        (New.edge.learned service.0) on.forgot before in
        all_by_place (EntryHeals plan service site (choices_of New) (WaysOf messages New) me.0) (New.edge.learned service.0)
        (λ k entry at edge wire home spoke chose there. here_heals k entry at edge wire home spoke
        (all_get (EntryHeals plan service site (choices_of work) (WaysOf (AddressWithdraw id None (Some fec) (Some []) ∷ messages) work) me.0)
        (New.edge.learned service.0) k entry left at edge wire home spoke (choice_was edge wire chose) there))
      where
        own_table : AllByRecursion (EntryHeals plan service site (choices_of work) (WaysOf (AddressWithdraw id None (Some fec) (Some []) ∷ messages) work) me.0) (tables_of work me.0)
            → AllByRecursion (EntryHeals plan service site (choices_of work) (WaysOf (AddressWithdraw id None (Some fec) (Some []) ∷ messages) work) me.0) (work.edge.learned service.0)
        own_table all = subst (AllByRecursion (EntryHeals plan service site (choices_of work) (WaysOf (AddressWithdraw id None (Some fec) (Some []) ∷ messages) work) me.0)) here all
          where
            here : tables_of work me.0 ≡ work.edge.learned service.0
            here = ap (λ (b : Bool). cond b (work.edge.learned service.0) (learned_in service network me.0)) (same_number me.0)

    pub cleared_heals : Healing messages New
    cleared_heals = record {
      stays = on.stays;
      right = λ core is. split {P = AllByRecursion (EntryHeals plan service site (choices_of New) (WaysOf messages New) core) (tables_of New core)} (nat_eq core me.0)
          (λ same. (let here : core ≡ me.0 = eqb-true core me.0 same in
          subst (λ (n : ℕ). AllByRecursion (EntryHeals plan service site (choices_of New) (WaysOf messages New) n) (tables_of New n)) (sym here)
          (subst (AllByRecursion (EntryHeals plan service site (choices_of New) (WaysOf messages New) me.0))
          (sym (ap (λ (b : Bool). cond b (New.edge.learned service.0) (learned_in service network me.0)) (same_number me.0)))
          (own_right (subst (λ (n : ℕ). is_core_edge plan service n ≡ true) here is)))))
          (λ away. subst (AllByRecursion (EntryHeals plan service site (choices_of New) (WaysOf messages New) core)) (same_table core away)
          (all_weaker (EntryHeals plan service site (choices_of work) (WaysOf (AddressWithdraw id None (Some fec) (Some []) ∷ messages) work) core)
          (EntryHeals plan service site (choices_of New) (WaysOf messages New) core) (tables_of work core)
          (λ entry was edge wire home spoke chose there. away_heals core is away edge wire home spoke entry.port (was edge wire home spoke (choice_was edge wire chose) there))
          (heals.right core is)));
    }
      where
        same_table : (core : ℕ) → nat_eq core me.0 ≡ false → tables_of work core ≡ tables_of New core
        same_table core away = rw away refl

  -- ---- one message

  -- what a message leaves, and what is bound where it binds
  leaves_of : (m : Message) → IsMild plan service network peer.0 me.0 m → LeavesAll plan service network me.0 peer.0 m
  leaves_of m mild = record {
    mesh = λ wire row is of_mesh joins_it. mild.labels wire row is of_mesh (sym (joins_turned row.path me.0 peer.0) ∙ joins_it);
    onward = mild.onward;
    back = mild.back;
  }

  unheld : (m : Message) (messages : List Message) (work : Work) (told : ℕ → Bool) → ((wire : WireId) (row : WirePlan) → IsOnward plan service network peer.0 me.0 wire row
      → IsMet row.pw_id (is_some (work.edge.ends wire.0 peer.0).remote) (m ∷ messages) (told wire.0))
      → (wire : WireId) (row : WirePlan) → IsOnward plan service network peer.0 me.0 wire row → binds row.pw_id m ≡ true → is_some (work.edge.ends wire.0 peer.0).remote ≡ false
  unheld m messages work told met wire row onward binds_it = met_unbound row.pw_id (is_some (work.edge.ends wire.0 peer.0).remote) (told wire.0) m messages (met wire row onward) binds_it

  -- a session that is up acts on a message
  record ActsHealing (m : Message) (messages : List Message) (work : Work) : Type 0 where
    heals : Healing messages (acts_on plan taken_all peer m work)
    bound : (wire : WireId) (row : WirePlan) → IsOnward plan service network peer.0 me.0 wire row
        → is_some ((acts_on plan taken_all peer m work).edge.ends wire.0 peer.0).remote ≡ is_some (work.edge.ends wire.0 peer.0).remote || binds row.pw_id m

  or_none : (b : Bool) → b ≡ b || false
  or_none true = refl
  or_none false = refl

  acts_heal : (m : Message) (messages : List Message) (work : Work) → IsSaidAcross (ends_at plan peer.0 me.0) m → LeavesAll plan service network me.0 peer.0 m → IsMappingTaken plan me.0 peer.0 m
      → ((wire : WireId) (row : WirePlan) → IsOnward plan service network peer.0 me.0 wire row → binds row.pw_id m ≡ true → is_some (work.edge.ends wire.0 peer.0).remote ≡ false)
      → GoesOn plan service network me work.edge
      → ((core : ℕ) → is_core_edge plan service core ≡ true → nat_eq core me.0 ≡ false → is_core_edge plan service me.0 ≡ true → MeshesTo plan service me.0 core)
      → has_end work.edge peer ≡ true → TellsSoundly (point_limit plan me.0) (acts_on plan taken_all peer m work).edge → Healing (m ∷ messages) work
      → ActsHealing m messages work
  acts_heal m messages work said leaves taken unheld goes stand there sound heals = by m said leaves taken unheld sound heals where
    done : (m : Message) → ((n : ℕ) → clears n m ≡ false)
        → Acted plan service network me peer checked work work (acts_on plan taken_all peer m work) (λ pw_id. binds pw_id m) → Healing (m ∷ messages) work → ActsHealing m messages work
    done m plain acted heals = record {
      heals = heals_on plan service site network me peer.0 (m ∷ messages) messages work (acts_on plan taken_all peer m work)
          (speaks_on plan service network me peer.0 work (acts_on plan taken_all peer m work) heals.stays acted.speaks acted.lasts (acts_forget service plan peer m work there))
          (chosen_same work (acts_on plan taken_all peer m work) acted.chosen) (popped m messages work.edge (acts_on plan taken_all peer m work).edge plain acted.bound) heals;
      bound = acted.bound;
    }

    first : {m : Message} → Healing (m ∷ messages) work → Speaks plan service network me peer.0 work work
    first heals = speaks_first plan service network me peer.0 work heals.stays

    by : (m : Message) → IsSaidAcross (ends_at plan peer.0 me.0) m → LeavesAll plan service network me.0 peer.0 m → IsMappingTaken plan me.0 peer.0 m
        → ((wire : WireId) (row : WirePlan) → IsOnward plan service network peer.0 me.0 wire row → binds row.pw_id m ≡ true → is_some (work.edge.ends wire.0 peer.0).remote ≡ false)
        → TellsSoundly (point_limit plan me.0) (acts_on plan taken_all peer m work).edge
        → Healing (m ∷ messages) work → ActsHealing m messages work
    by (Initialization id params) said leaves taken unheld sound heals =
        done (Initialization id params) (λ n. refl) (same_acted plan service network me peer checked work (Initialization id params) work (λ n. refl) (first heals)) heals
    by (KeepAlive id) said leaves taken unheld sound heals = done (KeepAlive id) (λ n. refl) (same_acted plan service network me peer checked work (KeepAlive id) work (λ n. refl) (first heals)) heals
    by (Notification id code status fec) said leaves taken unheld sound heals =
        done (Notification id code status fec) (λ n. refl) (status_acts plan service network me peer checked work id code status fec work sound (first heals)) heals
    by (LabelMapping id fec label status points) said leaves taken unheld sound heals =
        done (LabelMapping id fec label status points) (λ n. refl)
        (mapping_acts plan service network me peer checked work id fec label status points work said leaves taken unheld (first heals) sound) heals
    by (LabelWithdraw id fec label) said leaves taken unheld sound heals =
        done (LabelWithdraw id fec label) (λ n. refl) (withdraw_acts plan service network me peer checked work id fec label work said leaves (first heals)) heals
    by (LabelRelease id fec label) said leaves taken unheld sound heals =
        done (LabelRelease id fec label) (λ n. refl) (release_acts plan service network me peer checked work id fec label work leaves sound (first heals)) heals
    by (AddressWithdraw id None (Some fec) (Some [])) said leaves taken unheld sound heals = record {
      heals = cleared_heals fec id messages work heals stand goes;
      bound = λ wire row onward. ap (λ (o : Option Binding). is_some o) ((withdraw_holds plan me peer fec [] work none_are_piece.are heals.stays.place).held wire.0 peer.0)
          ∙ or_none (is_some (work.edge.ends wire.0 peer.0).remote);
    }
    by (AddressWithdraw id None (Some fec) (Some (mac ∷ macs))) said leaves taken unheld sound heals =
        let held = (withdraw_holds plan me peer fec (mac ∷ macs) work (heard_are id fec (mac ∷ macs) said.0) heals.stays.place).held in
        let still : (wire : WireId) (row : WirePlan) → IsOnward plan service network peer.0 me.0 wire row
        → is_some ((hears_mac_withdraw plan taken_all peer (Some fec) (Some (mac ∷ macs)) work).edge.ends wire.0 peer.0).remote
        ≡ is_some (work.edge.ends wire.0 peer.0).remote || binds row.pw_id (AddressWithdraw id None (Some fec) (Some (mac ∷ macs))) =
        λ wire row onward. ap (λ (o : Option Binding). is_some o) (held wire.0 peer.0) ∙ or_none (is_some (work.edge.ends wire.0 peer.0).remote) in
        record {
          heals = heals_on plan service site network me peer.0 (AddressWithdraw id None (Some fec) (Some (mac ∷ macs)) ∷ messages) messages work
              (hears_mac_withdraw plan taken_all peer (Some fec) (Some (mac ∷ macs)) work)
              (withdraw_stays plan service network me peer.0 peer fec (mac ∷ macs) work checked types (heard_are id fec (mac ∷ macs) said.0) heals.stays)
              (chosen_same work _ (withdraw_chosen plan peer fec (mac ∷ macs) work))
              (popped (AddressWithdraw id None (Some fec) (Some (mac ∷ macs))) messages work.edge (hears_mac_withdraw plan taken_all peer (Some fec) (Some (mac ∷ macs)) work).edge
              (λ n. and_false (names_by_fec n (Some fec))) still) heals;
          bound = still;
        }
    by (AddressWithdraw id addresses fec macs) said leaves taken unheld sound heals = absurd said.1
    by m said leaves taken unheld sound heals = absurd said

  -- ---- sessions of peers that the service does not join to the edge

  -- a neighbour that the service joins is another one
  other_peer : (place : ℕ) → are_joined_by plan service me.0 peer.0 ≡ false → are_joined_by plan service me.0 place ≡ true → nat_eq place peer.0 ≡ false
  other_peer place apart joined = by (nat_eq place peer.0) refl where
    by : (b : Bool) → nat_eq place peer.0 ≡ b → b ≡ false
    by true is = clash (sym apart ∙ subst (λ (n : ℕ). are_joined_by plan service me.0 n ≡ true) (eqb-true place peer.0 is) joined)
    by false is = refl

  onward_by : (a b : ℕ) (wire : WireId) (row : WirePlan) → IsOnward plan service network a b wire row → are_joined_by plan service a b ≡ true
  onward_by a b wire row onward = of_service_joined plan service a b wire row onward.is (spoke_ours service onward.edge row onward.from) onward.next

  -- behind a switching point too
  behind_by : (wire : WireId) (row : WirePlan) (from to : EdgeId) → IsOnward plan service network me.0 to.0 wire row → mate row me.0 from.0 ≡ Some to → are_joined_by plan service me.0 from.0 ≡ true
  behind_by wire row from to onward mated = any_passes_from_place (λ (r : WirePlan). is_wire_of service r && joins me.0 from.0 r.path) plan.wires wire.0 row onward.is
      (and_from (is_wire_of service row) (joins me.0 from.0 row.path) (spoke_ours service onward.edge row onward.from)
      (mate_joined row.path me.0 to.0 from (other_side row.path me from to (wire_fits plan wire row checked onward.is).once mated)))

  -- an event of such a session
  pub record EventHealing (messages : List Message) (old new : Work) : Type 0 where
    pub heals : Healing messages new
    pub goes_on : GoesOn plan service network me old.edge → GoesOn plan service network me new.edge

  pub event_heals : (event : SessionEvent) (messages : List Message) (work : Work) → are_joined_by plan service me.0 peer.0 ≡ false
      → TellsSoundly (point_limit plan me.0) (happens_with_ends taken_all peer event work).edge → Healing messages work
      → EventHealing messages work (happens_with_ends taken_all peer event work)
  event_heals event messages work apart sound heals = record {
    heals = heals_on plan service site network me peer.0 messages messages work new
        (speaks_on plan service network me peer.0 work new heals.stays speaks lasts (event_forgets service peer event work))
        (chosen_same work new works.edge.chosen) (λ wire row joined seen among. clash (sym apart ∙ joined_back plan service peer.0 me.0 joined)) heals;
    goes_on = λ goes wire row from to onward mated held. ⊎_elim
        (λ (told : is_advertising (work.edge.ends wire.0 to.0).local ≡ true).
        inl (ap (λ (e : EndState). is_advertising e.local) (works.edge.ends wire.0 to.0 (other_peer to.0 apart (onward_by me.0 to.0 wire row onward))) ∙ told))
        (λ (stuck : is_stuck work.edge wire.0 to.0 ≡ true). inr (lasts.stuck wire.0 to.0 (onward_by me.0 to.0 wire row onward) stuck))
        (goes wire row from to onward mated
        (ap (λ (e : EndState). is_some e.remote) (sym (works.edge.ends wire.0 from.0 (other_peer from.0 apart (behind_by wire row from to onward mated)))) ∙ held));
  }
    where
      new : Work
      new = happens_with_ends taken_all peer event work

      works : IsSessionWork (λ (k : ℕ). nat_eq k peer.0) work (happens_with_ends taken_all peer event work)
      works = happens_with_ends_works taken_all (λ (k : ℕ). nat_eq k peer.0) peer event work (same_number peer.0)

      base : Speaks plan service network me peer.0 work work
      base = speaks_first plan service network me peer.0 work heals.stays

      spared : (place : ℕ) → nat_eq place peer.0 ≡ false → Spares place work (happens_with_ends taken_all peer event work)
      spared place away = event_spares place peer event work away

      lasts : Lasts plan service me.0 peer.0 work.edge (happens_with_ends taken_all peer event work).edge
      lasts = record {
        bits = works.edge.bits;
        remotes = λ wire k away. ap (λ (e : EndState). e.remote) (works.edge.ends wire k away);
        stuck = λ wire k joined. stuck_on work.edge (happens_with_ends taken_all peer event work).edge wire k works.edge.wires
            (ap (λ (o : Option Peering). is_up_with o) (works.edge.others k (other_peer k apart joined))) (λ none. event_labels peer event work ∙ none)
            (ap (λ (e : EndState). e.local) (works.edge.ends wire k (other_peer k apart joined)));
      }

      spokes : KeepsSpokes plan service network me (happens_with_ends taken_all peer event work).edge
      spokes = record {
        waits_not = λ wire row next onward. ap (λ (e : EndState). is_withdrawing e.local) (works.edge.ends wire.0 next (other_peer next apart (onward_by me.0 next wire row onward)))
            ∙ base.spokes.waits_not wire row next onward;
        whole = λ wire row next onward first. ap (λ (f : ℕ → ℕ). f wire.0) works.edge.bits ∙ base.spokes.whole wire row next onward first;
        on = λ wire row next onward told. ap (λ (f : ℕ → Bool). f wire.0) works.edge.wires ∙ base.spokes.on wire row next onward
            (ap (λ (e : EndState). is_advertising e.local) (sym (works.edge.ends wire.0 next (other_peer next apart (onward_by me.0 next wire row onward)))) ∙ told);
        across = λ wire row from to label content onward mated at.
            subst (λ (e : EndState). StandsFor plan row me from content e.remote) (sym (works.edge.ends wire.0 from.0 (other_peer from.0 apart (behind_by wire row from to onward mated))))
            (base.spokes.across wire row from to label content onward mated
            (ap (λ (e : EndState). e.local) (sym (works.edge.ends wire.0 to.0 (other_peer to.0 apart (onward_by me.0 to.0 wire row onward)))) ∙ at));
      }

      speaks : Speaks plan service network me peer.0 work (happens_with_ends taken_all peer event work)
      speaks = record {
        place = works.edge.me ∙ base.place;
        sound = sound;
        speaks = λ place joined there. mildly_spared plan service network me peer.0 place work (happens_with_ends taken_all peer event work) (advertises_to work.edge place)
            (advertises_to (happens_with_ends taken_all peer event work).edge place) (spared place (other_peer place apart joined))
            (λ wire row onward. ap (λ (e : EndState). is_advertising e.local) (works.edge.ends wire.0 place (other_peer place apart joined))) (base.speaks place joined there);
        apart = λ place joined gone. (spared place (other_peer place apart joined)).kept ∙ base.apart place joined gone;
        mesh = mesh_beside plan service me peer.0 work.edge (happens_with_ends taken_all peer event work).edge checked works.edge.wires works.edge.bits works.edge.ends
            (λ wire row is of_mesh joined. clash (sym apart ∙ (mesh_link plan service me.0 peer.0 wire row is of_mesh joined).by_service)) base.mesh;
        spokes = spokes;
        more = λ place joined there. more_spared plan service network me peer.0 place work work (happens_with_ends taken_all peer event work) (spared place (other_peer place apart joined))
            (base.more place joined there);
      }

  -- ---- a message is heard

  -- an edge that has heard heals once it has mended, and tells on what it holds
  record HasMendedOn (messages : List Message) (work : Work) : Type 0 where
    heals : Healing messages work
    goes_on : GoesOn plan service network me work.edge

  mended_on : (messages : List Message) (work : Work) → Healing messages work → HasMendedOn messages (mends plan taken_all work)
  mended_on messages work heals =
      let after : Healing messages (mends plan taken_all work) = mends_heal plan service site network me peer.0 messages work checked types ways heals in
      record { heals = after; goes_on = mends_go_on plan service network me work checked after.stays.place heals.stays.place after.stays.spokes }

  pub message_heals : (m : Message) (messages : List Message) (work : Work)
      → ((core : ℕ) → is_core_edge plan service core ≡ true → nat_eq core me.0 ≡ false → is_core_edge plan service me.0 ≡ true → MeshesTo plan service me.0 core)
      → (are_joined_by plan service me.0 peer.0 ≡ true → stands network peer.0 me.0 ≡ true) → stands network me.0 peer.0 ≡ true
      → IsSaidAcross (ends_at plan peer.0 me.0) m → TellsSoundly (point_limit plan me.0) (happens_with_ends taken_all peer (Received m) work).edge
      → TellsSoundly (point_limit plan me.0) (hears_one plan taken_all peer m work).edge
      → HearsHealing plan service site network me peer.0 (m ∷ messages) work → HearsHealing plan service site network me peer.0 messages (hears_message plan taken_all peer m work)
  message_heals m messages work stand back there said sound_event sound hears = by_joined (are_joined_by plan service me.0 peer.0) refl
    where
      mild_rest : ToHearMildly plan service network me.0 peer.0 messages
      mild_rest = record { mild = λ joined stood. (hears.mild.mild joined stood).1 }

      -- the service joins them
      where_joined : are_joined_by plan service me.0 peer.0 ≡ true → HearsHealing plan service site network me peer.0 messages (hears_message plan taken_all peer m work)
      where_joined joined = subst (λ (b : Bool). HearsHealing plan service site network me peer.0 messages (cond b (mends plan taken_all (hears_one plan taken_all peer m work)) work)) (sym stood)
          (subst (λ (w : Work). HearsHealing plan service site network me peer.0 messages (mends plan taken_all w)) (sym acted) (record {
            heals = on.heals;
            mild = mild_rest;
            met = λ turned there_too wire row onward. subst (λ (b : Bool). IsMet row.pw_id b messages (is_advertising ((network.edges peer.0).ends wire.0 me.0).local))
                (sym (ap (λ (o : Option Binding). is_some o) ((mends_hold plan me (acts_on plan taken_all peer m work) acts.heals.stays.place).held wire.0 peer.0) ∙ acts.bound wire row onward))
                (met_next row.pw_id (is_some (work.edge.ends wire.0 peer.0).remote) (is_advertising ((network.edges peer.0).ends wire.0 me.0).local) m messages (met wire row onward));
            taken = hears.taken.1;
            goes_on = on.goes_on;
          }))
        where
          mildly : SpeaksMildly plan service network me.0 peer.0 peer.0 work (advertises_to work.edge peer.0)
          mildly = hears.heals.stays.speaks peer.0 joined there

          stood : has_end work.edge peer ≡ true
          stood = ap is_there mildly.at

          turned : are_joined_by plan service peer.0 me.0 ≡ true
          turned = joined_back plan service me.0 peer.0 joined

          mild : IsMild plan service network peer.0 me.0 m
          mild = (hears.mild.mild turned (back joined)).0

          met : (wire : WireId) (row : WirePlan) → IsOnward plan service network peer.0 me.0 wire row
              → IsMet row.pw_id (is_some (work.edge.ends wire.0 peer.0).remote) (m ∷ messages) (is_advertising ((network.edges peer.0).ends wire.0 me.0).local)
          met = hears.met turned (back joined)

          acted : hears_one plan taken_all peer m work ≡ acts_on plan taken_all peer m work
          acted = up_heard plan (ends_at plan peer.0 me.0) peer m mildly.kept work mildly.at mildly.up said mild.plain

          acts : ActsHealing m messages work
          acts = acts_heal m messages work said (leaves_of m mild) hears.taken.0 (unheld m messages work
              (λ wire. is_advertising ((network.edges peer.0).ends wire me.0).local) met) hears.goes_on stand stood
              (subst (λ (w : Work). TellsSoundly (point_limit plan me.0) w.edge) acted sound) hears.heals

          on : HasMendedOn messages (mends plan taken_all (acts_on plan taken_all peer m work))
          on = mended_on messages (acts_on plan taken_all peer m work) acts.heals

      -- it does not
      where_apart : are_joined_by plan service me.0 peer.0 ≡ false → HearsHealing plan service site network me peer.0 messages (hears_message plan taken_all peer m work)
      where_apart apart = from_end (has_end work.edge peer) where
        no_joined : are_joined_by plan service peer.0 me.0 ≡ true → false ≡ true
        no_joined joined = sym apart ∙ joined_back plan service peer.0 me.0 joined

        event : EventHealing (m ∷ messages) work (happens_with_ends taken_all peer (Received m) work)
        event = event_heals (Received m) (m ∷ messages) work apart sound_event hears.heals

        leaves : LeavesAll plan service network me.0 peer.0 m
        leaves = record {
          mesh = λ wire row is of_mesh joins_it. clash (sym apart ∙ (mesh_link plan service me.0 peer.0 wire row is of_mesh joins_it).by_service);
          onward = λ wire row onward. clash (no_joined (onward_by peer.0 me.0 wire row onward));
          back = λ wire row onward. clash (sym apart ∙ onward_by me.0 peer.0 wire row onward);
        }

        dropped : (w : Work) → Healing (m ∷ messages) w → Healing messages w
        dropped w heals = heals_on plan service site network me peer.0 (m ∷ messages) messages w w (stays_same w heals.stays) (chosen_same w w refl)
            (λ wire row joined seen among. clash (no_joined joined)) heals

        by_act : (up : Bool) → TellsSoundly (point_limit plan me.0) (acts plan taken_all peer m up (happens_with_ends taken_all peer (Received m) work)).edge
            → Healing messages (acts plan taken_all peer m up (happens_with_ends taken_all peer (Received m) work))
        by_act false sound = dropped (happens_with_ends taken_all peer (Received m) work) event.heals
        by_act true sound = by_there (has_end (happens_with_ends taken_all peer (Received m) work).edge peer) refl sound where
          by_there : (b : Bool) → has_end (happens_with_ends taken_all peer (Received m) work).edge peer ≡ b
              → TellsSoundly (point_limit plan me.0)
              (cond b (acts_on plan taken_all peer m (happens_with_ends taken_all peer (Received m) work)) (happens_with_ends taken_all peer (Received m) work)).edge
              → Healing messages (cond b (acts_on plan taken_all peer m (happens_with_ends taken_all peer (Received m) work)) (happens_with_ends taken_all peer (Received m) work))
          by_there true is sound = (acts_heal m messages (happens_with_ends taken_all peer (Received m) work) said leaves hears.taken.0
              (λ wire row onward binds_it. clash (no_joined (onward_by peer.0 me.0 wire row onward))) (event.goes_on hears.goes_on) stand is sound event.heals).heals
          by_there false is sound = dropped (happens_with_ends taken_all peer (Received m) work) event.heals

        result : (w : Work) → HasMendedOn messages w → HearsHealing plan service site network me peer.0 messages w
        result w on = record {
          heals = on.heals;
          mild = mild_rest;
          met = λ joined stood wire row onward. clash (no_joined joined);
          taken = hears.taken.1;
          goes_on = on.goes_on;
        }

        from_end : (b : Bool) → HearsHealing plan service site network me peer.0 messages (cond b (mends plan taken_all (hears_one plan taken_all peer m work)) work)
        from_end true = result (mends plan taken_all (hears_one plan taken_all peer m work))
            (mended_on messages (hears_one plan taken_all peer m work) (by_act (was_up (work.edge.peering peer.0)) sound))
        from_end false = result work (record { heals = dropped work hears.heals; goes_on = hears.goes_on })

      by_joined : (b : Bool) → are_joined_by plan service me.0 peer.0 ≡ b → HearsHealing plan service site network me peer.0 messages (hears_message plan taken_all peer m work)
      by_joined true joined = where_joined joined
      by_joined false apart = where_apart apart
