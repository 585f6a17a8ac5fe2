-- An edge hears a withdrawal of addresses: it forgets, and passes the withdrawal on.
use Rattle.move_laws.proofs.LastLemmas.{holds_last, withdraw_holds}
use Rattle.pw_messages.specs.Content.{mac_withdrawal}
use Rattle.edge_model.proofs.SessionLemmas.{any, says_works}
use Rattle.edge_model.proofs.WalkLemmas.{hears_mac_withdraw_holds}
use Rattle.edge_model.specs.Across.{end_beyond}
use Rattle.edge_model.specs.Clear.{clears_at, clears_by, clears_wire, hears_mac_withdraw, passes_on, tells_at, tells_by, withdrawing_at}
use Rattle.edge_model.specs.EndPlaces.{end_named, is_terminal, passes}
use Rattle.edge_model.specs.Ends.{wire_end}
use Rattle.edge_model.specs.Frame.{copies}
use Rattle.edge_model.specs.Mend.{port_of_wire}
use Rattle.edge_model.specs.Session.{says}
use Rattle.edge_model.specs.Signal.{end_of_fec}
use Rattle.edge_model.specs.State.{end_at, with_addresses}
use Rattle.edge_model.specs.Withdraw.{tells_piece, tells_piece_by, tells_pieces}
use Rattle.edge_model.specs.Work.{Work, changes}
use Rattle.edge_model.specs.declared.end_place.EndPlace.{EndPlace}
use Rattle.flight_laws.proofs.MendingLemmas.{KeptByRows, piece_keeps}
use Rattle.flight_laws.proofs.PassingLemmas.{forgetting_rest, wire_end_is, withdraw_keeps}
use Rattle.flight_laws.proofs.PieceLemmas.{AreSixOctetsEach, none_are_piece}
use Rattle.flight_laws.proofs.PlaceLemmas.{IsEndOf, same_row}
use Rattle.flight_laws.proofs.RuledMendLemmas.{wire_fits}
use Rattle.flight_laws.specs.Ends.{HasTypes}
use Rattle.hvpls_spokes.specs.Port.{is_wire_port, ports_of, wire_port}
use Rattle.hvpls_spokes.specs.Role as roles
use Rattle.hvpls_spokes.specs.declared.edge_role.Role.TheVariants as role
use Rattle.hvpls_spokes.specs.declared.edge_role.Role.{Role}
use Rattle.hvpls_spokes.specs.declared.port.Port.TheVariants as port
use Rattle.hvpls_spokes.specs.declared.port.Port.{Port}
use Rattle.mac_table.specs.Addresses.{entry_stays}
use Rattle.mac_table.specs.declared.mac_entry.MacEntry.{MacEntry}
use Rattle.mac_withdraw.specs.Passing.{is_passed_to}
use Rattle.mac_withdraw.specs.Pieces.{pieces_of}
use Rattle.move_laws.proofs.BeyondLemmas.{HasEndBeside, beyond, heard_beyond}
use Rattle.move_laws.proofs.ChoiceLemmas.{again, piece_tells}
use Rattle.move_laws.proofs.ForgetLemmas.{Forgets, hear_steps_forget}
use Rattle.move_laws.proofs.PendingLemmas.{all_weaker, tells_on}
use Rattle.move_laws.proofs.SpeakLemmas.{Speaks, speaks_first}
use Rattle.move_laws.proofs.StayLemmas.{rows_speak, speaks_on}
use Rattle.move_laws.proofs.WireLemmas.{HasPortAt, IsLinkEnd, link_end, port_found, service_is, IsSpokeOf, spoke_of}
use Rattle.move_laws.specs.Healing.{HasWays, IsSpokeTo, Stays, StaysOn, WillTell, is_advertising, IsSeen, advertises_to}
use Rattle.net_base.specs.declared.plan.Plan.{Plan}
use Rattle.net_base.specs.declared.plan.places.EdgeId.{EdgeId}
use Rattle.net_base.specs.declared.plan.places.ServiceId.{ServiceId}
use Rattle.net_base.specs.declared.plan.places.WireId.{WireId}
use Rattle.net_base.specs.declared.plan.wire_plan.WirePlan.{WirePlan}
use Rattle.net_values.specs.declared.mac.Mac.{Mac}
use Rattle.net_values.proofs.BoolLemmas.{clash, second_holds}
use Rattle.net_values.proofs.NumberLemmas.{same_number, next_place, from_none, at_start}
use Rattle.net_base.specs.plan.Accepted.{IsChecked}
use Rattle.net_base.specs.plan.Paths.{joins, mate_on}
use Rattle.net_base.specs.plan.Places.{wire_row, is_mesh_class}
use Rattle.net_base.specs.plan.Roles.{are_joined_by, has_port, is_mesh_of, is_spoke_edge, is_wire_of, wire_ends_at}
use Rattle.network_model.proofs.GoalLemmas.{mate_inside}
use Rattle.network_model.specs.Absorb.{taken_all}
use Rattle.network_model.specs.State.{NetworkState}
use Rattle.pw_signalling.specs.End.{Advertised, Idle, LocalPart, Withdrawing}
use Rattle.pw_signalling.specs.declared.told.Told.{Told}
use Rattle.pw_tlvs.specs.declared.pw_fec.PwFec.{PwFec}
use Rattle.std.proofs.Common.{Bool, List, None, Option, Some, [], ap, cond, false, filter, not, option_and_then, position, refl, slice_get, subst, suc, sym, true, zero, ℕ, ◌&&◌, ◌+◌, ◌==◌, ◌∙◌, ◌∷◌, ◌≡◌}
use Rattle.std.proofs.lemmas.Bool.{eqb-true}
use Rattle.std.specs.List.{AllByRecursion}

-- ---- what passing on leaves

-- the choice and what was learned are as they were, and what advertised goes on to
pub record SaysOnly (old new : Work) : Type 0 where
  pub me : new.edge.me ≡ old.edge.me
  pub chosen : new.edge.chosen ≡ old.edge.chosen
  pub learned : new.edge.learned ≡ old.edge.learned

only_same : (work : Work) → SaysOnly work work
only_same work = record { me = refl; chosen = refl; learned = refl }

only_then : (a b c : Work) → SaysOnly a b → SaysOnly b c → SaysOnly a c
only_then a b c one next = record { me = next.me ∙ one.me; chosen = next.chosen ∙ one.chosen; learned = next.learned ∙ one.learned }

piece_only : (place : EndPlace) (addresses : List Mac) (work : Work) → SaysOnly work (tells_piece taken_all place addresses work).work
piece_only place addresses work = by_local (end_at work.edge place).local where
  spoken : (content : Told) → SaysOnly work (says taken_all place.peer (mac_withdrawal place.pw_id addresses content) work).work
  spoken content =
      let works = says_works taken_all any place.peer (mac_withdrawal place.pw_id addresses content) work refl in
      record { me = works.edge.me; chosen = works.edge.chosen; learned = works.edge.learned }

  by_local : (local : LocalPart) → SaysOnly work (tells_piece_by taken_all place addresses local work).work
  by_local (Idle declined) = only_same work
  by_local (Advertised label content) = spoken content
  by_local (Withdrawing label) = only_same work

pieces_only : (place : EndPlace) (pieces : List (List Mac)) (work : Work) → SaysOnly work (tells_pieces taken_all place pieces work)
pieces_only place [] work = only_same work
pieces_only place (piece ∷ pieces) work = only_then work (tells_piece taken_all place piece work).work _ (piece_only place piece work)
    (pieces_only place pieces (tells_piece taken_all place piece work).work)

by_only : (addresses : List Mac) (place : Option EndPlace) (work : Work) → SaysOnly work (tells_by taken_all addresses place work)
by_only addresses None work = only_same work
by_only addresses (Some place) work = pieces_only place (pieces_of addresses) work

at_only : (plan : Plan) (addresses : List Mac) (x : Port) (work : Work) → SaysOnly work (tells_at plan taken_all addresses x work)
at_only plan addresses (port.Circuit circuit) work = only_same work
at_only plan addresses (port.Mesh wire) work = by_only addresses (wire_end plan work.edge.me wire) work
at_only plan addresses (port.Spoke wire) work = by_only addresses (wire_end plan work.edge.me wire) work

ports_only : (plan : Plan) (addresses : List Mac) (targets : ℕ → Bool) (p : ℕ) (ports : List Port) (work : Work) → SaysOnly work (copies targets (tells_at plan taken_all addresses) p ports work)
ports_only plan addresses targets p [] work = only_same work
ports_only plan addresses targets p (x ∷ xs) work =
    only_then work (cond (targets p) (tells_at plan taken_all addresses x work) work) _ (by (targets p))
    (ports_only plan addresses targets (p + 1) xs (cond (targets p) (tells_at plan taken_all addresses x work) work))
  where
    by : (b : Bool) → SaysOnly work (cond b (tells_at plan taken_all addresses x work) work)
    by true = at_only plan addresses x work
    by false = only_same work

passes_only : (plan : Plan) (addresses : List Mac) (service : ServiceId) (from : ℕ) (role : Option Role) (work : Work) → SaysOnly work (passes_on plan taken_all addresses service from role work)
passes_only plan addresses service from None work = only_same work
passes_only plan addresses service from (Some role) work = ports_only plan addresses (is_passed_to role (ports_of plan service work.edge.me) from) 0 (ports_of plan service work.edge.me) work

-- ---- the choice is as it was

cleared_chosen : (of : ServiceId) (addresses : List Mac) (from : ℕ) (work : Work) → (changes (withdrawing_at of addresses from) work).edge.chosen ≡ work.edge.chosen
unfolding changes with_addresses
cleared_chosen of addresses from work = refl

pub withdraw_chosen : (plan : Plan) (peer : EdgeId) (fec : PwFec) (macs : List Mac) (work : Work) → (hears_mac_withdraw plan taken_all peer (Some fec) (Some macs) work).edge.chosen ≡ work.edge.chosen
withdraw_chosen plan peer fec macs work = by_end (end_of_fec plan work.edge peer fec) where
  at_port : (of : ServiceId) (from : Option ℕ) → (clears_at plan taken_all macs of from work).edge.chosen ≡ work.edge.chosen
  at_port of None = refl
  at_port of (Some from) = (passes_only plan macs of from (roles.role_of plan of work.edge.me) (changes (withdrawing_at of macs from) work)).chosen ∙ cleared_chosen of macs from work

  by_row : (place : EndPlace) (row : Option WirePlan) → (clears_wire plan taken_all macs place row work).edge.chosen ≡ work.edge.chosen
  by_row place None = refl
  by_row place (Some row) = at_port row.service (port_of_wire plan work.edge place.wire row)

  by_side : (place : EndPlace) (terminal : Bool) → (cond terminal (clears_wire plan taken_all macs place (wire_row plan place.wire) work)
      (tells_by taken_all macs (end_beyond plan work.edge.me place) work)).edge.chosen ≡ work.edge.chosen
  by_side place true = by_row place (wire_row plan place.wire)
  by_side place false = (by_only macs (end_beyond plan work.edge.me place) work).chosen

  by_end : (o : Option EndPlace) → (clears_by plan taken_all macs o work).edge.chosen ≡ work.edge.chosen
  by_end None = refl
  by_end (Some place) = by_side place place.terminal

pub withdraw_stays : (plan : Plan) (service : ServiceId) (network : NetworkState) (me : EdgeId) (k : ℕ) (peer : EdgeId) (fec : PwFec) (macs : List Mac) (work : Work) → IsChecked plan
    → HasTypes plan → AreSixOctetsEach macs
    → Stays plan service network me k work → StaysOn plan service network me k work (hears_mac_withdraw plan taken_all peer (Some fec) (Some macs) work)
withdraw_stays plan service network me k peer fec macs work checked types are begun =
    speaks_on plan service network me k work (hears_mac_withdraw plan taken_all peer (Some fec) (Some macs) work) begun
    (withdraw_keeps plan me (Speaks plan service network me k work) (rows_speak plan service me checked types network k work) peer fec macs are work
    (speaks_first plan service network me k work begun))
    (holds_last plan service me.0 k work.edge _ me (withdraw_holds plan me peer fec macs work are begun.place))
    (hears_mac_withdraw_holds plan taken_all (Forgets service) (hear_steps_forget service plan) peer (Some fec) (Some macs) work)

-- ---- all addresses are withdrawn

-- each entry that is left is at this port
abbrev pub AreAtPort : Plan → ServiceId → EdgeId → Port → List MacEntry → Type 0
AreAtPort plan service me at entries = AllByRecursion (λ (entry : MacEntry). slice_get (ports_of plan service me) entry.port ≡ Some at) entries

module _ (plan : Plan) (service : ServiceId) (me peer : EdgeId) (wire : WireId) (row : WirePlan) (fec : PwFec) (work : Work) (checked : IsChecked plan) (ends : wire_ends_at service me.0 row ≡ true)
    (placed : work.edge.me ≡ me)
    (is : wire_row plan wire ≡ Some row) (of_service : is_wire_of service row ≡ true) (joined : joins me.0 peer.0 row.path ≡ true) (named : fec.pw_id ≡ Some row.pw_id) where
  end : IsLinkEnd plan me peer wire row
  end = link_end plan service me peer wire row checked ends is joined

  pub found_port : HasPortAt plan service me wire row
  found_port = port_found plan service me wire row is ends

  abbrev Cleared : Work
  Cleared = changes (withdrawing_at service [] found_port.p) work

  pub heard_is : hears_mac_withdraw plan taken_all peer (Some fec) (Some []) work ≡ passes_on plan taken_all [] service found_port.p (roles.role_of plan service work.edge.me) Cleared
  heard_is =
      ap (λ (o : Option EndPlace). clears_by plan taken_all [] o work) found_end
      ∙ (ap (λ (b : Bool). cond b (clears_wire plan taken_all [] end.place (wire_row plan end.place.wire) work) (tells_by taken_all [] (end_beyond plan work.edge.me end.place) work)) end.terminal
      ∙ (ap (λ (r : Option WirePlan). clears_wire plan taken_all [] end.place r work) (ap (wire_row plan) end.wire_is ∙ is)
      ∙ (ap (λ (s : ServiceId). clears_at plan taken_all [] s (position (is_wire_port end.place.wire) (ports_of plan s work.edge.me)) work) (service_is row service of_service)
      ∙ ap (λ (o : Option ℕ). clears_at plan taken_all [] service o work) port_is)))
    where
      found_end : end_of_fec plan work.edge peer fec ≡ Some end.place
      found_end = ap (λ (o : Option ℕ). option_and_then (end_named plan work.edge.me peer) o) named ∙ (ap (λ (k : EdgeId). end_named plan k peer row.pw_id) placed ∙ end.named)

      port_is : position (is_wire_port end.place.wire) (ports_of plan service work.edge.me) ≡ Some found_port.p
      port_is = ap (λ (w : WireId). position (is_wire_port w) (ports_of plan service work.edge.me)) end.wire_is
          ∙ (ap (λ (k : EdgeId). position (is_wire_port wire) (ports_of plan service k)) placed ∙ found_port.found)

  cleared_learned : Cleared.edge.learned service.0 ≡ filter (entry_stays found_port.p []) (work.edge.learned service.0)
  unfolding changes with_addresses
  cleared_learned = rw (same_number service.0) refl

  left_pass : (test : MacEntry → Bool) (xs : List MacEntry) → AllByRecursion (λ (entry : MacEntry). test entry ≡ true) (filter test xs)
  left_pass test [] = tt
  left_pass test (x ∷ xs) = by (test x) refl (left_pass test xs) where
    by : (b : Bool) → test x ≡ b → AllByRecursion (λ (entry : MacEntry). test entry ≡ true) (filter test xs)
        → AllByRecursion (λ (entry : MacEntry). test entry ≡ true) (cond b (x ∷ filter test xs) (filter test xs))
    by true passes rest = (passes, rest)
    by false fails rest = rest

  pub withdraw_port : AreAtPort plan service me (wire_port wire.0 row) ((hears_mac_withdraw plan taken_all peer (Some fec) (Some []) work).edge.learned service.0)
  withdraw_port = subst (AreAtPort plan service me (wire_port wire.0 row)) (sym learned)
      (all_weaker (λ (entry : MacEntry). entry_stays found_port.p [] entry ≡ true) (λ (entry : MacEntry). slice_get (ports_of plan service me) entry.port ≡ Some (wire_port wire.0 row))
      (filter (entry_stays found_port.p []) (work.edge.learned service.0))
      (λ entry at. ap (slice_get (ports_of plan service me)) (eqb-true entry.port found_port.p at) ∙ found_port.leads) (left_pass (entry_stays found_port.p []) (work.edge.learned service.0)))
    where
      learned : (hears_mac_withdraw plan taken_all peer (Some fec) (Some []) work).edge.learned service.0 ≡ filter (entry_stays found_port.p []) (work.edge.learned service.0)
      learned = ap (λ (w : Work). w.edge.learned service.0) heard_is
          ∙ (ap (λ (f : ℕ → List MacEntry). f service.0) (passes_only plan [] service found_port.p (roles.role_of plan service work.edge.me) Cleared).learned ∙ cleared_learned)

-- ---- a withdrawal is passed on

module _ (plan : Plan) (service : ServiceId) (network : NetworkState) (me : EdgeId) (k : ℕ) (checked : IsChecked plan) (types : HasTypes plan) (ways : HasWays plan service network me) where
  abbrev At : Work → Type 0
  At work = Speaks plan service network me k work work

  rows : (base : Work) → KeptByRows plan me (Speaks plan service network me k base)
  rows base = rows_speak plan service me checked types network k base

  renew : (base work : Work) → Speaks plan service network me k base work → At work
  renew base work speaks = again plan service network me k checked types ways base work speaks

  -- by each port one piece is said at most
  port_speaks : (base : Work) (x : Port) (work : Work) → Speaks plan service network me k base work → Speaks plan service network me k base (tells_at plan taken_all [] x work)
  port_speaks base x work speaks = by x where
    by_wire : (wire : WireId) (o : Option EndPlace) → wire_end plan work.edge.me wire ≡ o → Speaks plan service network me k base (tells_by taken_all [] o work)
    by_wire wire None is = speaks
    by_wire wire (Some place) is =
        piece_keeps plan me (Speaks plan service network me k base) (rows base) place
        (subst (λ (e : EdgeId). IsEndOf plan e place) speaks.place (wire_end_is plan work.edge.me wire place is)) [] none_are_piece work speaks

    by : (x : Port) → Speaks plan service network me k base (tells_at plan taken_all [] x work)
    by (port.Circuit circuit) = speaks
    by (port.Mesh wire) = by_wire wire (wire_end plan work.edge.me wire) refl
    by (port.Spoke wire) = by_wire wire (wire_end plan work.edge.me wire) refl

  port_or_not : (base : Work) (b : Bool) (x : Port) (work : Work) → Speaks plan service network me k base work → Speaks plan service network me k base (cond b (tells_at plan taken_all [] x work) work)
  port_or_not base true x work speaks = port_speaks base x work speaks
  port_or_not base false x work speaks = speaks

  ports_speak : (base : Work) (targets : ℕ → Bool) (p : ℕ) (ports : List Port) (work : Work) → Speaks plan service network me k base work
      → Speaks plan service network me k base (copies targets (tells_at plan taken_all []) p ports work)
  ports_speak base targets p [] work speaks = speaks
  ports_speak base targets p (x ∷ xs) work speaks = ports_speak base targets (p + 1) xs (cond (targets p) (tells_at plan taken_all [] x work) work) (port_or_not base (targets p) x work speaks)

  module _ (next : EdgeId) (wire : WireId) (row : WirePlan) (is : wire_row plan wire ≡ Some row) (seen : IsSeen plan service network me.0 next.0 wire row)
      (by_service : are_joined_by plan service me.0 next.0 ≡ true) where
    -- to the next edge of the wire
    abbrev Tells : Work → Type 0
    Tells work = WillTell plan service network me.0 next.0 wire row work

    -- at the end beside it
    end_tells : (place : EndPlace) → IsEndOf plan me place → place.wire ≡ wire → place.peer ≡ next → (work : Work) → advertises_to work.edge next.0 wire.0 ≡ true → At work
        → Tells (tells_by taken_all [] (Some place) work)
    end_tells place end wire_is peer_is work told speaks = by_local (end_at work.edge place).local refl told_there where
      told_there : is_advertising (end_at work.edge place).local ≡ true
      told_there = ap (λ (w : WireId). is_advertising (work.edge.ends w.0 place.peer.0).local) wire_is ∙ (ap (λ (e : EdgeId). is_advertising (work.edge.ends wire.0 e.0).local) peer_is ∙ told)

      row_is : end.row ≡ row
      row_is = same_row end.row row (sym end.is ∙ (ap (wire_row plan) wire_is ∙ is))

      seen_there : IsSeen plan service network me.0 place.peer.0 place.wire end.row
      seen_there = subst (λ (e : EdgeId). IsSeen plan service network me.0 e.0 place.wire end.row) (sym peer_is)
          (subst (λ (w : WireId). IsSeen plan service network me.0 next.0 w end.row) (sym wire_is) (subst (λ (r : WirePlan). IsSeen plan service network me.0 next.0 wire r) (sym row_is) seen))

      by_local : (local : LocalPart) → (end_at work.edge place).local ≡ local → is_advertising local ≡ true
          → Tells (tells_piece_by taken_all place [] local work).work
      by_local (Idle declined) at told = clash told
      by_local (Advertised label content) at told =
          subst (λ (e : EdgeId). WillTell plan service network me.0 e.0 wire row (says taken_all place.peer (mac_withdrawal place.pw_id [] content) work).work) peer_is
          (subst (λ (w : WireId). WillTell plan service network me.0 place.peer.0 w row (says taken_all place.peer (mac_withdrawal place.pw_id [] content) work).work) wire_is
          (subst (λ (r : WirePlan). WillTell plan service network me.0 place.peer.0 place.wire r (says taken_all place.peer (mac_withdrawal place.pw_id [] content) work).work) row_is
          (piece_tells plan service network me k checked types ways work place label content work end seen_there
          (ap (λ (e : EdgeId). are_joined_by plan service me.0 e.0) peer_is ∙ by_service) at speaks)))
      by_local (Withdrawing label) at told = clash told

    -- at a switching point, from the other side
    pub withdraw_goes_on : (peer : EdgeId) (fec : PwFec) (work : Work) → Stays plan service network me k work → joins me.0 peer.0 row.path ≡ true → mate_on row.path me.0 peer.0 ≡ Some next
        → fec.pw_id ≡ Some row.pw_id → advertises_to work.edge next.0 wire.0 ≡ true → Tells (hears_mac_withdraw plan taken_all peer (Some fec) (Some []) work)
    withdraw_goes_on peer fec work begun beside mated named told =
        subst Tells (sym (heard_beyond plan me peer next wire row fec work checked begun.place is beside mated inside named))
        (end_tells far.place far.end far.wire_is far.peer_is work told (speaks_first plan service network me k work begun))
      where
        inside : is_terminal row me ≡ false
        inside = mate_inside row.path me peer next (wire_fits plan wire row checked is).once mated

        far : HasEndBeside plan me next wire
        far = beyond plan me peer next wire row fec work checked begun.place is beside mated inside named

    -- at a terminal edge of a mesh wire, by its port
    module _ (of_mesh : is_mesh_of service row ≡ true) (joined : joins me.0 next.0 row.path ≡ true) (ends : wire_ends_at service me.0 row ≡ true) where
      here_tells : (work : Work) → At work → Tells (tells_at plan taken_all [] (port.Mesh wire) work)
      here_tells work speaks = subst (λ (o : Option EndPlace). Tells (tells_by taken_all [] o work)) (sym found)
          (end_tells there.place (wire_end_is plan me wire there.place there.found) there.wire_is there.peer_is work (speaks.mesh.told wire row next.0 is of_mesh joined) speaks)
        where
          there : IsLinkEnd plan me next wire row
          there = link_end plan service me next wire row checked ends is joined

          found : wire_end plan work.edge.me wire ≡ Some there.place
          found = ap (λ (e : EdgeId). wire_end plan e wire) speaks.place ∙ there.found

      ports_tell : (targets : ℕ → Bool) (p i : ℕ) (ports : List Port) (work : Work) → slice_get ports i ≡ Some (port.Mesh wire) → targets (p + i) ≡ true → At work
          → Tells (copies targets (tells_at plan taken_all []) p ports work)
      ports_tell targets p i [] work at goes speaks = absurd (cc (at))
      ports_tell targets p zero (x ∷ xs) work at goes speaks =
          let same : x ≡ port.Mesh wire = cc (at) in
          let target : targets p ≡ true = ap targets (sym (at_start p)) ∙ goes in
          let after : Work = tells_at plan taken_all [] x work in
          let first : Tells after =
          subst (λ (y : Port). Tells (tells_at plan taken_all [] y work)) (sym same) (here_tells work speaks) in
          let then : Speaks plan service network me k after (copies targets (tells_at plan taken_all []) (p + 1) xs after) =
          ports_speak after targets (p + 1) xs after (renew work after (port_speaks work x work speaks)) in
          subst (λ (b : Bool). Tells (copies targets (tells_at plan taken_all []) (p + 1) xs (cond b after work))) (sym target)
          (tells_on plan service network me.0 next.0 wire row after (copies targets (tells_at plan taken_all []) (p + 1) xs after) (then.more next.0 first.joined first.there) first)
      ports_tell targets p (suc i) (x ∷ xs) work at goes speaks =
          ports_tell targets (p + 1) i xs (cond (targets p) (tells_at plan taken_all [] x work) work) at (ap targets (next_place p i) ∙ goes)
          (renew work _ (port_or_not work (targets p) x work speaks))

      -- from a spoke
      pub withdraw_passes : (peer : EdgeId) (edge : ℕ) (spoke_wire : WireId) (fec : PwFec) (work : Work) → (begun : Stays plan service network me k work)
          → (spoke : IsSpokeTo plan service edge spoke_wire me.0) → joins me.0 peer.0 spoke.row.path ≡ true → fec.pw_id ≡ Some spoke.row.pw_id
          → Tells (hears_mac_withdraw plan taken_all peer (Some fec) (Some []) work)
      withdraw_passes peer edge spoke_wire fec work begun spoke back named =
          subst Tells (sym (heard_is plan service me peer spoke_wire spoke.row fec work checked near.ends_there begun.place spoke.is near.ours back named))
          (subst (λ (o : Option Role). Tells (passes_on plan taken_all [] service from.p o cleared)) (sym role_is) passed)
        where
          near : IsSpokeOf plan service edge me.0 spoke.row
          near = spoke_of plan service edge spoke_wire me.0 checked spoke

          from : HasPortAt plan service me spoke_wire spoke.row
          from = found_port plan service me peer spoke_wire spoke.row fec work checked near.ends_there begun.place spoke.is near.ours back named

          to : HasPortAt plan service me wire row
          to = port_found plan service me wire row is ends

          cleared : Work
          cleared = changes (withdrawing_at service [] from.p) work

          role_is : roles.role_of plan service work.edge.me ≡ Some role.Core
          role_is = ap (λ (e : EdgeId). roles.role_of plan service e) begun.place ∙ rw (core_only.0, core_only.1) refl
            where
              core_only : (is_spoke_edge plan service me.0 ≡ false) × (has_port plan service me.0 ≡ true)
              core_only = no_spoke (has_port plan service me.0) (is_spoke_edge plan service me.0) near.core
                where
                  no_spoke : (p s : Bool) → p && not s ≡ true → (s ≡ false) × (p ≡ true)
                  no_spoke true true is = clash is
                  no_spoke true false is = (refl, refl)
                  no_spoke false s is = clash is

          at_cleared : At cleared
          at_cleared = renew work cleared ((rows work).others (withdrawing_at service [] from.p) work (forgetting_rest service [] from.p work.edge).0
              (forgetting_rest service [] from.p work.edge).1 (speaks_first plan service network me k work begun))

          cleared_me : cleared.edge.me ≡ me
          cleared_me = at_cleared.place

          ports : List Port
          ports = ports_of plan service me

          mesh_leads : slice_get ports to.p ≡ Some (port.Mesh wire)
          mesh_leads = to.leads ∙ ap (λ (m : Bool). Some (cond m (port.Mesh (record { 0 = wire.0 })) (port.Spoke (record { 0 = wire.0 }))))
              (second_holds (is_wire_of service row) (is_mesh_class row.class) of_mesh)

          spoke_leads : slice_get ports from.p ≡ Some (port.Spoke spoke_wire)
          spoke_leads = from.leads ∙ ap (λ (m : Bool). Some (cond m (port.Mesh (record { 0 = spoke_wire.0 })) (port.Spoke (record { 0 = spoke_wire.0 })))) near.class

          not_same : (a b : ℕ) → slice_get ports a ≡ Some (port.Mesh wire) → slice_get ports b ≡ Some (port.Spoke spoke_wire) → (b' : Bool) → (a == b) ≡ b' → b' ≡ false
          not_same a b one other true is = absurd (cc (sym one ∙ (ap (slice_get ports) (eqb-true a b is) ∙ other)))
          not_same a b one other false is = refl

          goes : is_passed_to role.Core ports from.p to.p ≡ true
          goes = rw (mesh_leads, spoke_leads, not_same to.p from.p mesh_leads spoke_leads (to.p == from.p) refl) refl

          passed : Tells (passes_on plan taken_all [] service from.p (Some role.Core) cleared)
          passed = subst (λ (e : EdgeId). Tells
              (copies (is_passed_to role.Core (ports_of plan service e) from.p) (tells_at plan taken_all []) 0 (ports_of plan service e) cleared)) (sym cleared_me)
              (ports_tell (is_passed_to role.Core ports from.p) 0 to.p ports cleared mesh_leads (ap (is_passed_to role.Core ports from.p) (from_none to.p) ∙ goes) at_cleared)
