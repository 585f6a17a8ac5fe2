-- A spoke edge that has chosen another one of its spokes says there that all addresses are to be forgotten.
use Rattle.pw_messages.specs.Content.{mac_withdrawal, status_notification}
use Rattle.edge_model.proofs.MendLemmas.{mends_takes}
use Rattle.edge_model.proofs.SessionLemmas.{any, says_works}
use Rattle.edge_model.specs.EndPlaces.{end_places}
use Rattle.edge_model.specs.Mend.{and_says, cause_number, each_end, forgets_down, forgets_downs, forgetting_wire, is_new_choice, is_up_with, mends, mends_choice, mends_end, mends_status, mends_status_of, telling_status, tells_down, tells_downs, tells_new_status, tells_over, then_changes}
use Rattle.edge_model.specs.Put.{Spoken, stays}
use Rattle.edge_model.specs.Role.{down_at, is_chosen, status_to_tell}
use Rattle.edge_model.specs.Session.{says}
use Rattle.edge_model.specs.Spokes.{choice, choosing}
use Rattle.edge_model.specs.State.{Peering, end_at, with_addresses, with_chosen, with_end, with_told_down}
use Rattle.edge_model.specs.Withdraw.{tells_piece, tells_piece_by}
use Rattle.edge_model.specs.Work.{Work, changes, gives}
use Rattle.edge_model.specs.declared.effect.Effect.TheVariants.{Wire}
use Rattle.edge_model.specs.declared.end_place.EndPlace.{EndPlace}
use Rattle.flight_laws.proofs.MendingLemmas.{KeptByRows, choice_keeps, chooses_keep, downs_keep, each_keeps, end_keeps, forgets_keep, status_keeps}
use Rattle.flight_laws.proofs.NameLemmas.{end_fact}
use Rattle.flight_laws.proofs.OfferLemmas.{IsOfWires, clearance_is}
use Rattle.flight_laws.proofs.PieceLemmas.{none_are_piece}
use Rattle.flight_laws.proofs.PlaceLemmas.{IsEndOf, places_are, same_row}
use Rattle.flight_laws.proofs.SaidLemmas.{all_joined, said-append}
use Rattle.flight_laws.proofs.SayLemmas.{says_none}
use Rattle.flight_laws.proofs.SpokenLemmas.{says_spoken}
use Rattle.flight_laws.proofs.SteadyLemmas.{advertised_up, end_small}
use Rattle.flight_laws.proofs.WorkLemmas.{same_end}
use Rattle.flight_laws.specs.Ends.{HasTypes, ends_at}
use Rattle.flight_laws.specs.Facts.{flight}
use Rattle.flight_laws.specs.Meeting.{said_to}
use Rattle.flight_laws.specs.Messages.{octets_of_all}
use Rattle.flight_laws.specs.Sound.{point_limit}
use Rattle.flight_laws.proofs.RuledMendLemmas.{wire_fits}
use Rattle.ldp_grammar.specs.declared.message.Message.{Message}
use Rattle.flood_laws.proofs.ChoiceLemmas.{IsChoice, all_get, choice_is}
use Rattle.move_laws.proofs.ForwardLemmas.{advertises_it, forwards_whole}
use Rattle.move_laws.proofs.HearingLemmas.{bound_on, bound_sooner, cleared_last, met_joined}
use Rattle.move_laws.proofs.LastLemmas.{Holds, rows_hold}
use Rattle.move_laws.proofs.PendingLemmas.{of_service_joined, spoke_ours, tells_on}
use Rattle.move_laws.proofs.SpeakLemmas.{Speaks, said_more, speaks_first}
use Rattle.move_laws.proofs.StayLemmas.{rows_speak}
use Rattle.move_laws.proofs.WireLemmas.{service_is}
use Rattle.move_laws.specs.Clearing.{IsOnward, clears, is_bound_by, is_cleared_by, takes_clearing}
use Rattle.move_laws.specs.Healing.{HasWays, IsMet, IsSeen, IsSpokeTo, IsSteady, OfMesh, OfSpoke, SpeaksMildly, Stays, TellsChoice, TellsNext, WillTell, advertises_to, is_advertising}
use Rattle.net_base.specs.declared.plan.Plan.{Plan}
use Rattle.net_base.specs.declared.plan.places.EdgeId.{EdgeId}
use Rattle.net_base.specs.declared.plan.places.ServiceId.{ServiceId}
use Rattle.net_base.specs.declared.plan.places.WireId.{WireId}
use Rattle.net_base.specs.declared.plan.wire_plan.WirePlan.{WirePlan}
use Rattle.net_base.specs.declared.trace.down.Down.{Down}
use Rattle.net_values.specs.declared.addr.Addr.{Addr}
use Rattle.net_values.specs.declared.mac.Mac.{Mac}
use Rattle.net_values.proofs.BoolLemmas.{clash, now_and_not_was, second_holds}
use Rattle.net_values.proofs.NumberLemmas.{same_number}
use Rattle.net_base.specs.plan.Accepted.{IsChecked}
use Rattle.net_base.specs.plan.Paths.{follows, is_first, is_last, joins}
use Rattle.net_base.specs.plan.Places.{is_mesh_class, wire_row}
use Rattle.net_base.specs.plan.Roles.{are_joined_by, is_wire_of}
use Rattle.network_model.proofs.GoalLemmas.{begins_first}
use Rattle.network_model.proofs.WayLemmas.{joins_is}
use Rattle.network_model.specs.Absorb.{taken_all}
use Rattle.network_model.specs.State.{NetworkState, stands}
use Rattle.pw_signalling.proofs.LawLemmas.{forwards_where_both_agree}
use Rattle.pw_signalling.specs.End.{Advertised, EndState, Idle, LocalPart, Withdrawing}
use Rattle.pw_signalling.specs.Rows.{tell_part, telling}
use Rattle.pw_signalling.specs.declared.end_role.EndRole.TheVariants as role
use Rattle.pw_signalling.specs.declared.told.Told.{Told}
use Rattle.pw_tlvs.specs.declared.pw_status.PwStatus.{PwStatus}
use Rattle.session_core.specs.declared.peers.Peers.{Peers}
use Rattle.std.proofs.Common.{Bool, List, None, Option, Some, [], ap, append_assoc, cond, false, inl, inr, refl, slice_get, subst, suc, sym, true, zero, ℕ, ◌&&◌, ◌++◌, ◌==◌, ◌||◌, ◌∙◌, ◌∷◌, ◌≡◌, ◌⊎◌, is_some, not}
use Rattle.std.proofs.lemmas.Bool.{cases_Bool, eqb-true, or_right}
use Rattle.std.specs.List.{AllByRecursion}

-- ---- what telling leaves

-- the choice is as it was, and what advertised goes on to
pub record KeepsChoice (old new : Work) : Type 0 where
  pub me : new.edge.me ≡ old.edge.me
  pub chosen : new.edge.chosen ≡ old.edge.chosen
  pub told : (wire k : ℕ) → is_advertising (old.edge.ends wire k).local ≡ true → is_advertising (new.edge.ends wire k).local ≡ true

choice_same : (work : Work) → KeepsChoice work work
choice_same work = record { me = refl; chosen = refl; told = λ wire k is. is }

choice_then : (a b c : Work) → KeepsChoice a b → KeepsChoice b c → KeepsChoice a c
choice_then a b c one next = record { me = next.me ∙ one.me; chosen = next.chosen ∙ one.chosen; told = λ wire k is. next.told wire k (one.told wire k is) }

pub says_choice : (to : EdgeId) (message : ℕ → Message) (work : Work) → KeepsChoice work (says taken_all to message work).work
says_choice to message work = record {
  me = (says_works taken_all any to message work refl).edge.me;
  chosen = (says_works taken_all any to message work refl).edge.chosen;
  told = λ wire k is. by_end (work.edge.peering to.0) refl wire k is;
}
  where
    by_end : (near : Option Peering) → work.edge.peering to.0 ≡ near → (wire k : ℕ) → is_advertising (work.edge.ends wire k).local ≡ true
        → is_advertising ((says taken_all to message work).work.edge.ends wire k).local ≡ true
    by_end None at wire k is = ap (λ (w : Work). is_advertising (w.edge.ends wire k).local) (says_none to message work at) ∙ is
    by_end (Some kept) at wire k is = ap (λ (f : ℕ → ℕ → EndState). is_advertising (f wire k).local) (says_spoken to kept message work at).ends ∙ is

telling_choice : (place : EndPlace) (status : PwStatus) (work : Work) → KeepsChoice work (changes (telling_status place status) work)
unfolding changes with_end
telling_choice place status work = record {
  me = refl;
  chosen = refl;
  told = λ wire k is. end_fact (λ w p e. w ≡ wire → p ≡ k → is_advertising e.local ≡ true) place (telling status (end_at work.edge place)) work.edge wire k
      (λ same also. tells (end_at work.edge place).local
      (subst (λ (p : ℕ). is_advertising (work.edge.ends place.wire.0 p).local ≡ true) (sym also) (subst (λ (w : ℕ). is_advertising (work.edge.ends w k).local ≡ true) (sym same) is)))
      (λ same also. is) refl refl;
}
  where
    tells : (local : LocalPart) → is_advertising local ≡ true → is_advertising (tell_part status local) ≡ true
    tells (Idle declined) is = clash is
    tells (Advertised label content) is = refl
    tells (Withdrawing label) is = clash is

status_choice : (plan : Plan) (place : EndPlace) (work : Work) → KeepsChoice work (mends_status plan taken_all place work).work
status_choice plan place work = by_local (end_at work.edge place).local where
  by_status : (content : Told) (status : PwStatus) (last : Option PwStatus) → KeepsChoice work (tells_over taken_all place content status last work).work
  by_status content status None = choice_same work
  by_status content status (Some last) = by (last.0 == status.0) where
    by : (b : Bool) → KeepsChoice work (cond b (stays work) (tells_new_status taken_all place content status work)).work
    by true = choice_same work
    by false = choice_then work (changes (telling_status place status) work) (tells_new_status taken_all place content status work).work (telling_choice place status work)
        (says_choice place.peer (status_notification place.pw_id status content) (changes (telling_status place status) work))

  by_local : (local : LocalPart) → KeepsChoice work (mends_status_of plan taken_all place local work).work
  by_local (Idle declined) = choice_same work
  by_local (Advertised label content) = by_status content (status_to_tell plan work.edge place) content.status
  by_local (Withdrawing label) = choice_same work

pub piece_choice : (place : EndPlace) (addresses : List Mac) (work : Work) → KeepsChoice work (tells_piece taken_all place addresses work).work
piece_choice place addresses work = by_local (end_at work.edge place).local where
  by_local : (local : LocalPart) → KeepsChoice work (tells_piece_by taken_all place addresses local work).work
  by_local (Idle declined) = choice_same work
  by_local (Advertised label content) = says_choice place.peer (mac_withdrawal place.pw_id addresses content) work
  by_local (Withdrawing label) = choice_same work

mends_choice_keeps : (plan : Plan) (before : ℕ → Option WireId) (place : EndPlace) (work : Work) → KeepsChoice work (mends_choice plan taken_all before place work).work
mends_choice_keeps plan before place work = by (is_new_choice before work.edge.chosen place.wire (wire_row plan place.wire)) where
  by : (b : Bool) → KeepsChoice work (cond b (tells_piece taken_all place [] work) (stays work)).work
  by true = piece_choice place [] work
  by false = choice_same work

each_choice : (mend : EndPlace → Work → Spoken) → ((place : EndPlace) (work : Work) → KeepsChoice work (mend place work).work) → (places : List EndPlace) (m : Spoken)
    → KeepsChoice m.work (each_end mend places m).work
each_choice mend one [] m = choice_same m.work
each_choice mend one (place ∷ places) m = choice_then m.work (mend place m.work).work (each_end mend places (and_says m (mend place))).work (one place m.work)
    (each_choice mend one places (and_says m (mend place)))

forgetting_choice : (plan : Plan) (wire : WireId) (row : Option WirePlan) (work : Work) → KeepsChoice work (changes (forgetting_wire plan wire row) work)
unfolding changes with_addresses
forgetting_choice plan wire None work = choice_same work
forgetting_choice plan wire (Some row) work = record { me = refl; chosen = refl; told = λ wire k is. is }

forgets_choice : (plan : Plan) (places : List EndPlace) (work : Work) → KeepsChoice work (forgets_downs plan places work)
forgets_choice plan [] work = choice_same work
forgets_choice plan (place ∷ places) work =
    choice_then work (cond place.terminal (forgets_down plan place (down_at plan work.edge place) work) work) _ (by place.terminal)
    (forgets_choice plan places (cond place.terminal (forgets_down plan place (down_at plan work.edge place) work) work))
  where
    by_down : (down : Option Down) → KeepsChoice work (forgets_down plan place down work)
    by_down None = choice_same work
    by_down (Some why) = forgetting_choice plan place.wire (wire_row plan place.wire) work

    by : (b : Bool) → KeepsChoice work (cond b (forgets_down plan place (down_at plan work.edge place) work) work)
    by true = by_down (down_at plan work.edge place)
    by false = choice_same work

telling_down_choice : (place : EndPlace) (down : Option Down) (work : Work) → KeepsChoice work (gives (Wire place.wire down) (changes (with_told_down place.wire down) work))
unfolding changes gives with_told_down
telling_down_choice place down work = record { me = refl; chosen = refl; told = λ wire k is. is }

downs_choice : (plan : Plan) (places : List EndPlace) (work : Work) → KeepsChoice work (tells_downs plan places work)
downs_choice plan [] work = choice_same work
downs_choice plan (place ∷ places) work =
    choice_then work (cond place.terminal (tells_down place (down_at plan work.edge place) work) work) _ (by place.terminal)
    (downs_choice plan places (cond place.terminal (tells_down place (down_at plan work.edge place) work) work))
  where
    by_cause : (down : Option Down) (same : Bool) → KeepsChoice work (cond same work (gives (Wire place.wire down) (changes (with_told_down place.wire down) work)))
    by_cause down true = choice_same work
    by_cause down false = telling_down_choice place down work

    by : (b : Bool) → KeepsChoice work (cond b (tells_down place (down_at plan work.edge place) work) work)
    by true = by_cause (down_at plan work.edge place) (cause_number (work.edge.told_down place.wire.0) == cause_number (down_at plan work.edge place))
    by false = choice_same work

choosing_told : (plan : Plan) (work : Work) (wire k : ℕ) → is_advertising (work.edge.ends wire k).local ≡ true → is_advertising ((changes (choosing plan) work).edge.ends wire k).local ≡ true
unfolding changes with_chosen
choosing_told plan work wire k is = is

choosing_chosen : (plan : Plan) (work : Work) (service : ServiceId) → (changes (choosing plan) work).edge.chosen service.0 ≡ choice plan work.edge service
unfolding changes with_chosen
choosing_chosen plan work service = refl

-- ---- a withdrawal is said

module _ (plan : Plan) (service : ServiceId) (network : NetworkState) (me : EdgeId) (peer : ℕ) (checked : IsChecked plan) (types : HasTypes plan) (ways : HasWays plan service network me) where
  abbrev At : Work → Type 0
  At work = Speaks plan service network me peer work work

  pub again : (base work : Work) → Speaks plan service network me peer base work → At work
  again base work speaks = record {
    place = speaks.place;
    sound = speaks.sound;
    speaks = speaks.speaks;
    apart = speaks.apart;
    mesh = speaks.mesh;
    spokes = speaks.spokes;
    more = λ place joined there. record { more = []; is = sym (same_end (said_to place work.effects)); said = tt };
  }

  -- where a session is up, it stood from the first
  stood : (base work : Work) → Speaks plan service network me peer base work → (place : ℕ) → are_joined_by plan service me.0 place ≡ true → is_up_with (work.edge.peering place) ≡ true
      → stands network me.0 place ≡ true
  stood base work speaks place joined up = by (stands network me.0 place) refl where
    by : (b : Bool) → stands network me.0 place ≡ b → b ≡ true
    by true is = refl
    by false is = clash (sym (ap is_up_with (speaks.apart place joined is)) ∙ up)

  cleared_by : (pw_id : ℕ) (content : Told) (id : ℕ) → clears pw_id (mac_withdrawal pw_id [] content id) ≡ true
  cleared_by pw_id content id = rw (same_number pw_id) refl

  said_with : (router : Addr) (front said : List ℕ) (ms ns : List Message) → front ≡ octets_of_all router ms → said ≡ octets_of_all router ns → front ++ said ≡ octets_of_all router (ms ++ ns)
  said_with router front said ms ns one other = rw (one, other) (sym (all_joined router ms ns))

  joined_all : (xs ys : List Message) (m : Message) → (xs ++ ys) ++ m ∷ [] ≡ xs ++ (ys ++ m ∷ [])
  joined_all xs ys m = append_assoc xs ys (m ∷ [])

  -- who hears it takes it, once it has heard what was said before
  takes_it : (work : Work) (place : EndPlace) (end : IsEndOf plan me place) → IsSeen plan service network me.0 place.peer.0 place.wire end.row
      → advertises_to work.edge place.peer.0 place.wire.0 ≡ true
      → (steady : IsSteady plan service network me.0 place.peer.0) (mildly : SpeaksMildly plan service network me.0 peer place.peer.0 work (advertises_to work.edge place.peer.0))
      → is_bound_by end.row.pw_id (takes_clearing (network.edges place.peer.0) end.row place.wire.0 me.0 place.peer.0) (steady.way.messages ++ mildly.messages) ≡ true
  takes_it work place end (OfMesh mesh) told steady mildly =
      ap (λ (m : Bool). is_bound_by end.row.pw_id ((m || (is_first place.peer.0 end.row.path || is_last place.peer.0 end.row.path)) || is_some
      ((network.edges place.peer.0).ends place.wire.0 me.0).remote)
      (steady.way.messages ++ mildly.messages)) (second_holds (is_wire_of service end.row) (is_mesh_class end.row.class) mesh)
      ∙ bound_on end.row.pw_id (steady.way.messages ++ mildly.messages)
  takes_it work place end (OfSpoke onward) told steady mildly =
      let held : Bool = is_some ((network.edges place.peer.0).ends place.wire.0 me.0).remote in
      let met : IsMet end.row.pw_id held (steady.way.messages ++ mildly.messages) (advertises_to work.edge place.peer.0 place.wire.0) =
      met_joined end.row.pw_id held (is_advertising ((network.edges me.0).ends place.wire.0 place.peer.0).local) (advertises_to work.edge place.peer.0 place.wire.0) steady.way.messages mildly.messages
      (steady.met place.wire end.row onward) (mildly.met place.wire end.row onward) in
      bound_sooner end.row.pw_id held (takes_clearing (network.edges place.peer.0) end.row place.wire.0 me.0 place.peer.0) (steady.way.messages ++ mildly.messages)
      (or_right (is_mesh_class end.row.class || (is_first place.peer.0 end.row.path || is_last place.peer.0 end.row.path)) held) (met.agrees ∙ told)

  -- by an end that advertises
  pub piece_tells : (base : Work) (place : EndPlace) (label : ℕ) (content : Told) (work : Work) (end : IsEndOf plan me place) → IsSeen plan service network me.0 place.peer.0 place.wire end.row
      → are_joined_by plan service me.0 place.peer.0 ≡ true → (end_at work.edge place).local ≡ Advertised label content
      → Speaks plan service network me peer base work → WillTell plan service network me.0 place.peer.0 place.wire end.row (says taken_all place.peer (mac_withdrawal place.pw_id [] content) work).work
  piece_tells base place label content work end seen joined at speaks =
      let can = advertised_up (point_limit plan me.0 place.wire.0) (is_up_with (work.edge.peering place.peer.0)) (end_at work.edge place) label content
      (speaks.sound.ends place.wire.0 place.peer.0) at in
      let there : stands network me.0 place.peer.0 ≡ true = stood base work speaks place.peer.0 joined can.0 in
      let mildly = speaks.speaks place.peer.0 joined there in
      let steady = ways place.peer.0 joined there in
      let way = steady.way in
      let own : Peers = ends_at plan me.0 place.peer.0 in
      let message : ℕ → Message = mac_withdrawal place.pw_id [] content in
      let m : Message = message mildly.kept.next_id in
      let spoken = says_spoken place.peer mildly.kept message work mildly.at in
      let of_wires : IsOfWires message = clearance_is place.pw_id label [] content (end_small plan me place checked end) none_are_piece can.1 in
      let said = spoken.said ∙ said_more plan service network me peer own [] (said_to place.peer.0 work.effects) mildly.kept message mildly.messages mildly.peers mildly.is in
      let clear : clears end.row.pw_id m ≡ true = subst (λ (n : ℕ). clears n m ≡ true) end.pw_id (cleared_by place.pw_id content mildly.kept.next_id) in
      record {
        joined = joined;
        there = there;
        cleared = record {
          messages = way.messages ++ (mildly.messages ++ m ∷ []);
          is = said_with own.me (flight network me.0 place.peer.0) _ way.messages (mildly.messages ++ m ∷ []) way.is said;
          said = said-append own way.messages (mildly.messages ++ m ∷ []) way.said (said-append own mildly.messages (m ∷ []) mildly.said (of_wires.said own mildly.kept.next_id mildly.numbered, tt));
          among = subst (λ (ms : List Message). is_cleared_by end.row.pw_id (takes_clearing (network.edges place.peer.0) end.row place.wire.0 me.0 place.peer.0) ms ≡ true)
              (joined_all way.messages mildly.messages m)
              (cleared_last end.row.pw_id (takes_clearing (network.edges place.peer.0) end.row place.wire.0 me.0 place.peer.0) (way.messages ++ mildly.messages) m
              (takes_it work place end seen (ap is_advertising at) steady mildly) clear);
        };
      }

  speaks_rows : (base : Work) → KeptByRows plan me (Speaks plan service network me peer base)
  speaks_rows base = rows_speak plan service me checked types network peer base

  -- what was told before all other ends is told after them
  grown : (before : ℕ → Option WireId) (place : ℕ) (wire : WireId) (row : WirePlan) (places : List EndPlace) → AllByRecursion (IsEndOf plan me) places → (m : Spoken) → At m.work
      → WillTell plan service network me.0 place wire row m.work
      → WillTell plan service network me.0 place wire row (each_end (mends_choice plan taken_all before) places m).work
  grown before place wire row places all m speaks tells =
      let after : Work = (each_end (mends_choice plan taken_all before) places m).work in
      let more : Speaks plan service network me peer m.work after =
      each_keeps plan me (Speaks plan service network me peer m.work) (speaks_rows m.work) (mends_choice plan taken_all before)
      (choice_keeps plan me (Speaks plan service network me peer m.work) (speaks_rows m.work) before) places all m speaks in
      tells_on plan service network me.0 place wire row m.work after (more.more place tells.joined tells.there) tells

  module _ (before : ℕ → Option WireId) (place : EndPlace) (end : IsEndOf plan me place) (joined : are_joined_by plan service me.0 place.peer.0 ≡ true)
      (seen : IsSeen plan service network me.0 place.peer.0 place.wire end.row) where
    here_tells : (work : Work) → At work → is_advertising (end_at work.edge place).local ≡ true → is_new_choice before work.edge.chosen place.wire (wire_row plan place.wire) ≡ true
        → WillTell plan service network me.0 place.peer.0 place.wire end.row (mends_choice plan taken_all before place work).work
    here_tells work speaks told new = subst (λ (b : Bool). WillTell plan service network me.0 place.peer.0 place.wire end.row (cond b (tells_piece taken_all place [] work) (stays work)).work)
        (sym new) (by_local (end_at work.edge place).local refl told) where
          by_local : (local : LocalPart) → (end_at work.edge place).local ≡ local → is_advertising local ≡ true
              → WillTell plan service network me.0 place.peer.0 place.wire end.row (tells_piece_by taken_all place [] local work).work
          by_local (Idle declined) at told = clash told
          by_local (Advertised label content) at told = piece_tells work place label content work end seen joined at speaks
          by_local (Withdrawing label) at told = clash told

    each_tells : (places : List EndPlace) → AllByRecursion (IsEndOf plan me) places → (k : ℕ) → slice_get places k ≡ Some place → (m : Spoken) → At m.work
        → is_advertising (end_at m.work.edge place).local ≡ true
        → is_new_choice before m.work.edge.chosen place.wire (wire_row plan place.wire) ≡ true
        → WillTell plan service network me.0 place.peer.0 place.wire end.row (each_end (mends_choice plan taken_all before) places m).work
    each_tells [] all k is m speaks told new = absurd (cc (is))
    each_tells (x ∷ xs) all zero is m speaks told new =
        let same : x ≡ place = cc (is) in
        let next : Work = (mends_choice plan taken_all before x m.work).work in
        let first : WillTell plan service network me.0 place.peer.0 place.wire end.row next =
        subst (λ (p : EndPlace). WillTell plan service network me.0 place.peer.0 place.wire end.row (mends_choice plan taken_all before p m.work).work) (sym same)
        (here_tells m.work speaks told new) in
        grown before place.peer.0 place.wire end.row xs all.1 (and_says m (mends_choice plan taken_all before x))
        (again m.work next (choice_keeps plan me (Speaks plan service network me peer m.work) (speaks_rows m.work) before x all.0 m.work speaks)) first
    each_tells (x ∷ xs) all (suc k) is m speaks told new =
        let next : Work = (mends_choice plan taken_all before x m.work).work in
        let keeps : KeepsChoice m.work next = mends_choice_keeps plan before x m.work in
        each_tells xs all.1 k is (and_says m (mends_choice plan taken_all before x))
        (again m.work next (choice_keeps plan me (Speaks plan service network me peer m.work) (speaks_rows m.work) before x all.0 m.work speaks))
        (keeps.told place.wire.0 place.peer.0 told)
        (ap (λ (now : ℕ → Option WireId). is_new_choice before now place.wire (wire_row plan place.wire)) keeps.chosen ∙ new)

  -- ---- all steps

  module _ (work : Work) (begun : Stays plan service network me peer work) where
    abbrev places : List EndPlace
    places = end_places plan work.edge.me

    all : AllByRecursion (IsEndOf plan me) places
    all = subst (λ (k : EdgeId). AllByRecursion (IsEndOf plan me) (end_places plan k)) (sym begun.place) (places_are plan me)

    abbrev advertised : Spoken
    advertised = each_end (mends_end plan taken_all) places (stays work)

    abbrev chosen_now : Spoken
    chosen_now = then_changes (choosing plan) advertised

    abbrev statuses : Spoken
    statuses = each_end (mends_status plan taken_all) places chosen_now

    abbrev moved : Spoken
    moved = each_end (mends_choice plan taken_all work.edge.chosen) places statuses

    abbrev last : Work
    last = tells_downs plan places (forgets_downs plan places moved.work)

    speaks_advertised : Speaks plan service network me peer work advertised.work
    speaks_advertised = each_keeps plan me (Speaks plan service network me peer work) (speaks_rows work) (mends_end plan taken_all)
        (end_keeps plan me (Speaks plan service network me peer work) (speaks_rows work)) places all (stays work)
        (speaks_first plan service network me peer work begun)

    speaks_statuses : Speaks plan service network me peer work statuses.work
    speaks_statuses = each_keeps plan me (Speaks plan service network me peer work) (speaks_rows work) (mends_status plan taken_all)
        (status_keeps plan me (Speaks plan service network me peer work) (speaks_rows work)) places all chosen_now
        (chooses_keep plan me (Speaks plan service network me peer work) (speaks_rows work) advertised.work speaks_advertised)

    speaks_moved : At moved.work
    speaks_moved = again work moved.work (each_keeps plan me (Speaks plan service network me peer work) (speaks_rows work) (mends_choice plan taken_all work.edge.chosen)
        (choice_keeps plan me (Speaks plan service network me peer work) (speaks_rows work) work.edge.chosen) places all statuses speaks_statuses)

    speaks_last : Speaks plan service network me peer moved.work last
    speaks_last = downs_keep plan me (Speaks plan service network me peer moved.work) (speaks_rows moved.work) places all (forgets_downs plan places moved.work)
        (forgets_keep plan me (Speaks plan service network me peer moved.work) (speaks_rows moved.work) places moved.work speaks_moved)

    told_statuses : KeepsChoice chosen_now.work statuses.work
    told_statuses = each_choice (mends_status plan taken_all) (status_choice plan) places chosen_now

    chosen_last : last.edge.chosen ≡ chosen_now.work.edge.chosen
    chosen_last =
        (choice_then moved.work (forgets_downs plan places moved.work) last (forgets_choice plan places moved.work) (downs_choice plan places (forgets_downs plan places moved.work))).chosen
        ∙ ((each_choice (mends_choice plan taken_all work.edge.chosen) (mends_choice_keeps plan work.edge.chosen) places statuses).chosen ∙ told_statuses.chosen)

    chosen_is : last.edge.chosen service.0 ≡ choice plan advertised.work.edge service
    chosen_is = ap (λ (f : ℕ → Option WireId). f service.0) chosen_last ∙ choosing_chosen plan advertised.work service

    is_wire_some : (wire : WireId) (o : Option WireId) → Rattle.edge_model.specs.Role.is_chosen_wire wire o ≡ true → o ≡ Some wire
    is_wire_some wire None is = clash is
    is_wire_some wire (Some other) is = ap (λ (n : ℕ). Some (record { 0 = n })) (eqb-true other.0 wire.0 is)

    holds_advertised : Holds me work.edge advertised.work.edge
    holds_advertised = each_keeps plan me (λ (w : Work). Holds me work.edge w.edge) (rows_hold plan me work.edge) (mends_end plan taken_all)
        (end_keeps plan me (λ (w : Work). Holds me work.edge w.edge) (rows_hold plan me work.edge)) places all (stays work)
        (record { place = begun.place; held = λ wire k. refl; bits = refl; stuck = λ wire k is. is })

    tell : (wire : WireId) (home : ℕ) (spoke : IsSpokeTo plan service me.0 wire home) → last.edge.chosen service.0 ≡ Some wire
        → (work.edge.chosen service.0 ≡ Some wire) ⊎ TellsNext plan service network me.0 wire spoke.row last
    tell wire home spoke chosen = elim (cases_Bool (is_chosen work.edge.chosen wire spoke.row)) [
      | inl was ↦ inl (is_wire_some wire (work.edge.chosen service.0) (subst (λ (s : ServiceId). Rattle.edge_model.specs.Role.is_chosen_wire wire (work.edge.chosen s.0) ≡ true) of_service was))
      | inr new ↦ inr (tells new)
    ]
      where
        ours : is_wire_of service spoke.row ≡ true
        ours = spoke_ours service me.0 spoke.row spoke.from

        of_service : spoke.row.service ≡ service
        of_service = service_is spoke.row service ours

        choose : IsChoice plan service advertised.work.edge wire
        choose = choice_is plan service advertised.work.edge wire (sym chosen_is ∙ chosen)

        place : EndPlace
        place = choose.place

        at : slice_get places choose.k ≡ Some place
        at = ap (λ (k : EdgeId). slice_get (end_places plan k) choose.k) (begun.place ∙ sym speaks_advertised.place) ∙ choose.at

        end : IsEndOf plan me place
        end = all_get (IsEndOf plan me) places choose.k place all at

        row_is : end.row ≡ spoke.row
        row_is = same_row end.row spoke.row (sym end.is ∙ (ap (wire_row plan) choose.wire_is ∙ spoke.is))

        first : is_first me.0 spoke.row.path ≡ true
        first = second_holds (is_wire_of service spoke.row && not (is_mesh_class spoke.row.class)) (is_first me.0 spoke.row.path) spoke.from

        beside : joins me.0 place.peer.0 spoke.row.path ≡ true
        beside = ap (λ (r : WirePlan). joins me.0 place.peer.0 r.path) (sym row_is) ∙ end.joined

        next : follows spoke.row.path me.0 place.peer.0 ≡ true
        next = only (follows spoke.row.path me.0 place.peer.0) (begins_first spoke.row.path me.0 place.peer.0 (wire_fits plan wire spoke.row checked spoke.is).once first)
            (sym (joins_is spoke.row.path me.0 place.peer.0) ∙ beside)
          where
            only : (p : Bool) {q : Bool} → q ≡ false → p || q ≡ true → p ≡ true
            only true h k = refl
            only false h k = clash (sym h ∙ k)

        whole : (network.edges me.0).bits wire.0 ≡ 0
        whole = ap (λ (f : ℕ → ℕ). f wire.0) (sym (holds_advertised.bits ∙ begun.lasts.bits))
            ∙ (ap (λ (w : WireId). advertised.work.edge.bits w.0) (sym choose.wire_is)
            ∙ forwards_whole role.Chosen (advertised.work.edge.bits place.wire.0) (end_at advertised.work.edge place) choose.usable)

        onward : IsOnward plan service network me.0 place.peer.0 wire spoke.row
        onward = record { is = spoke.is; edge = me.0; from = spoke.from; whole = whole; next = next }

        seen : IsSeen plan service network me.0 place.peer.0 place.wire end.row
        seen = subst (λ (w : WireId). IsSeen plan service network me.0 place.peer.0 w end.row) (sym choose.wire_is)
            (subst (λ (r : WirePlan). IsSeen plan service network me.0 place.peer.0 wire r) (sym row_is) (OfSpoke onward))

        joined : are_joined_by plan service me.0 place.peer.0 ≡ true
        joined = of_service_joined plan service me.0 place.peer.0 wire spoke.row spoke.is ours next

        told : is_advertising (end_at statuses.work.edge place).local ≡ true
        told =
            let agree = forwards_where_both_agree role.Chosen (advertised.work.edge.bits place.wire.0) (end_at advertised.work.edge place) choose.usable in
            told_statuses.told place.wire.0 place.peer.0 (choosing_told plan advertised.work place.wire.0 place.peer.0 (advertises_it agree.label agree.own _ agree.advertises))

        now : statuses.work.edge.chosen spoke.row.service.0 ≡ Some wire
        now = ap (λ (s : ServiceId). statuses.work.edge.chosen s.0) of_service ∙ (ap (λ (f : ℕ → Option WireId). f service.0) (told_statuses.chosen ∙ sym chosen_last) ∙ chosen)

        tells : is_chosen work.edge.chosen wire spoke.row ≡ false → TellsNext plan service network me.0 wire spoke.row last
        tells new =
            let fresh : is_new_choice work.edge.chosen statuses.work.edge.chosen place.wire (wire_row plan place.wire) ≡ true =
            ap (λ (w : WireId). is_new_choice work.edge.chosen statuses.work.edge.chosen w (wire_row plan w)) choose.wire_is
            ∙ (ap (is_new_choice work.edge.chosen statuses.work.edge.chosen wire) spoke.is
            ∙ now_and_not_was (is_chosen statuses.work.edge.chosen wire spoke.row) (is_chosen work.edge.chosen wire spoke.row) (rw now (same_number wire.0)) new) in
            let first_told : WillTell plan service network me.0 place.peer.0 place.wire end.row moved.work =
            each_tells work.edge.chosen place end joined seen places all choose.k at statuses (again work statuses.work speaks_statuses) told fresh in
            let more : WillTell plan service network me.0 place.peer.0 place.wire end.row last =
            tells_on plan service network me.0 place.peer.0 place.wire end.row moved.work last (speaks_last.more place.peer.0 first_told.joined first_told.there) first_told in
            record {
              next = place.peer;
              follows_it = next;
              whole = whole;
              tells = subst (λ (w : WireId). WillTell plan service network me.0 place.peer.0 w spoke.row last) choose.wire_is
                  (subst (λ (r : WirePlan). WillTell plan service network me.0 place.peer.0 place.wire r last) row_is more);
            }

    pub mends_tell_here : TellsChoice plan service network me work (mends plan taken_all work)
    mends_tell_here = subst (TellsChoice plan service network me work) (sym (mends_takes plan taken_all (λ k. refl) work)) (record { told = tell })

pub mends_tell : (plan : Plan) (service : ServiceId) (network : NetworkState) (me : EdgeId) (peer : ℕ) (work : Work) → IsChecked plan → HasTypes plan → HasWays plan service network me
    → Stays plan service network me peer work → TellsChoice plan service network me work (mends plan taken_all work)
mends_tell plan service network me peer work checked types ways begun = mends_tell_here plan service network me peer checked types ways work begun
