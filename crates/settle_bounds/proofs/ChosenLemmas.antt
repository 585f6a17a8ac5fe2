-- Statuses are told, and addresses withdrawn, only where what an end should tell has changed, and on the spokes among which the edge may
-- choose anew: ends that map have told their status of now.
use Rattle.std.proofs.Common.{◌≡◌, ◌∙◌, ◌&&◌, ◌||◌, ◌⊎◌, ℕ, Bool, true, false, cond, is_some, nat_eq, not, List, [], ◌∷◌, Option, Some, None, refl, sym, ap, subst, inl, inr, ⊎_elim}
use Rattle.std.proofs.lemmas.Bool.{eqb-true, eq-eqb}
use Rattle.std.specs.List.{AllByRecursion}
use Rattle.net_values.proofs.BoolLemmas.{clash, first_holds, second_holds}
use Rattle.net_values.proofs.NumberLemmas.{same_number}
use Rattle.net_base.specs.declared.plan.Plan.{Plan}
use Rattle.net_base.specs.declared.plan.places.EdgeId.{EdgeId}
use Rattle.net_base.specs.declared.plan.places.ServiceId.{ServiceId}
use Rattle.net_base.specs.declared.plan.places.WireId.{WireId}
use Rattle.net_base.specs.declared.plan.wire_plan.WirePlan.{WirePlan}
use Rattle.net_base.specs.plan.Accepted.{IsChecked}
use Rattle.net_base.specs.plan.Paths.{edge_address, is_first, is_last, mate, mate_on, offer_of}
use Rattle.net_base.specs.plan.Places.{is_mesh_class, wire_row}
use Rattle.pw_tlvs.specs.declared.point.Point.{Point}
use Rattle.pw_tlvs.specs.declared.pw_status.PwStatus.{PwStatus}
use Rattle.pw_status.specs.Status.{combined, method_by}
use Rattle.pw_messages.specs.Content.{content_of, mapping}
use Rattle.pw_signalling.specs.declared.binding.Binding.{Binding}
use Rattle.pw_signalling.specs.declared.end_role.EndRole.{EndRole}
use Rattle.pw_signalling.specs.declared.end_role.EndRole.TheVariants as role
use Rattle.pw_signalling.specs.declared.told.Told.{Told}
use Rattle.pw_signalling.specs.Down.{down}
use Rattle.pw_signalling.specs.End.{EndState, LocalPart, Idle, Advertised, Withdrawing}
use Rattle.pw_signalling.specs.Rows.{advertised, withdrawn}
use Rattle.pw_stitch.specs.Passing.{own_point, passed_status, wanted}
use Rattle.spoke_redundancy.specs.Telling.{is_not_chosen}
use Rattle.edge_model.specs.Across.{held_beyond, held_from, held_of}
use Rattle.edge_model.specs.declared.end_place.EndPlace.{EndPlace}
use Rattle.edge_model.specs.EndPlaces.{end_places}
use Rattle.edge_model.specs.Labels.{label_to_give}
use Rattle.edge_model.specs.Mend.{advertises_under, advertises_wish, advertising, and_says, each_end, is_new_choice, is_up_with, mends, mends_end, mends_local, offer_stands, passed_from, status_held, tells_status, wish, wish_by, wish_of, withdraws}
use Rattle.edge_model.specs.Put.{Spoken, stays}
use Rattle.edge_model.specs.Role.{end_role_of, is_chosen, is_chosen_wire, own_status, role_in, status_to_tell}
use Rattle.edge_model.specs.Session.{says}
use Rattle.edge_model.specs.Settled.{is_status, is_told, tells_now}
use Rattle.edge_model.specs.Spokes.{choice, choosing, is_spoke_row, is_usable}
use Rattle.edge_model.specs.State.{EdgeState, end_at, with_chosen}
use Rattle.edge_model.specs.Work.{Work, changes}
use Rattle.network_model.specs.Absorb.{taken_all}
use Rattle.flight_laws.proofs.MendedRunLemmas.{IsMendedAt}
use Rattle.flight_laws.proofs.PlaceLemmas.{IsEndOf, places_are}
use Rattle.rest_laws.specs.Levels.{Saying, Binds, Withdraws, States, Clears}
use Rattle.rest_laws.proofs.ChoiceLemmas.{choice_by_spokes}
use Rattle.rest_laws.proofs.DueLemmas.{IsDue, PutsMore}
use Rattle.rest_laws.proofs.PutLemmas.{HasTurned, WishesAlike, advertises_turns, alike_then, puts_not, puts_then, same_side, stands_at, withdraws_turns}
use Rattle.rest_laws.proofs.StatusLemmas.{mending_puts_then, passed_is, status_alike, told_here, told_like}
use Rattle.settle_bounds.proofs.WalkLemmas.{chosen_row}

-- ---- a mapping tells the status of now

itself : (s : PwStatus) → nat_eq s.0 s.0 ≡ true
itself s = eq-eqb s.0 s.0 refl

offered_told : (tells : Bool) (s : PwStatus) → is_status s.0 (cond tells (Some s) None) ≡ true
offered_told true s = itself s
offered_told false s = refl

same_told : {x y : Told} → Some x ≡ Some y → x ≡ y
same_told e = cc

none_told : {x : Told} → None ≡ Some x → ⊥
none_told e = cc

-- what a switching point passes on has the status that it holds, or none
passed_told : (point : Point) (r : Option Binding) (content : Told) → wanted point r ≡ Some content → is_status (passed_status r).0 content.status ≡ true
passed_told point None content is = absurd (none_told is)
passed_told point (Some binding) content is = subst (λ (c : Told). is_status (passed_status (Some binding)).0 c.status ≡ true) (same_told is) (by binding.told.status) where
  by : (o : Option PwStatus) → is_status (Rattle.pw_stitch.specs.Passing.stated_or_clear o).0 o ≡ true
  by None = refl
  by (Some status) = itself status

pub wished_told : (plan : Plan) (edge : EdgeState) (p : EndPlace) (content : Told) → wish plan edge p ≡ Some content → is_status (status_to_tell plan edge p).0 content.status ≡ true
wished_told plan edge p content is = of (wire_row plan p.wire) refl is where
  -- a terminal end tells its offer
  terminal_told : (row : WirePlan) → p.terminal ≡ true → (tells : Bool)
      → cond tells (Some (content_of (offer_of row edge.me.0) (cond (offer_of row edge.me.0).status (Some (status_to_tell plan edge p)) None))) None ≡ Some content
      → is_status (status_to_tell plan edge p).0 content.status ≡ true
  terminal_told row terminal true it = subst (λ (c : Told). is_status (status_to_tell plan edge p).0 c.status ≡ true) (same_told it) (offered_told (offer_of row edge.me.0).status (status_to_tell plan edge p))
  terminal_told row terminal false it = absurd (none_told it)

  -- and a switching point what it holds of the mate
  passing_told : (row : WirePlan) → wire_row plan p.wire ≡ Some row → p.terminal ≡ false → (from : Option EdgeId) → mate row edge.me.0 p.peer.0 ≡ from
      → passed_from plan row edge.me (held_of edge p.wire) from ≡ Some content → is_status (status_to_tell plan edge p).0 content.status ≡ true
  passing_told row at switching None mated it = absurd (none_told it)
  passing_told row at switching (Some from) mated it =
      subst (λ (s : PwStatus). is_status s.0 content.status ≡ true) (sym tells)
      (passed_told (own_point row.pw_id (edge_address plan edge.me) (edge_address plan from)) (held_of edge p.wire from.0) content it)
    where
      tells : status_to_tell plan edge p ≡ passed_status (held_of edge p.wire from.0)
      tells =
          ap (λ (t : Bool). cond t (own_status plan edge p) (passed_status (held_beyond plan edge p))) switching
          ∙ (ap (λ (o : Option WirePlan). passed_status (held_from (held_of edge p.wire) (Rattle.edge_model.specs.Across.mate_of edge.me p o))) at
          ∙ ap (λ (o : Option EdgeId). passed_status (held_from (held_of edge p.wire) o)) mated)

  wished : (row : WirePlan) → wire_row plan p.wire ≡ Some row → wish_by plan edge p row ≡ Some content → is_status (status_to_tell plan edge p).0 content.status ≡ true
  wished row at it = by p.terminal refl it where
    by : (t : Bool) → p.terminal ≡ t
        → cond t (cond (tells_status (method_by (offer_of row edge.me.0).status (status_held (end_at edge p).remote)) || nat_eq (edge.bits p.wire.0) 0)
        (Some (content_of (offer_of row edge.me.0) (cond (offer_of row edge.me.0).status (Some (status_to_tell plan edge p)) None))) None)
        (passed_from plan row edge.me (held_of edge p.wire) (mate row edge.me.0 p.peer.0)) ≡ Some content
        → is_status (status_to_tell plan edge p).0 content.status ≡ true
    by true terminal is_it = terminal_told row terminal (tells_status (method_by (offer_of row edge.me.0).status (status_held (end_at edge p).remote)) || nat_eq (edge.bits p.wire.0) 0) is_it
    by false switching is_it = passing_told row at switching (mate row edge.me.0 p.peer.0) refl is_it

  up : (row : WirePlan) → wire_row plan p.wire ≡ Some row → (b : Bool) → cond b (wish_by plan edge p row) None ≡ Some content → is_status (status_to_tell plan edge p).0 content.status ≡ true
  up row at true it = wished row at it
  up row at false it = absurd (none_told it)

  of : (o : Option WirePlan) → wire_row plan p.wire ≡ o → wish_of plan edge p o ≡ Some content → is_status (status_to_tell plan edge p).0 content.status ≡ true
  of None at it = absurd (none_told it)
  of (Some row) at it = up row at (edge.wire_on p.wire.0 && is_up_with (edge.peering p.peer.0)) it

-- ---- while labels are told

module _ (plan : Plan) (me : EdgeId) (may : EndPlace → Saying → Bool) (like : (p q : EndPlace) (s : Saying) → p.wire.0 ≡ q.wire.0 → p.peer.0 ≡ q.peer.0 → may p s ≡ may q s) (first : Work) where
  -- ends at which no label may be told are as they were, and those that have told another status than the one of now may tell it
  pub record IsMapping (work : Work) : Type 0 where
    pub at : work.edge.me ≡ me
    pub alike : WishesAlike first.edge work.edge
    pub chosen : work.edge.chosen ≡ first.edge.chosen
    pub priorities : work.edge.priority ≡ first.edge.priority
    pub due : IsDue plan me may work.edge
    pub told : (p : EndPlace) → IsEndOf plan me p → is_told plan work.edge p ≡ false → may p States ≡ true
    pub still : (p : EndPlace) → IsEndOf plan me p → may p Binds ≡ false → may p Withdraws ≡ false → end_at work.edge p ≡ end_at first.edge p
    pub puts : PutsMore plan me may first.effects work.effects

  turns : (q : EndPlace) (end : EndState) (work next : Work) → IsEndOf plan me q → HasTurned plan me may q end work next → is_told plan next.edge q ≡ true
      → (may q Binds ≡ true) ⊎ (may q Withdraws ≡ true) → IsMapping work → IsMapping next
  turns q end work next here one told_q labels now = record {
    at = one.turned.alike.me ∙ now.at;
    alike = alike_then first.edge work.edge next.edge now.alike one.turned.alike;
    chosen = one.chosen ∙ now.chosen;
    priorities = one.priorities ∙ now.priorities;
    due = one.due;
    told = λ p there untold. by_told p there untold (stands_at q p.wire.0 p.peer.0) refl;
    still = λ p there binds withdraws. by_still p there binds withdraws (stands_at q p.wire.0 p.peer.0) refl;
    puts = puts_then plan me may first.effects work.effects next.effects now.puts one.puts;
  } where
    wire_is : (p : EndPlace) → stands_at q p.wire.0 p.peer.0 ≡ true → p.wire.0 ≡ q.wire.0
    wire_is p same = eqb-true p.wire.0 q.wire.0 (first_holds (nat_eq p.wire.0 q.wire.0) (nat_eq p.peer.0 q.peer.0) same)

    peer_is : (p : EndPlace) → stands_at q p.wire.0 p.peer.0 ≡ true → p.peer.0 ≡ q.peer.0
    peer_is p same = eqb-true p.peer.0 q.peer.0 (second_holds (nat_eq p.wire.0 q.wire.0) (nat_eq p.peer.0 q.peer.0) same)

    by_told : (p : EndPlace) → IsEndOf plan me p → is_told plan next.edge p ≡ false → (b : Bool) → stands_at q p.wire.0 p.peer.0 ≡ b → may p States ≡ true
    by_told p there untold true same = clash (sym untold ∙ (told_like plan next.edge p q (wire_is p same) (peer_is p same) (same_side plan me p q there here (wire_is p same)) ∙ told_q))
    by_told p there untold false apart = now.told p there
        (ap (λ (s : PwStatus). tells_now s.0 (end_at work.edge p).local) (sym (status_alike plan work.edge next.edge p one.turned.alike one.chosen))
        ∙ (ap (λ (e : EndState). tells_now (status_to_tell plan next.edge p).0 e.local) (sym (one.turned.others p.wire.0 p.peer.0 apart)) ∙ untold))

    by_still : (p : EndPlace) → IsEndOf plan me p → may p Binds ≡ false → may p Withdraws ≡ false → (b : Bool) → stands_at q p.wire.0 p.peer.0 ≡ b → end_at next.edge p ≡ end_at first.edge p
    by_still p there binds withdraws true same = ⊎_elim
        (λ (is : may q Binds ≡ true). clash (sym binds ∙ (like p q Binds (wire_is p same) (peer_is p same) ∙ is)))
        (λ (is : may q Withdraws ≡ true). clash (sym withdraws ∙ (like p q Withdraws (wire_is p same) (peer_is p same) ∙ is)))
        labels
    by_still p there binds withdraws false apart = one.turned.others p.wire.0 p.peer.0 apart ∙ now.still p there binds withdraws

  end_step : (q : EndPlace) (work : Work) → IsEndOf plan me q → IsMapping work → IsMapping (mends_end plan taken_all q work).work
  end_step q work here now = of (end_at work.edge q).local refl where
    under : (content : Told) → (end_at work.edge q).local ≡ Idle false → wish plan work.edge q ≡ Some content → (label : Option ℕ) → label_to_give work.edge ≡ label
        → IsMapping (advertises_under taken_all q content label work).work
    under content idle wished None given = now
    under content idle wished (Some label) given = turns q (advertised label content (end_at work.edge q)) work next here one told_q
        (inl (now.due.binds q here idle (ap (λ (o : Option Told). is_some o) wished) (ap (λ (o : Option ℕ). is_some o) given))) now
      where
        next : Work
        next = (says taken_all q.peer (mapping q.pw_id label content) (changes (advertising q label content) work)).work

        one : HasTurned plan me may q (advertised label content (end_at work.edge q)) work next
        one = advertises_turns plan me may q label content work here idle wished given now.due

        told_q : is_told plan next.edge q ≡ true
        told_q =
            ap (λ (e : EndState). tells_now (status_to_tell plan next.edge q).0 e.local) one.turned.here
            ∙ (ap (λ (l : LocalPart). tells_now (status_to_tell plan next.edge q).0 (advertised label content (record { local = l; remote = (end_at work.edge q).remote })).local) idle
            ∙ (ap (λ (s : PwStatus). is_status s.0 content.status) (status_alike plan work.edge next.edge q one.turned.alike one.chosen) ∙ wished_told plan work.edge q content wished))

    wishes : (end_at work.edge q).local ≡ Idle false → (wished : Option Told) → wish plan work.edge q ≡ wished → IsMapping (advertises_wish taken_all q wished work).work
    wishes idle None wished = now
    wishes idle (Some content) wished = under content idle wished (label_to_give work.edge) refl

    unless : (label : ℕ) (content : Told) → (end_at work.edge q).local ≡ Advertised label content → (b : Bool) → offer_stands q content (wish plan work.edge q) ≡ b
        → IsMapping (cond b (stays work) (withdraws taken_all q label content work)).work
    unless label content told true is = now
    unless label content told false gone = turns q (withdrawn (end_at work.edge q)) work next here one told_q (inr (now.due.withdraws q here label content told gone)) now where
      next : Work
      next = (withdraws taken_all q label content work).work

      one : HasTurned plan me may q (withdrawn (end_at work.edge q)) work next
      one = withdraws_turns plan me may q label content work here told gone now.due

      told_q : is_told plan next.edge q ≡ true
      told_q =
          ap (λ (e : EndState). tells_now (status_to_tell plan next.edge q).0 e.local) one.turned.here
          ∙ ap (λ (l : LocalPart). tells_now (status_to_tell plan next.edge q).0 (withdrawn (record { local = l; remote = (end_at work.edge q).remote })).local) told

    of : (local : LocalPart) → (end_at work.edge q).local ≡ local → IsMapping (mends_local plan taken_all q local work).work
    of (Idle true) is = now
    of (Idle false) is = wishes is (wish plan work.edge q) refl
    of (Advertised label content) is = unless label content is (offer_stands q content (wish plan work.edge q)) refl
    of (Withdrawing label) is = now

  each_mapped : (places : List EndPlace) → AllByRecursion (IsEndOf plan me) places → (m : Spoken) → IsMapping m.work → IsMapping (each_end (mends_end plan taken_all) places m).work
  each_mapped [] all m now = now
  each_mapped (q ∷ places) all m now = each_mapped places all.1 (and_says m (mends_end plan taken_all q)) (end_step q m.work all.0 now)

  -- ---- then the edge chooses

  -- on all spokes of a service that start at the edge statuses may be told and addresses withdrawn
  abbrev pub MayChoose : ServiceId → Type 0
  MayChoose service = (p : EndPlace) → IsEndOf plan me p → is_spoke_row service me (wire_row plan p.wire) ≡ true → (may p States ≡ true) × (may p Clears ≡ true)

  -- or the edge has chosen, and no label is told on them
  pub record KeepsChoice (service : ServiceId) : Type 0 where
    pub chose : first.edge.chosen service.0 ≡ choice plan first.edge service
    pub silent : (p : EndPlace) → IsEndOf plan me p → is_spoke_row service me (wire_row plan p.wire) ≡ true → (may p Binds ≡ false) × (may p Withdraws ≡ false)

  module _ (at_me : first.edge.me ≡ me) (work : Work) (now : IsMapping work) (each : (service : ServiceId) → MayChoose service ⊎ KeepsChoice service) where
    abbrev chose : EdgeState
    chose = choosing plan work.edge

    now_chosen : chose.chosen ≡ (λ (service : ℕ). choice plan work.edge (record { 0 = service }))
    unfolding with_chosen
    now_chosen = refl

    same_again : (service : ServiceId) → KeepsChoice service → chose.chosen service.0 ≡ first.edge.chosen service.0
    same_again service keeps = ap (λ (c : ℕ → Option WireId). c service.0) now_chosen ∙ (choice_by_spokes plan me first.edge work.edge service at_me now.at now.priorities usable ∙ sym keeps.chose) where
      usable : (p : EndPlace) → IsEndOf plan me p → is_spoke_row service me (wire_row plan p.wire) ≡ true → is_usable work.edge p ≡ is_usable first.edge p
      usable p here spoke =
          let silent = keeps.silent p here spoke in
          ap (λ (bits : ℕ → ℕ). not (is_some (down role.Chosen (bits p.wire.0) (end_at work.edge p)))) now.alike.bits
          ∙ ap (λ (e : EndState). not (is_some (down role.Chosen (first.edge.bits p.wire.0) e))) (now.still p here silent.0 silent.1)

    -- a switching point looks at no choice
    switching_status : (p : EndPlace) → p.terminal ≡ false → status_to_tell plan chose p ≡ status_to_tell plan work.edge p
    unfolding with_chosen
    switching_status p switching =
        ap (λ (t : Bool). cond t (own_status plan chose p) (passed_status (held_beyond plan chose p))) switching
        ∙ sym (ap (λ (t : Bool). cond t (own_status plan work.edge p) (passed_status (held_beyond plan work.edge p))) switching)

    terminal_status : (p : EndPlace) → p.terminal ≡ true → role_in (wire_row plan p.wire) work.edge.me chose.chosen p.wire ≡ role_in (wire_row plan p.wire) work.edge.me work.edge.chosen p.wire
        → status_to_tell plan chose p ≡ status_to_tell plan work.edge p
    unfolding with_chosen
    terminal_status p terminal is =
        ap (λ (t : Bool). cond t (own_status plan chose p) (passed_status (held_beyond plan chose p))) terminal
        ∙ (ap (λ (r : EndRole). combined (work.edge.bits p.wire.0) (is_not_chosen r)) is
        ∙ sym (ap (λ (t : Bool). cond t (own_status plan work.edge p) (passed_status (held_beyond plan work.edge p))) terminal))

    ends_same : chose.ends ≡ work.edge.ends
    unfolding with_chosen
    ends_same = refl

    -- where the status to tell is the same, what was told is so too
    as_before : (p : EndPlace) → IsEndOf plan me p → status_to_tell plan chose p ≡ status_to_tell plan work.edge p → is_told plan chose p ≡ false → may p States ≡ true
    as_before p here same untold = now.told p here
        (ap (λ (s : PwStatus). tells_now s.0 (end_at work.edge p).local) (sym same)
        ∙ (ap (λ (all : ℕ → ℕ → EndState). tells_now (status_to_tell plan chose p).0 (all p.wire.0 p.peer.0).local) (sym ends_same) ∙ untold))

    role_is : (p : EndPlace) (here : IsEndOf plan me p) (c : ℕ → Option WireId) → role_in (wire_row plan p.wire) work.edge.me c p.wire ≡ end_role_of here.row me (is_chosen c p.wire here.row)
    role_is p here c = ap (λ (o : Option WirePlan). role_in o work.edge.me c p.wire) here.is ∙ ap (λ (m : EdgeId). end_role_of here.row m (is_chosen c p.wire here.row)) now.at

    by_role : (p : EndPlace) (here : IsEndOf plan me p) → p.terminal ≡ true → (any : Bool → EndRole) → ((b : Bool) → end_role_of here.row me b ≡ any true) → is_told plan chose p ≡ false → may p States ≡ true
    by_role p here terminal any same untold = as_before p here
        (terminal_status p terminal
        (role_is p here chose.chosen ∙ (same (is_chosen chose.chosen p.wire here.row) ∙ (sym (same (is_chosen work.edge.chosen p.wire here.row)) ∙ sym (role_is p here work.edge.chosen)))))
        untold

    one_first : (first last : Bool) → last ≡ false → first || last ≡ true → first ≡ true
    one_first true last none either = refl
    one_first false last none either = clash (sym none ∙ either)

    spoke_here : (p : EndPlace) (here : IsEndOf plan me p) → is_mesh_class here.row.class ≡ false → is_first me.0 here.row.path ≡ true → is_spoke_row here.row.service me (wire_row plan p.wire) ≡ true
    spoke_here p here mesh start = ap (is_spoke_row here.row.service me) here.is ∙ rw (itself_service here.row, mesh, start) refl where
      itself_service : (row : WirePlan) → nat_eq row.service.0 row.service.0 ≡ true
      itself_service row = same_number row.service.0

    pub due_chosen : (p : EndPlace) → IsEndOf plan me p → is_told plan chose p ≡ false → may p States ≡ true
    due_chosen p here untold = by p.terminal refl where
      of_spoke : p.terminal ≡ true → is_spoke_row here.row.service me (wire_row plan p.wire) ≡ true → may p States ≡ true
      of_spoke terminal spoke = ⊎_elim
          (λ (choose : MayChoose here.row.service). (choose p here spoke).0)
          (λ (keeps : KeepsChoice here.row.service). as_before p here
          (terminal_status p terminal
          (role_is p here chose.chosen
          ∙ (ap (λ (o : Option WireId). end_role_of here.row me (is_chosen_wire p.wire o)) (same_again here.row.service keeps ∙ ap (λ (c : ℕ → Option WireId). c here.row.service.0) (sym now.chosen))
          ∙ sym (role_is p here work.edge.chosen))))
          untold)
          (each here.row.service)

      by_class : p.terminal ≡ true → (mesh last : Bool) → is_mesh_class here.row.class ≡ mesh → is_last me.0 here.row.path ≡ last → may p States ≡ true
      by_class terminal true last mesh at = by_role p here terminal (λ b. role.Mesh) (λ b. rw mesh refl) untold
      by_class terminal false true mesh at = by_role p here terminal (λ b. role.Core) (λ b. rw (mesh, at) refl) untold
      by_class terminal false false mesh at = of_spoke terminal (spoke_here p here mesh (one_first (is_first me.0 here.row.path) (is_last me.0 here.row.path) at (sym here.terminal ∙ terminal)))

      by : (t : Bool) → p.terminal ≡ t → may p States ≡ true
      by true terminal = by_class terminal (is_mesh_class here.row.class) (is_last me.0 here.row.path) refl refl
      by false switching = as_before p here (switching_status p switching) untold

    pub new_chosen : (p : EndPlace) → IsEndOf plan me p → is_new_choice first.edge.chosen chose.chosen p.wire (wire_row plan p.wire) ≡ true → may p Clears ≡ true
    new_chosen p here anew = ⊎_elim
        (λ (choose : MayChoose here.row.service). (choose p here spoke).1)
        (λ (keeps : KeepsChoice here.row.service). clash (sym (never (is_chosen first.edge.chosen p.wire here.row))
        ∙ (ap (λ (o : Option WireId). is_chosen_wire p.wire o && not (is_chosen first.edge.chosen p.wire here.row)) (sym (same_again here.row.service keeps)) ∙ of_row)))
        (each here.row.service)
      where
        of_row : is_chosen chose.chosen p.wire here.row && not (is_chosen first.edge.chosen p.wire here.row) ≡ true
        of_row = ap (is_new_choice first.edge.chosen chose.chosen p.wire) (sym here.is) ∙ anew

        never : (b : Bool) → b && not b ≡ false
        never true = refl
        never false = refl

        spoke : is_spoke_row here.row.service me (wire_row plan p.wire) ≡ true
        spoke = chosen_row plan me work.edge now.at chose.chosen now_chosen p.wire here.row here.is
            (first_holds (is_chosen chose.chosen p.wire here.row) (not (is_chosen first.edge.chosen p.wire here.row)) of_row)

-- Mending puts labels where they are due, a status where another one was told than the one of now, and else statuses and addresses on the
-- spokes among which the edge may choose anew.
pub mending_puts_chosen : (plan : Plan) (me : EdgeId) (may : EndPlace → Saying → Bool) (like : (p q : EndPlace) (s : Saying) → p.wire.0 ≡ q.wire.0 → p.peer.0 ≡ q.peer.0 → may p s ≡ may q s)
    (work : Work) → work.edge.me ≡ me → IsDue plan me may work.edge → ((p : EndPlace) → IsEndOf plan me p → is_told plan work.edge p ≡ false → may p States ≡ true)
    → ((service : ServiceId) → MayChoose plan me may like work service ⊎ KeepsChoice plan me may like work service)
    → PutsMore plan me may work.effects (mends plan taken_all work).effects
mending_puts_chosen plan me may like work at due told each =
    mending_puts_then plan me may work at mapped refl now.at now.puts (due_chosen plan me may like work at mapped.work now each) (new_chosen plan me may like work at mapped.work now each)
  where
    mapped : Spoken
    mapped = each_end (mends_end plan taken_all) (end_places plan me) (stays work)

    now : IsMapping plan me may like work mapped.work
    now = each_mapped plan me may like work (end_places plan me) (places_are plan me) (stays work) (record {
      at = at;
      alike = record { me = refl; wires = refl; bits = refl; remotes = λ wire k. refl; ups = λ k. refl; labels = λ left. left };
      chosen = refl;
      priorities = refl;
      due = due;
      told = told;
      still = λ p here binds withdraws. refl;
      puts = puts_not plan me may work.effects;
    })

-- ---- a status that is the same as before

-- of a terminal end
pub own_same : (plan : Plan) (old new : EdgeState) (p : EndPlace) → p.terminal ≡ true → new.me ≡ old.me → new.bits ≡ old.bits → new.chosen ≡ old.chosen
    → status_to_tell plan new p ≡ status_to_tell plan old p
own_same plan old new p terminal me bits chosen =
    ap (λ (t : Bool). cond t (own_status plan new p) (passed_status (held_beyond plan new p))) terminal
    ∙ (ap (λ (all : ℕ → ℕ). combined (all p.wire.0) (is_not_chosen (role_in row new.me new.chosen p.wire))) bits
    ∙ (ap (λ (k : EdgeId). combined (old.bits p.wire.0) (is_not_chosen (role_in row k new.chosen p.wire))) me
    ∙ (ap (λ (c : ℕ → Option WireId). combined (old.bits p.wire.0) (is_not_chosen (role_in row old.me c p.wire))) chosen
    ∙ sym (ap (λ (t : Bool). cond t (own_status plan old p) (passed_status (held_beyond plan old p))) terminal))))
  where
    row : Option WirePlan
    row = wire_row plan p.wire

-- of a switching point, which holds the same on the other side
pub passed_same : (plan : Plan) (me : EdgeId) (old new : EdgeState) → old.me ≡ me → new.me ≡ me → (p : EndPlace) (here : IsEndOf plan me p) → p.terminal ≡ false
    → ((from : EdgeId) → mate_on here.row.path me.0 p.peer.0 ≡ Some from → (new.ends p.wire.0 from.0).remote ≡ (old.ends p.wire.0 from.0).remote)
    → status_to_tell plan new p ≡ status_to_tell plan old p
passed_same plan me old new at_old at_new p here switching beyond = by (mate_on here.row.path me.0 p.peer.0) refl where
  by : (from : Option EdgeId) → mate_on here.row.path me.0 p.peer.0 ≡ from → status_to_tell plan new p ≡ status_to_tell plan old p
  by None mated = passed_is plan me new at_new p here switching None mated ∙ sym (passed_is plan me old at_old p here switching None mated)
  by (Some from) mated = passed_is plan me new at_new p here switching (Some from) mated ∙ (ap passed_status (beyond from mated) ∙ sym (passed_is plan me old at_old p here switching (Some from) mated))

-- what an edge that had mended has told is so still
pub told_still : (plan : Plan) (checked : IsChecked plan) (me : EdgeId) (old new : EdgeState) → IsMendedAt plan me.0 old → (p : EndPlace) → IsEndOf plan me p
    → (end_at new p).local ≡ (end_at old p).local → status_to_tell plan new p ≡ status_to_tell plan old p → is_told plan new p ≡ true
told_still plan checked me old new mended p here local same =
    ap (λ (s : PwStatus). tells_now s.0 (end_at new p).local) same
    ∙ (ap (tells_now (status_to_tell plan old p).0) local ∙ told_here plan checked me old mended p here)
