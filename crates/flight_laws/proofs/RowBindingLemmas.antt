-- Mending keeps what is left of the ends of wires, for every place.
use Rattle.std.proofs.Common.{◌≡◌, ◌==◌, ◌++◌, ◌∙◌, not, nat_eq, ℕ, Bool, true, false, List, [], ◌∷◌, Option, Some, None, refl, sym, ap, subst, inl, inr}
use Rattle.std.proofs.lemmas.Bool.{cases_Bool, eqb-true}
use Rattle.net_base.specs.declared.plan.Plan.{Plan}
use Rattle.net_base.specs.declared.plan.places.EdgeId.{EdgeId}
use Rattle.net_base.specs.declared.trace.down.Down.{Down}
use Rattle.net_values.specs.declared.mac.Mac.{Mac}
use Rattle.net_base.specs.plan.Accepted.{IsChecked}
use Rattle.net_values.specs.Label.{IsLabel}
use Rattle.net_values.proofs.BoolLemmas.{clash}
use Rattle.ldp_grammar.specs.declared.message.Message.{Message}
use Rattle.pw_tlvs.specs.declared.pw_status.PwStatus.{PwStatus}
use Rattle.pw_signalling.specs.declared.binding.Binding.{Binding}
use Rattle.pw_signalling.specs.declared.told.Told.{Told}
use Rattle.pw_signalling.specs.End.{EndState, LocalPart, Idle, Advertised}
use Rattle.pw_signalling.specs.Rows.{advertise_part, advertised, tell_part, telling, withdraw_part, withdrawn}
use Rattle.pw_messages.specs.Content.{mac_withdrawal, mapping, status_notification, withdrawal}
use Rattle.edge_model.specs.declared.effect.Effect.TheVariants.{Wire}
use Rattle.edge_model.specs.declared.end_place.EndPlace.{EndPlace}
use Rattle.edge_model.specs.Mend.{advertising, is_up_with, offer_stands, telling_status, wish, withdrawing}
use Rattle.edge_model.specs.Role.{status_to_tell}
use Rattle.edge_model.specs.Session.{says}
use Rattle.edge_model.specs.State.{EdgeState, Peering, end_at, is_there, with_end, with_next_label, with_told_down, with_kept}
use Rattle.edge_model.specs.Work.{Work, changes, gives}
use Rattle.network_model.specs.Absorb.{taken_all}
use Rattle.edge_model.specs.Labels.{giving, label_to_give}
use Rattle.edge_model.proofs.CommonLemmas.{advertising_changed}
use Rattle.flight_laws.proofs.GivenLemmas.{advertised_given, given_on, not_given, now_given}
use Rattle.flight_laws.specs.Bound.{given_of, AreBound, HasSaid, IsBoundBy, LeavesBound, is_silent, releases_old}
use Rattle.flight_laws.specs.Ends.{HasTypes, ends_at}
use Rattle.flight_laws.specs.Meeting.{said_to}
use Rattle.flight_laws.specs.Pair.{IsStanding}
use Rattle.flight_laws.specs.Sound.{TellsSoundly, point_limit}
use Rattle.flight_laws.proofs.BindingLemmas.{binding_advertises, binding_says_other, binding_tells, binding_withdraws}
use Rattle.flight_laws.proofs.EdgeBindingLemmas.{SaysOf, bound_says, end_beside_other, end_given, end_label, end_of_other, end_there}
use Rattle.flight_laws.proofs.KeepLemmas.{KeepsEnds}
use Rattle.flight_laws.proofs.LeaveLemmas.{leaves_goes, leaves_same, leaves_spoken}
use Rattle.flight_laws.proofs.MendingLemmas.{KeptByRows}
use Rattle.flight_laws.proofs.OfferLemmas.{IsOfWires, clearance_is, mapping_sound, status_is, withdrawal_is}
use Rattle.flight_laws.proofs.PieceLemmas.{IsPiece}
use Rattle.flight_laws.proofs.PlaceLemmas.{IsEndOf}
use Rattle.flight_laws.proofs.SpokenLemmas.{HasSpoken, says_spoken}
use Rattle.flight_laws.proofs.SteadyLemmas.{WishesSoundly, advertised_up, end_small, next_is_label, status_small, wishes}
use Rattle.flight_laws.proofs.WorkLemmas.{said-append, same_end}
use Rattle.flight_laws.proofs.WorksLemmas.{changed_edge}

-- ---- one end of an edge is another one, and a label is given

giving_ends : (label : ℕ) (edge : EdgeState) → (giving label edge).ends ≡ edge.ends
unfolding with_next_label with_kept
giving_ends label edge = refl

other_number : (pw_id other : ℕ) → pw_id == other ≡ false → not (pw_id == other) ≡ true
other_number pw_id other apart = rw apart refl

-- the edge has advertised an end
advertising_says : (place : EndPlace) (label : ℕ) (content : Told) (id : ℕ) (edge : EdgeState) → (end_at edge place).local ≡ Idle false → label_to_give edge ≡ Some label → IsLabel label
    → SaysOf place (mapping place.pw_id label content id) edge (advertising place label content edge)
advertising_says place label content id edge at give is_label = record {
  goes = advertised_given place label content edge;
  others = λ wire away. ap (λ (f : ℕ → ℕ → EndState). f wire place.peer.0) ends ∙ end_of_other place end edge wire place.peer.0 away;
  remote = ap (λ (e : EndState). e.remote) own;
  own = λ far out back is.
      subst (λ (l : LocalPart). IsBoundBy place.pw_id (given_of (advertising place label content edge)) l far (out ++ m ∷ []) back) (sym local)
      (binding_advertises place.pw_id (given_of edge) (given_of (advertising place label content edge)) label false content id far out back (advertised_given place label content edge)
      (not_given edge label give)
      (now_given place label content edge give is_label) (subst (λ (l : LocalPart). IsBoundBy place.pw_id (given_of edge) l far out back) at is));
  silent = λ pw_id apart. other_number place.pw_id pw_id apart;
  releases = λ pw_id next near. refl;
}
  where
    end : EndState
    end = advertised label content (end_at edge place)

    ends : (advertising place label content edge).ends ≡ (with_end place end edge).ends
    ends = giving_ends label (with_end place end edge)

    m : Message
    m = mapping place.pw_id label content id

    own : end_at (advertising place label content edge) place ≡ end
    own = ap (λ (f : ℕ → ℕ → EndState). f place.wire.0 place.peer.0) ends ∙ end_there place end edge

    local : (end_at (advertising place label content edge) place).local ≡ Advertised label content
    local = ap (λ (e : EndState). e.local) own ∙ ap (advertise_part label content) at

-- it has changed an end without a label
changing_says : (place : EndPlace) (m : Message) (end : EndState) (edge : EdgeState) → end.remote ≡ (end_at edge place).remote
    → ((far : Option Binding) (out back : List Message) → IsBoundBy place.pw_id (given_of edge) (end_at edge place).local far out back
    → IsBoundBy place.pw_id (given_of edge) end.local far (out ++ m ∷ []) back)
    → ((pw_id : ℕ) → place.pw_id == pw_id ≡ false → is_silent pw_id m ≡ true) → ((pw_id : ℕ) (next : ℕ → Bool) (near : LocalPart) → releases_old pw_id next near m ≡ true)
    → SaysOf place m edge (with_end place end edge)
changing_says place m end edge remote own silent releases = record {
  goes = end_given place end edge;
  others = λ wire away. end_of_other place end edge wire place.peer.0 away;
  remote = ap (λ (e : EndState). e.remote) (end_there place end edge) ∙ remote;
  own = λ far out back is.
      subst (λ (n : ℕ → Bool). IsBoundBy place.pw_id n (end_at (with_end place end edge) place).local far (out ++ m ∷ []) back) (sym (end_label place end edge))
      (subst (λ (e : EndState). IsBoundBy place.pw_id (given_of edge) e.local far (out ++ m ∷ []) back) (sym (end_there place end edge)) (own far out back is));
  silent = silent;
  releases = releases;
}

withdrawing_says : (place : EndPlace) (label : ℕ) (told content : Told) (id : ℕ) (edge : EdgeState) → (end_at edge place).local ≡ Advertised label told
    → SaysOf place (withdrawal place.pw_id label content id) edge (withdrawing place edge)
withdrawing_says place label told content id edge at =
    changing_says place (withdrawal place.pw_id label content id) (withdrawn (end_at edge place)) edge refl
    (λ far out back is. subst (λ (l : LocalPart). IsBoundBy place.pw_id (given_of edge) l far (out ++ withdrawal place.pw_id label content id ∷ []) back) (sym (ap withdraw_part at))
    (binding_withdraws place.pw_id (given_of edge) label told content id far out back (subst (λ (l : LocalPart). IsBoundBy place.pw_id (given_of edge) l far out back) at is)))
    (λ pw_id apart. rw apart refl) (λ pw_id next near. refl)

telling_says : (place : EndPlace) (label : ℕ) (told content : Told) (status : PwStatus) (id : ℕ) (edge : EdgeState) → (end_at edge place).local ≡ Advertised label told
    → SaysOf place (status_notification place.pw_id status content id) edge (telling_status place status edge)
telling_says place label told content status id edge at =
    changing_says place (status_notification place.pw_id status content id) (telling status (end_at edge place)) edge refl
    (λ far out back is. subst (λ (l : LocalPart). IsBoundBy place.pw_id (given_of edge) l far (out ++ status_notification place.pw_id status content id ∷ []) back) (sym (ap (tell_part status) at))
    (binding_tells place.pw_id (given_of edge) label told content status id far out back (subst (λ (l : LocalPart). IsBoundBy place.pw_id (given_of edge) l far out back) at is)))
    (λ pw_id apart. other_number place.pw_id pw_id apart) (λ pw_id next near. refl)

-- it has told that addresses are to be forgotten, and is as it was
clearing_says : (place : EndPlace) (addresses : List Mac) (content : Told) (id : ℕ) (edge : EdgeState) → SaysOf place (mac_withdrawal place.pw_id addresses content id) edge edge
clearing_says place addresses content id edge = record {
  goes = λ label given. given;
  others = λ wire away. refl;
  remote = refl;
  own = λ far out back is. binding_says_other place.pw_id (given_of edge) (end_at edge place).local far out back (mac_withdrawal place.pw_id addresses content id) refl is;
  silent = λ pw_id apart. refl;
  releases = λ pw_id next near. refl;
}

unchanged_is : (work : Work) → changes (λ edge. edge) work ≡ work
unfolding changes
unchanged_is work = refl

-- ---- a session that is up

pub record IsUpAs (near : Option Peering) : Type 0 where
  pub kept : Peering
  pub is : near ≡ Some kept

pub up_there : (near : Option Peering) → is_up_with near ≡ true → IsUpAs near
up_there None up = clash up
up_there (Some kept) up = record { kept = kept; is = refl }

-- ---- a row of mending

pub changed_said : (change : EdgeState → EdgeState) (work : Work) (place : ℕ) → said_to place (changes change work).effects ≡ said_to place work.effects
unfolding changes
changed_said change work place = refl

advertising_else : (place : EndPlace) (label : ℕ) (content : Told) (edge : EdgeState) (wire peer : ℕ) → nat_eq peer place.peer.0 ≡ false
    → (advertising place label content edge).ends wire peer ≡ edge.ends wire peer
advertising_else place label content edge wire peer apart =
    ap (λ (f : ℕ → ℕ → EndState). f wire peer) (giving_ends label (with_end place (advertised label content (end_at edge place)) edge))
    ∙ end_beside_other place (advertised label content (end_at edge place)) edge wire peer apart

pub end_peering : (place : EndPlace) (end : EndState) (edge : EdgeState) → (with_end place end edge).peering ≡ edge.peering
unfolding with_end with_kept
end_peering place end edge = refl

module _ (plan : Plan) (me : EdgeId) (checked : IsChecked plan) (fars : ℕ → EdgeState) (outs : ℕ → List ℕ) (answers : ℕ → List Message) where
  -- what is left for each place
  abbrev pub LeavesAll : Work → Type 0
  LeavesAll work = (place : ℕ) → nat_eq place me.0 ≡ false → LeavesBound plan me place (fars place) (outs place) (answers place) work

  abbrev pub SaysAll : Work → Type 0
  SaysAll work = (place : ℕ) → nat_eq place me.0 ≡ false → HasSaid plan me place (fars place) (outs place) work

  pub row_leaves : (place : EndPlace) (message : ℕ → Message) (change : EdgeState → EdgeState) (work : Work) → IsEndOf plan me place → is_up_with (work.edge.peering place.peer.0)
      ≡ true → (change work.edge).peering ≡ work.edge.peering
      → ((id : ℕ) → SaysOf place (message id) work.edge (change work.edge))
      → ((wire peer : ℕ) → nat_eq peer place.peer.0 ≡ false → (change work.edge).ends wire peer ≡ work.edge.ends wire peer) → IsOfWires message
      → SaysAll work → LeavesAll work → LeavesAll (says taken_all place.peer message (changes change work)).work
  row_leaves place message change work there up same about elsewhere of_wires has leaves c away = elim (cases_Bool (nat_eq c place.peer.0)) [
    | inl here ↦ subst (λ (k : ℕ). LeavesBound plan me k (fars k) (outs k) (answers k) new) (sym (eqb-true c place.peer.0 here))
        (beside (subst (λ (k : ℕ). nat_eq k me.0 ≡ false) (eqb-true c place.peer.0 here) away))
    | inr gone ↦ leaves_goes plan me c (fars c) (outs c) (answers c) work new (spoken.said_else c gone ∙ changed_said change work c)
        (λ near. sym (ap is_there (spoken.elsewhere c gone ∙ ap (λ (e : EdgeState). e.peering c) (changed_edge change work) ∙ ap (λ (f : ℕ → Option Peering). f c) same)) ∙ near)
        (λ label given. given_on (changes change work).edge new.edge spoken.label spoken.labels label
        (subst (λ (e : EdgeState). given_of e label ≡ true) (sym (changed_edge change work)) ((about 0).goes label given)))
        (λ wire. ap (λ (f : ℕ → ℕ → EndState). f wire c) spoken.ends ∙ (ap (λ (e : EdgeState). e.ends wire c) (changed_edge change work) ∙ elsewhere wire c gone)) (leaves c away)
  ]
    where
      kept : Peering
      kept = (up_there (work.edge.peering place.peer.0) up).kept

      at : work.edge.peering place.peer.0 ≡ Some kept
      at = (up_there (work.edge.peering place.peer.0) up).is

      new : Work
      new = (says taken_all place.peer message (changes change work)).work

      spoken : HasSpoken place.peer kept message (changes change work) new
      spoken = says_spoken place.peer kept message (changes change work)
          (ap (λ (e : EdgeState). e.peering place.peer.0) (changed_edge change work) ∙ (ap (λ (f : ℕ → Option Peering). f place.peer.0) same ∙ at))

      beside : nat_eq place.peer.0 me.0 ≡ false → LeavesBound plan me place.peer.0 (fars place.peer.0) (outs place.peer.0) (answers place.peer.0) new
      beside apart =
          let said : HasSaid plan me place.peer.0 (fars place.peer.0) (outs place.peer.0) work = has place.peer.0 apart in
          let standing : IsStanding (ends_at plan me.0 place.peer.0) (ends_at plan place.peer.0 me.0) kept = rw at at said.talk.here in
          leaves_spoken plan me place.peer (fars place.peer.0) (outs place.peer.0) (answers place.peer.0) (answers place.peer.0) kept message work (changes change work) new said at
          (of_wires.said (ends_at plan me.0 place.peer.0) kept.next_id standing.numbered) (changed_said change work place.peer.0) spoken
          (λ bound. subst (λ (e : EdgeState). AreBound plan me.0 place.peer.0 e (fars place.peer.0) (said.messages ++ message kept.next_id ∷ []) (answers place.peer.0))
          (sym (changed_edge change work))
          (bound_says plan me place (message kept.next_id) work.edge (change work.edge) (fars place.peer.0) said.messages (answers place.peer.0) checked there (about kept.next_id) bound))
          (leaves place.peer.0 apart)

  -- what is kept of an edge at work beside it
  module _ (types : HasTypes plan) (I : Work → Type 0) (rows : KeptByRows plan me I) (sound : (work : Work) → I work → TellsSoundly (point_limit plan me.0) work.edge) (said : (work : Work) → I work → SaysAll work) where
    abbrev pub KeepsAll : Work → Type 0
    KeepsAll work = I work × LeavesAll work

    all_advertise : (place : EndPlace) (label : ℕ) (content : Told) (work : Work) → IsEndOf plan me place → (end_at work.edge place).local ≡ Idle false → wish plan work.edge place ≡ Some content
        → label_to_give work.edge ≡ Some label → KeepsAll work → KeepsAll (says taken_all place.peer (mapping place.pw_id label content) (changes (advertising place label content) work)).work
    all_advertise place label content work is at wished give all =
        let tells : TellsSoundly (point_limit plan me.0) work.edge = sound work all.0 in
        let told : WishesSoundly work.edge place content = wishes plan me checked types work.edge place content tells is wished in
        let one : IsLabel label = next_is_label work.edge label tells give in (
          rows.advertises place label content work is at wished give all.0,
          row_leaves place (mapping place.pw_id label content) (advertising place label content) work is told.up (advertising_changed place label content work.edge)
              (λ id. advertising_says place label content id work.edge at give one) (advertising_else place label content work.edge)
              (mapping_sound place.pw_id label content (end_small plan me place checked is) one told.sound)
              (said work all.0) all.1,
        )

    all_withdraw : (place : EndPlace) (label : ℕ) (content : Told) (work : Work) → IsEndOf plan me place → (end_at work.edge place).local ≡ Advertised label content
        → offer_stands place content (wish plan work.edge place) ≡ false
        → KeepsAll work → KeepsAll (says taken_all place.peer (withdrawal place.pw_id label content) (changes (withdrawing place) work)).work
    all_withdraw place label content work is at wished all =
        let can = advertised_up (point_limit plan me.0 place.wire.0) (is_up_with (work.edge.peering place.peer.0)) (end_at work.edge place) label content
        ((sound work all.0).ends place.wire.0 place.peer.0) at in (
          rows.withdraws place label content work is at wished all.0,
          row_leaves place (withdrawal place.pw_id label content) (withdrawing place) work is can.0 (end_peering place (withdrawn (end_at work.edge place)) work.edge)
              (λ id. withdrawing_says place label content content id work.edge at) (end_beside_other place (withdrawn (end_at work.edge place)) work.edge)
              (withdrawal_is place.pw_id label content (end_small plan me place checked is) can.1) (said work all.0) all.1,
        )

    all_tell : (place : EndPlace) (label : ℕ) (content : Told) (last : PwStatus) (work : Work) → IsEndOf plan me place → (end_at work.edge place).local ≡ Advertised label content
        → content.status ≡ Some last
        → last.0 == (status_to_tell plan work.edge place).0 ≡ false → KeepsAll work
        → KeepsAll (says taken_all place.peer (status_notification place.pw_id (status_to_tell plan work.edge place) content)
        (changes (telling_status place (status_to_tell plan work.edge place)) work)).work
    all_tell place label content last work is at told other all =
        let status : PwStatus = status_to_tell plan work.edge place in
        let can = advertised_up (point_limit plan me.0 place.wire.0) (is_up_with (work.edge.peering place.peer.0)) (end_at work.edge place) label content
        ((sound work all.0).ends place.wire.0 place.peer.0) at in (
          rows.tells place label content last work is at told other all.0,
          row_leaves place (status_notification place.pw_id status content) (telling_status place status) work is can.0 (end_peering place (telling status (end_at work.edge place)) work.edge)
              (λ id. telling_says place label content content status id work.edge at) (end_beside_other place (telling status (end_at work.edge place)) work.edge)
              (status_is place.pw_id label status content (end_small plan me place checked is) (status_small plan work.edge place (sound work all.0)) can.1) (said work all.0) all.1,
        )

    all_clear : (place : EndPlace) (label : ℕ) (content : Told) (addresses : List Mac) (work : Work) → IsEndOf plan me place → (end_at work.edge place).local ≡ Advertised label content
        → IsPiece addresses
        → KeepsAll work → KeepsAll (says taken_all place.peer (mac_withdrawal place.pw_id addresses content) work).work
    all_clear place label content addresses work is at piece all =
        let can = advertised_up (point_limit plan me.0 place.wire.0) (is_up_with (work.edge.peering place.peer.0)) (end_at work.edge place) label content
        ((sound work all.0).ends place.wire.0 place.peer.0) at in (
          rows.clears place label content addresses work is at piece all.0,
          subst (λ (w : Work). LeavesAll (says taken_all place.peer (mac_withdrawal place.pw_id addresses content) w).work) (unchanged_is work)
              (row_leaves place (mac_withdrawal place.pw_id addresses content) (λ edge. edge) work is can.0 refl (λ id. clearing_says place addresses content id work.edge) (λ wire peer away. refl)
              (clearance_is place.pw_id label addresses content (end_small plan me place checked is) piece can.1) (said work all.0) all.1),
        )

    down_leaves : (place : EndPlace) (down : Option Down) (work : Work) → LeavesAll work → LeavesAll (gives (Wire place.wire down) (changes (with_told_down place.wire down) work))
    unfolding gives changes with_told_down
    down_leaves place down work leaves c away =
        leaves_same plan me c (fars c) (outs c) (answers c) work _ (said-append c work.effects (Wire place.wire down ∷ []) ∙ same_end (said_to c work.effects)) (λ near. near)
        (record { label = λ label given. given; ends = λ wire. refl }) (leaves c away)

    others_leave : (change : EdgeState → EdgeState) (work : Work) → KeepsEnds work.edge (change work.edge) → (change work.edge).peering ≡ work.edge.peering → LeavesAll work
        → LeavesAll (changes change work)
    unfolding changes
    others_leave change work keeps peering leaves c away =
        leaves_same plan me c (fars c) (outs c) (answers c) work _ refl (λ near. sym (ap (λ (f : ℕ → Option Peering). is_there (f c)) peering) ∙ near)
        (record { label = given_on work.edge (change work.edge) keeps.next_label keeps.kept; ends = λ wire. ap (λ (f : ℕ → ℕ → EndState). f wire c) keeps.ends }) (leaves c away)

    pub rows_leave : KeptByRows plan me KeepsAll
    rows_leave = record {
      placed = λ work all. rows.placed work all.0;
      advertises = all_advertise;
      withdraws = all_withdraw;
      tells = all_tell;
      clears = all_clear;
      tells_down = λ place down work is all. (rows.tells_down place down work is all.0, down_leaves place down work all.1);
      others = λ change work keeps peering all. (rows.others change work keeps peering all.0, others_leave change work keeps peering all.1);
    }
