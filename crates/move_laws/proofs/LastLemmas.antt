-- An edge that mends, or passes a withdrawal of addresses on, keeps its bindings and failure bits, and ends that never tell again.
use Rattle.std.proofs.Common.{◌≡◌, ◌∙◌, ◌&&◌, ◌||◌, ◌==◌, cond, is_some, not, Bool, List, None, Option, Some, ap, false, refl, subst, sym, true, ℕ}
use Rattle.net_values.proofs.BoolLemmas.{clash}
use Rattle.net_values.specs.declared.mac.Mac.{Mac}
use Rattle.net_base.specs.declared.plan.Plan.{Plan}
use Rattle.net_base.specs.declared.plan.places.EdgeId.{EdgeId}
use Rattle.net_base.specs.declared.plan.places.ServiceId.{ServiceId}
use Rattle.net_base.specs.declared.plan.wire_plan.WirePlan.{WirePlan}
use Rattle.net_base.specs.declared.trace.down.Down.{Down}
use Rattle.net_base.specs.plan.Places.{wire_row}
use Rattle.label_space.specs.Labels.{number_to_give}
use Rattle.label_space.specs.declared.kept.Kept.{Kept}
use Rattle.ldp_grammar.specs.declared.message.Message.{Message}
use Rattle.network_model.specs.Absorb.{taken_all}
use Rattle.pw_messages.specs.Content.{mac_withdrawal, mapping, status_notification, withdrawal}
use Rattle.pw_signalling.specs.End.{Advertised, EndState, Idle}
use Rattle.pw_signalling.specs.Rows.{advertised, telling, withdrawn}
use Rattle.pw_signalling.specs.declared.told.Told.{Told}
use Rattle.pw_tlvs.specs.declared.pw_fec.PwFec.{PwFec}
use Rattle.pw_tlvs.specs.declared.pw_status.PwStatus.{PwStatus}
use Rattle.edge_model.specs.Clear.{hears_mac_withdraw}
use Rattle.edge_model.specs.Labels.{label_to_give}
use Rattle.edge_model.specs.Mend.{advertising, is_up_with, mends, offer_stands, telling_status, tells_new_status, wish, wish_by, wish_of, withdrawing, withdraws}
use Rattle.edge_model.specs.Role.{status_to_tell}
use Rattle.edge_model.specs.Session.{says}
use Rattle.edge_model.specs.State.{EdgeState, Peering, end_at, with_end, with_kept, with_next_label, with_told_down}
use Rattle.edge_model.specs.Work.{Work, changes, gives}
use Rattle.edge_model.specs.declared.effect.Effect.TheVariants.{Wire}
use Rattle.edge_model.specs.declared.end_place.EndPlace.{EndPlace}
use Rattle.flight_laws.proofs.MendingLemmas.{KeptByRows, mends_keep}
use Rattle.flight_laws.proofs.NameLemmas.{end_fact}
use Rattle.flight_laws.proofs.PassingLemmas.{withdraw_keeps}
use Rattle.flight_laws.proofs.PieceLemmas.{AreSixOctetsEach}
use Rattle.flight_laws.proofs.PlaceLemmas.{IsEndOf}
use Rattle.flight_laws.proofs.WorksLemmas.{changed_edge}
use Rattle.move_laws.proofs.SaidEdgeLemmas.{IsLikeBefore, says_like}
use Rattle.move_laws.proofs.StuckLemmas.{idle_on, stuck_on, stuck_put}
use Rattle.move_laws.specs.Healing.{Lasts, is_stuck, stays_idle}

pub lasts_then : (plan : Plan) (service : ServiceId) (me peer : ℕ) (a b c : EdgeState) → Lasts plan service me peer a b → Lasts plan service me peer b c → Lasts plan service me peer a c
lasts_then plan service me peer a b c one next = record {
  bits = next.bits ∙ one.bits;
  remotes = λ wire k away. next.remotes wire k away ∙ one.remotes wire k away;
  stuck = λ wire k joined is. next.stuck wire k joined (one.stuck wire k joined is);
}

pub lasts_same : (plan : Plan) (service : ServiceId) (me peer : ℕ) (edge : EdgeState) → Lasts plan service me peer edge edge
lasts_same plan service me peer edge = record { bits = refl; remotes = λ wire k away. refl; stuck = λ wire k joined is. is }

-- ---- all bindings are kept

pub record Holds (me : EdgeId) (old new : EdgeState) : Type 0 where
  pub place : new.me ≡ me
  pub held : (wire k : ℕ) → (new.ends wire k).remote ≡ (old.ends wire k).remote
  pub bits : new.bits ≡ old.bits
  pub stuck : (wire k : ℕ) → is_stuck old wire k ≡ true → is_stuck new wire k ≡ true

pub holds_last : (plan : Plan) (service : ServiceId) (me peer : ℕ) (old new : EdgeState) (at : EdgeId) → Holds at old new → Lasts plan service me peer old new
holds_last plan service me peer old new at holds = record { bits = holds.bits; remotes = λ wire k away. holds.held wire k; stuck = λ wire k joined is. holds.stuck wire k is }

module _ (plan : Plan) (me : EdgeId) (base : EdgeState) where
  abbrev I : Work → Type 0
  I work = Holds me base work.edge

  on : (old new : EdgeState) → new.me ≡ old.me → ((wire k : ℕ) → (new.ends wire k).remote ≡ (old.ends wire k).remote) → new.bits ≡ old.bits
      → ((wire k : ℕ) → is_stuck old wire k ≡ true → is_stuck new wire k ≡ true) → Holds me base old → Holds me base new
  on old new same held bits stuck holds = record {
    place = same ∙ holds.place;
    held = λ wire k. held wire k ∙ holds.held wire k;
    bits = bits ∙ holds.bits;
    stuck = λ wire k is. stuck wire k (holds.stuck wire k is);
  }

  like : (old new : EdgeState) → IsLikeBefore old new → Holds me base old → Holds me base new
  like old new is = on old new is.me (λ wire k. ap (λ (f : ℕ → ℕ → EndState). (f wire k).remote) is.ends) is.bits
      (λ wire k. stuck_on old new wire k is.wires (is.ups k) (λ none. is.labels ∙ none) (ap (λ (f : ℕ → ℕ → EndState). (f wire k).local) is.ends))

  says_on : (to : EdgeId) (message : ℕ → Message) (work : Work) → I work → I (says taken_all to message work).work
  says_on to message work = like work.edge (says taken_all to message work).work.edge (says_like to message work)

  changed_on : (change : EdgeState → EdgeState) (work : Work) → Holds me base (change work.edge) → I (changes change work)
  changed_on change work holds = subst (Holds me base) (sym (changed_edge change work)) holds

  -- an end is put that tells something, or told something
  module _ (place : EndPlace) (end : EndState) (edge : EdgeState) (same : end.remote ≡ (end_at edge place).remote) where
    put_held : (wire k : ℕ) → ((with_end place end edge).ends wire k).remote ≡ (edge.ends wire k).remote
    put_held wire k = end_fact (λ w p e. e.remote ≡ (edge.ends w p).remote) place end edge wire k same refl

    put_me : ((with_end place end edge).me ≡ edge.me) × ((with_end place end edge).bits ≡ edge.bits) × ((with_end place end edge).wire_on ≡ edge.wire_on)
        × ((with_end place end edge).peering ≡ edge.peering) × (label_to_give (with_end place end edge) ≡ label_to_give edge)
    unfolding with_end
    put_me = (refl, refl, refl, refl, refl)

    put_on : (stays_idle edge place.wire.0 place.peer.0 (end_at edge place).local ≡ true → stays_idle edge place.wire.0 place.peer.0 end.local ≡ true) → Holds me base edge
        → Holds me base (with_end place end edge)
    put_on now = on edge (with_end place end edge) put_me.0 put_held put_me.1
        (λ wire k is. idle_on edge (with_end place end edge) wire k ((with_end place end edge).ends wire k).local put_me.2 (ap (λ (f : ℕ → Option Peering). is_up_with (f k)) put_me.3)
        (λ none. put_me.4 ∙ none) (stuck_put place end edge wire k now is))

  -- an end that advertised is not stuck
  not_stuck : {P : Type 0} (edge : EdgeState) (place : EndPlace) (label : ℕ) (content : Told) → (end_at edge place).local ≡ Advertised label content
      → stays_idle edge place.wire.0 place.peer.0 (end_at edge place).local ≡ true → P
  not_stuck edge place label content at is = clash (sym (ap (stays_idle edge place.wire.0 place.peer.0) at) ∙ is)

  -- nor is one that is given a label
  wish_up : (edge : EdgeState) (place : EndPlace) (content : Told) (o : Option WirePlan) → wish_of plan edge place o ≡ Some content
      → edge.wire_on place.wire.0 && is_up_with (edge.peering place.peer.0) ≡ true
  wish_up edge place content None is = absurd (cc (is))
  wish_up edge place content (Some row) is = by (edge.wire_on place.wire.0 && is_up_with (edge.peering place.peer.0)) is where
    by : (b : Bool) → cond b (wish_by plan edge place row) None ≡ Some content → b ≡ true
    by true is = refl
    by false is = absurd (cc (is))

  not_given : {P : Type 0} (edge : EdgeState) (place : EndPlace) (label : ℕ) (content : Told) → (end_at edge place).local ≡ Idle false → wish plan edge place ≡ Some content
      → label_to_give edge ≡ Some label
      → stays_idle edge place.wire.0 place.peer.0 (end_at edge place).local ≡ true → P
  not_given edge place label content at wished given is =
      by (edge.wire_on place.wire.0 && is_up_with (edge.peering place.peer.0)) (label_to_give edge) (wish_up edge place content (wire_row plan place.wire) wished) given
      (sym (ap (stays_idle edge place.wire.0 place.peer.0) at) ∙ is)
    where
      by : {P : Type 0} (b : Bool) (o : Option ℕ) → b ≡ true → o ≡ Some label → not b || not (is_some o) ≡ true → P
      by true None up given is = absurd (cc (given))
      by true (Some other) up given is = clash is
      by false o up given is = clash up

  advertising_is : (place : EndPlace) (label : ℕ) (content : Told) (edge : EdgeState)
      → ((advertising place label content edge).me ≡ (with_end place (advertised label content (end_at edge place)) edge).me)
      × ((advertising place label content edge).bits ≡ (with_end place (advertised label content (end_at edge place)) edge).bits)
      × ((advertising place label content edge).ends ≡ (with_end place (advertised label content (end_at edge place)) edge).ends)
      × ((advertising place label content edge).wire_on ≡ edge.wire_on) × ((advertising place label content edge).peering ≡ edge.peering)
  unfolding with_end with_next_label with_kept
  advertising_is place label content edge = (refl, refl, refl, refl, refl)

  row_advertises : (place : EndPlace) (label : ℕ) (content : Told) (work : Work) → IsEndOf plan me place → (end_at work.edge place).local ≡ Idle false → wish plan work.edge place ≡ Some content
      → label_to_give work.edge ≡ Some label → I work → I (says taken_all place.peer (mapping place.pw_id label content) (changes (advertising place label content) work)).work
  row_advertises place label content work is at wished given i =
      let edge : EdgeState = work.edge in
      let end : EndState = advertised label content (end_at work.edge place) in
      let new : EdgeState = advertising place label content work.edge in
      let parts = advertising_is place label content work.edge in
      says_on place.peer (mapping place.pw_id label content) (changes (advertising place label content) work)
      (changed_on (advertising place label content) work
      (on work.edge new (parts.0 ∙ (put_me place end work.edge refl).0) (λ wire k. ap (λ (f : ℕ → ℕ → EndState). (f wire k).remote) parts.2 ∙ put_held place end work.edge refl wire k)
      (parts.1 ∙ (put_me place end work.edge refl).1)
      (λ wire k stuck. ap (λ (f : ℕ → ℕ → EndState). stays_idle new wire k (f wire k).local) parts.2
      ∙ idle_on work.edge new wire k ((with_end place end work.edge).ends wire k).local parts.3 (ap (λ (f : ℕ → Option Peering). is_up_with (f k)) parts.4)
      (λ none. absurd (no_label (sym none ∙ given)))
      (stuck_put place end work.edge wire k (not_given work.edge place label content at wished given) stuck)) i))
    where
      no_label : None ≡ Some label → ⊥
      no_label e = cc

  row_withdraws : (place : EndPlace) (label : ℕ) (content : Told) (work : Work) → IsEndOf plan me place → (end_at work.edge place).local ≡ Advertised label content
      → offer_stands place content (wish plan work.edge place) ≡ false → I work → I (withdraws taken_all place label content work).work
  row_withdraws place label content work is at changed i =
      says_on place.peer (withdrawal place.pw_id label content) (changes (withdrawing place) work)
      (changed_on (withdrawing place) work (put_on place (withdrawn (end_at work.edge place)) work.edge refl (not_stuck work.edge place label content at) i))

  row_tells : (place : EndPlace) (label : ℕ) (content : Told) (last : PwStatus) (work : Work) → IsEndOf plan me place → (end_at work.edge place).local ≡ Advertised label content
      → content.status ≡ Some last
      → last.0 == (status_to_tell plan work.edge place).0 ≡ false → I work → I (tells_new_status taken_all place content (status_to_tell plan work.edge place) work).work
  row_tells place label content last work is at told other i =
      let status : PwStatus = status_to_tell plan work.edge place in
      says_on place.peer (status_notification place.pw_id status content) (changes (telling_status place status) work)
      (changed_on (telling_status place status) work (put_on place (telling status (end_at work.edge place)) work.edge refl (not_stuck work.edge place label content at) i))

  -- what leaves ends, wires, labels and neighbours
  same_on : (old new : EdgeState) → new.me ≡ old.me → new.ends ≡ old.ends → new.wire_on ≡ old.wire_on → new.bits ≡ old.bits → label_to_give new ≡ label_to_give old → new.peering ≡ old.peering
      → Holds me base old → Holds me base new
  same_on old new same ends wires bits labels peering =
      like old new (record { me = same; ends = ends; wires = wires; bits = bits; labels = labels; ups = λ k. ap (λ (f : ℕ → Option Peering). is_up_with (f k)) peering })

  row_down : (place : EndPlace) (down : Option Down) (work : Work) → IsEndOf plan me place → I work → I (gives (Wire place.wire down) (changes (with_told_down place.wire down) work))
  unfolding gives changes with_told_down
  row_down place down work is i = record { place = i.place; held = i.held; bits = i.bits; stuck = i.stuck }

  pub rows_hold : KeptByRows plan me I
  rows_hold = record {
    placed = λ work i. i.place;
    advertises = row_advertises;
    withdraws = row_withdraws;
    tells = row_tells;
    clears = λ place label content addresses work is at piece i. says_on place.peer (mac_withdrawal place.pw_id addresses content) work i;
    tells_down = row_down;
    others = λ change work keeps peering i. changed_on change work
        (same_on work.edge (change work.edge) keeps.me keeps.ends keeps.wire_on keeps.bits
        (ap (λ (n : ℕ). number_to_give n (change work.edge).kept) keeps.next_label ∙ ap (λ (ks : List Kept). number_to_give work.edge.next_label ks) keeps.kept) peering i);
  }

-- it begins with what it is
holds_first : (me : EdgeId) (edge : EdgeState) → edge.me ≡ me → Holds me edge edge
holds_first me edge placed = record { place = placed; held = λ wire k. refl; bits = refl; stuck = λ wire k is. is }

pub mends_hold : (plan : Plan) (me : EdgeId) (work : Work) → work.edge.me ≡ me → Holds me work.edge (mends plan taken_all work).edge
mends_hold plan me work placed = mends_keep plan me (λ (w : Work). Holds me work.edge w.edge) (rows_hold plan me work.edge) work (holds_first me work.edge placed)

pub withdraw_holds : (plan : Plan) (me peer : EdgeId) (fec : PwFec) (macs : List Mac) (work : Work) → AreSixOctetsEach macs → work.edge.me ≡ me
    → Holds me work.edge (hears_mac_withdraw plan taken_all peer (Some fec) (Some macs) work).edge
withdraw_holds plan me peer fec macs work are placed =
    withdraw_keeps plan me (λ (w : Work). Holds me work.edge w.edge) (rows_hold plan me work.edge) peer fec macs are work (holds_first me work.edge placed)
