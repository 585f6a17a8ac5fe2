-- Labels go on along their own wire, a status beyond its end alone, and where the edge may choose another spoke, on these: what an edge that had
-- mended puts once an end of a wire has changed.
use Rattle.std.proofs.Common.{◌≡◌, ◌∙◌, ◌&&◌, ◌||◌, ◌⊎◌, ℕ, Bool, true, false, cond, is_some, nat_eq, not, List, Option, Some, None, refl, sym, ap, subst, inl, inr, arith}
use Rattle.std.proofs.lemmas.Bool.{cases_Bool, eqb-true}
use Rattle.std.proofs.lemmas.Bool.Decides.{nat_tests}
use Rattle.std.proofs.lemmas.Option.{same_Some}
use Rattle.net_values.proofs.BoolLemmas.{and_false, clash, first_holds, second_holds}
use Rattle.net_values.proofs.NumberLemmas.{same_number}
use Rattle.net_values.proofs.RowLemmas.{row_holds}
use Rattle.net_base.specs.declared.plan.Plan.{Plan}
use Rattle.net_base.specs.declared.plan.places.EdgeId.{EdgeId}
use Rattle.net_base.specs.declared.plan.places.ServiceId.{ServiceId}
use Rattle.net_base.specs.declared.plan.places.WireId.{WireId}
use Rattle.net_base.specs.declared.plan.wire_plan.WirePlan.{WirePlan}
use Rattle.net_base.specs.plan.Accepted.{IsChecked, IsWireOf}
use Rattle.net_base.specs.plan.Paths.{follows, has_repeat, is_first, joins, mate, mate_on}
use Rattle.net_base.specs.plan.Places.{is_mesh_class, wire_row}
use Rattle.net_base.proofs.CommonLemmas.{same_row}
use Rattle.network_model.proofs.WayLemmas.{joins_is, one_way, way_kept}
use Rattle.pw_tlvs.specs.declared.pw_fec.PwFec.{PwFec}
use Rattle.pw_tlvs.specs.declared.pw_status.PwStatus.{PwStatus}
use Rattle.pw_messages.specs.Content.{release}
use Rattle.pw_signalling.specs.declared.binding.Binding.{Binding}
use Rattle.pw_signalling.specs.declared.end_role.EndRole.TheVariants as role
use Rattle.pw_signalling.specs.declared.told.Told.{Told}
use Rattle.pw_signalling.specs.Down.{down}
use Rattle.pw_signalling.specs.End.{EndState, LocalPart, Idle, Advertised, Withdrawing}
use Rattle.pw_signalling.specs.Rows.{group_unbound, names, release_part, unbound}
use Rattle.edge_model.specs.Across.{held_of}
use Rattle.edge_model.specs.declared.effect.Effect.{Effect}
use Rattle.edge_model.specs.declared.end_place.EndPlace.{EndPlace}
use Rattle.edge_model.specs.EndPlaces.{is_terminal}
use Rattle.edge_model.specs.Labels.{label_to_give, releasing}
use Rattle.edge_model.specs.Mend.{is_up_with, mends, offer_stands, passed_from, wish}
use Rattle.edge_model.specs.Role.{status_to_tell}
use Rattle.edge_model.specs.Session.{says}
use Rattle.edge_model.specs.Settled.{is_told, tells_now}
use Rattle.edge_model.specs.Signal.{end_of_fec, hears_release, hears_withdraw, with_named, with_released}
use Rattle.edge_model.specs.Spokes.{is_spoke_row, is_usable}
use Rattle.edge_model.specs.State.{EdgeState, end_at, with_end, with_kept}
use Rattle.edge_model.specs.Work.{Work, changes}
use Rattle.edge_model.proofs.WalkLemmas.{named_alone}
use Rattle.network_model.specs.Absorb.{taken_all}
use Rattle.flight_laws.proofs.MendedRunLemmas.{IsMendedAt}
use Rattle.flight_laws.proofs.PlaceLemmas.{IsEndOf}
use Rattle.flight_laws.proofs.WorksLemmas.{changed_edge}
use Rattle.spelling_laws.proofs.PutLemmas.{changed_effects}
use Rattle.rest_laws.specs.Levels.{Saying, Binds, Withdraws, Releases, States, Clears}
use Rattle.rest_laws.proofs.BindLemmas.{HoldsOther, some_terminal, tells_by, terminal_stands, wish_passing}
use Rattle.rest_laws.proofs.ChoiceLemmas.{choice_by_spokes}
use Rattle.rest_laws.proofs.DueLemmas.{IsDue, PutsMore}
use Rattle.rest_laws.proofs.HearLemmas.{due_after, release_due, released_alike, released_else, released_here, releasing_me}
use Rattle.rest_laws.proofs.PutLemmas.{HasSaid, WishesAlike, puts_then, same_side, says_puts, stands_at}
use Rattle.rest_laws.proofs.StatusLemmas.{status_alike, told_here, told_like}
use Rattle.rest_laws.proofs.TakeLemmas.{holds_other, pw_named}
use Rattle.settle_bounds.specs.Worth.{is_beyond, may_follow, may_pass, may_release, shares_choice, starts_spoke}
use Rattle.settle_bounds.proofs.ChosenLemmas.{KeepsChoice, MayChoose, mending_puts_chosen, own_same, passed_same, told_still}

-- ---- an end that should tell as before

-- whatever goes into what an end should tell is as before
pub record IsLikeAt (old new : EdgeState) (me : EdgeId) (p : EndPlace) (row : WirePlan) : Type 0 where
  pub me_is : new.me ≡ old.me
  pub wires : new.wire_on ≡ old.wire_on
  pub bits : new.bits ≡ old.bits
  pub up : is_up_with (new.peering p.peer.0) ≡ is_up_with (old.peering p.peer.0)
  pub own : p.terminal ≡ true → (end_at new p).remote ≡ (end_at old p).remote
  pub beyond : (from : EdgeId) → mate_on row.path me.0 p.peer.0 ≡ Some from → (new.ends p.wire.0 from.0).remote ≡ (old.ends p.wire.0 from.0).remote

pub record TellsAlike (plan : Plan) (old new : EdgeState) (p : EndPlace) : Type 0 where
  pub some : is_some (wish plan new p) ≡ is_some (wish plan old p)
  pub stands : (content : Told) → offer_stands p content (wish plan new p) ≡ offer_stands p content (wish plan old p)

module _ (plan : Plan) (me : EdgeId) (old new : EdgeState) (at : old.me ≡ me) (p : EndPlace) (here : IsEndOf plan me p) (like : IsLikeAt old new me p here.row) where
  terminal_alike : p.terminal ≡ true → TellsAlike plan old new p
  terminal_alike terminal = record { some = some; stands = λ content. terminal_stands p terminal content (wish plan new p) (wish plan old p) some } where
    held : Option Binding
    held = (end_at new p).remote

    some : is_some (wish plan new p) ≡ is_some (wish plan old p)
    some =
        some_terminal plan new p here.row here.is terminal
        ∙ (ap (λ (m : EdgeId). (new.wire_on p.wire.0 && is_up_with (new.peering p.peer.0)) && tells_by here.row m (new.bits p.wire.0) held) like.me_is
        ∙ (ap (λ (on : ℕ → Bool). (on p.wire.0 && is_up_with (new.peering p.peer.0)) && tells_by here.row old.me (new.bits p.wire.0) held) like.wires
        ∙ (ap (λ (up : Bool). (old.wire_on p.wire.0 && up) && tells_by here.row old.me (new.bits p.wire.0) held) like.up
        ∙ (ap (λ (bits : ℕ → ℕ). (old.wire_on p.wire.0 && is_up_with (old.peering p.peer.0)) && tells_by here.row old.me (bits p.wire.0) held) like.bits
        ∙ (ap (λ (r : Option Binding). (old.wire_on p.wire.0 && is_up_with (old.peering p.peer.0)) && tells_by here.row old.me (old.bits p.wire.0) r) (like.own terminal)
        ∙ sym (some_terminal plan old p here.row here.is terminal))))))

  passing_alike : p.terminal ≡ false → TellsAlike plan old new p
  passing_alike switching = record { some = ap (λ (o : Option Told). is_some o) same; stands = λ content. ap (offer_stands p content) same } where
    passed : (from : Option EdgeId) → mate_on here.row.path me.0 p.peer.0 ≡ from → passed_from plan here.row old.me (held_of new p.wire) from ≡ passed_from plan here.row old.me (held_of old p.wire) from
    passed None mated = refl
    passed (Some from) mated = ap (λ (r : Option Binding). passed_from plan here.row old.me (λ (k : ℕ). r) (Some from)) (like.beyond from mated)

    mate_is : mate here.row old.me.0 p.peer.0 ≡ mate_on here.row.path me.0 p.peer.0
    mate_is = ap (λ (k : EdgeId). mate_on here.row.path k.0 p.peer.0) at

    same : wish plan new p ≡ wish plan old p
    same =
        wish_passing plan new p here.row here.is switching
        ∙ (ap (λ (m : EdgeId). cond (new.wire_on p.wire.0 && is_up_with (new.peering p.peer.0)) (passed_from plan here.row m (held_of new p.wire) (mate here.row m.0 p.peer.0)) None) like.me_is
        ∙ (ap (λ (on : ℕ → Bool). cond (on p.wire.0 && is_up_with (new.peering p.peer.0)) (passed_from plan here.row old.me (held_of new p.wire) (mate here.row old.me.0 p.peer.0)) None) like.wires
        ∙ (ap (λ (up : Bool). cond (old.wire_on p.wire.0 && up) (passed_from plan here.row old.me (held_of new p.wire) (mate here.row old.me.0 p.peer.0)) None) like.up
        ∙ (ap (λ (o : Option Told). cond (old.wire_on p.wire.0 && is_up_with (old.peering p.peer.0)) o None)
        (ap (passed_from plan here.row old.me (held_of new p.wire)) mate_is
        ∙ (passed (mate_on here.row.path me.0 p.peer.0) refl ∙ sym (ap (passed_from plan here.row old.me (held_of old p.wire)) mate_is)))
        ∙ sym (wish_passing plan old p here.row here.is switching)))))

  pub tells_alike : TellsAlike plan old new p
  tells_alike = by p.terminal refl where
    by : (t : Bool) → p.terminal ≡ t → TellsAlike plan old new p
    by true terminal = terminal_alike terminal
    by false switching = passing_alike switching

-- an end that has told what it should, and should tell as before
pub record IsApart (old new : EdgeState) (me : EdgeId) (p : EndPlace) (row : WirePlan) : Type 0 where
  pub local : (end_at new p).local ≡ (end_at old p).local
  pub like : IsLikeAt old new me p row

-- so what is due of labels is due at the other ends
pub due_elsewhere : (plan : Plan) (checked : IsChecked plan) (me : EdgeId) (may : EndPlace → Saying → Bool) (old new : EdgeState) → IsMendedAt plan me.0 old
    → (is_some (label_to_give new) ≡ true → is_some (label_to_give old) ≡ true)
    → ((p : EndPlace) → (here : IsEndOf plan me p) → IsApart old new me p here.row ⊎ ((may p Binds ≡ true) × (may p Withdraws ≡ true)))
    → IsDue plan me may new
due_elsewhere plan checked me may old new mended left each = due_after plan checked me may old new mended left
    (λ p here idle some. binds p here idle some (each p here))
    (λ p here label content told gone. withdraws p here label content told gone (each p here))
  where
    alike : (p : EndPlace) → (here : IsEndOf plan me p) → IsApart old new me p here.row → TellsAlike plan old new p
    alike p here apart = tells_alike plan me old new mended.me p here apart.like

    binds : (p : EndPlace) → (here : IsEndOf plan me p) → (end_at new p).local ≡ Idle false → is_some (wish plan new p) ≡ true → IsApart old new me p here.row ⊎ ((may p Binds ≡ true) × (may p Withdraws ≡ true))
        → ((end_at old p).local ≡ Idle false) × (is_some (wish plan old p) ≡ true) ⊎ (may p Binds ≡ true)
    binds p here idle some (inl apart) = inl (sym apart.local ∙ idle, sym (alike p here apart).some ∙ some)
    binds p here idle some (inr both) = inr both.0

    withdraws : (p : EndPlace) → (here : IsEndOf plan me p) → (label : ℕ) (content : Told) → (end_at new p).local ≡ Advertised label content → offer_stands p content (wish plan new p) ≡ false
        → IsApart old new me p here.row ⊎ ((may p Binds ≡ true) × (may p Withdraws ≡ true))
        → ((end_at old p).local ≡ Advertised label content) × (offer_stands p content (wish plan old p) ≡ false) ⊎ (may p Withdraws ≡ true)
    withdraws p here label content told gone (inl apart) = inl (sym apart.local ∙ told, sym ((alike p here apart).stands content) ∙ gone)
    withdraws p here label content told gone (inr both) = inr both.1

-- ---- the other side of a switching point

-- it is beside another neighbour
pub mate_apart : (path : List EdgeId) (me from : ℕ) (to : EdgeId) → has_repeat path ≡ false → joins me from path ≡ true → mate_on path me from ≡ Some to → nat_eq to.0 from ≡ false
mate_apart path me from to once joined mated = elim (cases_Bool (nat_eq to.0 from)) [
  | inl same ↦ absurd (both (follows path me from) (follows path from me)
      (ap (λ (k : ℕ). follows path me k) (sym (eqb-true to.0 from same)) ∙ way_kept path me from to once mated) (sym (joins_is path me from) ∙ joined) (λ on. one_way path me from once on))
  | inr apart ↦ apart
] where
  both : (on back : Bool) → on ≡ back → on || back ≡ true → (on ≡ true → back ≡ false) → ⊥
  both true true same either way = absurd (cc (way refl))
  both true false same either way = absurd (cc (same))
  both false true same either way = absurd (cc (same))
  both false false same either way = absurd (cc (either))

-- ---- places of the same wire, beside the same peer

pub pass_like : (plan : Plan) (me : EdgeId) (wire peer : ℕ) (row : WirePlan) (p q : EndPlace) (s : Saying) → p.wire.0 ≡ q.wire.0 → p.peer.0 ≡ q.peer.0 → may_pass plan me wire peer row p s ≡ may_pass plan me wire peer row q s
pass_like plan me wire peer row p q Binds w k = λ i. nat_eq (w i) wire && (is_terminal row me || not (nat_eq (k i) peer))
pass_like plan me wire peer row p q Withdraws w k = λ i. nat_eq (w i) wire && (is_terminal row me || not (nat_eq (k i) peer))
pass_like plan me wire peer row p q Releases w k = refl
pass_like plan me wire peer row p q States w k = λ i. (nat_eq (w i) wire && not (nat_eq (k i) peer)) || (starts_spoke me (Some row) && is_spoke_row row.service me (wire_row plan (record { 0 = w i })))
pass_like plan me wire peer row p q Clears w k = λ i. starts_spoke me (Some row) && is_spoke_row row.service me (wire_row plan (record { 0 = w i }))

pub release_like : (plan : Plan) (me : EdgeId) (wire peer : ℕ) (row : WirePlan) (p q : EndPlace) (s : Saying) → p.wire.0 ≡ q.wire.0 → p.peer.0 ≡ q.peer.0
    → may_release plan me wire peer row p s ≡ may_release plan me wire peer row q s
release_like plan me wire peer row p q Binds w k = λ i. nat_eq (w i) wire && nat_eq (k i) peer
release_like plan me wire peer row p q Withdraws w k = refl
release_like plan me wire peer row p q Releases w k = refl
release_like plan me wire peer row p q States w k = λ i. starts_spoke me (Some row) && is_spoke_row row.service me (wire_row plan (record { 0 = w i }))
release_like plan me wire peer row p q Clears w k = λ i. starts_spoke me (Some row) && is_spoke_row row.service me (wire_row plan (record { 0 = w i }))

pub follow_like : (plan : Plan) (me : EdgeId) (wire peer : ℕ) (row : WirePlan) (heard : Saying) (p q : EndPlace) (s : Saying) → p.wire.0 ≡ q.wire.0 → p.peer.0 ≡ q.peer.0
    → may_follow plan me wire peer row heard p s ≡ may_follow plan me wire peer row heard q s
follow_like plan me wire peer row Binds p q s w k = pass_like plan me wire peer row p q s w k
follow_like plan me wire peer row Withdraws p q s w k = pass_like plan me wire peer row p q s w k
follow_like plan me wire peer row Releases p q s w k = release_like plan me wire peer row p q s w k
follow_like plan me wire peer row States p q s w k = pass_like plan me wire peer row p q s w k
follow_like plan me wire peer row Clears p q s w k = refl

-- ---- the spokes among which the edge chooses

off_turned : (a b : ℕ) → nat_eq a b ≡ false → nat_eq b a ≡ false
off_turned a b off = grind (arith, nat_tests)

none_some : {from : EdgeId} → None ≡ Some from → ⊥
none_some e = cc

pub either_second : (a b : Bool) → b ≡ true → a || b ≡ true
either_second true b is = refl
either_second false b is = is

module _ (plan : Plan) (me : EdgeId) (q : EndPlace) (q_is : IsEndOf plan me q) (may : EndPlace → Saying → Bool) (like : (p q : EndPlace) (s : Saying) → p.wire.0 ≡ q.wire.0 → p.peer.0 ≡ q.peer.0 → may p s ≡ may q s)
    (old : EdgeState) (next : Work) (mended : IsMendedAt plan me.0 old) (same_me : next.edge.me ≡ old.me) (bits : next.edge.bits ≡ old.bits) (chosen : next.edge.chosen ≡ old.chosen)
    (priorities : next.edge.priority ≡ old.priority) (ends : (p : EndPlace) → nat_eq p.wire.0 q.wire.0 ≡ false → end_at next.edge p ≡ end_at old p)
    (shared : (p : EndPlace) → shares_choice plan me q_is.row p ≡ true → (may p States ≡ true) × (may p Clears ≡ true))
    (silent : (p : EndPlace) → nat_eq p.wire.0 q.wire.0 ≡ false → (may p Binds ≡ false) × (may p Withdraws ≡ false)) where
  abbrev chooses_here : ServiceId → Bool
  chooses_here service = starts_spoke me (Some q_is.row) && nat_eq q_is.row.service.0 service.0

  -- a spoke of another service, or of an edge that is no spoke edge of this wire
  elsewhere : (service : ServiceId) → chooses_here service ≡ false → (p : EndPlace) → IsEndOf plan me p → is_spoke_row service me (wire_row plan p.wire) ≡ true → nat_eq p.wire.0 q.wire.0 ≡ false
  elsewhere service not_here p here spoke = elim (cases_Bool (nat_eq p.wire.0 q.wire.0)) [
    | inl same ↦ clash (sym not_here ∙ turned (nat_eq q_is.row.service.0 service.0) (not (is_mesh_class q_is.row.class)) (is_first me.0 q_is.row.path)
        (ap (is_spoke_row service me) (sym q_is.is) ∙ (ap (λ (n : ℕ). is_spoke_row service me (wire_row plan (record { 0 = n }))) (sym (eqb-true p.wire.0 q.wire.0 same)) ∙ spoke)))
    | inr apart ↦ apart
  ] where
    turned : (a b c : Bool) → (a && b) && c ≡ true → (b && c) && a ≡ true
    turned true true true both = refl
    turned true true false both = clash both
    turned true false c both = clash both
    turned false b c both = clash both

  pub chooses : (service : ServiceId) → MayChoose plan me may like next service ⊎ KeepsChoice plan me may like next service
  chooses service = elim (cases_Bool (chooses_here service)) [
    | inl here ↦ inl (λ p there spoke. shared p (of_service here p spoke))
    | inr not_here ↦ inr (record {
      chose = ap (λ (c : ℕ → Option WireId). c service.0) chosen
          ∙ (mended.chosen service.0 ∙ sym (choice_by_spokes plan me old next.edge service mended.me (same_me ∙ mended.me) priorities (usable not_here)));
      silent = λ p there spoke. silent p (elsewhere service not_here p there spoke);
    })
  ] where
    of_service : chooses_here service ≡ true → (p : EndPlace) → is_spoke_row service me (wire_row plan p.wire) ≡ true → shares_choice plan me q_is.row p ≡ true
    of_service here p spoke =
        ap (λ (b : Bool). b && is_spoke_row q_is.row.service me (wire_row plan p.wire)) (first_holds (starts_spoke me (Some q_is.row)) (nat_eq q_is.row.service.0 service.0) here)
        ∙ (ap (λ (n : ℕ). is_spoke_row (record { 0 = n }) me (wire_row plan p.wire))
        (eqb-true q_is.row.service.0 service.0 (second_holds (starts_spoke me (Some q_is.row)) (nat_eq q_is.row.service.0 service.0) here)) ∙ spoke)

    usable : chooses_here service ≡ false → (p : EndPlace) → IsEndOf plan me p → is_spoke_row service me (wire_row plan p.wire) ≡ true → is_usable next.edge p ≡ is_usable old p
    usable not_here p there spoke =
        ap (λ (all : ℕ → ℕ). not (is_some (down role.Chosen (all p.wire.0) (end_at next.edge p)))) bits
        ∙ ap (λ (e : EndState). not (is_some (down role.Chosen (old.bits p.wire.0) e))) (ends p (elsewhere service not_here p there spoke))

-- ---- messages about labels

module _ (plan : Plan) (checked : IsChecked plan) (me : EdgeId) (q : EndPlace) (q_is : IsEndOf plan me q) where
  abbrev may : EndPlace → Saying → Bool
  may = may_pass plan me q.wire.0 q.peer.0 q_is.row

  abbrev like : (p x : EndPlace) (s : Saying) → p.wire.0 ≡ x.wire.0 → p.peer.0 ≡ x.peer.0 → may p s ≡ may x s
  like = pass_like plan me q.wire.0 q.peer.0 q_is.row

  fit : IsWireOf plan q_is.row
  fit = row_holds (IsWireOf plan) plan.wires q.wire.0 q_is.row q_is.is checked.wires

  row_same : (p : EndPlace) → (here : IsEndOf plan me p) → p.wire.0 ≡ q.wire.0 → here.row ≡ q_is.row
  row_same p here w = same_row (sym here.is ∙ (ap (λ (n : ℕ). wire_row plan (record { 0 = n })) w ∙ q_is.is))

  -- the mate of an end of this wire is beside another neighbour
  mate_off : (p : EndPlace) → (here : IsEndOf plan me p) → p.wire.0 ≡ q.wire.0 → (from : EdgeId) → mate_on here.row.path me.0 p.peer.0 ≡ Some from → nat_eq from.0 p.peer.0 ≡ false
  mate_off p here w from mated = mate_apart here.row.path me.0 p.peer.0 from (subst (λ (r : WirePlan). has_repeat r.path ≡ false) (sym (row_same p here w)) fit.once) here.joined mated

  passes_true : (p : EndPlace) → nat_eq p.wire.0 q.wire.0 ≡ true → is_terminal q_is.row me || not (nat_eq p.peer.0 q.peer.0) ≡ true → (may p Binds ≡ true) × (may p Withdraws ≡ true)
  passes_true p near goes = (rw (near, goes) refl, rw (near, goes) refl)

  -- one end alone has changed
  pub due_at : (old new : EdgeState) → IsMendedAt plan me.0 old → HoldsOther q old new → IsDue plan me may new
  due_at old new mended other = due_elsewhere plan checked me may old new mended (λ left. ap (λ (o : Option ℕ). is_some o) (sym other.labels) ∙ left) (λ p here. each p here) where
    remote_is : (wire k : ℕ) → nat_eq wire q.wire.0 ≡ false → (new.ends wire k).remote ≡ (old.ends wire k).remote
    remote_is wire k away = other.remotes wire k (ap (λ (b : Bool). b && nat_eq k q.peer.0) away)

    -- the end itself, at a switching point
    itself : (p : EndPlace) → (here : IsEndOf plan me p) → p.wire.0 ≡ q.wire.0 → nat_eq p.peer.0 q.peer.0 ≡ true → p.terminal ≡ false → IsApart old new me p here.row
    itself p here w same switching = record {
      local = other.locals p.wire.0 p.peer.0;
      like = record {
        me_is = other.me;
        wires = other.wires;
        bits = other.bits;
        up = other.ups p.peer.0;
        own = λ terminal. clash (sym switching ∙ terminal);
        beyond = λ from mated. other.remotes p.wire.0 from.0
            (ap (λ (b : Bool). nat_eq p.wire.0 q.wire.0 && b) (ap (nat_eq from.0) (sym (eqb-true p.peer.0 q.peer.0 same)) ∙ mate_off p here w from mated) ∙ and_false (nat_eq p.wire.0 q.wire.0));
      };
    }

    each : (p : EndPlace) → (here : IsEndOf plan me p) → IsApart old new me p here.row ⊎ ((may p Binds ≡ true) × (may p Withdraws ≡ true))
    each p here = by (nat_eq p.wire.0 q.wire.0) refl where
      near_by : nat_eq p.wire.0 q.wire.0 ≡ true → (terminal same : Bool) → is_terminal q_is.row me ≡ terminal → nat_eq p.peer.0 q.peer.0 ≡ same → IsApart old new me p here.row ⊎ ((may p Binds ≡ true) × (may p Withdraws ≡ true))
      near_by near true same ends_it is = inr (passes_true p near (rw ends_it refl))
      near_by near false false ends_it is = inr (passes_true p near (rw (ends_it, is) refl))
      near_by near false true ends_it is =
          let w : p.wire.0 ≡ q.wire.0 = eqb-true p.wire.0 q.wire.0 near in
          inl (itself p here w is (same_side plan me p q here q_is w ∙ (q_is.terminal ∙ ends_it)))

      by : (b : Bool) → nat_eq p.wire.0 q.wire.0 ≡ b → IsApart old new me p here.row ⊎ ((may p Binds ≡ true) × (may p Withdraws ≡ true))
      by true near = near_by near (is_terminal q_is.row me) (nat_eq p.peer.0 q.peer.0) refl refl
      by false away = inl (record {
        local = other.locals p.wire.0 p.peer.0;
        like = record {
          me_is = other.me;
          wires = other.wires;
          bits = other.bits;
          up = other.ups p.peer.0;
          own = λ terminal. remote_is p.wire.0 p.peer.0 away;
          beyond = λ from mated. remote_is p.wire.0 from.0 away;
        };
      })

  -- a status is due beyond the end alone
  told_at : (old new : EdgeState) → IsMendedAt plan me.0 old → HoldsOther q old new → new.chosen ≡ old.chosen → (p : EndPlace) → IsEndOf plan me p → is_told plan new p ≡ false → may p States ≡ true
  told_at old new mended other chosen p here untold = by p.terminal refl where
    fails : status_to_tell plan new p ≡ status_to_tell plan old p → ⊥
    fails same = clash (sym untold ∙ told_still plan checked me old new mended p here (other.locals p.wire.0 p.peer.0) same)

    -- unless its mate is the end
    mates : p.terminal ≡ false → (from : Option EdgeId) → mate_on here.row.path me.0 p.peer.0 ≡ from → may p States ≡ true
    mates switching None mated = absurd (fails (passed_same plan me old new mended.me (other.me ∙ mended.me) p here switching (λ from is. absurd (none_some (sym mated ∙ is)))))
    mates switching (Some from) mated = elim (cases_Bool (stands_at q p.wire.0 from.0)) [
      | inl same ↦ beyond_it
          (first_holds (nat_eq p.wire.0 q.wire.0) (nat_eq from.0 q.peer.0) same)
          (ap (λ (n : ℕ). nat_eq n p.peer.0) (sym (eqb-true from.0 q.peer.0 (second_holds (nat_eq p.wire.0 q.wire.0) (nat_eq from.0 q.peer.0) same)))
          ∙ mate_off p here (eqb-true p.wire.0 q.wire.0 (first_holds (nat_eq p.wire.0 q.wire.0) (nat_eq from.0 q.peer.0) same)) from mated)
      | inr apart ↦ absurd (fails (passed_same plan me old new mended.me (other.me ∙ mended.me) p here switching
          (λ to is. ap (λ (k : EdgeId). (new.ends p.wire.0 k.0).remote) (same_Some to from (sym is ∙ mated))
          ∙ (other.remotes p.wire.0 from.0 apart ∙ ap (λ (k : EdgeId). (old.ends p.wire.0 k.0).remote) (sym (same_Some to from (sym is ∙ mated)))))))
    ] where
      beyond_it : nat_eq p.wire.0 q.wire.0 ≡ true → nat_eq q.peer.0 p.peer.0 ≡ false → may p States ≡ true
      beyond_it near off = rw (near, off_turned q.peer.0 p.peer.0 off) refl

    by : (t : Bool) → p.terminal ≡ t → may p States ≡ true
    by true terminal = absurd (fails (own_same plan old new p terminal other.me other.bits chosen))
    by false switching = mates switching (mate_on here.row.path me.0 p.peer.0) refl

  -- so an edge that had mended, and one of whose ends holds another binding
  pub other_near : (old : EdgeState) (next : Work) → IsMendedAt plan me.0 old → HoldsOther q old next.edge → next.edge.chosen ≡ old.chosen → next.edge.priority ≡ old.priority
      → PutsMore plan me may next.effects (mends plan taken_all next).effects
  other_near old next mended other chosen priorities =
      mending_puts_chosen plan me may like next (other.me ∙ mended.me) (due_at old next.edge mended other) (told_at old next.edge mended other chosen)
      (chooses plan me q q_is may like old next mended other.me other.bits chosen priorities ends_same
      (λ p shared. (either_second (is_beyond q.wire.0 q.peer.0 p) (shares_choice plan me q_is.row p) shared, shared))
      (λ p away. (ap (λ (b : Bool). b && (is_terminal q_is.row me || not (nat_eq p.peer.0 q.peer.0))) away, ap (λ (b : Bool). b && (is_terminal q_is.row me || not (nat_eq p.peer.0 q.peer.0))) away)))
    where
      ends_same : (p : EndPlace) → nat_eq p.wire.0 q.wire.0 ≡ false → end_at next.edge p ≡ end_at old p
      ends_same p away = λ i. record { local = other.locals p.wire.0 p.peer.0 i; remote = other.remotes p.wire.0 p.peer.0 (ap (λ (b : Bool). b && nat_eq p.peer.0 q.peer.0) away) i }

  chosen_kept : (end : EndState) (edge : EdgeState) → (with_end q end edge).chosen ≡ edge.chosen
  unfolding with_end
  chosen_kept end edge = refl

  priorities_kept : (end : EndState) (edge : EdgeState) → (with_end q end edge).priority ≡ edge.priority
  unfolding with_end
  priorities_kept end edge = refl

  -- an end holds another binding by a change of the edge alone
  pub changed_near : (end : EndState) (change : EdgeState → EdgeState) (work : Work) → IsMendedAt plan me.0 work.edge → end.local ≡ (end_at work.edge q).local → change work.edge ≡ with_end q end work.edge
      → PutsMore plan me may work.effects (mends plan taken_all (changes change work)).effects
  changed_near end change work mended same is =
      subst (λ (es : List Effect). PutsMore plan me may es (mends plan taken_all (changes change work)).effects) (changed_effects change work)
      (other_near work.edge (changes change work) mended (subst (HoldsOther q work.edge) (sym edge_is) (holds_other q end work.edge same))
      (ap (λ (e : EdgeState). e.chosen) edge_is ∙ chosen_kept end work.edge) (ap (λ (e : EdgeState). e.priority) edge_is ∙ priorities_kept end work.edge))
    where
      edge_is : (changes change work).edge ≡ with_end q end work.edge
      edge_is = changed_edge change work ∙ is

  -- a Label Withdraw
  pub withdraw_near : (fec : PwFec) (label : Option ℕ) (work : Work) → IsMendedAt plan me.0 work.edge → end_of_fec plan work.edge q.peer fec ≡ Some q
      → PutsMore plan me may work.effects (mends plan taken_all (hears_withdraw plan taken_all q.peer fec label work)).effects
  withdraw_near fec label work mended named =
      subst (λ (es : List Effect). PutsMore plan me may es (mends plan taken_all next).effects) (changed_effects change work)
      (puts_then plan me may begun.effects next.effects (mends plan taken_all next).effects said.puts
      (other_near work.edge next mended (record {
        me = said.put.me ∙ begun_other.me;
        wires = said.put.wires ∙ begun_other.wires;
        bits = said.put.bits ∙ begun_other.bits;
        ups = λ k. said.put.ups k ∙ begun_other.ups k;
        labels = said.put.labels ∙ begun_other.labels;
        locals = λ wire k. ap (λ (all : ℕ → ℕ → EndState). (all wire k).local) said.put.ends ∙ begun_other.locals wire k;
        remotes = λ wire k apart. ap (λ (all : ℕ → ℕ → EndState). (all wire k).remote) said.put.ends ∙ begun_other.remotes wire k apart;
      })
      (said.put.chosen ∙ (ap (λ (e : EdgeState). e.chosen) begun_is ∙ chosen_kept end work.edge))
      (said.put.priorities ∙ (ap (λ (e : EdgeState). e.priority) begun_is ∙ priorities_kept end work.edge))))
    where
      end : EndState
      end = unbound label (end_at work.edge q)

      change : EdgeState → EdgeState
      change = with_named plan q.peer fec (unbound label) (group_unbound fec.group) fec.pw_id

      begun : Work
      begun = changes change work

      next : Work
      next = (says taken_all q.peer (release fec label) begun).work

      begun_is : begun.edge ≡ with_end q end work.edge
      begun_is = changed_edge change work ∙ named_alone plan q.peer fec q (unbound label) (group_unbound fec.group) work.edge named

      begun_other : HoldsOther q work.edge begun.edge
      begun_other = subst (HoldsOther q work.edge) (sym begun_is) (holds_other q end work.edge refl)

      names_it : fec.pw_id ≡ Some q.pw_id
      names_it = pw_named plan work.edge.me q.peer q fec.pw_id named

      said : HasSaid plan me may begun next
      said = says_puts plan me may q (release fec label) Releases begun q_is (λ id. refl) (λ id. names_it) refl

  -- ---- a Label Release

  abbrev may_then : EndPlace → Saying → Bool
  may_then = may_release plan me q.wire.0 q.peer.0 q_is.row

  released_chosen : (label : Option ℕ) (edge : EdgeState) → (releasing label q edge).chosen ≡ edge.chosen
  unfolding with_kept with_end
  released_chosen label edge = refl

  released_priorities : (label : Option ℕ) (edge : EdgeState) → (releasing label q edge).priority ≡ edge.priority
  unfolding with_kept with_end
  released_priorities label edge = refl

  -- an end that has told its status of now has told it still
  released_tells : (status : ℕ) (label : Option ℕ) (local : LocalPart) → tells_now status local ≡ true → tells_now status (release_part label local) ≡ true
  released_tells status label (Idle declined) is = refl
  released_tells status label (Advertised own content) is = by (names label own) where
    by : (b : Bool) → tells_now status (cond b (Idle true) (Advertised own content)) ≡ true
    by true = refl
    by false = is
  released_tells status label (Withdrawing own) is = by (names label own) where
    by : (b : Bool) → tells_now status (cond b (Idle false) (Withdrawing own)) ≡ true
    by true = refl
    by false = refl

  module _ (label : Option ℕ) (old : EdgeState) (mended : IsMendedAt plan me.0 old) where
    abbrev new : EdgeState
    new = releasing label q old

    alike : WishesAlike old new
    alike = released_alike label q old

    status_same : (p : EndPlace) → IsEndOf plan me p → status_to_tell plan new p ≡ status_to_tell plan old p
    status_same p here = status_alike plan old new p alike (released_chosen label old)

    told_released : (p : EndPlace) → IsEndOf plan me p → is_told plan new p ≡ true
    told_released p here = elim (cases_Bool (stands_at q p.wire.0 p.peer.0)) [
      | inl same ↦ there
          (eqb-true p.wire.0 q.wire.0 (first_holds (nat_eq p.wire.0 q.wire.0) (nat_eq p.peer.0 q.peer.0) same))
          (eqb-true p.peer.0 q.peer.0 (second_holds (nat_eq p.wire.0 q.wire.0) (nat_eq p.peer.0 q.peer.0) same))
      | inr apart ↦ told_still plan checked me old new mended p here (ap (λ (e : EndState). e.local) (released_else label q old p.wire.0 p.peer.0 apart)) (status_same p here)
    ] where
      there : p.wire.0 ≡ q.wire.0 → p.peer.0 ≡ q.peer.0 → is_told plan new p ≡ true
      there w k =
          told_like plan new p q w k (same_side plan me p q here q_is w)
          ∙ (ap (λ (e : EndState). tells_now (status_to_tell plan new q).0 e.local) (released_here label q old)
          ∙ released_tells (status_to_tell plan new q).0 label (end_at old q).local
          (ap (λ (s : PwStatus). tells_now s.0 (end_at old q).local) (status_same q q_is) ∙ told_here plan checked me old mended q q_is))

    pub released_near : (next : Work) → next.edge ≡ new → PutsMore plan me may_then next.effects (mends plan taken_all next).effects
    released_near next is =
        mending_puts_chosen plan me may_then (release_like plan me q.wire.0 q.peer.0 q_is.row) next (ap (λ (e : EdgeState). e.me) is ∙ (releasing_me label q old ∙ mended.me))
        (subst (IsDue plan me may_then) (sym is) (release_due plan checked me may_then old mended label q (λ p here w k. beside_it p w k)))
        (λ p here untold. clash (sym untold ∙ (ap (λ (e : EdgeState). is_told plan e p) is ∙ told_released p here)))
        (chooses plan me q q_is may_then (release_like plan me q.wire.0 q.peer.0 q_is.row) old next mended
        (ap (λ (e : EdgeState). e.me) is ∙ releasing_me label q old) (ap (λ (e : EdgeState). e.bits) is ∙ alike.bits)
        (ap (λ (e : EdgeState). e.chosen) is ∙ released_chosen label old) (ap (λ (e : EdgeState). e.priority) is ∙ released_priorities label old)
        (λ p away. ap (λ (e : EdgeState). end_at e p) is ∙ released_else label q old p.wire.0 p.peer.0 (ap (λ (b : Bool). b && nat_eq p.peer.0 q.peer.0) away))
        (λ p shared. (shared, shared))
        (λ p away. (ap (λ (b : Bool). b && nat_eq p.peer.0 q.peer.0) away, refl)))
      where
        beside_it : (p : EndPlace) → p.wire.0 ≡ q.wire.0 → p.peer.0 ≡ q.peer.0 → may_then p Binds ≡ true
        beside_it p w k = (λ i. nat_eq (w i) q.wire.0 && nat_eq (k i) q.peer.0) ∙ rw (same_number q.wire.0, same_number q.peer.0) refl

  pub release_near : (fec : PwFec) (label : Option ℕ) (work : Work) → IsMendedAt plan me.0 work.edge → end_of_fec plan work.edge q.peer fec ≡ Some q
      → PutsMore plan me may_then work.effects (mends plan taken_all (hears_release plan q.peer fec label work)).effects
  release_near fec label work mended named =
      subst (λ (es : List Effect). PutsMore plan me may_then es (mends plan taken_all heard).effects) (changed_effects change work)
      (released_near label work.edge mended heard (changed_edge change work ∙ ap (λ (o : Option EndPlace). with_released label o work.edge) named))
    where
      change : EdgeState → EdgeState
      change edge = with_released label (end_of_fec plan edge q.peer fec) edge

      heard : Work
      heard = hears_release plan q.peer fec label work
