-- What an edge's own work does to its labels: a label that may be named with an end goes on so, and each end still owns its own.
use Rattle.std.proofs.Common.{◌≡◌, ◌≢◌, ◌≤◌, ◌<◌, ◌+◌, ◌∙◌, ◌⊎◌, ◌==◌, ℕ, Bool, true, false, not, cond, List, Option, Some, None, inl, inr, ⊎_elim, refl, ap, sym, subst, arith}
use Rattle.std.specs.Prelude.{nat_lt, option_map}
use Rattle.std.proofs.lemmas.Bool.{cases_Bool, eqb-true}
use Rattle.std.proofs.lemmas.Bool.Decides.{nat_tests}
use Rattle.std.proofs.lemmas.Option.{same_Some}
use Rattle.net_values.proofs.BoolLemmas.{clash as nothing_owned, clash_at}
use Rattle.net_values.proofs.NumberLemmas.{same_number as is_same}
use Rattle.net_values.proofs.OptionLemmas.{something}
use Rattle.net_base.specs.declared.plan.places.EdgeId.{EdgeId}
use Rattle.net_base.specs.declared.plan.places.WireId.{WireId}
use Rattle.label_space.specs.declared.kept.Kept.{Kept}
use Rattle.label_space.specs.declared.kept.KeptState.{KeptState}
use Rattle.label_space.specs.declared.kept.KeptState.TheVariants.{Waits, Rests, Free}
use Rattle.label_space.specs.Kept.{AreRisingBy, kept_at, label_of, met_one, met_state, rest_ticks, ticked_one, ticked_state, without}
use Rattle.label_space.specs.Labels.{next_after, numbers_end}
use Rattle.label_space.proofs.KeptLemmas.{kept_map, kept_without, least_is}
use Rattle.label_space.proofs.OrderLemmas.{rising_filtered, rising_map}
use Rattle.pw_tlvs.specs.declared.pw_status.PwStatus.{PwStatus}
use Rattle.pw_signalling.specs.declared.told.Told.{Told}
use Rattle.pw_signalling.specs.End.{EndState, LocalPart, Idle, Advertised, Withdrawing}
use Rattle.pw_signalling.specs.Laws.{own_label}
use Rattle.pw_signalling.specs.Rows.{advertised, group_stated, group_unbound, is_in_group, lost, names, release_part, released, renew_part, renewed, tell_part, telling, withdraw_part, withdrawn}
use Rattle.edge_model.specs.declared.end_place.EndPlace.{EndPlace}
use Rattle.edge_model.specs.Connection.{restarted}
use Rattle.edge_model.specs.Labels.{keeps_one, label_to_give, left_label, meeting, owners_of, releasing}
use Rattle.edge_model.specs.Session.{losing_ends}
use Rattle.edge_model.specs.Tick.{counted}
use Rattle.edge_model.specs.Mend.{advertising, telling_status, withdrawing}
use Rattle.edge_model.specs.State.{EdgeState, end_at, put_at, with_end, with_ends_beside, with_kept, with_learned, with_next_label, with_renewed, with_ticks, without_ends, without_peerings}
use Rattle.flight_laws.specs.Rules.{MayBeKept, MayBeNamed, MayCarry, MayName, OwnsItsLabels, part_owns}
use Rattle.flight_laws.proofs.FreedLemmas.{IsOwnedAt, IsOwnedBeside, kept_from, left_is, lost_from, lost_may, lost_rising, may_keep, owned_from, owned_may, owned_rising, owners_own, owns_none, owns_own, rising_keep}

pub split : {P : Type 0} (b : Bool) → (b ≡ true → P) → (b ≡ false → P) → P
split true f g = f refl
split false f g = g refl

-- ---- ends by their places

-- a fact of each end, where one end is another now
pub end_fact : (P : ℕ → ℕ → EndState → Type 0) (place : EndPlace) (end : EndState) (edge : EdgeState) (wire peer : ℕ) → P place.wire.0 place.peer.0 end → P wire peer (edge.ends wire peer)
    → P wire peer ((with_end place end edge).ends wire peer)
unfolding with_end
end_fact P place end edge wire peer now else = split {P = P wire peer ((with_end place end edge).ends wire peer)} (wire == place.wire.0)
    (λ w. rw w (split {P = P wire peer (put_at (edge.ends place.wire.0) place.peer.0 end peer)} (peer == place.peer.0)
    (λ p. rw p (subst (λ (k : ℕ). P k peer end) (sym (eqb-true wire place.wire.0 w)) (subst (λ (k : ℕ). P place.wire.0 k end) (sym (eqb-true peer place.peer.0 p)) now)))
    (λ p. rw p (subst (λ (k : ℕ). P wire peer (edge.ends k peer)) (eqb-true wire place.wire.0 w) else))))
    (λ w. rw w else)

-- a fact of each end, where those beside a peer are changed
pub beside_fact : (P : ℕ → ℕ → EndState → Type 0) (beside : EdgeId) (change : EndState → EndState) (edge : EdgeState) (wire peer : ℕ) → (peer ≡ beside.0 → P wire peer (change (edge.ends wire peer)))
    → P wire peer (edge.ends wire peer) → P wire peer ((with_ends_beside beside change edge).ends wire peer)
unfolding with_ends_beside
beside_fact P beside change edge wire peer changed else = split {P = P wire peer ((with_ends_beside beside change edge).ends wire peer)} (peer == beside.0)
    (λ p. rw p (changed (eqb-true peer beside.0 p)))
    (λ p. rw p else)

-- a fact of each end, where those of a wire are renewed
pub renewed_fact : (P : ℕ → ℕ → EndState → Type 0) (of : WireId) (edge : EdgeState) (wire peer : ℕ) → P wire peer (renewed (edge.ends wire peer)) → P wire peer (edge.ends wire peer)
    → P wire peer ((with_renewed of edge).ends wire peer)
unfolding with_renewed
renewed_fact P of edge wire peer changed else = split {P = P wire peer ((with_renewed of edge).ends wire peer)} (wire == of.0) (λ w. rw w changed) (λ w. rw w else)

-- ---- labels

-- no label of the edge, no kept number, nor the next one, is below this one
pub record HasLeast (least : ℕ) (edge : EdgeState) : Type 0 where
  pub next : least ≤ edge.next_label
  pub owned : (wire peer label : ℕ) → part_owns (edge.ends wire peer).local label ≡ true → least ≤ label
  pub kept : (label : ℕ) → kept_at label edge.kept ≢ None → least ≤ label

-- the kept numbers rise, were given before, and are owned by no end
pub record HasKept (edge : EdgeState) : Type 0 where
  pub rising : AreRisingBy label_of 0 edge.kept
  pub below : (label : ℕ) → kept_at label edge.kept ≢ None → label < edge.next_label
  pub unowned : (label : ℕ) → kept_at label edge.kept ≢ None → (wire peer : ℕ) → part_owns (edge.ends wire peer).local label ≡ false

-- what becomes of an edge's labels while it works: those that may be named with an end go on so
pub record KeepsNames (old new : EdgeState) : Type 0 where
  pub names : (wire peer label : ℕ) (age : Option ℕ) → MayBeNamed old wire peer age label → MayBeNamed new wire peer age label
  pub owned : OwnsItsLabels old → OwnsItsLabels new
  pub kept : OwnsItsLabels old → HasKept old → HasKept new
  pub least : (least : ℕ) → HasLeast least old → HasLeast least new

pub names_same : (edge : EdgeState) → KeepsNames edge edge
names_same edge = record { names = λ wire peer label age may. may; owned = λ own. own; kept = λ own has. has; least = λ least has. has }

pub names_then : (a b c : EdgeState) → KeepsNames a b → KeepsNames b c → KeepsNames a c
names_then a b c one next = record {
  names = λ wire peer label age may. next.names wire peer label age (one.names wire peer label age may);
  owned = λ own. next.owned (one.owned own);
  kept = λ own has. next.kept (one.owned own) (one.kept own has);
  least = λ least has. next.least least (one.least least has);
}

-- an end owned the label, and owns it no longer
pub record IsFreed (old new : EdgeState) (label : ℕ) : Type 0 where
  pub wire : ℕ
  pub peer : ℕ
  pub owned : part_owns (old.ends wire peer).local label ≡ true
  pub gone : part_owns (new.ends wire peer).local label ≡ false

-- an edge that owns no more than before, whose next label is the same, and that keeps what it owns no longer
pub names_freed : (old new : EdgeState) → new.next_label ≡ old.next_label
    → ((wire peer label : ℕ) → part_owns (new.ends wire peer).local label ≡ true → part_owns (old.ends wire peer).local label ≡ true)
    → (AreRisingBy label_of 0 old.kept → AreRisingBy label_of 0 new.kept)
    → ((label p : ℕ) (age : Option ℕ) → ((w k : ℕ) → part_owns (old.ends w k).local label ≡ true → k ≡ p) → MayBeKept p age (kept_at label old.kept) → MayBeKept p age (kept_at label new.kept))
    → ((label : ℕ) → kept_at label new.kept ≢ None → (kept_at label old.kept ≢ None) ⊎ IsFreed old new label) → KeepsNames old new
names_freed old new next less rising may from = record {
  names = named;
  owned = λ own wire peer label owned. named wire peer label None (own wire peer label (less wire peer label owned));
  kept = λ own has. record {
    rising = rising has.rising;
    below = λ label there. ⊎_elim (λ (before : kept_at label old.kept ≢ None). below label (has.below label before))
        (λ (freed : IsFreed old new label). below label (own freed.wire freed.peer label freed.owned).below) (from label there);
    unowned = λ label there w k. ⊎_elim
        (λ (before : kept_at label old.kept ≢ None). split {P = part_owns (new.ends w k).local label ≡ false} (part_owns (new.ends w k).local label)
        (λ now. clash_at (part_owns (old.ends w k).local label) (less w k label now) (has.unowned label before w k))
        (λ not_now. not_now))
        (λ (freed : IsFreed old new label). split {P = part_owns (new.ends w k).local label ≡ false} (part_owns (new.ends w k).local label)
        (λ now.
        let same : (w ≡ freed.wire) × (k ≡ freed.peer) = (own freed.wire freed.peer label freed.owned).owner w k (less w k label now) in
        clash_at (part_owns (new.ends freed.wire freed.peer).local label)
        (subst (λ (n : ℕ). part_owns (new.ends n freed.peer).local label ≡ true) same.0 (subst (λ (n : ℕ). part_owns (new.ends w n).local label ≡ true) same.1 now)) freed.gone)
        (λ not_now. not_now))
        (from label there);
  };
  least = λ least has. record {
    next = subst (λ (n : ℕ). least ≤ n) (sym next) has.next;
    owned = λ wire peer label owned. has.owned wire peer label (less wire peer label owned);
    kept = λ label there. ⊎_elim (λ (before : kept_at label old.kept ≢ None). has.kept label before)
        (λ (freed : IsFreed old new label). has.owned freed.wire freed.peer label freed.owned) (from label there);
  };
}
  where
    below : (label : ℕ) → label < old.next_label → label < new.next_label
    below label lower = subst (λ (n : ℕ). label < n) (sym next) lower

    named : (wire peer label : ℕ) (age : Option ℕ) → MayBeNamed old wire peer age label → MayBeNamed new wire peer age label
    named wire peer label age named_so = record {
      below = below label named_so.below;
      owner = λ w k owned. named_so.owner w k (less w k label owned);
      kept = may label peer age (λ w k owned. (named_so.owner w k owned).1) named_so.kept;
    }

-- an edge that owns no more than before, and whose next label and kept numbers are the same
pub names_less : (old new : EdgeState) → new.next_label ≡ old.next_label → new.kept ≡ old.kept
    → ((wire peer label : ℕ) → part_owns (new.ends wire peer).local label ≡ true → part_owns (old.ends wire peer).local label ≡ true) → KeepsNames old new
names_less old new next kept less =
    names_freed old new next less (λ rising. subst (λ (ks : List Kept). AreRisingBy label_of 0 ks) (sym kept) rising)
    (λ label p age owner may. subst (λ (ks : List Kept). MayBeKept p age (kept_at label ks)) (sym kept) may)
    (λ label there. inl (subst (λ (ks : List Kept). kept_at label ks ≢ None) kept there))

-- an edge with the same ends, and with the same labels
pub names_still : (old new : EdgeState) → new.ends ≡ old.ends → new.next_label ≡ old.next_label → new.kept ≡ old.kept → KeepsNames old new
names_still old new ends next kept =
    names_less old new next kept
    (λ wire peer label owned. subst (λ (f : ℕ → ℕ → EndState). part_owns (f wire peer).local label ≡ true) ends owned)

-- ---- one end is another

-- an end that owns no more than the one before
abbrev pub OwnsLess : EndState → EndState → Type 0
OwnsLess new old = (label : ℕ) → part_owns new.local label ≡ true → part_owns old.local label ≡ true

pub names_end : (place : EndPlace) (end : EndState) (edge : EdgeState) → OwnsLess end (end_at edge place) → KeepsNames edge (with_end place end edge)
unfolding with_end
names_end place end edge less =
    names_less edge (with_end place end edge) refl refl
    (λ wire peer label. end_fact (λ w k e. part_owns e.local label ≡ true → part_owns (edge.ends w k).local label ≡ true) place end edge wire peer (λ owned. less label owned) (λ owned. owned))

pub names_beside : (peer : EdgeId) (change : EndState → EndState) (edge : EdgeState) → ((end : EndState) → OwnsLess (change end) end) → KeepsNames edge (with_ends_beside peer change edge)
unfolding with_ends_beside
names_beside peer change edge less =
    names_less edge (with_ends_beside peer change edge) refl refl
    (λ wire k label. beside_fact (λ w k e. part_owns e.local label ≡ true → part_owns (edge.ends w k).local label ≡ true) peer change edge wire k
    (λ same owned. less (edge.ends wire k) label owned) (λ owned. owned))

owns_renewed : (local : LocalPart) (label : ℕ) → part_owns (renew_part local) label ≡ part_owns local label
owns_renewed (Idle declined) label = refl
owns_renewed (Advertised own told) label = refl
owns_renewed (Withdrawing own) label = refl

pub names_renewed : (wire : WireId) (edge : EdgeState) → KeepsNames edge (with_renewed wire edge)
unfolding with_renewed
names_renewed wire edge =
    names_less edge (with_renewed wire edge) refl refl
    (λ w k label. renewed_fact (λ w k e. part_owns e.local label ≡ true → part_owns (edge.ends w k).local label ≡ true) wire edge w k
    (λ owned. sym (owns_renewed (edge.ends w k).local label) ∙ owned) (λ owned. owned))

-- ---- numbers that are owned no longer

-- each end beside a peer is lost
pub names_losing : (peer : EdgeId) (edge : EdgeState) → KeepsNames edge (losing_ends peer edge)
unfolding with_ends_beside with_kept
names_losing peer edge =
    names_freed edge (losing_ends peer edge) refl
    (λ wire k label. beside_fact (λ w k e. part_owns e.local label ≡ true → part_owns (edge.ends w k).local label ≡ true) peer lost edge wire k (λ same owned. nothing_owned owned) (λ owned. owned))
    (lost_rising peer edge.ends edge.places edge.kept)
    (λ label p age owner may. lost_may peer edge.ends edge.places edge.kept label p age owner may)
    (λ label there. ⊎_elim (λ (before : kept_at label edge.kept ≢ None). inl before)
    (λ (beside : IsOwnedBeside peer edge.ends label). inr (record { wire = beside.wire; peer = peer.0; owned = beside.owned; gone = rw (is_same peer.0) refl }))
    (lost_from peer edge.ends edge.places edge.kept label there))

pub names_restarted : (edge : EdgeState) → KeepsNames edge (restarted edge)
unfolding without_ends with_learned without_peerings with_kept
names_restarted edge =
    names_freed edge (restarted edge) refl (λ wire peer label owned. nothing_owned owned)
    (owned_rising (owners_of edge.ends edge.places) edge.kept)
    (λ label p age owner may. owned_may edge.ends (owners_of edge.ends edge.places) edge.kept label p age (owners_own edge.ends edge.places) owner may)
    (λ label there. ⊎_elim (λ (before : kept_at label edge.kept ≢ None). inl before)
    (λ (at : IsOwnedAt edge.ends label). inr (record { wire = at.wire; peer = at.peer; owned = at.owned; gone = refl }))
    (owned_from edge.ends (owners_of edge.ends edge.places) edge.kept label (owners_own edge.ends edge.places) there))

-- ---- rows of an end

pub owns_told : (status : PwStatus) (end : EndState) → OwnsLess (telling status end) end
owns_told status end label owned = by_local end.local owned where
  by_local : (local : LocalPart) → part_owns (tell_part status local) label ≡ true → part_owns local label ≡ true
  by_local (Idle declined) owned = owned
  by_local (Advertised own told) owned = owned
  by_local (Withdrawing own) owned = owned

pub owns_withdrawn : (end : EndState) → OwnsLess (withdrawn end) end
owns_withdrawn end label owned = by_local end.local owned where
  by_local : (local : LocalPart) → part_owns (withdraw_part local) label ≡ true → part_owns local label ≡ true
  by_local (Idle declined) owned = owned
  by_local (Advertised own told) owned = owned
  by_local (Withdrawing own) owned = owned

pub owns_released : (given : Option ℕ) (end : EndState) → OwnsLess (released given end) end
owns_released given end label owned = by_local end.local owned where
  by_name : (named : Bool) (other kept : LocalPart) → (part_owns other label ≡ false) → part_owns (cond named other kept) label ≡ true → part_owns kept label ≡ true
  by_name true other kept none owned = nothing_owned (sym none ∙ owned)
  by_name false other kept none owned = owned

  by_local : (local : LocalPart) → part_owns (release_part given local) label ≡ true → part_owns local label ≡ true
  by_local (Idle declined) owned = owned
  by_local (Advertised own told) owned = by_name (names given own) (Idle true) (Advertised own told) refl owned
  by_local (Withdrawing own) owned = by_name (names given own) (Idle false) (Withdrawing own) refl owned

-- the label of an end is released
pub names_releasing : (given : Option ℕ) (place : EndPlace) (edge : EdgeState) → KeepsNames edge (releasing given place edge)
unfolding with_end with_kept
names_releasing given place edge = by (left_label (own_label (end_at edge place).local) (own_label (released given (end_at edge place)).local)) refl where
  end : EndState
  end = released given (end_at edge place)

  fewer : (wire peer label : ℕ) → part_owns ((with_end place (released given (end_at edge place)) edge).ends wire peer).local label ≡ true → part_owns (edge.ends wire peer).local label ≡ true
  fewer wire peer label = end_fact (λ w k e. part_owns e.local label ≡ true → part_owns (edge.ends w k).local label ≡ true) place (released given (end_at edge place)) edge wire peer
      (λ owned. owns_released given (end_at edge place) label owned) (λ owned. owned)

  here : (label : ℕ) → own_label (released given (end_at edge place)).local ≡ None
      → part_owns ((with_end place (released given (end_at edge place)) edge).ends place.wire.0 place.peer.0).local label ≡ false
  here label none = rw (is_same place.wire.0, is_same place.peer.0) (owns_none (released given (end_at edge place)).local label none)

  by : (r : Option ℕ) → left_label (own_label (end_at edge place).local) (own_label (released given (end_at edge place)).local) ≡ r
      → KeepsNames edge (with_kept (keeps_one r place.peer edge.kept) (with_end place (released given (end_at edge place)) edge))
  by None is = names_less edge (with_kept edge.kept (with_end place (released given (end_at edge place)) edge)) refl refl fewer
  by (Some own) is =
      let both : (own_label (end_at edge place).local ≡ Some own) × (own_label (released given (end_at edge place)).local ≡ None) =
      left_is (own_label (end_at edge place).local) (own_label (released given (end_at edge place)).local) own is in
      let mine : part_owns (end_at edge place).local own ≡ true = owns_own (end_at edge place).local own both.0 in
      names_freed edge (with_kept (keeps_one (Some own) place.peer edge.kept) (with_end place (released given (end_at edge place)) edge)) refl fewer
      (rising_keep own place.peer edge.kept)
      (λ label p age owner may. may_keep own place.peer edge.kept label p age (λ same. owner place.wire.0 place.peer.0 (subst (λ (l : ℕ). part_owns (end_at edge place).local l ≡ true) same mine)) may)
      (λ label there. ⊎_elim (λ (before : kept_at label edge.kept ≢ None). inl before)
      (λ (same : own ≡ label). inr (record { wire = place.wire.0; peer = place.peer.0; owned = subst (λ (l : ℕ). part_owns (end_at edge place).local l ≡ true) same mine; gone = here label both.1 }))
      (kept_from own place.peer edge.kept label there))

pub owns_lost : (end : EndState) → OwnsLess (lost end) end
owns_lost end label owned = nothing_owned owned

pub owns_group_unbound : (group : ℕ) (end : EndState) → OwnsLess (group_unbound group end) end
owns_group_unbound group end label = by_group (is_in_group group end.remote) where
  by_group : (b : Bool) → part_owns (cond b (Rattle.pw_signalling.specs.Rows.unbound None end) end).local label ≡ true → part_owns end.local label ≡ true
  by_group true owned = owned
  by_group false owned = owned

pub owns_group_stated : (group : ℕ) (status : PwStatus) (end : EndState) → OwnsLess (group_stated group status end) end
owns_group_stated group status end label = by_group (is_in_group group end.remote) where
  by_group : (b : Bool) → part_owns (cond b (Rattle.pw_signalling.specs.Rows.stated status end) end).local label ≡ true → part_owns end.local label ≡ true
  by_group true owned = owned
  by_group false owned = owned

pub names_telling : (place : EndPlace) (status : PwStatus) (edge : EdgeState) → KeepsNames edge (telling_status place status edge)
names_telling place status edge = names_end place (telling status (end_at edge place)) edge (owns_told status (end_at edge place))

pub names_withdrawing : (place : EndPlace) (edge : EdgeState) → KeepsNames edge (withdrawing place edge)
names_withdrawing place edge = names_end place (withdrawn (end_at edge place)) edge (owns_withdrawn (end_at edge place))

-- ---- an end takes a label

below_after : (label next : ℕ) → label < next → label < next_after next
below_after label next below = elim (cases_Bool (next == numbers_end)) [
  | inl last ↦ rw last below
  | inr other ↦ rw other (omega (arith, below))
]

up_to_after : (least next : ℕ) → least ≤ next → least ≤ next_after next
up_to_after least next below = elim (cases_Bool (next == numbers_end)) [
  | inl last ↦ rw last below
  | inr other ↦ rw other (omega (arith, below))
]

next_below : (next : ℕ) → (next == numbers_end) ≡ false → next < next_after next
next_below next other = rw other (omega arith)

not_below : (label next : ℕ) → label ≡ next → label < next → ⊥
not_below label next same below = omega (arith, same, below)

-- the label that is given is the next one, or it is free
pub data IsToGive (edge : EdgeState) (label : ℕ) : Type 0 where
  IsNext : label ≡ edge.next_label → (edge.next_label == numbers_end) ≡ false → IsToGive edge label
  IsFree : kept_at label edge.kept ≡ Some Free → IsToGive edge label

pub to_give : (edge : EdgeState) (label : ℕ) → HasKept edge → label_to_give edge ≡ Some label → IsToGive edge label
to_give edge label has given = elim (cases_Bool (edge.next_label == numbers_end)) [
  | inl last ↦ IsFree (least_is label 0 edge.kept has.rising (rw last at given))
  | inr other ↦ IsNext (sym (same_Some edge.next_label label (rw other at given))) other
]

-- nothing names it, and no end owns it
pub given_unnamed : {P : Type 0} (edge : EdgeState) (label wire peer : ℕ) (age : Option ℕ) → IsToGive edge label → MayBeNamed edge wire peer age label → P
given_unnamed edge label wire peer age (IsNext same other) may = absurd (not_below label edge.next_label same may.below)
given_unnamed edge label wire peer age (IsFree free) may = absurd (subst (MayBeKept peer age) free may.kept)

given_unowned : (edge : EdgeState) (label wire peer : ℕ) → OwnsItsLabels edge → IsToGive edge label → part_owns (edge.ends wire peer).local label ≡ false
given_unowned edge label wire peer own give = split {P = part_owns (edge.ends wire peer).local label ≡ false} (part_owns (edge.ends wire peer).local label)
    (λ owned. given_unnamed edge label wire peer None give (own wire peer label owned))
    (λ not_owned. not_owned)

pub given_below : (edge : EdgeState) (label : ℕ) → HasKept edge → IsToGive edge label → label < next_after edge.next_label
given_below edge label has (IsNext same other) = subst (λ (l : ℕ). l < next_after edge.next_label) (sym same) (next_below edge.next_label other)
given_below edge label has (IsFree free) = below_after label edge.next_label (has.below label (λ none. something Free (sym free ∙ none)))

pub given_least : (least : ℕ) (edge : EdgeState) (label : ℕ) → HasLeast least edge → IsToGive edge label → least ≤ label
given_least least edge label has (IsNext same other) = subst (λ (l : ℕ). least ≤ l) (sym same) has.next
given_least least edge label has (IsFree free) = has.kept label (λ none. something Free (sym free ∙ none))

-- after the advertisement of an idle end an owner is that end with the new label, or one of before
record IsNewOwner (place : EndPlace) (given wire peer label : ℕ) : Type 0 where
  pub wire_is : wire ≡ place.wire.0
  pub peer_is : peer ≡ place.peer.0
  pub label_is : label ≡ given

owner_of : (place : EndPlace) (given : ℕ) (content : Told) (edge : EdgeState) (declined : Bool) (wire peer label : ℕ) → (end_at edge place).local ≡ Idle declined
    → part_owns ((advertising place given content edge).ends wire peer).local label ≡ true → IsNewOwner place given wire peer label ⊎ (part_owns (edge.ends wire peer).local label ≡ true)
unfolding with_next_label with_kept
owner_of place given content edge declined wire peer label idle =
    end_fact (λ w k e. part_owns e.local label ≡ true → IsNewOwner place given w k label ⊎ (part_owns (edge.ends w k).local label ≡ true)) place
    (advertised given content (end_at edge place)) edge wire peer
    (λ owned. inl (record { wire_is = refl; peer_is = refl; label_is = sym (eqb-true given label (rw idle at owned)) }))
    (λ owned. inr owned)

pub advertised_next : (place : EndPlace) (label : ℕ) (content : Told) (edge : EdgeState) → (advertising place label content edge).next_label ≡ next_after edge.next_label
unfolding with_next_label with_end with_kept
advertised_next place label content edge = refl

advertised_kept : (place : EndPlace) (label : ℕ) (content : Told) (edge : EdgeState) → (advertising place label content edge).kept ≡ without label edge.kept
unfolding with_next_label with_end with_kept
advertised_kept place label content edge = refl

kept_gone : (place : EndPlace) (label : ℕ) (content : Told) (edge : EdgeState) → kept_at label (advertising place label content edge).kept ≡ None
kept_gone place label content edge = ap (kept_at label) (advertised_kept place label content edge) ∙ (kept_without label label edge.kept ∙ rw (is_same label) refl)

-- the new label may be named with the end
pub names_new : (place : EndPlace) (label : ℕ) (content : Told) (edge : EdgeState) (declined : Bool) → (end_at edge place).local ≡ Idle declined → OwnsItsLabels edge → HasKept edge
    → IsToGive edge label
    → MayName (advertising place label content edge) place.wire.0 place.peer.0 label
names_new place label content edge declined idle own has give = record {
  below = subst (λ (n : ℕ). label < n) (sym (advertised_next place label content edge)) (given_below edge label has give);
  owner = λ w k owned. ⊎_elim
      (λ (new : IsNewOwner place label w k label). (new.wire_is, new.peer_is))
      (λ (old : part_owns (edge.ends w k).local label ≡ true). clash_at (part_owns (edge.ends w k).local label) old (given_unowned edge label w k own give))
      (owner_of place label content edge declined w k label idle owned);
  kept = subst (MayBeKept place.peer.0 None) (sym (kept_gone place label content edge)) tt;
}

pub names_advertising : (place : EndPlace) (given : ℕ) (content : Told) (edge : EdgeState) (declined : Bool) → (end_at edge place).local ≡ Idle declined → OwnsItsLabels edge
    → HasKept edge → IsToGive edge given
    → KeepsNames edge (advertising place given content edge)
names_advertising place given content edge declined idle own has give = record {
  names = named;
  owned = λ own2 wire peer label owned. ⊎_elim
      (λ (new : IsNewOwner place given wire peer label). subst (λ (l : ℕ). MayName (advertising place given content edge) wire peer l) (sym new.label_is)
      (subst (λ (k : ℕ). MayName (advertising place given content edge) wire k given) (sym new.peer_is)
      (subst (λ (w : ℕ). MayName (advertising place given content edge) w place.peer.0 given) (sym new.wire_is) (names_new place given content edge declined idle own has give))))
      (λ (old : part_owns (edge.ends wire peer).local label ≡ true). named wire peer label None (own2 wire peer label old))
      (owner_of place given content edge declined wire peer label idle owned);
  kept = λ own2 has2. record {
    rising = subst (λ (ks : List Kept). AreRisingBy label_of 0 ks) (sym (advertised_kept place given content edge)) (rising_filtered label_of (λ k. not (k.label == given)) 0 edge.kept has.rising);
    below = λ label there. subst (λ (n : ℕ). label < n) (sym (advertised_next place given content edge)) (below_after label edge.next_label (has.below label (before label there)));
    unowned = λ label there w k. split {P = part_owns ((advertising place given content edge).ends w k).local label ≡ false} (part_owns ((advertising place given content edge).ends w k).local label)
        (λ now. ⊎_elim
        (λ (new : IsNewOwner place given w k label). absurd
        (there (subst (λ (l : ℕ). kept_at l (advertising place given content edge).kept ≡ None) (sym new.label_is) (kept_gone place given content edge))))
        (λ (old : part_owns (edge.ends w k).local label ≡ true). clash_at (part_owns (edge.ends w k).local label) old (has.unowned label (before label there) w k))
        (owner_of place given content edge declined w k label idle now))
        (λ not_now. not_now);
  };
  least = λ least low. record {
    next = subst (λ (n : ℕ). least ≤ n) (sym (advertised_next place given content edge)) (up_to_after least edge.next_label low.next);
    owned = λ wire peer label owned. ⊎_elim
        (λ (new : IsNewOwner place given wire peer label). subst (λ (l : ℕ). least ≤ l) (sym new.label_is) (given_least least edge given low give))
        (λ (old : part_owns (edge.ends wire peer).local label ≡ true). low.owned wire peer label old)
        (owner_of place given content edge declined wire peer label idle owned);
    kept = λ label there. low.kept label (before label there);
  };
}
  where
    -- what is kept then was kept before
    kept_is : (label : ℕ) → (given == label) ≡ false → kept_at label (advertising place given content edge).kept ≡ kept_at label edge.kept
    kept_is label apart = ap (kept_at label) (advertised_kept place given content edge) ∙ (kept_without given label edge.kept ∙ rw apart refl)

    before : (label : ℕ) → kept_at label (advertising place given content edge).kept ≢ None → kept_at label edge.kept ≢ None
    before label there = split {P = kept_at label edge.kept ≢ None} (given == label)
        (λ here. absurd (there (subst (λ (l : ℕ). kept_at l (advertising place given content edge).kept ≡ None) (eqb-true given label here) (kept_gone place given content edge))))
        (λ apart none. there (kept_is label apart ∙ none))

    unlike : (wire peer label : ℕ) (age : Option ℕ) → MayBeNamed edge wire peer age label → (given == label) ≡ false
    unlike wire peer label age may = split {P = (given == label) ≡ false} (given == label)
        (λ here. given_unnamed edge given wire peer age give (subst (λ (l : ℕ). MayBeNamed edge wire peer age l) (sym (eqb-true given label here)) may))
        (λ apart. apart)

    named : (wire peer label : ℕ) (age : Option ℕ) → MayBeNamed edge wire peer age label → MayBeNamed (advertising place given content edge) wire peer age label
    named wire peer label age may = record {
      below = subst (λ (n : ℕ). label < n) (sym (advertised_next place given content edge)) (below_after label edge.next_label may.below);
      owner = λ w k owned. ⊎_elim
          (λ (new : IsNewOwner place given w k label). given_unnamed edge given wire peer age give (subst (λ (l : ℕ). MayBeNamed edge wire peer age l) new.label_is may))
          (λ (old : part_owns (edge.ends w k).local label ≡ true). may.owner w k old)
          (owner_of place given content edge declined w k label idle owned);
      kept = subst (MayBeKept peer age) (sym (kept_is label (unlike wire peer label age may))) may.kept;
    }

-- ---- connections and ticks

-- the same edge but for what its kept numbers do
pub record IsRekept (old new : EdgeState) : Type 0 where
  pub ends : new.ends ≡ old.ends
  pub next : new.next_label ≡ old.next_label
  pub rising : AreRisingBy label_of 0 old.kept → AreRisingBy label_of 0 new.kept
  pub from : (label : ℕ) → kept_at label new.kept ≢ None → kept_at label old.kept ≢ None

pub rekept_has : (old new : EdgeState) → IsRekept old new → HasKept old → HasKept new
rekept_has old new same has = record {
  rising = same.rising has.rising;
  below = λ label there. subst (λ (n : ℕ). label < n) (sym same.next) (has.below label (same.from label there));
  unowned = λ label there w k. subst (λ (f : ℕ → ℕ → EndState). part_owns (f w k).local label ≡ false) (sym same.ends) (has.unowned label (same.from label there) w k);
}

pub rekept_least : (least : ℕ) (old new : EdgeState) → IsRekept old new → HasLeast least old → HasLeast least new
rekept_least least old new same low = record {
  next = subst (λ (n : ℕ). least ≤ n) (sym same.next) low.next;
  owned = λ wire peer label owned. low.owned wire peer label (subst (λ (f : ℕ → ℕ → EndState). part_owns (f wire peer).local label ≡ true) same.ends owned);
  kept = λ label there. low.kept label (same.from label there);
}

pub rekept_named : (old new : EdgeState) (wire peer label : ℕ) (age now : Option ℕ) → IsRekept old new → (MayBeKept peer age (kept_at label old.kept) → MayBeKept peer now (kept_at label new.kept))
    → MayBeNamed old wire peer age label → MayBeNamed new wire peer now label
rekept_named old new wire peer label age now same may named = record {
  below = subst (λ (n : ℕ). label < n) (sym same.next) named.below;
  owner = λ w k owned. named.owner w k (subst (λ (f : ℕ → ℕ → EndState). part_owns (f w k).local label ≡ true) same.ends owned);
  kept = may named.kept;
}

-- what an end owns is not kept, whatever kept numbers do
pub rekept_owned : (old new : EdgeState) → IsRekept old new → HasKept old → OwnsItsLabels old → OwnsItsLabels new
rekept_owned old new same has own wire peer label owned =
    let before : part_owns (old.ends wire peer).local label ≡ true = subst (λ (f : ℕ → ℕ → EndState). part_owns (f wire peer).local label ≡ true) same.ends owned in
    rekept_named old new wire peer label None None same
    (λ may. none_kept (kept_at label new.kept) refl (λ there. clash_at (part_owns (old.ends wire peer).local label) before (has.unowned label (same.from label there) wire peer)))
    (own wire peer label before)
  where
    none_kept : (r : Option KeptState) → kept_at label new.kept ≡ r → (kept_at label new.kept ≢ None → MayBeKept peer None (kept_at label new.kept)) → MayBeKept peer None (kept_at label new.kept)
    none_kept None is there = subst (MayBeKept peer None) (sym is) tt
    none_kept (Some s) is there = there (λ none. something s (sym is ∙ none))

met_may : (beside : EdgeId) (peer : ℕ) (age : Option ℕ) (s : Option KeptState) → (peer == beside.0) ≡ false → MayBeKept peer age s → MayBeKept peer age (option_map (met_state beside) s)
met_may beside peer age None apart may = may
met_may beside peer age (Some (Waits k)) apart may = by (k.0 == beside.0) refl where
  by : (b : Bool) → (k.0 == beside.0) ≡ b → MayBeKept peer age (Some (cond b (Rests 0) (Waits k)))
  by true here = clash_at (peer == beside.0) (subst (λ (n : ℕ). (n == beside.0) ≡ true) may here) apart
  by false other = may
met_may beside peer age (Some (Rests ticks)) apart may = may
met_may beside peer age (Some Free) apart may = may

met_carried : (beside : EdgeId) (peer age : ℕ) (s : Option KeptState) → MayBeKept peer (Some age) s → MayBeKept peer (Some age) (option_map (met_state beside) s)
met_carried beside peer age None may = may
met_carried beside peer age (Some (Waits k)) may = elim (k.0 == beside.0) as (λ v. MayBeKept peer (Some age) (Some (cond v (Rests 0) (Waits k)))) [
  | true ↦ omega arith
  | false ↦ may
]
met_carried beside peer age (Some (Rests ticks)) may = may
met_carried beside peer age (Some Free) may = may

ticked_may : (peer : ℕ) (s : Option KeptState) → MayBeKept peer None s → MayBeKept peer None (option_map ticked_state s)
ticked_may peer None may = may
ticked_may peer (Some (Waits k)) may = may
ticked_may peer (Some (Rests ticks)) may = absurd may
ticked_may peer (Some Free) may = absurd may

-- a packet that is a tick older, and younger than 64 ticks
ticked_carried : (peer age : ℕ) (s : Option KeptState) → age + 1 < rest_ticks → MayBeKept peer (Some age) s → MayBeKept peer (Some (age + 1)) (option_map ticked_state s)
ticked_carried peer age None young may = may
ticked_carried peer age (Some (Waits k)) young may = may
ticked_carried peer age (Some (Rests ticks)) young may = by (nat_lt (ticks + 1) rest_ticks) refl where
  over : (t a : ℕ) → a + 1 < rest_ticks → nat_lt (t + 1) rest_ticks ≡ false → t ≤ a → ⊥
  over t a young old less = grind (arith, nat_tests)

  by : (b : Bool) → nat_lt (ticks + 1) rest_ticks ≡ b → MayBeKept peer (Some (age + 1)) (Some (cond b (Rests (ticks + 1)) Free))
  by true is = omega (arith, may)
  by false is = over ticks age young is may
ticked_carried peer age (Some Free) young may = absurd may

still_none : {X Y : Type 0} (f : X → Y) (r : Option X) → option_map f r ≢ None → r ≢ None
still_none f None there none = there refl
still_none f (Some x) there none = something x none

pub meeting_rekept : (beside : EdgeId) (edge : EdgeState) → IsRekept edge (meeting beside edge)
unfolding with_kept
meeting_rekept beside edge = record {
  ends = refl;
  next = refl;
  rising = rising_map label_of (met_one beside) (λ k. refl) 0 edge.kept;
  from = λ label there. still_none (met_state beside) (kept_at label edge.kept) (subst (λ (r : Option KeptState). r ≢ None) (kept_map (met_state beside) edge.kept label) there);
}

pub meeting_named : (beside : EdgeId) (edge : EdgeState) (wire peer label : ℕ) (age : Option ℕ) → (peer == beside.0) ≡ false → MayBeNamed edge wire peer age label
    → MayBeNamed (meeting beside edge) wire peer age label
unfolding with_kept
meeting_named beside edge wire peer label age apart named =
    rekept_named edge (meeting beside edge) wire peer label age age (meeting_rekept beside edge)
    (λ may. subst (MayBeKept peer age) (sym (kept_map (met_state beside) edge.kept label)) (met_may beside peer age (kept_at label edge.kept) apart may)) named

pub meeting_carried : (beside : EdgeId) (edge : EdgeState) (wire peer age label : ℕ) → MayCarry edge wire peer age label → MayCarry (meeting beside edge) wire peer age label
unfolding with_kept
meeting_carried beside edge wire peer age label named =
    rekept_named edge (meeting beside edge) wire peer label (Some age) (Some age) (meeting_rekept beside edge)
    (λ may. subst (MayBeKept peer (Some age)) (sym (kept_map (met_state beside) edge.kept label)) (met_carried beside peer age (kept_at label edge.kept) may)) named

pub counted_rekept : (edge : EdgeState) → IsRekept edge (counted edge)
unfolding with_kept with_ticks
counted_rekept edge = record {
  ends = refl;
  next = refl;
  rising = rising_map label_of ticked_one (λ k. refl) 0 edge.kept;
  from = λ label there. still_none ticked_state (kept_at label edge.kept) (subst (λ (r : Option KeptState). r ≢ None) (kept_map ticked_state edge.kept label) there);
}

pub counted_named : (edge : EdgeState) (wire peer label : ℕ) → MayName edge wire peer label → MayName (counted edge) wire peer label
unfolding with_kept with_ticks
counted_named edge wire peer label named =
    rekept_named edge (counted edge) wire peer label None None (counted_rekept edge)
    (λ may. subst (MayBeKept peer None) (sym (kept_map ticked_state edge.kept label)) (ticked_may peer (kept_at label edge.kept) may)) named

pub counted_carried : (edge : EdgeState) (wire peer age label : ℕ) → age + 1 < rest_ticks → MayCarry edge wire peer age label → MayCarry (counted edge) wire peer (age + 1) label
unfolding with_kept with_ticks
counted_carried edge wire peer age label young named =
    rekept_named edge (counted edge) wire peer label (Some age) (Some (age + 1)) (counted_rekept edge)
    (λ may. subst (MayBeKept peer (Some (age + 1))) (sym (kept_map ticked_state edge.kept label)) (ticked_carried peer age (kept_at label edge.kept) young may)) named
