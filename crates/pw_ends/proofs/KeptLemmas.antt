-- What the ends own, and what their label space has.
use Rattle.std.proofs.Common.{◌≡◌, ◌≢◌, ◌<◌, ◌≤◌, ◌+◌, ◌∙◌, ◌⊎◌, ℕ, zero, suc, Bool, true, false, not, cond, List, [], ◌∷◌, Option, Some, None, length, get_or, set, map, replicate, refl, ap, sym, subst, arith, inl, inr}
use Rattle.std.specs.Prelude.{filter}
use Rattle.std.specs.List.{AllByRecursion, find}
use Rattle.std.proofs.lemmas.Bool.{cases_Bool}
use Rattle.std.proofs.lemmas.List.{map-set, length-set}
use Rattle.net_values.proofs.NumberLemmas.{same_number}
use Rattle.net_values.proofs.OptionLemmas.{something}
use Rattle.net_base.specs.declared.plan.places.EdgeId.{EdgeId}
use Rattle.net_base.specs.declared.plan.places.SegKey.{SegKey}
use Rattle.label_space.specs.declared.kept.Kept.{Kept}
use Rattle.label_space.specs.declared.owner.Owner.{Owner}
use Rattle.label_space.specs.Kept.{met, put_by, ticked, without}
use Rattle.label_space.specs.Labels.{LabelNumbers, freed, freed_of, given_to, issued, meeting_neighbour, next_after, number_to_give, numbers_end, opened_space, owned_label, owner_of, owns, ticking}
use Rattle.label_space.specs.Laws.{AmongNumbers, AreLabelsApart as AreNumbersApart, Free, Issue, Met, Tick, issued_numbers}
use Rattle.label_space.proofs.LabelLemmas.{owner_of-find, owner_of-kept, owner_of-put}
use Rattle.label_space.proofs.LawLemmas.{labels_are_used_again}
use Rattle.label_space.proofs.OrderLemmas.{long_filtered, long_put}
use Rattle.label_space.proofs.SlotLemmas.{none_found}
use Rattle.pw_signalling.specs.AnyEnd.{end_of}
use Rattle.pw_signalling.specs.declared.binding.Binding.{Binding}
use Rattle.pw_signalling.specs.declared.pw_end.PwEnd.{PwEnd}
use Rattle.pw_signalling.specs.declared.told.Told.{Told}
use Rattle.pw_signalling.specs.End.{EndState, LocalPart, Idle, Advertised, Withdrawing, fresh}
use Rattle.pw_signalling.specs.Laws.{own_label}
use Rattle.pw_signalling.specs.Rows.{advertised, advertise_part, bound, tell_part, withdraw_part, renew_part, release_part, names, is_in_group, unbound, stated}
use Rattle.edge_model.specs.declared.end_place.EndPlace.{EndPlace}
use Rattle.edge_model.specs.Labels.{left_label}
use Rattle.pw_ends.specs.declared.end_change.EndChange.{EndChange}
use Rattle.pw_ends.specs.declared.end_change.EndChange.TheVariants as change
use Rattle.pw_ends.specs.Changes.{changed, changed_in}
use Rattle.pw_ends.specs.Ends.{CanHold, EndLists, HasKind, Holds, IsIdle, end_in, no_place, place_of}
use Rattle.pw_ends.specs.Kept.{AreApart, AreKept, Differ, IsOwned, IsOwner, OwnApart, OwnTheirs, count_owned, freed_one, one_owned, own_of, segment_of}
use Rattle.pw_ends.specs.Owned.{OwnedList, slot_of, with_owned_label, without_owned_one}
use Rattle.pw_ends.proofs.HoldLemmas.{holding_at, holding_none, holding_set, holds_stay}
use Rattle.pw_ends.proofs.OwnerLemmas.{all_at, differ_sym, index_changed, index_count, index_issued, index_opened, set_same, unindexed, count_own}
use Rattle.pw_ends.proofs.SegmentLemmas.{owner_in, owners_changed, owners_issued, owners_none}
use Rattle.pw_ends.proofs.SlotLemmas.{seen_at}

-- ---- counting

count_set : (owns : List (Option ℕ)) (slot : ℕ) (own : Option ℕ) → slot < length owns → count_owned (set owns slot own) + one_owned (get_or owns slot None) ≡ count_owned owns + one_owned own
count_set [] slot own within = absurd (omega (arith, within))
count_set (o ∷ os) zero own within = omega arith
count_set (o ∷ os) (suc slot) own within = omega (arith, count_set os slot own (omega (arith, within)))

one_most : (own : Option ℕ) → one_owned own ≤ 1
one_most None = omega arith
one_most (Some label) = omega arith

count_most : (owns : List (Option ℕ)) → count_owned owns ≤ length owns
count_most [] = omega arith
count_most (o ∷ os) = omega (arith, one_most o, count_most os)

-- an end that owns no label leaves room for one
count_less : (owns : List (Option ℕ)) (slot : ℕ) → slot < length owns → get_or owns slot None ≡ None → count_owned owns < length owns
count_less [] slot within none = absurd (omega (arith, within))
count_less (o ∷ os) zero within none = rw none (omega (arith, count_most os))
count_less (o ∷ os) (suc slot) within none = omega (arith, one_most o, count_less os slot (omega (arith, within)) none)

-- ---- owners

-- the owner of a label goes
filter_less : (label : ℕ) (xs : List Owner) → owner_of label xs ≢ None → length (filter (λ o. not (owns label o)) xs) < length xs
filter_less label [] some = absurd (some refl)
filter_less label (x ∷ xs) some = elim (cases_Bool (owns label x)) [
  | inl found ↦ rw found (omega (arith, long_filtered owned_label (λ o. not (owns label o)) xs))
  | inr other ↦
      (let rest : length (filter (λ o. not (owns label o)) xs) < length xs = filter_less label xs (rw other at some) in
      rw other (omega (arith, rest)))
]

-- a label that is owned stays so where another owner comes
put_some : (label : ℕ) (xs : List Owner) (owner : Owner) → owner_of owner.label xs ≡ None → owner_of label xs ≢ None → owner_of label (put_by owned_label owner xs) ≢ None
put_some label xs owner none some = λ gone. by (owns label owner) (sym (owner_of-put owner xs none label) ∙ gone) where
  by : (b : Bool) → cond b (Some (owner.key, owner.side)) (owner_of label xs) ≡ None → ⊥
  by true is = something {X = SegKey × ℕ} (owner.key, owner.side) is
  by false is = some is

-- ---- a label is freed

freed_owned : (owners : List Owner) (label : ℕ) (other : Option ℕ) → Differ (Some label) other → IsOwned owners other → IsOwned (filter (λ o. not (owns label o)) owners) other
freed_owned owners label None differ owned = tt
freed_owned owners label (Some other) differ owned = λ none. owned (sym (owner_of-kept label other owners (λ same. differ (sym same))) ∙ none)

all_set : {X : Type 0} (P : X → Type 0) (xs : List X) (slot : ℕ) (x : X) → AllByRecursion P xs → P x → AllByRecursion P (set xs slot x)
all_set P [] slot x all is = tt
all_set P (y ∷ ys) zero x all is = (is, all.1)
all_set P (y ∷ ys) (suc slot) x all is = (all.0, all_set P ys slot x all.1 is)

all_freed : (owners : List Owner) (label : ℕ) (owns_list : List (Option ℕ)) → AllByRecursion (Differ (Some label)) owns_list → AllByRecursion (IsOwned owners) owns_list
    → AllByRecursion (IsOwned (filter (λ o. not (owns label o)) owners)) owns_list
all_freed owners label [] differ owned = tt
all_freed owners label (o ∷ os) differ owned = (freed_owned owners label o differ.0 owned.0, all_freed owners label os differ.1 owned.1)

-- each other end's label stays owned
set_freed : (owners : List Owner) (label : ℕ) (own_list : List (Option ℕ)) (slot : ℕ) → OwnApart own_list → AllByRecursion (IsOwned owners) own_list → slot < length own_list
    → get_or own_list slot None ≡ Some label → AllByRecursion (IsOwned (filter (λ o. not (owns label o)) owners)) (set own_list slot None)
set_freed owners label [] slot apart owned within at = absurd (omega (arith, within))
set_freed owners label (o ∷ os) zero apart owned within at = (tt, all_freed owners label os (rw at at apart.0) owned.1)
set_freed owners label (o ∷ os) (suc slot) apart owned within at =
    let differ : Differ o (Some label) = rw at at (all_at (Differ o) os slot apart.0 (omega (arith, within))) in
    (freed_owned owners label o (differ_sym o (Some label) differ) owned.0, set_freed owners label os slot apart.1 owned.1 (omega (arith, within)) at)

differ_none : (own : Option ℕ) → Differ own None
differ_none None = tt
differ_none (Some label) = tt

apart_none : (own_list : List (Option ℕ)) (slot : ℕ) → OwnApart own_list → OwnApart (set own_list slot None)
apart_none [] slot apart = tt
apart_none (o ∷ os) zero apart = (all_none os, apart.1)
  where
    all_none : (others : List (Option ℕ)) → AllByRecursion (Differ None) others
    all_none [] = tt
    all_none (x ∷ xs) = (tt, all_none xs)
apart_none (o ∷ os) (suc slot) apart = (all_set (Differ o) os slot None apart.0 (differ_none o), apart_none os slot apart.1)

-- the end at a slot owns its label no longer
theirs_freed : (own_list : List (Option ℕ)) (labels : LabelNumbers) (slot : ℕ) (label : ℕ) → OwnTheirs own_list labels → slot < length own_list → get_or own_list slot None ≡ Some label
    → OwnTheirs (set own_list slot None) (freed label labels)
theirs_freed own_list labels slot label theirs within at =
    let some : owner_of label labels.owners ≢ None = rw at at (all_at (IsOwned labels.owners) own_list slot theirs.owned within) in
    let count : count_owned (set own_list slot None) + 1 ≡ count_owned own_list + 0 = rw at at (count_set own_list slot None within) in
    let numbers : AreNumbersApart (freed label labels) = labels_are_used_again.apart labels (Free label ∷ []) theirs.numbers in
    by some count (find (owns label) labels.owners) refl numbers
  where
    by : owner_of label labels.owners ≢ None → count_owned (set own_list slot None) + 1 ≡ count_owned own_list + 0 → (r : Option Owner) → find (owns label) labels.owners ≡ r
        → AreNumbersApart (freed_of label r labels) → OwnTheirs (set own_list slot None) (freed_of label r labels)
    by some count None none numbers = absurd (some (owner_of-find label labels.owners ∙ rw none refl))
    by some count (Some owner) found numbers = record {
      owned = set_freed labels.owners label own_list slot theirs.apart theirs.owned within at;
      apart = apart_none own_list slot theirs.apart;
      few = omega (arith, theirs.few, count, filter_less label labels.owners some);
      numbers = numbers;
    }

-- ---- a label is given

issued_owned : (owners : List Owner) (owner : Owner) (own : Option ℕ) → owner_of owner.label owners ≡ None → IsOwned owners own → IsOwned (put_by owned_label owner owners) own
issued_owned owners owner None none owned = tt
issued_owned owners owner (Some label) none owned = put_some label owners owner none owned

all_issued : (owners : List Owner) (owner : Owner) (own_list : List (Option ℕ)) → owner_of owner.label owners ≡ None → AllByRecursion (IsOwned owners) own_list
    → AllByRecursion (IsOwned (put_by owned_label owner owners)) own_list
all_issued owners owner [] none owned = tt
all_issued owners owner (o ∷ os) none owned = (issued_owned owners owner o none owned.0, all_issued owners owner os none owned.1)

-- a label that nobody owns is another one than that of each end
differ_new : (owners : List Owner) (label : ℕ) (own : Option ℕ) → owner_of label owners ≡ None → IsOwned owners own → Differ own (Some label)
differ_new owners label None none owned = tt
differ_new owners label (Some other) none owned = λ same. owned (ap (λ (l : ℕ). owner_of l owners) same ∙ none)

all_new : (owners : List Owner) (label : ℕ) (own_list : List (Option ℕ)) → owner_of label owners ≡ None → AllByRecursion (IsOwned owners) own_list → AllByRecursion (Differ (Some label)) own_list
all_new owners label [] none owned = tt
all_new owners label (o ∷ os) none owned = (differ_sym o (Some label) (differ_new owners label o none owned.0), all_new owners label os none owned.1)

apart_new : (owners : List Owner) (label : ℕ) (own_list : List (Option ℕ)) (slot : ℕ) → owner_of label owners ≡ None → AllByRecursion (IsOwned owners) own_list → OwnApart own_list
    → OwnApart (set own_list slot (Some label))
apart_new owners label [] slot none owned apart = tt
apart_new owners label (o ∷ os) zero none owned apart = (all_new owners label os none owned.1, apart.1)
apart_new owners label (o ∷ os) (suc slot) none owned apart =
    (all_set (Differ o) os slot (Some label) apart.0 (differ_new owners label o none owned.0), apart_new owners label os slot none owned.1 apart.1)

-- a label that is given is nobody's
given_unowned : (labels : LabelNumbers) (label : ℕ) → AreNumbersApart labels → number_to_give labels.next labels.kept ≡ Some label → owner_of label labels.owners ≡ None
given_unowned labels label apart given =
    (labels_are_used_again.may labels (Issue no_key 0 no_peer) label apart (subst (λ (r : Option ℕ). AmongNumbers label (issued_numbers r)) (sym given) (inl refl))).unowned
  where
    no_key : SegKey
    no_key = record { wire = record { 0 = 0 }; segment = 0 }

    no_peer : EdgeId
    no_peer = record { 0 = 0 }

-- an end that owned none owns the label
theirs_issued : (own_list : List (Option ℕ)) (labels : LabelNumbers) (slot label : ℕ) (key : SegKey) (side : ℕ) (peer : EdgeId) → OwnTheirs own_list labels → slot < length own_list
    → get_or own_list slot None ≡ None → number_to_give labels.next labels.kept ≡ Some label
    → OwnTheirs (set own_list slot (Some label)) (given_to key side peer (Some label) labels)
theirs_issued own_list labels slot label key side peer theirs within at given =
    let owner : Owner = record { label = label; key = key; side = side; peer = peer } in
    let none : owner_of label labels.owners ≡ None = given_unowned labels label theirs.numbers given in
    let count : count_owned (set own_list slot (Some label)) + 0 ≡ count_owned own_list + 1 = rw at at (count_set own_list slot (Some label) within) in
    let is : owner_of label (put_by owned_label owner labels.owners) ≡ Some (key, side) = owner_of-put owner labels.owners none label ∙ rw (same_number label) refl in
    record {
      owned = all_set (IsOwned (put_by owned_label owner labels.owners)) own_list slot (Some label) (all_issued labels.owners owner own_list none theirs.owned)
          (λ gone. something {X = SegKey × ℕ} (key, side) (sym is ∙ gone));
      apart = apart_new labels.owners label own_list slot none theirs.owned theirs.apart;
      few = omega (arith, theirs.few, count, long_put owned_label owner labels.owners);
      numbers = subst (λ (r : Option ℕ). AreNumbersApart (given_to key side peer r labels)) given (labels_are_used_again.apart labels (Issue key side peer ∷ []) theirs.numbers);
    }

-- ---- an end is changed

-- the label after a change: the same, or none
stays_or_none : (c : EndChange) (e : EndState) → (own_of (changed c e) ≡ own_of e) ⊎ (own_of (changed c e) ≡ None)
stays_or_none change.Withdrawn e = inl (part e.local)
  where
    part : (local : LocalPart) → own_label (withdraw_part local) ≡ own_label local
    part (Idle declined) = refl
    part (Advertised own told) = refl
    part (Withdrawing own) = refl
stays_or_none (change.Telling status) e = inl (part e.local)
  where
    part : (local : LocalPart) → own_label (tell_part status local) ≡ own_label local
    part (Idle declined) = refl
    part (Advertised own told) = refl
    part (Withdrawing own) = refl
stays_or_none change.Renewed e = inl (part e.local)
  where
    part : (local : LocalPart) → own_label (renew_part local) ≡ own_label local
    part (Idle declined) = refl
    part (Advertised own told) = refl
    part (Withdrawing own) = refl
stays_or_none (change.Unbound label) e = inl refl
stays_or_none (change.Released label) e = part e.local
  where
    part : (local : LocalPart) → (own_label (release_part label local) ≡ own_label local) ⊎ (own_label (release_part label local) ≡ None)
    part (Idle declined) = inl refl
    part (Advertised own told) = elim (names label own) as (λ v. (own_label (cond v (Idle true) (Advertised own told)) ≡ Some own) ⊎ (own_label (cond v (Idle true) (Advertised own told)) ≡ None)) [
      | true ↦ inr refl
      | false ↦ inl refl
    ]
    part (Withdrawing own) = elim (names label own) as (λ v. (own_label (cond v (Idle false) (Withdrawing own)) ≡ Some own) ⊎ (own_label (cond v (Idle false) (Withdrawing own)) ≡ None)) [
      | true ↦ inr refl
      | false ↦ inl refl
    ]
stays_or_none (change.Stated status) e = inl refl
stays_or_none (change.GroupUnbound group) e = inl (elim (is_in_group group e.remote) as (λ v. own_of (cond v (unbound None e) e) ≡ own_of e) [
  | true ↦ refl
  | false ↦ refl
])
stays_or_none (change.GroupStated group status) e = inl (elim (is_in_group group e.remote) as (λ v. own_of (cond v (stated status e) e) ≡ own_of e) [
  | true ↦ refl
  | false ↦ refl
])
stays_or_none change.Lost e = inr refl

-- what an end may tell stays so
kind_stays : (c : EndChange) (e : EndState) → HasKind e.local → HasKind (changed c e).local
kind_stays change.Withdrawn e kind = part e.local
  where
    part : (local : LocalPart) → HasKind (withdraw_part local)
    part (Idle declined) = tt
    part (Advertised own told) = tt
    part (Withdrawing own) = tt
kind_stays (change.Telling status) e kind = part e.local kind
  where
    part : (local : LocalPart) → HasKind local → HasKind (tell_part status local)
    part (Idle declined) kind = kind
    part (Advertised own told) kind = kind
    part (Withdrawing own) kind = kind
kind_stays change.Renewed e kind = part e.local kind
  where
    part : (local : LocalPart) → HasKind local → HasKind (renew_part local)
    part (Idle declined) kind = kind
    part (Advertised own told) kind = kind
    part (Withdrawing own) kind = kind
kind_stays (change.Unbound label) e kind = kind
kind_stays (change.Released label) e kind = part e.local kind
  where
    part : (local : LocalPart) → HasKind local → HasKind (release_part label local)
    part (Idle declined) kind = kind
    part (Advertised own told) kind = elim (names label own) as (λ v. HasKind (cond v (Idle true) (Advertised own told))) [
      | true ↦ tt
      | false ↦ kind
    ]
    part (Withdrawing own) kind = elim (names label own) as (λ v. HasKind (cond v (Idle false) (Withdrawing own))) [
      | true ↦ tt
      | false ↦ kind
    ]
kind_stays (change.Stated status) e kind = kind
kind_stays (change.GroupUnbound group) e kind = elim (is_in_group group e.remote) as (λ v. HasKind (cond v (unbound None e) e).local) [
  | true ↦ kind
  | false ↦ kind
]
kind_stays (change.GroupStated group status) e kind = elim (is_in_group group e.remote) as (λ v. HasKind (cond v (stated status e) e).local) [
  | true ↦ kind
  | false ↦ kind
]
kind_stays change.Lost e kind = tt

pub ends_at : (P : EndState → Type 0) (ends : List EndState) (slot : ℕ) → AllByRecursion P ends → slot < length ends → P (get_or ends slot fresh)
ends_at P [] slot all within = absurd (omega (arith, within))
ends_at P (e ∷ es) zero all within = all.0
ends_at P (e ∷ es) (suc slot) all within = ends_at P es slot all.1 (omega (arith, within))

-- the label that the end of a slot owns
pub own_at : (ends : List EndState) (slot : ℕ) → get_or (map own_of ends) slot None ≡ own_of (get_or ends slot fresh)
own_at [] slot = refl
own_at (e ∷ es) zero = refl
own_at (e ∷ es) (suc slot) = own_at es slot

-- the label space has what the end of a slot owns as the label of its segment and side
pub owner_seen : (lists : EndLists) (index : OwnedList) (slot : ℕ) → AreKept lists.places lists.ends lists.labels index → slot < length lists.places
    → IsOwner lists.labels.owners (place_of lists slot) (own_label (end_in lists slot).local)
owner_seen lists index slot kept within =
    let short : slot < length (map own_of lists.ends) = subst (λ (n : ℕ). slot < n) (sym (count_own lists.ends ∙ kept.count)) within in
    let own : get_or (map own_of lists.ends) slot None ≡ own_label (end_in lists slot).local = own_at lists.ends slot ∙ ap own_of (sym (seen_at lists slot kept.apart kept.count within)) in
    subst (IsOwner lists.labels.owners (place_of lists slot)) own (owner_in lists.labels.owners lists.places (map own_of lists.ends) slot kept.owners within short)

-- what the end of a slot holds can be told on
pub holding_seen : (lists : EndLists) (index : OwnedList) (slot : ℕ) → AreKept lists.places lists.ends lists.labels index → slot < length lists.places
    → Holds (place_of lists slot) (end_in lists slot).remote
holding_seen lists index slot kept within =
    subst (λ (end : EndState). Holds (place_of lists slot) end.remote) (sym (seen_at lists slot kept.apart kept.count within))
    (holding_at lists.places lists.ends slot kept.holds within (subst (λ (n : ℕ). slot < n) (sym kept.count) within))

-- after a change the ends own what is left in the label space
theirs_changed : (own_list : List (Option ℕ)) (labels : LabelNumbers) (slot : ℕ) (before after : Option ℕ) → OwnTheirs own_list labels → slot < length own_list
    → get_or own_list slot None ≡ before → (after ≡ before) ⊎ (after ≡ None) → OwnTheirs (set own_list slot after) (freed_one (left_label before after) labels)
theirs_changed own_list labels slot None None theirs within at either = rw (set_same own_list slot None None within (sym at)) theirs
theirs_changed own_list labels slot None (Some label) theirs within at (inl same) = absurd (something {X = ℕ} label same)
theirs_changed own_list labels slot None (Some label) theirs within at (inr none) = absurd (something {X = ℕ} label none)
theirs_changed own_list labels slot (Some label) None theirs within at either = theirs_freed own_list labels slot label theirs within at
theirs_changed own_list labels slot (Some label) (Some other) theirs within at (inl same) = rw (set_same own_list slot None (Some other) within (same ∙ sym at)) theirs
theirs_changed own_list labels slot (Some label) (Some other) theirs within at (inr none) = absurd (something {X = ℕ} other none)

pub all_seen : (es : List PwEnd) → length (map end_of es) ≡ length es
all_seen [] = refl
all_seen (e ∷ es) = ap suc (all_seen es)

-- there are as many ends as places
pub seen_count : (ends : List PwEnd) (places : List EndPlace) → length (map end_of ends) ≡ length places → length ends ≡ length places
seen_count ends places count = sym (all_seen ends) ∙ count

-- a slot is one of the ends
pub slot_within : (places : List EndPlace) (ends : List PwEnd) (labels : LabelNumbers) (index : OwnedList) (slot : ℕ) → AreKept places (map end_of ends) labels index
    → slot < length places → slot < length ends
slot_within places ends labels index slot kept within = subst (λ (n : ℕ). slot < n) (sym (seen_count ends places kept.count)) within

freed_room : (left : Option ℕ) (labels : LabelNumbers) → (freed_one left labels).room ≡ labels.room
freed_room None labels = refl
freed_room (Some label) labels = by (find (owns label) labels.owners) where
  by : (r : Option Owner) → (freed_of label r labels).room ≡ labels.room
  by None = refl
  by (Some owner) = refl

pub freed_next : (left : Option ℕ) (labels : LabelNumbers) → (freed_one left labels).next ≡ labels.next
freed_next None labels = refl
freed_next (Some label) labels = by (find (owns label) labels.owners) where
  by : (r : Option Owner) → (freed_of label r labels).next ≡ labels.next
  by None = refl
  by (Some owner) = refl

pub kept_changed : (c : EndChange) (places : List EndPlace) (ends : List EndState) (labels : LabelNumbers) (index : OwnedList) (slot : ℕ) → AreKept places ends labels index → slot < length places →
    AreKept places (changed_in (changed c) slot ends) (freed_one (left_label (own_of (get_or ends slot fresh)) (own_of (get_or (changed_in (changed c) slot ends) slot fresh))) labels)
    (without_owned_one (left_label (own_of (get_or ends slot fresh)) (own_of (get_or (changed_in (changed c) slot ends) slot fresh))) index)
kept_changed c places ends labels index slot kept within =
    let old : EndState = get_or ends slot fresh in
    let short : slot < length ends = subst (λ (n : ℕ). slot < n) (sym kept.count) within in
    let short_own : slot < length (map own_of ends) = subst (λ (n : ℕ). slot < n) (sym (count_own ends)) short in
    let now : get_or (changed_in (changed c) slot ends) slot fresh ≡ changed c old = set_at ends slot (changed c old) short in
    let theirs = theirs_changed (map own_of ends) labels slot (own_of old) (own_of (changed c old)) kept.owns short_own (own_at ends slot) (stays_or_none c old) in
    let owners = owners_changed (map own_of ends) labels places slot (own_of old) (own_of (changed c old)) kept.owns.apart kept.owners short_own (own_at ends slot) (stays_or_none c old) in
    let slots = index_changed (map own_of ends) labels index slot (own_of old) (own_of (changed c old)) kept.slots kept.owns.apart
    (subst (IsOwned labels.owners) (own_at ends slot) (all_at (IsOwned labels.owners) (map own_of ends) slot kept.owns.owned short_own)) short_own (own_at ends slot) (stays_or_none c old) in
    let owned : map own_of (changed_in (changed c) slot ends) ≡ set (map own_of ends) slot (own_of (changed c old)) = map-set own_of ends slot (changed c old) in
    rw now (record {
      count = length-set ends slot (changed c old) ∙ kept.count;
      apart = kept.apart;
      room = freed_room (left_label (own_of old) (own_of (changed c old))) labels ∙ kept.room;
      owns = rw owned theirs;
      owners = rw owned owners;
      kinds = all_set (λ (end : EndState). HasKind end.local) ends slot (changed c old) kept.kinds (kind_stays c old (ends_at (λ (end : EndState). HasKind end.local) ends slot kept.kinds short));
      slots = rw owned slots;
      holds = holding_set places ends slot (changed c old) kept.holds (holds_stay (get_or places slot no_place) c old (holding_at places ends slot kept.holds within short));
    })
  where
    set_at : (es : List EndState) (i : ℕ) (e : EndState) → i < length es → get_or (set es i e) i fresh ≡ e
    set_at [] i e less = absurd (omega (arith, less))
    set_at (x ∷ xs) zero e less = refl
    set_at (x ∷ xs) (suc i) e less = set_at xs i e (omega (arith, less))

-- the same of what the code has: the label before and after
pub kept_moved : (c : EndChange) (places : List EndPlace) (ends now : List EndState) (labels left : LabelNumbers) (index others : OwnedList) (slot : ℕ) (before after : Option ℕ)
    → AreKept places ends labels index → slot < length places → now ≡ changed_in (changed c) slot ends → before ≡ own_of (get_or ends slot fresh) → after ≡ own_of (get_or now slot fresh)
    → left ≡ freed_one (left_label before after) labels → others ≡ without_owned_one (left_label before after) index → AreKept places now left others
kept_moved c places ends now labels left index others slot before after kept within is first last freed_is without_is =
    rw (freed_is, without_is, first, last, is) (kept_changed c places ends labels index slot kept within)

-- an end that is bound owns the same label as before
pub kept_bound : (binding : Binding) (places : List EndPlace) (ends now : List EndState) (labels : LabelNumbers) (index : OwnedList) (slot : ℕ) → AreKept places ends labels index
    → slot < length places → now ≡ changed_in (bound binding) slot ends → CanHold (get_or places slot no_place) binding.told → AreKept places now labels index
kept_bound binding places ends now labels index slot kept within is holds =
    let old : EndState = get_or ends slot fresh in
    let short : slot < length ends = subst (λ (n : ℕ). slot < n) (sym kept.count) within in
    let short_own : slot < length (map own_of ends) = subst (λ (n : ℕ). slot < n) (sym (count_own ends)) short in
    let same : map own_of (changed_in (bound binding) slot ends) ≡ map own_of ends =
    map-set own_of ends slot (bound binding old) ∙ set_same (map own_of ends) slot None (own_of old) short_own (sym (own_at ends slot)) in
    rw is (record {
      count = length-set ends slot (bound binding old) ∙ kept.count;
      apart = kept.apart;
      room = kept.room;
      owns = rw same kept.owns;
      owners = rw same kept.owners;
      kinds = all_set (λ (end : EndState). HasKind end.local) ends slot (bound binding old) kept.kinds (ends_at (λ (end : EndState). HasKind end.local) ends slot kept.kinds short);
      slots = rw same kept.slots;
      holds = holding_set places ends slot (bound binding old) kept.holds holds;
    })

-- ---- an end advertises

idle_none : (local : LocalPart) → IsIdle local → own_label local ≡ None
idle_none (Idle declined) idle = refl
idle_none (Advertised label told) idle = absurd idle
idle_none (Withdrawing label) idle = absurd idle

-- an idle end leaves room for its label
pub room_for : (places : List EndPlace) (ends : List EndState) (labels : LabelNumbers) (index : OwnedList) (slot : ℕ) → AreKept places ends labels index → slot < length places
    → IsIdle (get_or ends slot fresh).local → length labels.owners < labels.room
room_for places ends labels index slot kept within idle =
    let short : slot < length (map own_of ends) = subst (λ (n : ℕ). slot < n) (sym (count_own ends ∙ kept.count)) within in
    let none : get_or (map own_of ends) slot None ≡ None = own_at ends slot ∙ idle_none (get_or ends slot fresh).local idle in
    let less : count_owned (map own_of ends) < length (map own_of ends) = count_less (map own_of ends) slot short none in
    omega (arith, kept.owns.few, less, count_own ends, kept.count, kept.room)

-- and room among the labels with their slots
pub index_room : (places : List EndPlace) (ends : List EndState) (labels : LabelNumbers) (index : OwnedList) (slot : ℕ) → AreKept places ends labels index → slot < length places
    → IsIdle (get_or ends slot fresh).local → length index.labels < index.room
index_room places ends labels index slot kept within idle =
    omega (arith, room_for places ends labels index slot kept within idle, index_count (map own_of ends) labels index kept.slots, kept.slots.room)

-- a label that is given has no slot yet
pub index_unowned : (places : List EndPlace) (ends : List EndState) (labels : LabelNumbers) (index : OwnedList) (label : ℕ) → AreKept places ends labels index
    → number_to_give labels.next labels.kept ≡ Some label → slot_of label index.labels ≡ None
index_unowned places ends labels index label kept given = unindexed label index.labels labels.owners kept.slots.same (given_unowned labels label kept.owns.numbers given)

advertised_own : (label : ℕ) (told : Told) (local : LocalPart) → IsIdle local → own_label (advertise_part label told local) ≡ Some label
advertised_own label told (Idle declined) idle = refl
advertised_own label told (Advertised own t) idle = absurd idle
advertised_own label told (Withdrawing own) idle = absurd idle

advertised_kind : (label : ℕ) (told : Told) (local : LocalPart) → IsIdle local → told.kind ≤ 0x7FFF → HasKind (advertise_part label told local)
advertised_kind label told (Idle declined) idle kind = kind
advertised_kind label told (Advertised own t) idle kind = absurd idle
advertised_kind label told (Withdrawing own) idle kind = absurd idle

pub kept_issued : (key : SegKey) (side : ℕ) (peer : EdgeId) (label : ℕ) (told : Told) (places : List EndPlace) (ends : List EndState) (labels : LabelNumbers) (index : OwnedList) (slot : ℕ) → AreKept places ends labels index → slot < length places → IsIdle (get_or ends slot fresh).local → told.kind ≤ 0x7FFF → number_to_give labels.next labels.kept ≡ Some label
    → key ≡ segment_of (get_or places slot no_place) → side ≡ (get_or places slot no_place).side → peer ≡ (get_or places slot no_place).peer
    → AreKept places (changed_in (advertised label told) slot ends) (given_to key side peer (Some label) labels) (with_owned_label label slot index)
kept_issued key side peer label told places ends labels index slot kept within idle kind given of_segment of_side of_peer =
    let old : EndState = get_or ends slot fresh in
    let new : EndState = advertised label told old in
    let short : slot < length ends = subst (λ (n : ℕ). slot < n) (sym kept.count) within in
    let short_own : slot < length (map own_of ends) = subst (λ (n : ℕ). slot < n) (sym (count_own ends)) short in
    let none : get_or (map own_of ends) slot None ≡ None = own_at ends slot ∙ idle_none old.local idle in
    let nobody : owner_of label labels.owners ≡ None = given_unowned labels label kept.owns.numbers given in
    let owned : map own_of (changed_in (advertised label told) slot ends) ≡ set (map own_of ends) slot (Some label) =
    map-set own_of ends slot new ∙ ap (λ (o : Option ℕ). set (map own_of ends) slot o) (advertised_own label told old.local idle) in
    record {
      count = length-set ends slot new ∙ kept.count;
      apart = kept.apart;
      room = kept.room;
      owns = rw owned (theirs_issued (map own_of ends) labels slot label key side peer kept.owns short_own none given);
      owners = rw (owned, of_segment, of_side, of_peer) (owners_issued (map own_of ends) labels places slot label kept.owners (none_found label labels.owners nobody));
      kinds = all_set (λ (end : EndState). HasKind end.local) ends slot new kept.kinds (advertised_kind label told old.local idle kind);
      slots = rw owned (index_issued (map own_of ends) labels index slot label key side peer kept.slots (all_new labels.owners label (map own_of ends) nobody kept.owns.owned)
          (index_unowned places ends labels index label kept given) short_own none);
      holds = holding_set places ends slot new kept.holds (holding_at places ends slot kept.holds within short);
    }

issued_is : (key : SegKey) (side : ℕ) (peer : EdgeId) (labels : LabelNumbers) (label : ℕ) → number_to_give labels.next labels.kept ≡ Some label → issued key side peer labels
    ≡ given_to key side peer (Some label) labels
issued_is key side peer labels label given = ap (λ (r : Option ℕ). given_to key side peer r labels) given

-- the same of what the code has
pub kept_advertised : (key : SegKey) (side : ℕ) (peer : EdgeId) (told : Told) (places : List EndPlace) (ends now : List EndState) (labels left : LabelNumbers) (index more : OwnedList) (slot label : ℕ) → AreKept places ends labels index → slot < length places → IsIdle (get_or ends slot fresh).local → told.kind ≤ 0x7FFF → number_to_give labels.next labels.kept ≡ Some label
    → now ≡ changed_in (advertised label told) slot ends → left ≡ issued key side peer labels → more ≡ with_owned_label label slot index → key ≡ segment_of (get_or places slot no_place)
    → side ≡ (get_or places slot no_place).side → peer ≡ (get_or places slot no_place).peer
    → AreKept places now left more
kept_advertised key side peer told places ends now labels left index more slot label kept within idle kind given is left_is with_is of_segment of_side of_peer =
    rw (left_is ∙ issued_is key side peer labels label given, with_is, is) (kept_issued key side peer label told places ends labels index slot kept within idle kind given of_segment of_side of_peer)

-- what is given next after that, and what is kept
pub given_next : (key : SegKey) (side : ℕ) (peer : EdgeId) (labels left : LabelNumbers) (label : ℕ) → number_to_give labels.next labels.kept ≡ Some label → left
    ≡ issued key side peer labels → left.next ≡ next_after labels.next
given_next key side peer labels left label given is = ap (λ (l : LabelNumbers). l.next) (is ∙ issued_is key side peer labels label given)

pub given_kept : (key : SegKey) (side : ℕ) (peer : EdgeId) (labels left : LabelNumbers) (label : ℕ) → number_to_give labels.next labels.kept ≡ Some label → left
    ≡ issued key side peer labels → left.kept ≡ without label labels.kept
given_kept key side peer labels left label given is = ap (λ (l : LabelNumbers). l.kept) (is ∙ issued_is key side peer labels label given)

pub ruleset given_steps = (given_next, given_kept)

-- ---- connections and ticks

-- other numbers are kept, of the same owners
kept_numbers : (places : List EndPlace) (ends : List EndState) (labels : LabelNumbers) (more : List Kept) (index : OwnedList) → AreKept places ends labels index
    → AreNumbersApart (record labels { kept = more }) → AreKept places ends (record labels { kept = more }) index
kept_numbers places ends labels more index kept numbers = record {
  count = kept.count;
  apart = kept.apart;
  room = kept.room;
  owns = record { owned = kept.owns.owned; apart = kept.owns.apart; few = kept.owns.few; numbers = numbers };
  owners = kept.owners;
  kinds = kept.kinds;
  slots = record { room = kept.slots.room; same = kept.slots.same; slot = kept.slots.slot };
  holds = kept.holds;
}

pub kept_met : (peer : EdgeId) (places : List EndPlace) (ends : List EndState) (labels now : LabelNumbers) (index : OwnedList) → AreKept places ends labels index → now
    ≡ meeting_neighbour peer labels → AreKept places ends now index
kept_met peer places ends labels now index kept is = rw is (kept_numbers places ends labels (met peer labels.kept) index kept (labels_are_used_again.apart labels (Met peer ∷ []) kept.owns.numbers))

pub kept_ticked : (places : List EndPlace) (ends : List EndState) (labels now : LabelNumbers) (index : OwnedList) → AreKept places ends labels index → now ≡ ticking labels
    → AreKept places ends now index
kept_ticked places ends labels now index kept is = rw is (kept_numbers places ends labels (ticked labels.kept) index kept (labels_are_used_again.apart labels (Tick ∷ []) kept.owns.numbers))

-- ---- opened

pub none_own : (count : ℕ) → map own_of (replicate count fresh) ≡ replicate count None
none_own zero = refl
none_own (suc count) = ap (λ (l : List (Option ℕ)). None ∷ l) (none_own count)

pub none_owned : (count : ℕ) (owners : List Owner) → AllByRecursion (IsOwned owners) (replicate count None)
none_owned zero owners = tt
none_owned (suc count) owners = (tt, none_owned count owners)

pub none_apart : (count : ℕ) → OwnApart (replicate count None)
none_apart zero = tt
none_apart (suc count) = (all_none count, none_apart count)
  where
    all_none : (n : ℕ) → AllByRecursion (Differ None) (replicate n None)
    all_none zero = tt
    all_none (suc n) = (tt, all_none n)

pub none_kind : (count : ℕ) → AllByRecursion (λ (end : EndState). HasKind end.local) (replicate count fresh)
none_kind zero = tt
none_kind (suc count) = (tt, none_kind count)

pub count_fresh : (count : ℕ) → length (replicate count fresh) ≡ count
count_fresh zero = refl
count_fresh (suc count) = ap suc (count_fresh count)

pub kept_opened : (places : List EndPlace) (first : ℕ) → first ≤ numbers_end → AreApart places
    → AreKept places (replicate (length places) fresh) (opened_space first (length places)) (record { room = length places; labels = [] })
kept_opened places first below apart = record {
  count = count_fresh (length places);
  apart = apart;
  room = refl;
  owns = rw (none_own (length places)) (record {
    owned = none_owned (length places) [];
    apart = none_apart (length places);
    few = omega arith;
    numbers = labels_are_used_again.opened first (length places) below;
  });
  owners = rw (none_own (length places)) (owners_none [] places (length places));
  kinds = none_kind (length places);
  slots = rw (none_own (length places)) (index_opened (length places) (length places) first);
  holds = holding_none places (length places);
}
