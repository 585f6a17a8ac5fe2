-- The slots by labels: each label that is owned has the slot of its owner, before and after the calls.
use Rattle.std.proofs.Common.{◌≡◌, ◌<◌, ◌+◌, ◌∙◌, ◌==◌, ◌⊎◌, ℕ, zero, suc, Bool, true, false, not, cond, IfSome, List, [], ◌∷◌, Option, Some, None, length, get_or, set, map, filter, option_map, position, replicate, refl, ap, sym, subst, arith, inl, inr}
use Rattle.std.specs.List.{AllByRecursion, find, position_or_len}
use Rattle.std.proofs.lemmas.Bool.{cases_Bool, eqb-true, ne_eqb, lt-ltb}
use Rattle.std.proofs.lemmas.List.{length-set}
use Rattle.std.proofs.lemmas.List.Quantifiers.{position-Some}
use Rattle.net_values.proofs.NumberLemmas.{same_number as same, not_below_itself}
use Rattle.net_values.proofs.OptionLemmas.{something}
use Rattle.net_base.specs.declared.plan.places.EdgeId.{EdgeId}
use Rattle.net_base.specs.declared.plan.places.SegKey.{SegKey}
use Rattle.label_space.specs.declared.owner.Owner.{Owner}
use Rattle.label_space.specs.Kept.{put_by}
use Rattle.label_space.specs.Labels.{LabelNumbers, freed, freed_of, given_to, opened_space, owned_label, owner_of, owns}
use Rattle.label_space.proofs.LabelLemmas.{owner_of-find}
use Rattle.pw_signalling.specs.End.{EndState, fresh}
use Rattle.edge_model.specs.declared.end_place.EndPlace.{EndPlace}
use Rattle.edge_model.specs.Labels.{left_label}
use Rattle.pw_ends.specs.declared.owned_labels.OwnedLabel.{OwnedLabel}
use Rattle.pw_ends.specs.Ends.{is_label, owns_label}
use Rattle.pw_ends.specs.Kept.{Differ, IsOwnerIndex, IsOwned, OwnApart, freed_one, own_of}
use Rattle.pw_ends.specs.Owned.{OwnedList, has_label, label_in, slot_of, with_owned_label, without_owned, without_owned_one}
use Rattle.pw_ends.proofs.FindLemmas.{find_left, find_left_other, find_put, numbers_left, numbers_put}

-- ---- small facts

pub differ_sym : (a b : Option ℕ) → Differ a b → Differ b a
differ_sym None None differ = tt
differ_sym None (Some b) differ = tt
differ_sym (Some a) None differ = tt
differ_sym (Some a) (Some b) differ = λ same. differ (sym same)

pub all_at : (P : Option ℕ → Type 0) (owns : List (Option ℕ)) (slot : ℕ) → AllByRecursion P owns → slot < length owns → P (get_or owns slot None)
all_at P [] slot all within = absurd (omega (arith, within))
all_at P (o ∷ os) zero all within = all.0
all_at P (o ∷ os) (suc slot) all within = all_at P os slot all.1 (omega (arith, within))

pub set_same : {X : Type 0} (xs : List X) (slot : ℕ) (d x : X) → slot < length xs → x ≡ get_or xs slot d → set xs slot x ≡ xs
set_same [] slot d x within is = refl
set_same {X} (y ∷ ys) zero d x within is = ap (λ (z : X). z ∷ ys) is
set_same {X} (y ∷ ys) (suc slot) d x within is = ap (λ (l : List X). y ∷ l) (set_same ys slot d x (omega (arith, within)) is)

-- ---- the labels with their slots

found_none : (o : Option OwnedLabel) → option_map (λ x. x.slot) o ≡ None → o ≡ None
found_none None none = refl
found_none (Some x) none = absurd (something x.slot none)

-- a label has the slot that it comes with, and all others keep theirs
slot_put : (label slot : ℕ) (xs : List OwnedLabel) → slot_of label xs ≡ None → (other : ℕ) → slot_of other (put_by label_in (record { label = label; slot = slot }) xs)
    ≡ cond (label == other) (Some slot) (slot_of other xs)
slot_put label slot xs none other =
    let new : OwnedLabel = record { label = label; slot = slot } in
    ap (option_map (λ (o : OwnedLabel). o.slot)) (find_put label_in new xs (found_none (find (has_label label) xs) none) other) ∙ by (label == other)
  where
    by : (b : Bool) → option_map (λ (o : OwnedLabel). o.slot) (cond b (Some (record { label = label; slot = slot })) (find (has_label other) xs))
        ≡ cond b (Some slot) (option_map (λ (o : OwnedLabel). o.slot) (find (has_label other) xs))
    by true = refl
    by false = refl

-- ---- the labels that the ends own

-- an end that owns another label, or none
pub away : (label : ℕ) (own : Option ℕ) → Differ (Some label) own → is_label label own ≡ false
away label None differ = refl
away label (Some other) differ = ne_eqb other label (λ is. differ (sym is))

number_set : (label : ℕ) (owns : List (Option ℕ)) (slot : ℕ) (own : Option ℕ) → slot < length owns → is_label label own ≡ is_label label (get_or owns slot None)
    → position_or_len (is_label label) (set owns slot own) ≡ position_or_len (is_label label) owns
number_set label [] slot own within alike = absurd (omega (arith, within))
number_set label (o ∷ os) zero own within alike = ap (λ (b : Bool). cond (not b) (1 + position_or_len (is_label label) os) 0) alike
number_set label (o ∷ os) (suc slot) own within alike = ap (λ (n : ℕ). cond (not (is_label label o)) (1 + n) 0) (number_set label os slot own (omega (arith, within)) alike)

-- an end that owned no such label, and does not own it now
position_set : (label : ℕ) (owns : List (Option ℕ)) (slot : ℕ) (own : Option ℕ) → slot < length owns → is_label label own ≡ is_label label (get_or owns slot None)
    → position (is_label label) (set owns slot own) ≡ position (is_label label) owns
position_set label owns slot own within alike = rw (number_set label owns slot own within alike, length-set owns slot own) refl

number_put : (label : ℕ) (owns : List (Option ℕ)) (slot : ℕ) → AllByRecursion (Differ (Some label)) owns → slot < length owns → position_or_len (is_label label) (set owns slot (Some label)) ≡ slot
number_put label [] slot differ within = absurd (omega (arith, within))
number_put label (o ∷ os) zero differ within = rw (same label) refl
number_put label (o ∷ os) (suc slot) differ within =
    let rest : position_or_len (is_label label) (set os slot (Some label)) ≡ slot = number_put label os slot differ.1 (omega (arith, within)) in
    rw (away label o differ.0) (omega (arith, rest))

-- an end owns a label that no end owned
position_put : (label : ℕ) (owns : List (Option ℕ)) (slot : ℕ) → AllByRecursion (Differ (Some label)) owns → slot < length owns → position (is_label label) (set owns slot (Some label)) ≡ Some slot
position_put label owns slot differ within = rw (number_put label owns slot differ within, length-set owns slot (Some label), lt-ltb slot (length owns) within) refl

number_none : (label : ℕ) (owns : List (Option ℕ)) → AllByRecursion (Differ (Some label)) owns → position_or_len (is_label label) owns ≡ length owns
number_none label [] differ = refl
number_none label (o ∷ os) differ =
    let rest : position_or_len (is_label label) os ≡ length os = number_none label os differ.1 in
    rw (away label o differ.0) (omega (arith, rest))

number_away : (label : ℕ) (owns : List (Option ℕ)) → AllByRecursion (λ own. is_label label own ≡ false) owns → position_or_len (is_label label) owns ≡ length owns
number_away label [] away = refl
number_away label (o ∷ os) away =
    let rest : position_or_len (is_label label) os ≡ length os = number_away label os away.1 in
    rw away.0 (omega (arith, rest))

-- where none owns the label it is found at no slot
pub position_away : (label : ℕ) (owns : List (Option ℕ)) → AllByRecursion (λ own. is_label label own ≡ false) owns → position (is_label label) owns ≡ None
position_away label owns away = rw (number_away label owns away, not_below_itself (length owns)) refl

number_left : (label : ℕ) (owns : List (Option ℕ)) (slot : ℕ) → OwnApart owns → slot < length owns → get_or owns slot None ≡ Some label
    → position_or_len (is_label label) (set owns slot None) ≡ length owns
number_left label [] slot apart within at = absurd (omega (arith, within))
number_left label (o ∷ os) zero apart within at =
    let rest : position_or_len (is_label label) os ≡ length os = number_none label os (subst (λ (own : Option ℕ). AllByRecursion (Differ own) os) at apart.0) in
    omega (arith, rest)
number_left label (o ∷ os) (suc slot) apart within at =
    let differ : Differ o (Some label) = subst (Differ o) at (all_at (Differ o) os slot apart.0 (omega (arith, within))) in
    let rest : position_or_len (is_label label) (set os slot None) ≡ length os = number_left label os slot apart.1 (omega (arith, within)) at in
    rw (away label o (differ_sym o (Some label) differ)) (omega (arith, rest))

-- no end owns a label that its owner has left
position_left : (label : ℕ) (owns : List (Option ℕ)) (slot : ℕ) → OwnApart owns → slot < length owns → get_or owns slot None ≡ Some label → position (is_label label) (set owns slot None) ≡ None
position_left label owns slot apart within at = rw (number_left label owns slot apart within at, length-set owns slot None, not_below_itself (length owns)) refl

-- no end owns a label
abbrev no_label : Option ℕ
no_label = None

number_opened : (label count : ℕ) → position_or_len (is_label label) (replicate count no_label) ≡ length (replicate count no_label)
number_opened label zero = refl
number_opened label (suc count) = omega (arith, number_opened label count)

-- ---- opened

pub index_opened : (room count first : ℕ) → IsOwnerIndex (replicate count None) (opened_space first room) (record { room = room; labels = [] })
index_opened room count first = record {
  room = refl;
  same = refl;
  slot = λ label. sym (rw (number_opened label count, not_below_itself (length (replicate count no_label))) refl);
}

-- ---- a label is given

-- a label that has no owner has no slot
pub unindexed : (label : ℕ) (xs : List OwnedLabel) (owners : List Owner) → map (λ o. o.label) xs ≡ map (λ o. o.label) owners → owner_of label owners ≡ None → slot_of label xs ≡ None
unindexed label [] owners same none = refl
unindexed label (x ∷ xs) [] same none = absurd (cc (same))
unindexed label (x ∷ xs) (o ∷ owners) same none =
    let head : x.label ≡ o.label = cc (same) in
    let tail : map (λ (o : OwnedLabel). o.label) xs ≡ map (λ (o : Owner). o.label) owners = cc (same) in
    elim (cases_Bool (owns label o)) [
      | inl here ↦ absurd (something {X = SegKey × ℕ} (o.key, o.side) (rw here at none))
      | inr other ↦
          (let away : has_label label x ≡ false = subst (λ (n : ℕ). (n == label) ≡ false) (sym head) other in
          rw away (unindexed label xs owners tail (rw other at none)))
    ]

pub index_issued : (own_list : List (Option ℕ)) (labels : LabelNumbers) (index : OwnedList) (slot label : ℕ) (key : SegKey) (side : ℕ) (peer : EdgeId) → IsOwnerIndex own_list labels index
    → AllByRecursion (Differ (Some label)) own_list → slot_of label index.labels ≡ None → slot < length own_list → get_or own_list slot None ≡ None
    → IsOwnerIndex (set own_list slot (Some label)) (given_to key side peer (Some label) labels) (with_owned_label label slot index)
index_issued own_list labels index slot label key side peer is differ unowned within at = record {
  room = is.room;
  same =
      numbers_put label_in (record { label = label; slot = slot }) index.labels
      ∙ (ap (put_by (λ (n : ℕ). n) label) is.same ∙ sym (numbers_put owned_label (record { label = label; key = key; side = side; peer = peer }) labels.owners));
  slot = λ other. slot_put label slot index.labels unowned other ∙ by other (label == other) refl;
}
  where
    by : (other : ℕ) (b : Bool) → (label == other) ≡ b → cond b (Some slot) (slot_of other index.labels) ≡ position (is_label other) (set own_list slot (Some label))
    by other true here =
        let one : label ≡ other = eqb-true label other here in
        subst (λ (n : ℕ). Some slot ≡ position (is_label n) (set own_list slot (Some label))) one (sym (position_put label own_list slot differ within))
    by other false away = is.slot other ∙ sym (position_set other own_list slot (Some label) within (away ∙ sym (ap (is_label other) at)))

-- ---- a label is freed

index_freed : (own_list : List (Option ℕ)) (labels : LabelNumbers) (index : OwnedList) (slot label : ℕ) → IsOwnerIndex own_list labels index → OwnApart own_list
    → IsOwned labels.owners (Some label) → slot < length own_list → get_or own_list slot None ≡ Some label → IsOwnerIndex (set own_list slot None) (freed label labels) (without_owned label index)
index_freed own_list labels index slot label is apart owned within at = of_found (find (owns label) labels.owners) refl where
  same_left : map (λ o. o.label) (filter (λ o. not (has_label label o)) index.labels) ≡ map (λ o. o.label) (filter (λ o. not (owns label o)) labels.owners)
  same_left =
      numbers_left label_in (λ n. not (n == label)) index.labels
      ∙ (ap (λ (l : List ℕ). filter (λ n. not (n == label)) l) is.same ∙ sym (numbers_left owned_label (λ n. not (n == label)) labels.owners))

  by : (other : ℕ) → ((label == other) ≡ true) ⊎ ((label == other) ≡ false) → slot_of other (filter (λ o. not (has_label label o)) index.labels) ≡ position (is_label other) (set own_list slot None)
  by other (inl here) =
      let one : label ≡ other = eqb-true label other here in
      subst (λ (n : ℕ). slot_of n (filter (λ o. not (has_label label o)) index.labels) ≡ position (is_label n) (set own_list slot None)) one
      (ap (option_map (λ (o : OwnedLabel). o.slot)) (find_left label_in label index.labels) ∙ sym (position_left label own_list slot apart within at))
  by other (inr differ) =
      ap (option_map (λ (o : OwnedLabel). o.slot)) (find_left_other label_in label other index.labels differ)
      ∙ (is.slot other ∙ sym (position_set other own_list slot None within (sym (ap (is_label other) at ∙ differ))))

  of_found : (r : Option Owner) → find (owns label) labels.owners ≡ r → IsOwnerIndex (set own_list slot None) (freed_of label r labels) (without_owned label index)
  of_found None none = absurd (owned (owner_of-find label labels.owners ∙ ap (option_map (λ o. (o.key, o.side))) none))
  of_found (Some owner) found = record { room = is.room; same = same_left; slot = λ other. by other (cases_Bool (label == other)) }

-- after a change each label that is left has its slot
pub index_changed : (own_list : List (Option ℕ)) (labels : LabelNumbers) (index : OwnedList) (slot : ℕ) (before after : Option ℕ) → IsOwnerIndex own_list labels index → OwnApart own_list
    → IsOwned labels.owners before → slot < length own_list → get_or own_list slot None ≡ before → (after ≡ before) ⊎ (after ≡ None)
    → IsOwnerIndex (set own_list slot after) (freed_one (left_label before after) labels) (without_owned_one (left_label before after) index)
index_changed own_list labels index slot None None is apart owned within at either = rw (set_same own_list slot None None within (sym at)) is
index_changed own_list labels index slot None (Some label) is apart owned within at (inl same) = absurd (something {X = ℕ} label same)
index_changed own_list labels index slot None (Some label) is apart owned within at (inr none) = absurd (something {X = ℕ} label none)
index_changed own_list labels index slot (Some label) None is apart owned within at either = index_freed own_list labels index slot label is apart owned within at
index_changed own_list labels index slot (Some label) (Some other) is apart owned within at (inl same) = rw (set_same own_list slot None (Some other) within (same ∙ sym at)) is
index_changed own_list labels index slot (Some label) (Some other) is apart owned within at (inr none) = absurd (something {X = ℕ} other none)

-- ---- what the index says

length_map : {X : Type 0} (f : X → ℕ) (xs : List X) → length (map f xs) ≡ length xs
length_map f [] = refl
length_map f (x ∷ xs) = ap suc (length_map f xs)

-- there are as many of them
pub index_count : (own_list : List (Option ℕ)) (labels : LabelNumbers) (index : OwnedList) → IsOwnerIndex own_list labels index → length index.labels ≡ length labels.owners
index_count own_list labels index is = sym (length_map (λ (o : OwnedLabel). o.label) index.labels) ∙ (ap (λ (l : List ℕ). length l) is.same ∙ length_map (λ (o : Owner). o.label) labels.owners)

number_own : (label : ℕ) (ends : List EndState) → position_or_len (is_label label) (map own_of ends) ≡ position_or_len (owns_label label) ends
number_own label [] = refl
number_own label (e ∷ es) = ap (λ (n : ℕ). cond (not (owns_label label e)) (1 + n) 0) (number_own label es)

pub count_own : (ends : List EndState) → length (map own_of ends) ≡ length ends
count_own [] = refl
count_own (e ∷ es) = ap suc (count_own es)

-- the end of the slot is the first one that owns the label
pub owner_found : (label : ℕ) (ends : List EndState) (labels : LabelNumbers) (index : OwnedList) → IsOwnerIndex (map own_of ends) labels index → slot_of label index.labels
    ≡ position (owns_label label) ends
owner_found label ends labels index is = is.slot label ∙ rw (number_own label ends, count_own ends) refl

-- it is one of the slots
pub owner_within : (label : ℕ) (places : List EndPlace) (ends : List EndState) (found : Option ℕ) → length ends ≡ length places → found ≡ position (owns_label label) ends
    → IfSome found (λ slot. slot < length places)
owner_within label places ends None count is = tt
owner_within label places ends (Some slot) count is = omega (arith, count, (position-Some (owns_label label) ends slot fresh (sym is)).0)
