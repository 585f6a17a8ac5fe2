-- The slots and their map, before and after the calls.
use Rattle.std.proofs.Common.{◌≡◌, ◌≢◌, ◌<◌, ◌++◌, ◌∙◌, ◌⊎◌, ℕ, Bool, true, false, not, nat_eq, List, [], ◌∷◌, Option, Some, None, length, take, get_or, suc, zero, cond, refl, ap, sym, subst, inl, inr, arith, true≢false}
use Rattle.std.specs.Prelude.{filter, IsSome, nat_lt, slice_index_or}
use Rattle.std.specs.List.{find}
use Rattle.std.specs.Map.{lookup}
use Rattle.std.specs.Option.{option_and_then}
use Rattle.std.proofs.lemmas.Bool.{cases_Bool, eqb-true, cond-false, cond-true}
use Rattle.std.proofs.lemmas.Option.{same_Some}
use Rattle.net_values.proofs.NumberLemmas.{same_number, equal_turned, equal_to_one}
use Rattle.net_values.proofs.OptionLemmas.{something}
use Rattle.indexmap.specs.IndexMap as map
use Rattle.slab.specs.Slab as slab
use Rattle.label_space.specs.declared.owner.Owner.{Owner}
use Rattle.label_space.specs.Kept.{put_by}
use Rattle.label_space.specs.Labels.{AreDistinctLabels, owned_label, owner_of, owns}
use Rattle.label_space.specs.Slots.{AreSlotsOf, AreLabelSlots, IsLabelIndex}

-- what a search finds is of the label
found_label : (label : ℕ) (xs : List Owner) (o : Owner) → find (owns label) xs ≡ Some o → o.label ≡ label
found_label label [] o found = absurd (something o (sym found))
found_label label (x ∷ xs) o found = elim (cases_Bool (owns label x)) [
  | inl here ↦
      (let one : Some x ≡ Some o = rw here at found in
      sym (ap (λ (y : Owner). y.label) (same_Some x o one)) ∙ eqb-true x.label label here)
  | inr there ↦ found_label label xs o (rw there at found)
]

find-pushed : (label : ℕ) (xs : List Owner) (o : Owner) → find (owns label) xs ≡ None → find (owns label) (xs ++ o ∷ []) ≡ cond (owns label o) (Some o) None
find-pushed label [] o none = refl
find-pushed label (x ∷ xs) o none = elim (cases_Bool (owns label x)) [
  | inl here ↦ absurd (something x (rw here at none))
  | inr there ↦ rw there (find-pushed label xs o (rw there at none))
]

find-pushed_other : (label : ℕ) (xs : List Owner) (o : Owner) → owns label o ≡ false → find (owns label) (xs ++ o ∷ []) ≡ find (owns label) xs
find-pushed_other label [] o other = rw other refl
find-pushed_other label (x ∷ xs) o other = ap (λ (r : Option Owner). cond (owns label x) (Some x) r) (find-pushed_other label xs o other)

find-left : (label : ℕ) (xs : List Owner) → find (owns label) (filter (λ o. not (owns label o)) xs) ≡ None
find-left label [] = refl
find-left label (x ∷ xs) = elim (cases_Bool (owns label x)) [
  | inl here ↦ rw here (find-left label xs)
  | inr there ↦ rw (there, there) (find-left label xs)
]

find-left_other : (label other : ℕ) (xs : List Owner) → other ≢ label → find (owns other) (filter (λ o. not (owns label o)) xs) ≡ find (owns other) xs
find-left_other label other [] differ = refl
find-left_other label other (x ∷ xs) differ = elim (cases_Bool (owns label x)) [
  | inl here ↦
      (let unlike : owns other x ≡ false = elim (cases_Bool (owns other x)) [
        | inl found ↦ absurd (differ (sym (eqb-true x.label other found) ∙ eqb-true x.label label here))
        | inr absent ↦ absent
      ] in
      rw (here, unlike) (find-left_other label other xs differ))
  | inr there ↦ rw there (ap (λ (r : Option Owner). cond (owns other x) (Some x) r) (find-left_other label other xs differ))
]

pub none_found : (label : ℕ) (xs : List Owner) → owner_of label xs ≡ None → find (owns label) xs ≡ None
none_found label [] none = refl
none_found label (x ∷ xs) none = elim (cases_Bool (owns label x)) [
  | inl here ↦ absurd (something (x.key, x.side) (rw here at none))
  | inr there ↦ rw there (none_found label xs (rw there at none))
]

-- ---- owners are put in anew

unlike_at : (xs : List Owner) (i label : ℕ) (x : Owner) → owner_of label xs ≡ None → i < length xs → x ≡ get_or xs i x → nat_eq label x.label ≡ false
unlike_at [] i label x none within is = absurd (omega (arith, within))
unlike_at (y ∷ ys) zero label x none within is = elim (cases_Bool (owns label y)) [
  | inl here ↦ absurd (something (y.key, y.side) (rw here at none))
  | inr other ↦ subst (λ (o : Owner). nat_eq label o.label ≡ false) (sym is) (equal_turned label y.label ∙ other)
]
unlike_at (y ∷ ys) (suc i) label x none within is = elim (cases_Bool (owns label y)) [
  | inl here ↦ absurd (something (y.key, y.side) (rw here at none))
  | inr other ↦ unlike_at ys i label x (rw other at none) (omega (arith, within)) is
]

-- no owner before has the label
pub absent_before : (xs : List Owner) (i : ℕ) (x : Owner) → AreDistinctLabels xs → i < length xs → x ≡ get_or xs i x → owner_of x.label (take i xs) ≡ None
absent_before [] i x distinct within is = absurd (omega (arith, within))
absent_before (y ∷ ys) zero x distinct within is = refl
absent_before (y ∷ ys) (suc i) x distinct within is =
    let less : i < length ys = omega (arith, within) in
    let other : nat_eq y.label x.label ≡ false = unlike_at ys i y.label x distinct.0 less is in
    rw other (absent_before ys i x distinct.1 less is)

module _ {S : Type 0} where
  -- the slots are those of the owners
  pub slots_are : (s : slab.Slab Owner) (m : map.IndexMap ℕ ℕ S) (xs : List Owner) → AreLabelSlots s m xs → AreSlotsOf s xs
  slots_are s m xs step = record {
    owned = λ slot owner at. sym (step.finds owner.label) ∙ ap (option_and_then (slab.get s)) (step.back slot owner at) ∙ at;
    kept = λ label owner found. by label owner (map.get nat_eq m label) refl (step.finds label ∙ found);
    once = λ slot other owner at too. same_Some slot other (sym (step.back slot owner at) ∙ step.back other owner too);
  }
    where
      by : (label : ℕ) (owner : Owner) (r : Option ℕ) → map.get nat_eq m label ≡ r → option_and_then (slab.get s) (map.get nat_eq m label) ≡ Some owner → (slot : ℕ) × (slab.get s slot ≡ Some owner)
      by label owner None is found = absurd (something owner (sym found ∙ ap (option_and_then (slab.get s)) is))
      by label owner (Some slot) is found = (slot, sym (ap (option_and_then (slab.get s)) is) ∙ found)

  -- one more owner
  pub step_added : (s t : slab.Slab Owner) (m n : map.IndexMap ℕ ℕ S) (xs : List Owner) (o : Owner) (slot : ℕ) → AreLabelSlots s m xs → owner_of o.label xs ≡ None → slab.get s slot
      ≡ None → slab.Updates s t slot (Some o) → map.Updates nat_eq m n o.label (Some slot) → AreLabelSlots t n (xs ++ o ∷ [])
  step_added s t m n xs o slot step absent vacant put mapped = record { finds = finds; filled = filled; back = back }
    where
      -- a label that has a slot has another one
      apart : (label other : ℕ) → map.get nat_eq m label ≡ Some other → other ≢ slot
      apart label other at is = absurd (empty (subst (λ (k : ℕ). IsSome (slab.get s k)) is (step.filled label other at)) vacant)
        where
          empty : {r : Option Owner} → IsSome r → r ≡ None → ⊥
          empty {r} some none = true≢false (sym (subst IsSome none some))

      finds : (label : ℕ) → option_and_then (slab.get t) (map.get nat_eq n label) ≡ find (owns label) (xs ++ o ∷ [])
      finds label = elim (cases_Bool (nat_eq o.label label)) [
        | inl here ↦
            (let is : o.label ≡ label = eqb-true o.label label here in
            ap (option_and_then (slab.get t)) (mapped.0 label ∙ cond-true _ _ _ here) ∙ put.changed
            ∙ sym (find-pushed label xs o (none_found label xs (subst (λ (k : ℕ). owner_of k xs ≡ None) is absent)) ∙ cond-true _ _ _ here))
        | inr other ↦
            ap (option_and_then (slab.get t)) (mapped.0 label ∙ cond-false _ _ _ other)
            ∙ by label (map.get nat_eq m label) refl
            ∙ step.finds label ∙ sym (find-pushed_other label xs o other)
      ]
        where
          by : (label : ℕ) (r : Option ℕ) → map.get nat_eq m label ≡ r → option_and_then (slab.get t) (map.get nat_eq m label) ≡ option_and_then (slab.get s) (map.get nat_eq m label)
          by label None is = rw is refl
          by label (Some other) is = rw is (put.others other (apart label other is))

      filled : (label other : ℕ) → map.get nat_eq n label ≡ Some other → IsSome (slab.get t other)
      filled label other at = elim (cases_Bool (nat_eq o.label label)) [
        | inl here ↦
            (let is : slot ≡ other = same_Some slot other (sym (mapped.0 label ∙ cond-true _ _ _ here) ∙ at) in
            subst (λ (k : ℕ). IsSome (slab.get t k)) is (subst IsSome (sym put.changed) refl))
        | inr past ↦
            (let was : map.get nat_eq m label ≡ Some other = sym (mapped.0 label ∙ cond-false _ _ _ past) ∙ at in
            subst IsSome (sym (put.others other (apart label other was))) (step.filled label other was))
      ]

      back : (k : ℕ) (x : Owner) → slab.get t k ≡ Some x → map.get nat_eq n x.label ≡ Some k
      back k x at = elim (cases_Bool (nat_eq k slot)) [
        | inl here ↦
            (let is : k ≡ slot = eqb-true k slot here in
            let one : o ≡ x = same_Some o x (sym (subst (λ (j : ℕ). slab.get t j ≡ Some o) (sym is) put.changed) ∙ at) in
            subst (λ (y : Owner). map.get nat_eq n y.label ≡ Some k) one (mapped.0 o.label ∙ cond-true _ _ _ (same_number o.label) ∙ ap Some (sym is)))
        | inr other ↦
            (let differ : k ≢ slot = (λ is. true≢false (sym (subst (λ (j : ℕ). nat_eq k j ≡ true) is (same_number k)) ∙ other)) in
            let was : slab.get s k ≡ Some x = sym (put.others k differ) ∙ at in
            let old : map.get nat_eq m x.label ≡ Some k = step.back k x was in
            elim (cases_Bool (nat_eq o.label x.label)) [
              | inl clash ↦
                  (let is : o.label ≡ x.label = eqb-true o.label x.label clash in
                  let none : find (owns x.label) xs ≡ None = none_found x.label xs (subst (λ (j : ℕ). owner_of j xs ≡ None) is absent) in
                  absurd (something x (sym was ∙ sym (ap (option_and_then (slab.get s)) old) ∙ step.finds x.label ∙ none)))
              | inr unlike ↦ mapped.0 x.label ∙ cond-false _ _ _ unlike ∙ old
            ])
      ]

  -- one owner less
  pub step_taken : (s t : slab.Slab Owner) (m n : map.IndexMap ℕ ℕ S) (xs : List Owner) (label slot : ℕ) → AreLabelSlots s m xs → map.get nat_eq m label ≡ Some slot
      → slab.Updates s t slot None → map.Updates nat_eq m n label None → AreLabelSlots t n (filter (λ o. not (owns label o)) xs)
  step_taken s t m n xs label slot step at took unmapped = record { finds = finds; filled = filled; back = back }
    where
      -- two labels have two slots
      value_at : (j k : ℕ) → map.get nat_eq m j ≡ Some k → (x : Owner) × (slab.get s k ≡ Some x) × (x.label ≡ j)
      value_at j k is = by (slab.get s k) refl (step.filled j k is)
        where
          by : (r : Option Owner) → slab.get s k ≡ r → IsSome r → (x : Owner) × (slab.get s k ≡ Some x) × (x.label ≡ j)
          by None e some = absurd (true≢false (sym some))
          by (Some x) e some = (x, e, found_label j xs x (sym (step.finds j) ∙ ap (option_and_then (slab.get s)) is ∙ e))

      apart : (j k : ℕ) → j ≢ label → map.get nat_eq m j ≡ Some k → k ≢ slot
      apart j k differ is equal =
          let a = value_at j k is in
          let b = value_at label slot at in
          differ (sym a.2 ∙ ap (λ (y : Owner). y.label) (same_Some a.0 b.0 (sym a.1 ∙ ap (slab.get s) equal ∙ b.1)) ∙ b.2)

      unlike : (j : ℕ) → nat_eq label j ≡ false → j ≢ label
      unlike j other is = true≢false (sym (subst (λ (k : ℕ). nat_eq label k ≡ true) (sym is) (same_number label)) ∙ other)

      finds : (j : ℕ) → option_and_then (slab.get t) (map.get nat_eq n j) ≡ find (owns j) (filter (λ o. not (owns label o)) xs)
      finds j = elim (cases_Bool (nat_eq label j)) [
        | inl here ↦
            (let is : label ≡ j = eqb-true label j here in
            ap (option_and_then (slab.get t)) (unmapped.0 j ∙ cond-true _ _ _ here) ∙ sym (subst (λ (k : ℕ). find (owns k) (filter (λ o. not (owns label o)) xs) ≡ None) is (find-left label xs)))
        | inr other ↦
            ap (option_and_then (slab.get t)) (unmapped.0 j ∙ cond-false _ _ _ other)
            ∙ by j (map.get nat_eq m j) refl (unlike j other)
            ∙ step.finds j ∙ sym (find-left_other label j xs (unlike j other))
      ]
        where
          by : (j : ℕ) (r : Option ℕ) → map.get nat_eq m j ≡ r → j ≢ label → option_and_then (slab.get t) (map.get nat_eq m j) ≡ option_and_then (slab.get s) (map.get nat_eq m j)
          by j None is differ = rw is refl
          by j (Some k) is differ = rw is (took.others k (apart j k differ is))

      filled : (j k : ℕ) → map.get nat_eq n j ≡ Some k → IsSome (slab.get t k)
      filled j k is = elim (cases_Bool (nat_eq label j)) [
        | inl here ↦ absurd (something k (sym is ∙ unmapped.0 j ∙ cond-true _ _ _ here))
        | inr other ↦
            (let was : map.get nat_eq m j ≡ Some k = sym (unmapped.0 j ∙ cond-false _ _ _ other) ∙ is in
            subst IsSome (sym (took.others k (apart j k (unlike j other) was))) (step.filled j k was))
      ]

      back : (k : ℕ) (x : Owner) → slab.get t k ≡ Some x → map.get nat_eq n x.label ≡ Some k
      back k x is = elim (cases_Bool (nat_eq k slot)) [
        | inl here ↦ absurd (something x (sym is ∙ subst (λ (j : ℕ). slab.get t j ≡ None) (sym (eqb-true k slot here)) took.changed))
        | inr other ↦
            (let differ : k ≢ slot = (λ eq. true≢false (sym (subst (λ (j : ℕ). nat_eq k j ≡ true) eq (same_number k)) ∙ other)) in
            let was : slab.get s k ≡ Some x = sym (took.others k differ) ∙ is in
            let old : map.get nat_eq m x.label ≡ Some k = step.back k x was in
            elim (cases_Bool (nat_eq label x.label)) [
              | inl clash ↦ absurd (differ (same_Some k slot (sym old ∙ sym (ap (map.get nat_eq m) (eqb-true label x.label clash)) ∙ at)))
              | inr differs ↦ unmapped.0 x.label ∙ cond-false _ _ _ differs ∙ old
            ])
      ]

  -- no owner of the label
  pub step_stays : (s : slab.Slab Owner) (m n : map.IndexMap ℕ ℕ S) (xs : List Owner) (label : ℕ) → AreLabelSlots s m xs → map.get nat_eq m label ≡ None → map.IsUnchanged m n
      → AreLabelSlots s n (filter (λ o. not (owns label o)) xs)
  step_stays s m n xs label step at unchanged = record {
    finds = finds;
    filled = λ j k is. step.filled j k (sym (gets j) ∙ is);
    back = λ k x is. gets x.label ∙ step.back k x is;
  }
    where
      gets : (j : ℕ) → map.get nat_eq n j ≡ map.get nat_eq m j
      gets j = ap (λ (es : List (ℕ × ℕ)). lookup (nat_eq j) es) unchanged

      finds : (j : ℕ) → option_and_then (slab.get s) (map.get nat_eq n j) ≡ find (owns j) (filter (λ o. not (owns label o)) xs)
      finds j = elim (cases_Bool (nat_eq label j)) [
        | inl here ↦
            (let is : label ≡ j = eqb-true label j here in
            ap (option_and_then (slab.get s)) (gets j ∙ sym (ap (map.get nat_eq m) is) ∙ at)
            ∙ sym (subst (λ (k : ℕ). find (owns k) (filter (λ o. not (owns label o)) xs) ≡ None) is (find-left label xs)))
        | inr other ↦
            ap (option_and_then (slab.get s)) (gets j) ∙ step.finds j
            ∙ sym (find-left_other label j xs (λ is. true≢false (sym (subst (λ (k : ℕ). nat_eq label k ≡ true) (sym is) (same_number label)) ∙ other)))
      ]

  -- nothing is owned
  pub step_none : (s : slab.Slab Owner) (m : map.IndexMap ℕ ℕ S) → s.slots ≡ [] → m.entries ≡ [] → AreLabelSlots s m []
  step_none s m no_slots no_entries = record {
    finds = λ j. ap (option_and_then (slab.get s)) (ap (λ (es : List (ℕ × ℕ)). lookup (nat_eq j) es) no_entries);
    filled = λ j k is. absurd (something k (sym is ∙ ap (λ (es : List (ℕ × ℕ)). lookup (nat_eq j) es) no_entries));
    back = λ k x is. absurd (something x (sym is ∙ ap (λ (l : List (Option Owner)). slice_index_or l k None) no_slots));
  }

  -- what stands in the slots
  pub asked_slots : (asked : Bool) (s : slab.Slab Owner) (m : map.IndexMap ℕ ℕ S) (xs : List Owner) → IsLabelIndex asked s m xs → AreSlotsOf s xs ⊎ (s.slots ≡ [])
  asked_slots true s m xs step = inl (slots_are s m xs step)
  asked_slots false s m xs empty = inr empty

-- one more owner, at its place or at the end
find-put : (label : ℕ) (xs : List Owner) (o : Owner) → find (owns o.label) xs ≡ None → find (owns label) (put_by owned_label o xs) ≡ cond (owns label o) (Some o) (find (owns label) xs)
find-put label [] o none = refl
find-put label (x ∷ xs) o none = elim (cases_Bool (owns o.label x)) [
  | inl here ↦ absurd (something x (rw here at none))
  | inr other ↦
      elim (nat_lt x.label o.label) as (λ v. find (owns label) (cond v (x ∷ put_by owned_label o xs) (o ∷ x ∷ xs)) ≡ cond (owns label o) (Some o) (find (owns label) (x ∷ xs))) [
        | true ↦ by (owns label x) refl other (find-put label xs o (rw other at none))
        | false ↦ refl
      ]
]
  where
    by : (b : Bool) → owns label x ≡ b → owns o.label x ≡ false → find (owns label) (put_by owned_label o xs) ≡ cond (owns label o) (Some o) (find (owns label) xs)
        → cond b (Some x) (find (owns label) (put_by owned_label o xs)) ≡ cond (owns label o) (Some o) (cond b (Some x) (find (owns label) xs))
    by true is other rest = elim (cases_Bool (owns label o)) [
      | inl clash ↦ equal_to_one x.label o.label label is clash other
      | inr unlike ↦ rw unlike refl
    ]
    by false is other rest = rest

find-end : (label : ℕ) (xs : List Owner) (o : Owner) → find (owns o.label) xs ≡ None → find (owns label) (xs ++ o ∷ []) ≡ cond (owns label o) (Some o) (find (owns label) xs)
find-end label xs o none = elim (cases_Bool (owns label o)) [
  | inl here ↦
      (let same_label : o.label ≡ label = eqb-true o.label label here in
      find-pushed label xs o (subst (λ (l : ℕ). find (owns l) xs ≡ None) same_label none) ∙ cond-true (owns label o) (Some o) None here
      ∙ sym (cond-true (owns label o) (Some o) (find (owns label) xs) here))
  | inr other ↦ find-pushed_other label xs o other ∙ sym (cond-false (owns label o) (Some o) (find (owns label) xs) other)
]

module _ {S : Type 0} where
  step_same : (s : slab.Slab Owner) (m : map.IndexMap ℕ ℕ S) (xs ys : List Owner) → ((label : ℕ) → find (owns label) xs ≡ find (owns label) ys) → AreLabelSlots s m xs → AreLabelSlots s m ys
  step_same s m xs ys same_finds step = record { finds = λ label. step.finds label ∙ same_finds label; filled = step.filled; back = step.back }

  index_same : (asked : Bool) (s : slab.Slab Owner) (m : map.IndexMap ℕ ℕ S) (xs ys : List Owner) → ((label : ℕ) → find (owns label) xs ≡ find (owns label) ys)
      → IsLabelIndex asked s m xs → IsLabelIndex asked s m ys
  index_same true s m xs ys same_finds index = step_same s m xs ys same_finds index
  index_same false s m xs ys same_finds index = index

  -- an owner stands at its place
  pub index_put : (asked : Bool) (s : slab.Slab Owner) (m : map.IndexMap ℕ ℕ S) (xs : List Owner) (o : Owner) → owner_of o.label xs ≡ None → IsLabelIndex asked s m (xs ++ o ∷ [])
      → IsLabelIndex asked s m (put_by owned_label o xs)
  index_put asked s m xs o none index = index_same asked s m (xs ++ o ∷ []) (put_by owned_label o xs) (λ label. find-end label xs o absent ∙ sym (find-put label xs o absent)) index where
    absent : find (owns o.label) xs ≡ None
    absent = none_found o.label xs none
