-- The labels that are owned rise: so each is found by halves, and one more stands at its place.
use Rattle.std.proofs.Common.{◌≡◌, ◌<◌, ◌≤◌, ◌+◌, ◌==◌, ℕ, Bool, true, false, List, [], ◌∷◌, None, length, filter, slice_get, arith, inl, inr}
use Rattle.std.specs.List.{All, AllByRecursion, AllPairs, find}
use Rattle.std.specs.List.Sorted.{IsPartitionedBy, IsPartitionPoint}
use Rattle.std.proofs.lemmas.Bool.{cases_Bool}
use Rattle.std.proofs.lemmas.Bool.Decides.{nat_tests}
use Rattle.std.proofs.lemmas.List.Elements.{All-cons, All-nil}
use Rattle.std.proofs.lemmas.List.Kept.{AllPairs-cons}
use Rattle.net_values.proofs.OptionLemmas.{something}
use Rattle.hvpls_spokes.specs.Search.{kept_if}
use Rattle.hvpls_spokes.proofs.SearchLemmas.{first_behind}
use Rattle.label_space.specs.Kept.{AreRisingBy, put_by}
use Rattle.label_space.proofs.OrderLemmas.{long_filtered, long_put, rising_filtered, rising_put}
use Rattle.pw_ends.specs.declared.owned_labels.OwnedLabel.{OwnedLabel}
use Rattle.pw_ends.specs.Owned.{AreRising, IsOwnedList, has_label, is_earlier, label_in, slot_of}

abbrev Rises : OwnedLabel → OwnedLabel → Type 0
Rises first second = first.label < second.label

above_all : (low from : ℕ) (xs : List OwnedLabel) → low < from → AreRisingBy label_in from xs → All (λ o. low < o.label) xs
above_all low from [] less rising = All-nil (λ (o : OwnedLabel). low < o.label)
above_all low from (x ∷ xs) less rising = All-cons (λ (o : OwnedLabel). low < o.label) x xs (omega (arith, less, rising.0)) (above_all low (x.label + 1) xs (omega (arith, less, rising.0)) rising.1)

-- each is below those after it
rising_pairs : (from : ℕ) (xs : List OwnedLabel) → AreRisingBy label_in from xs → AllPairs Rises xs
rising_pairs from [] rising = λ i j d below within. absurd (omega (arith, within))
rising_pairs from (x ∷ xs) rising = AllPairs-cons Rises x xs (above_all x.label (x.label + 1) xs (omega arith) rising.1) (rising_pairs (x.label + 1) xs rising.1)

-- a label that no end owns is not among them
pub unlike_all : (label : ℕ) (xs : List OwnedLabel) → slot_of label xs ≡ None → AllByRecursion (λ o. (o.label == label) ≡ false) xs
unlike_all label [] none = tt
unlike_all label (x ∷ xs) none = elim (cases_Bool (has_label label x)) [
  | inl here ↦ absurd (something x.slot (rw here at none))
  | inr other ↦ (other, unlike_all label xs (rw other at none))
]

-- one more stands at its place
pub held_put : (new : OwnedLabel) (room reserved now : ℕ) (xs ys : List OwnedLabel) → IsOwnedList room reserved xs → length xs < room → slot_of new.label xs ≡ None → ys
    ≡ put_by label_in new xs → now ≡ reserved → IsOwnedList room now ys
held_put new room reserved now xs ys held more none is equal = rw (is, equal) (record {
  within = omega (arith, more, long_put label_in new xs);
  has_room = held.has_room;
  rise = rising_put label_in new 0 xs (unlike_all new.label xs none) (omega arith) held.rise;
})

-- what is left rises
pub held_filtered : (p : OwnedLabel → Bool) (room reserved now : ℕ) (xs ys : List OwnedLabel) → IsOwnedList room reserved xs → ys ≡ filter p xs → now ≡ reserved → IsOwnedList room now ys
held_filtered p room reserved now xs ys held is equal = rw (is, equal) (record {
  within = omega (arith, held.within, long_filtered label_in p xs);
  has_room = held.has_room;
  rise = rising_filtered label_in p 0 xs held.rise;
})

-- where the smaller labels end, a label stands, if it is there
pub label_behind : (number : ℕ) (labels : List OwnedLabel) (k : ℕ) → AreRising labels → k ≤ length labels
    → (IsPartitionedBy (is_earlier number) labels → IsPartitionPoint (λ x. is_earlier number x ≡ true) (λ x. is_earlier number x ≡ false) labels k)
    → find (has_label number) labels ≡ kept_if (has_label number) (slice_get labels k)
label_behind number labels k rise bound ends =
    (first_behind Rises (is_earlier number) (has_label number) labels k (rising_pairs 0 labels rise) earlier not_earlier same bound ends).found
  where
    earlier : (x y : OwnedLabel) → x.label < y.label → is_earlier number y ≡ true → is_earlier number x ≡ true
    earlier x y below under = grind (arith, nat_tests, below, under)

    not_earlier : (x : OwnedLabel) → has_label number x ≡ true → is_earlier number x ≡ false
    not_earlier x here = grind (arith, nat_tests, here)

    same : (x y : OwnedLabel) → x.label < y.label → has_label number y ≡ true → is_earlier number x ≡ false → has_label number x ≡ true
    same x y below here behind = grind (arith, nat_tests, below, here, behind)
