-- What always holds of a label space, before and after the calls.
use Rattle.std.proofs.Common.{◌≡◌, ◌≢◌, ◌<◌, ◌≤◌, ◌+◌, ◌∙◌, ◌==◌, ℕ, false, not, List, [], ◌∷◌, Option, Some, None, length, drop, get_or, refl, ap, sym, subst, inl, inr, arith}
use Rattle.std.specs.Prelude.{IfSome, filter, option_map}
use Rattle.std.specs.List.{find}
use Rattle.std.proofs.lemmas.Bool.{cases_Bool, eqb-true}
use Rattle.std.proofs.lemmas.Bool.Decides.{nat_tests}
use Rattle.std.proofs.lemmas.List.Elements.{All-head, All-tail}
use Rattle.net_values.proofs.NumberLemmas.{same_number, below_apart}
use Rattle.net_values.proofs.OptionLemmas.{something}
use Rattle.net_values.proofs.RowLemmas.{drop_next}
use Rattle.net_base.specs.declared.plan.places.EdgeId.{EdgeId}
use Rattle.net_base.specs.declared.plan.places.SegKey.{SegKey}
use Rattle.label_space.specs.declared.kept.Kept.{Kept}
use Rattle.label_space.specs.declared.kept.KeptState.TheVariants.{Free}
use Rattle.label_space.specs.declared.owner.Owner.{Owner}
use Rattle.label_space.specs.Kept.{kept_at, keeps, met, put_by, ticked, without, without_one}
use Rattle.label_space.specs.Labels.{LabelNumbers, AreBelow, AreDistinctLabels, AreLeft, AreUnkept, IsHeldSpace, freed, freed_of, given_to, issued, keeps_each, number_to_give, numbers_end, owned_label, owner_of, owns, with_number_taken}
use Rattle.label_space.proofs.KeptLemmas.{kept_without}
use Rattle.label_space.proofs.LabelLemmas.{apart_owners, below_filtered, below_later, below_none, below_put, distinct_filtered, distinct_put, left_at, left_each, left_filtered, left_kept, left_later, left_met, left_none, left_owned, left_ticked, left_without, owner_of-find, owner_of-freed, owner_of-kept, owner_of-put, unkept_more, unkept_owned, without_next}
use Rattle.label_space.proofs.OrderLemmas.{long_filtered, long_put, rising_filtered, rising_put}

-- what is found owns the label
pub found_owns : (label : ℕ) (owners : List Owner) (owner : Owner) → find (owns label) owners ≡ Some owner → owner_of label owners ≢ None
found_owns label owners owner found none = something (owner.key, owner.side) (sym (owner_of-find label owners ∙ ap (option_map (λ o. (o.key, o.side))) found) ∙ none)

pub found_below : (label number : ℕ) (owners : List Owner) (owner : Owner) → AreBelow number owners → find (owns label) owners ≡ Some owner → label < number
found_below label number [] owner below found = absurd (something owner (sym found))
found_below label number (o ∷ os) owner below found = elim (cases_Bool (owns label o)) [
  | inl here ↦ subst (λ (l : ℕ). l < number) (eqb-true o.label label here) (All-head (λ x. x.label < number) o os below)
  | inr other ↦ found_below label number os owner (All-tail (λ x. x.label < number) o os below) (rw other at found)
]

-- ---- one more owner

pub held_owned : (owner : Owner) (next room reserved now : ℕ) (xs ys : List Owner) (kept : List Kept) → IsHeldSpace next room reserved xs kept → length xs < room → owner_of owner.label xs ≡ None
    → kept_at owner.label kept ≡ None → owner.label < next → ys ≡ put_by owned_label owner xs → now ≡ reserved → IsHeldSpace next room now ys kept
held_owned owner next room reserved now xs ys kept held more none unkept below is same_room = rw (is, same_room) (record {
  above = held.above;
  below = held.below;
  within = omega (arith, more, long_put owned_label owner xs);
  has_room = held.has_room;
  given = below_put next owner xs below held.given;
  distinct = distinct_put owner xs none held.distinct;
  rising = rising_put owned_label owner 0 xs (apart_owners owner.label xs none) (omega arith) held.rising;
  left = left_owned next owner xs kept none unkept held.left;
})

pub owner_put : (owner : Owner) (xs ys : List Owner) → owner_of owner.label xs ≡ None → ys ≡ put_by owned_label owner xs → owner_of owner.label ys ≡ Some (owner.key, owner.side)
owner_put owner xs ys none is = ap (owner_of owner.label) is ∙ owner_of-put owner xs none owner.label ∙ rw (same_number owner.label) refl

-- ---- a number is taken

-- what is taken of the kept ones is free
pub taken_owner : (next room reserved : ℕ) (owners : List Owner) (kept : List Kept) (label : ℕ) → IsHeldSpace next room reserved owners kept → kept_at label kept ≡ Some Free
    → (label < next) × (owner_of label owners ≡ None)
taken_owner next room reserved owners kept label held free = left_at next label owners kept held.left (λ none. something Free (sym free ∙ none))

pub taken_unowned : (next room reserved : ℕ) (owners : List Owner) (kept : List Kept) (r : Option ℕ) → IsHeldSpace next room reserved owners kept
    → IfSome r (λ label. kept_at label kept ≡ Some Free) → IfSome r (λ label. owner_of label owners ≡ None)
taken_unowned next room reserved owners kept None held free = free
taken_unowned next room reserved owners kept (Some label) held free = (taken_owner next room reserved owners kept label held free).1

pub taken_unkept : (label : ℕ) (kept : List Kept) → kept_at label (without label kept) ≡ None
taken_unkept label kept = kept_without label label kept ∙ rw (same_number label) refl

pub taken_out : (kept now : List Kept) (r : Option ℕ) → now ≡ without_one r kept → IfSome r (λ label. kept_at label kept ≡ Some Free) → IfSome r (λ label. kept_at label now ≡ None)
taken_out kept now None is free = free
taken_out kept now (Some label) is free = ap (kept_at label) is ∙ taken_unkept label kept

-- the next number
pub taken_next : (space : LabelNumbers) (label : ℕ) → space.next < numbers_end → label ≡ space.next → AreLeft space.next space.owners space.kept
    → ◌≡◌ {A = LabelNumbers} (record { next = space.next + 1; room = space.room; owners = space.owners; kept = space.kept }) (with_number_taken (Some label) space)
taken_next space label less is left =
    rw (is, below_apart space.next numbers_end less, without_next space.next space.owners space.kept left) refl

pub not_last : (next : ℕ) → next ≤ numbers_end → (next == numbers_end) ≡ false → next < numbers_end
not_last next within other = grind (arith, nat_tests)

pub held_next : (next room reserved : ℕ) (owners : List Owner) (kept : List Kept) → IsHeldSpace next room reserved owners kept → next < numbers_end → IsHeldSpace (next + 1) room reserved owners kept
held_next next room reserved owners kept held less = record {
  above = omega (arith, held.above);
  below = omega (arith, less);
  within = held.within;
  has_room = held.has_room;
  given = below_later next owners held.given;
  distinct = held.distinct;
  rising = held.rising;
  left = left_later next owners kept held.left;
}

pub held_without : (next room reserved : ℕ) (owners : List Owner) (kept now : List Kept) (label : Option ℕ) → IsHeldSpace next room reserved owners kept → now ≡ without_one label kept
    → IsHeldSpace next room reserved owners now
held_without next room reserved owners kept now None held is = rw is held
held_without next room reserved owners kept now (Some label) held is = rw is (record {
  above = held.above;
  below = held.below;
  within = held.within;
  has_room = held.has_room;
  given = held.given;
  distinct = held.distinct;
  rising = held.rising;
  left = left_without next label owners kept held.left;
})

-- ---- one owner less

pub held_freed : (label : ℕ) (owner : Owner) (next room reserved now : ℕ) (xs ys : List Owner) (kept more : List Kept) → IsHeldSpace next room reserved xs kept → find (owns label) xs ≡ Some owner
    → ys ≡ filter (λ o. not (owns label o)) xs → more ≡ keeps label owner.peer kept → now ≡ reserved → IsHeldSpace next room now ys more
held_freed label owner next room reserved now xs ys kept more held found is kept_is same_room = rw (is, kept_is, same_room) (record {
  above = held.above;
  below = held.below;
  within = omega (arith, held.within, long_filtered owned_label (λ o. not (owns label o)) xs);
  has_room = held.has_room;
  given = below_filtered (λ o. not (owns label o)) next xs held.given;
  distinct = distinct_filtered (λ o. not (owns label o)) xs held.distinct;
  rising = rising_filtered owned_label (λ o. not (owns label o)) 0 xs held.rising;
  left = left_kept next label owner.peer (filter (λ o. not (owns label o)) xs) kept (found_below label next xs owner held.given found) (owner_of-freed label xs)
      (left_filtered (λ o. not (owns label o)) next xs kept held.left);
})

pub unkept_found : (label next room reserved : ℕ) (owner : Owner) (xs : List Owner) (kept : List Kept) → IsHeldSpace next room reserved xs kept → find (owns label) xs ≡ Some owner
    → kept_at label kept ≡ None
unkept_found label next room reserved owner xs kept held found = unkept_owned next label xs kept held.left (found_owns label xs owner found)

-- ---- connections, ticks and restarts

pub held_with : (next room reserved : ℕ) (owners : List Owner) (kept now : List Kept) → IsHeldSpace next room reserved owners kept → AreLeft next owners now → IsHeldSpace next room reserved owners now
held_with next room reserved owners kept now held left = record {
  above = held.above;
  below = held.below;
  within = held.within;
  has_room = held.has_room;
  given = held.given;
  distinct = held.distinct;
  rising = held.rising;
  left = left;
}

pub held_meeting : (peer : EdgeId) (next room reserved : ℕ) (owners : List Owner) (kept now : List Kept) → IsHeldSpace next room reserved owners kept → now ≡ met peer kept
    → IsHeldSpace next room reserved owners now
held_meeting peer next room reserved owners kept now held is = held_with next room reserved owners kept now held (rw is (left_met next peer owners kept held.left))

pub held_ticking : (next room reserved : ℕ) (owners : List Owner) (kept now : List Kept) → IsHeldSpace next room reserved owners kept → now ≡ ticked kept → IsHeldSpace next room reserved owners now
held_ticking next room reserved owners kept now held is = held_with next room reserved owners kept now held (rw is (left_ticked next owners kept held.left))

pub held_emptied : (next room reserved now : ℕ) (owners none : List Owner) (kept more : List Kept) → IsHeldSpace next room reserved owners kept → none ≡ [] → more
    ≡ keeps_each owners kept → now ≡ reserved → IsHeldSpace next room now none more
held_emptied next room reserved now owners none kept more held is kept_is same_room = rw (is, kept_is, same_room) (record {
  above = held.above;
  below = held.below;
  within = omega arith;
  has_room = held.has_room;
  given = below_none next;
  distinct = tt;
  rising = tt;
  left = left_each next owners kept held.given (left_none next owners kept held.left);
})

-- ---- what a free label has

pub freed_none : (label : ℕ) (space now : LabelNumbers) → now ≡ freed label space → owner_of label now.owners ≡ None
freed_none label space now is = ap (λ (s : LabelNumbers). owner_of label s.owners) is ∙ by (find (owns label) space.owners) refl where
  by : (r : Option Owner) → find (owns label) space.owners ≡ r → owner_of label (freed_of label r space).owners ≡ None
  by None is = owner_of-find label space.owners ∙ ap (option_map (λ o. (o.key, o.side))) is
  by (Some owner) is = owner_of-freed label space.owners

pub freed_others : (label : ℕ) (space now : LabelNumbers) → now ≡ freed label space → (other : ℕ) → other ≢ label → owner_of other now.owners ≡ owner_of other space.owners
freed_others label space now is other differ = ap (λ (s : LabelNumbers). owner_of other s.owners) is ∙ by (find (owns label) space.owners) where
  by : (r : Option Owner) → owner_of other (freed_of label r space).owners ≡ owner_of other space.owners
  by None = refl
  by (Some owner) = owner_of-kept label other space.owners differ

pub freed_by : (label : ℕ) (space : LabelNumbers) (r : Option Owner) → find (owns label) space.owners ≡ r → freed label space ≡ freed_of label r space
freed_by label space r is = ap (λ (o : Option Owner). freed_of label o space) is

-- ---- all are kept, one after another

pub each_step : (owners : List Owner) (i : ℕ) (o : Owner) (start kept more : List Kept) → i < length owners → o ≡ get_or owners i o
    → (keeps_each (drop i owners) kept ≡ keeps_each owners start) × AreDistinctLabels (drop i owners) × AreUnkept kept (drop i owners) → more ≡ keeps o.label o.peer kept
    → (keeps_each (drop (i + 1) owners) more ≡ keeps_each owners start) × AreDistinctLabels (drop (i + 1) owners) × AreUnkept more (drop (i + 1) owners)
each_step owners i o start kept more within is so_far kept_is =
    let whole : drop i owners ≡ o ∷ drop (i + 1) owners = drop_next owners i o within is in
    let now : (keeps_each (o ∷ drop (i + 1) owners) kept ≡ keeps_each owners start) × AreDistinctLabels (o ∷ drop (i + 1) owners) × AreUnkept kept (o ∷ drop (i + 1) owners) =
    subst (λ (l : List Owner). (keeps_each l kept ≡ keeps_each owners start) × AreDistinctLabels l × AreUnkept kept l) whole so_far in
    rw kept_is (now.0, now.1.1, unkept_more o (drop (i + 1) owners) kept now.1.0 now.2.0 now.2.1)

-- ---- how many labels are owned

pub long_issued : (key : SegKey) (side : ℕ) (peer : EdgeId) (space now : LabelNumbers) → now ≡ issued key side peer space → length now.owners ≤ length space.owners + 1
long_issued key side peer space now is = subst (λ (s : LabelNumbers). length s.owners ≤ length space.owners + 1) (sym is) (by (number_to_give space.next space.kept)) where
  by : (r : Option ℕ) → length (given_to key side peer r space).owners ≤ length space.owners + 1
  by None = omega arith
  by (Some label) = omega (arith, long_put owned_label (record { label = label; key = key; side = side; peer = peer }) space.owners)

pub long_freed : (label : ℕ) (space now : LabelNumbers) → now ≡ freed label space → length now.owners ≤ length space.owners
long_freed label space now is = subst (λ (s : LabelNumbers). length s.owners ≤ length space.owners) (sym is) (by (find (owns label) space.owners)) where
  by : (r : Option Owner) → length (freed_of label r space).owners ≤ length space.owners
  by None = omega arith
  by (Some owner) = long_filtered owned_label (λ o. not (owns label o)) space.owners
