-- At a restart: the owners of the label space are the ends that own labels, in rising order of the labels.
use Rattle.std.proofs.Common.{◌≡◌, ◌<◌, ◌+◌, ◌∙◌, ◌==◌, ◌⊎◌, ℕ, Bool, true, false, cond, List, [], ◌∷◌, Option, Some, None, length, map, option_map, replicate, refl, ap, sym, subst, arith, inl, inr}
use Rattle.std.specs.List.{AllByRecursion, find}
use Rattle.std.proofs.lemmas.Bool.{cases_order, eqb-true}
use Rattle.std.proofs.lemmas.Option.{same_Some}
use Rattle.net_values.proofs.NumberLemmas.{same_number as same, above_apart}
use Rattle.net_values.proofs.OptionLemmas.{something}
use Rattle.label_space.specs.declared.owner.Owner.{Owner}
use Rattle.label_space.specs.Kept.{AreRisingBy}
use Rattle.label_space.specs.Labels.{LabelNumbers, emptied, owned_label, owner_of, owns}
use Rattle.label_space.specs.Laws.{Restarted}
use Rattle.label_space.proofs.LabelLemmas.{apart_owners, owner_of-find, unkept_all}
use Rattle.label_space.proofs.LawLemmas.{labels_are_used_again}
use Rattle.label_space.proofs.OrderLemmas.{rising_put}
use Rattle.label_space.proofs.SlotLemmas.{none_found}
use Rattle.pw_signalling.specs.AnyEnd.{end_of}
use Rattle.pw_signalling.specs.declared.pw_end.PwEnd.{PwEnd}
use Rattle.pw_signalling.specs.End.{EndState, fresh}
use Rattle.pw_signalling.specs.Laws.{own_label}
use Rattle.edge_model.specs.declared.end_place.EndPlace.{EndPlace}
use Rattle.edge_model.specs.Labels.{keeps_owned, owner_at, owners_of, with_owner_at}
use Rattle.edge_model.proofs.RestartedLemmas.{keeps_owned_each}
use Rattle.pw_ends.specs.Ends.{EndLists, is_label, look, seen_ends}
use Rattle.pw_ends.specs.Kept.{AreKept, AreMarked, AreOwners, Differ, IsOwner, OwnApart, own_of}
use Rattle.pw_ends.specs.Owned.{OwnedList}
use Rattle.pw_ends.proofs.FindLemmas.{find_put}
use Rattle.pw_ends.proofs.HoldLemmas.{holding_none}
use Rattle.pw_ends.proofs.KeptLemmas.{count_fresh, none_apart, none_kind, none_own, none_owned, seen_count}
use Rattle.pw_ends.proofs.LabelLemmas.{label_is, unowned}
use Rattle.pw_ends.proofs.MarkLemmas.{untold_opened}
use Rattle.pw_ends.proofs.OwnerLemmas.{away, index_opened, position_away, count_own}
use Rattle.pw_ends.proofs.SegmentLemmas.{owners_none}
use Rattle.pw_ends.proofs.SlotLemmas.{seen_opened}
use Rattle.pw_ends.proofs.WaitLemmas.{AreSeen, are_seen}

-- ---- two rising lists with the same owners are equal

none_below : (low from : ℕ) (xs : List Owner) → low < from → AreRisingBy owned_label from xs → find (owns low) xs ≡ None
none_below low from [] less rising = refl
none_below low from (x ∷ xs) less rising = rw (above_apart low x.label (omega (arith, less, rising.0))) (none_below low (x.label + 1) xs (omega (arith, less, rising.0)) rising.1)

first_found : (x : Owner) (xs : List Owner) → find (owns x.label) (x ∷ xs) ≡ Some x
first_found x xs = rw (same x.label) refl

-- the first one of a list is not below all of another
not_first : (x y : Owner) (xs ys : List Owner) → AreRisingBy owned_label (y.label + 1) ys → find (owns x.label) (x ∷ xs) ≡ find (owns x.label) (y ∷ ys) → x.label < y.label → ⊥
not_first x y xs ys rising found less = something x (sym (first_found x xs) ∙ (found ∙ none_below x.label y.label (y ∷ ys) less (omega arith, rising)))

pub owners_same : (from to : ℕ) (xs ys : List Owner) → AreRisingBy owned_label from xs → AreRisingBy owned_label to ys → ((label : ℕ) → find (owns label) xs ≡ find (owns label) ys) → xs ≡ ys
owners_same from to [] [] rising others found = refl
owners_same from to [] (y ∷ ys) rising others found = absurd (something y (sym (first_found y ys) ∙ sym (found y.label)))
owners_same from to (x ∷ xs) [] rising others found = absurd (something x (sym (first_found x xs) ∙ found x.label))
owners_same from to (x ∷ xs) (y ∷ ys) rising others found =
    two (one (cases_order x.label y.label)) (owners_same (x.label + 1) (y.label + 1) xs ys rising.1 others.1 (λ label. rest label (owns label x) refl))
  where
    equal : x.label ≡ y.label → x ≡ y
    equal is = same_Some x y (sym (first_found x xs) ∙ (found x.label ∙ (ap (λ (n : ℕ). find (owns n) (y ∷ ys)) is ∙ first_found y ys)))

    one : (x.label ≡ y.label) ⊎ ((x.label < y.label) ⊎ (y.label < x.label)) → x ≡ y
    one (inl is) = equal is
    one (inr (inl less)) = absurd (not_first x y xs ys others.1 (found x.label) less)
    one (inr (inr more)) = absurd (not_first y x ys xs rising.1 (sym (found y.label)) more)

    rest : (label : ℕ) (b : Bool) → owns label x ≡ b → find (owns label) xs ≡ find (owns label) ys
    rest label true here =
        let is : x.label ≡ label = eqb-true x.label label here in
        let other : y.label ≡ label = sym (ap owned_label (one (cases_order x.label y.label))) ∙ is in
        none_below label (x.label + 1) xs (omega (arith, is)) rising.1 ∙ sym (none_below label (y.label + 1) ys (omega (arith, other)) others.1)
    rest label false apart =
        let unlike : owns label y ≡ false = ap (owns label) (sym (one (cases_order x.label y.label))) ∙ apart in
        rw (apart, unlike) at (found label)

    two : {a b : Owner} {rest others : List Owner} → a ≡ b → rest ≡ others → (a ∷ rest) ≡ (b ∷ others)
    two head tail = λ i. head i ∷ tail i

-- ---- the owners by slots

abbrev owners_in : List EndPlace → List (Option ℕ) → List Owner
owners_in [] own_list = []
owners_in (place ∷ places) [] = []
owners_in (place ∷ places) (own ∷ others) = with_owner_at place own (owners_in places others)

-- the first end that owns a label
abbrev owner_for : ℕ → List EndPlace → List (Option ℕ) → Option Owner
owner_for label [] own_list = None
owner_for label (place ∷ places) [] = None
owner_for label (place ∷ places) (own ∷ others) = cond (is_label label own) (Some (owner_at place label)) (owner_for label places others)

seen_owners : (seen : ℕ → ℕ → EndState) (places : List EndPlace) (ends : List EndState) → AreSeen places ends seen → owners_of seen places ≡ owners_in places (map own_of ends)
seen_owners seen [] ends are = refl
seen_owners seen (p ∷ ps) [] are = absurd are
seen_owners seen (p ∷ ps) (e ∷ es) are =
    ap (λ (end : EndState). with_owner_at p (own_label end.local) (owners_of seen ps)) are.0 ∙ ap (with_owner_at p (own_of e)) (seen_owners seen ps es are.1)

for_none : (label : ℕ) (places : List EndPlace) (own_list : List (Option ℕ)) → AllByRecursion (Differ (Some label)) own_list → owner_for label places own_list ≡ None
for_none label [] own_list differ = refl
for_none label (p ∷ ps) [] differ = refl
for_none label (p ∷ ps) (o ∷ os) differ = rw (away label o differ.0) (for_none label ps os differ.1)

found_in : (label : ℕ) (places : List EndPlace) (own_list : List (Option ℕ)) → OwnApart own_list → find (owns label) (owners_in places own_list) ≡ owner_for label places own_list
found_in label [] own_list apart = refl
found_in label (p ∷ ps) [] apart = refl
found_in label (p ∷ ps) (None ∷ os) apart = found_in label ps os apart.1
found_in label (p ∷ ps) (Some own ∷ os) apart =
    find_put owned_label (owner_at p own) (owners_in ps os) (found_in own ps os apart.1 ∙ for_none own ps os apart.0) label ∙ by (own == label) refl (found_in label ps os apart.1)
  where
    by : (b : Bool) → (own == label) ≡ b → find (owns label) (owners_in ps os) ≡ owner_for label ps os → cond b (Some (owner_at p own)) (find (owns label) (owners_in ps os))
        ≡ cond b (Some (owner_at p label)) (owner_for label ps os)
    by true here rest = ap (λ (n : ℕ). Some (owner_at p n)) (eqb-true own label here)
    by false other rest = rest

rising_in : (places : List EndPlace) (own_list : List (Option ℕ)) → OwnApart own_list → AreRisingBy owned_label 0 (owners_in places own_list)
rising_in [] own_list apart = tt
rising_in (p ∷ ps) [] apart = tt
rising_in (p ∷ ps) (None ∷ os) apart = rising_in ps os apart.1
rising_in (p ∷ ps) (Some own ∷ os) apart =
    let none : owner_of own (owners_in ps os) ≡ None = owner_of-find own (owners_in ps os) ∙ ap (option_map (λ o. (o.key, o.side))) (found_in own ps os apart.1 ∙ for_none own ps os apart.0) in
    rising_put owned_label (owner_at p own) 0 (owners_in ps os) (apart_owners own (owners_in ps os) none) (omega arith) (rising_in ps os apart.1)

-- what the label space has of a label is the end that owns it
for_found : (label : ℕ) (owners : List Owner) (places : List EndPlace) (own_list : List (Option ℕ)) → AreOwners owners places own_list → length own_list ≡ length places
    → (AllByRecursion (λ own. is_label label own ≡ false) own_list → find (owns label) owners ≡ None)
    → owner_for label places own_list ≡ find (owns label) owners
for_found label owners [] [] are count none = sym (none tt)
for_found label owners [] (o ∷ os) are count none = absurd (omega (arith, count))
for_found label owners (p ∷ ps) [] are count none = absurd (omega (arith, count))
for_found label owners (p ∷ ps) (o ∷ os) are count none = by (is_label label o) refl (λ away. for_found label owners ps os are.1 (omega (arith, count)) away) where
  by : (b : Bool) → is_label label o ≡ b → ((AllByRecursion (λ own. is_label label own ≡ false) os → find (owns label) owners ≡ None) → owner_for label ps os
      ≡ find (owns label) owners) → cond b (Some (owner_at p label)) (owner_for label ps os) ≡ find (owns label) owners
  by true here rest = sym (subst (IsOwner owners p) (label_is label o here) are.0)
  by false other rest = rest (λ away. none (other, away))

-- the owners of the label space, as the map of the ends tells them
owners_are : (places : List EndPlace) (ends : List EndState) (labels : LabelNumbers) (index : OwnedList) → AreKept places ends labels index → owners_of (look places ends) places ≡ labels.owners
owners_are places ends labels index kept =
    seen_owners (look places ends) places ends (are_seen places ends kept.apart kept.count)
    ∙ owners_same 0 0 (owners_in places (map own_of ends)) labels.owners (rising_in places (map own_of ends) kept.owns.apart) kept.owns.numbers.rising
    (λ label. found_in label places (map own_of ends) kept.owns.apart
    ∙ for_found label labels.owners places (map own_of ends) kept.owners (count_own ends ∙ kept.count)
    (λ none. none_found label labels.owners (unowned label index.labels labels.owners kept.slots.same (kept.slots.slot label ∙ position_away label (map own_of ends) none))))

-- ---- what is kept

pub kept_restarted : (inside : EndLists) (old : EndLists) (now : LabelNumbers) (index : OwnedList) → AreKept inside.places inside.ends inside.labels index → inside ≡ old → now
    ≡ emptied inside.labels → now.kept ≡ keeps_owned (owners_of (seen_ends old) old.places) old.labels.kept
unfolding seen_ends
kept_restarted inside old now index kept view is =
    ap (λ (l : LabelNumbers). l.kept) is
    ∙ (sym (keeps_owned_each inside.labels.owners inside.labels.kept kept.owns.numbers.distinct (unkept_all inside.labels.next inside.labels.owners inside.labels.kept kept.owns.numbers.left))
    ∙ (ap (λ (os : List Owner). keeps_owned os inside.labels.kept) (sym (owners_are inside.places inside.ends inside.labels index kept))
    ∙ ap (λ (l : EndLists). keeps_owned (owners_of (look l.places l.ends) l.places) l.labels.kept) view))

-- ---- what always holds, after it

idle_kept : (places : List EndPlace) (ends : List EndState) (labels : LabelNumbers) (index : OwnedList) → AreKept places ends labels index
    → AreKept places (replicate (length places) fresh) (emptied labels) (record { room = index.room; labels = [] })
idle_kept places ends labels index kept = record {
  count = count_fresh (length places);
  apart = kept.apart;
  room = kept.room;
  owns = rw (none_own (length places)) (record {
    owned = none_owned (length places) [];
    apart = none_apart (length places);
    few = omega arith;
    numbers = labels_are_used_again.apart labels (Restarted ∷ []) kept.owns.numbers;
  });
  owners = rw (none_own (length places)) (owners_none [] places (length places));
  kinds = none_kind (length places);
  slots = rw (none_own (length places)) (record { room = kept.slots.room; same = refl; slot = (index_opened index.room (length places) labels.next).slot });
  holds = holding_none places (length places);
}

-- the same of what the code has
pub marked_idle : (marks now_marks : ℕ → Bool) (places : List EndPlace) (ends now : List PwEnd) (labels left : LabelNumbers) (index none : OwnedList)
    → AreMarked places (map end_of ends) labels index marks → map end_of now ≡ replicate (length ends) fresh → left ≡ emptied labels → none ≡ record { room = index.room; labels = [] }
    → AreMarked places (map end_of now) left none now_marks
marked_idle marks now_marks places ends now labels left index none marked is left_is none_is =
    let idle : map end_of now ≡ replicate (length places) fresh = is ∙ ap (λ n. replicate n fresh) (seen_count ends places marked.kept.count) in
    rw (idle, left_is, none_is) (record { kept = idle_kept places (map end_of ends) labels index marked.kept; untold = untold_opened now_marks places (length places) })

pub seen_idle : (lists : EndLists) (ends : List PwEnd) → length (map end_of ends) ≡ length lists.places → lists.ends ≡ replicate (length ends) fresh → seen_ends lists ≡ (λ wire peer. fresh)
seen_idle lists ends count is = seen_opened lists (is ∙ ap (λ n. replicate n fresh) (seen_count ends lists.places count))

pub ruleset restart_steps = (seen_idle, kept_restarted)
