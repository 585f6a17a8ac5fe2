-- Slots by the peer and the PW ID.
use Rattle.std.proofs.Common.{◌≡◌, ◌<◌, ◌≤◌, ◌∙◌, ◌+◌, ◌==◌, ◌&&◌, cond, ℕ, zero, suc, Bool, true, false, List, [], ◌∷◌, length, drop, get_or, Option, Some, None, IfSome, position, nat_lt, refl, sym, subst, ap, arith, zero-add}
use Rattle.std.specs.Prelude.{option_and_then, slice_get}
use Rattle.std.specs.List.{find, position_or_len}
use Rattle.std.specs.Map.{lookup}
use Rattle.std.proofs.lemmas.List.{drop_more}
use Rattle.std.proofs.lemmas.Bool.{ltb-true}
use Rattle.net_values.proofs.OptionLemmas.{within_of, placed}
use Rattle.edge_model.specs.declared.end_place.EndPlace.{EndPlace}
use Rattle.pw_ends.specs.Ends.{no_place}
use Rattle.pw_ends.specs.Names.{FindsSlots, end_name_of, has_name, is_name}

-- the first slot that passes, of slots from i on
abbrev pub slot_from : ℕ → (EndPlace → Bool) → List EndPlace → Option ℕ
slot_from i p [] = None
slot_from i p (x ∷ xs) = cond (p x) (Some i) (slot_from (i + 1) p xs)

-- the same by its number
pub slot_from_position : (i : ℕ) (p : EndPlace → Bool) (xs : List EndPlace) → slot_from i p xs ≡ cond (nat_lt (position_or_len p xs) (length xs)) (Some (i + position_or_len p xs)) None
slot_from_position i p [] = refl
slot_from_position i p (x ∷ xs) = ap (λ o. cond (p x) (Some i) o) (slot_from_position (i + 1) p xs) ∙ placed (p x) i (position_or_len p xs) (length xs)

pub slot_from_start : (p : EndPlace → Bool) (xs : List EndPlace) → slot_from 0 p xs ≡ position p xs
slot_from_start p xs = slot_from_position 0 p xs ∙ ap (λ n. cond (nat_lt (position_or_len p xs) (length xs)) (Some n) None) (zero-add (position_or_len p xs))

-- the entries give each name its first slot from i on
pub record FindsFrom (i : ℕ) (places : List EndPlace) (entries : List ((ℕ × ℕ) × ℕ)) : Type 0 where
  pub slot : (peer pw_id : ℕ) → lookup (is_name peer pw_id) entries ≡ slot_from i (has_name peer pw_id) (drop i places)

-- one more slot in front
pub finds_more : (i j : ℕ) (places : List EndPlace) (key : ℕ × ℕ) (old new : List ((ℕ × ℕ) × ℕ)) → i < length places → i + 1 ≡ j → key ≡ end_name_of (get_or places i no_place) → FindsFrom j places old
    → ((q : ℕ × ℕ) → lookup (is_name q.0 q.1) new ≡ cond (key.0 == q.0 && key.1 == q.1) (Some i) (lookup (is_name q.0 q.1) old)) → FindsFrom i places new
finds_more i j places key old new within next is finds updates = record {
  slot = λ peer pw_id.
      let place : EndPlace = get_or places i no_place in
      let parted : drop i places ≡ place ∷ drop (i + 1) places = drop_more places i no_place within in
      let rest : lookup (is_name peer pw_id) old ≡ slot_from (i + 1) (has_name peer pw_id) (drop (i + 1) places) =
      finds.slot peer pw_id ∙ ap (λ n. slot_from n (has_name peer pw_id) (drop n places)) (sym next) in
      updates (peer, pw_id) ∙ ap (λ (k : ℕ × ℕ). cond (k.0 == peer && k.1 == pw_id) (Some i) (lookup (is_name peer pw_id) old)) is
      ∙ ap (λ o. cond (has_name peer pw_id place) (Some i) o) rest ∙ ap (λ xs. slot_from i (has_name peer pw_id) xs) (sym parted);
}

-- all slots
pub finds_all : (i : ℕ) (places : List EndPlace) (entries : List ((ℕ × ℕ) × ℕ)) → i ≤ 0 → FindsFrom i places entries → FindsSlots places entries
finds_all zero places entries none finds = record { slot = λ peer pw_id. finds.slot peer pw_id ∙ slot_from_start (has_name peer pw_id) places }
finds_all (suc i) places entries none finds = absurd (omega arith)

-- ---- the first slot that passes, and what stands there

found_from : (p : EndPlace → Bool) (i : ℕ) (xs : List EndPlace) (all : List EndPlace) → drop i all ≡ xs → option_and_then (slice_get all) (slot_from i p xs) ≡ find p xs
found_from p i [] all is = refl
found_from p i (x ∷ xs) all is = by (p x) refl (found_from p (i + 1) xs all (tail i all x xs is))
  where
    head : (n : ℕ) (ys : List EndPlace) (y : EndPlace) (rest : List EndPlace) → drop n ys ≡ y ∷ rest → slice_get ys n ≡ Some y
    head zero [] y rest at = absurd (cc)
    head (suc n) [] y rest at = absurd (cc)
    head zero (z ∷ zs) y rest at = cc
    head (suc n) (z ∷ zs) y rest at = head n zs y rest at

    tail : (n : ℕ) (ys : List EndPlace) (y : EndPlace) (rest : List EndPlace) → drop n ys ≡ y ∷ rest → drop (n + 1) ys ≡ rest
    tail zero [] y rest at = absurd (cc)
    tail (suc n) [] y rest at = absurd (cc)
    tail zero (z ∷ zs) y rest at = cc
    tail (suc n) (z ∷ zs) y rest at =
        let on : suc n + 1 ≡ suc (n + 1) = omega arith in
        rw on (tail n zs y rest at)

    by : (b : Bool) → p x ≡ b → option_and_then (slice_get all) (slot_from (i + 1) p xs) ≡ find p xs → option_and_then (slice_get all) (slot_from i p (x ∷ xs)) ≡ find p (x ∷ xs)
    by true passes rest = rw passes (head i all x xs is)
    by false passes rest = rw passes rest

pub found_at : (p : EndPlace → Bool) (xs : List EndPlace) → option_and_then (slice_get xs) (position p xs) ≡ find p xs
found_at p xs = ap (λ o. option_and_then (slice_get xs) o) (sym (slot_from_start p xs)) ∙ found_from p 0 xs xs refl

-- a slot is one of the list
pub slot_in : (p : EndPlace → Bool) (xs : List EndPlace) → IfSome (position p xs) (λ slot. slot < length xs)
slot_in p xs = within_of _ _ _ (ltb-true (position_or_len p xs) (length xs))

-- what a slot of the list has
got : (xs : List EndPlace) (slot : ℕ) → slot < length xs → slice_get xs slot ≡ Some (get_or xs slot no_place)
got [] slot within = absurd (omega (arith, within))
got (x ∷ xs) zero within = refl
got (x ∷ xs) (suc slot) within = got xs slot (omega (arith, within))

pub named_at : (p : EndPlace → Bool) (xs : List EndPlace) (slot : ℕ) → position p xs ≡ Some slot → slot < length xs → find p xs ≡ Some (get_or xs slot no_place)
named_at p xs slot at within = sym (found_at p xs) ∙ ap (λ o. option_and_then (slice_get xs) o) at ∙ got xs slot within

pub none_at : (p : EndPlace → Bool) (xs : List EndPlace) → position p xs ≡ None → find p xs ≡ None
none_at p xs at = sym (found_at p xs) ∙ ap (λ o. option_and_then (slice_get xs) o) at

-- the place of the slot that is found
pub named_if : (p : EndPlace → Bool) (xs : List EndPlace) (o : Option ℕ) → o ≡ position p xs → IfSome o (λ slot. find p xs ≡ Some (get_or xs slot no_place))
named_if p xs None at = tt
named_if p xs (Some slot) at = named_at p xs slot (sym at) (subst (λ (o : Option ℕ). IfSome o (λ slot. slot < length xs)) (sym at) (slot_in p xs))

pub ruleset found_steps = (found_at, slot_in, named_if, none_at)
