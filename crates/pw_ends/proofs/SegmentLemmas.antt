-- The owners in the label space: each label that an end owns is there that of the end's segment and side, given for its neighbour, before
-- and after the calls.
use Rattle.std.proofs.Common.{◌≡◌, ◌<◌, ◌∙◌, ◌==◌, ◌⊎◌, ℕ, zero, suc, Bool, true, false, not, cond, List, [], ◌∷◌, Option, Some, None, length, get_or, set, filter, replicate, refl, ap, sym, arith, inl, inr}
use Rattle.std.specs.List.{AllByRecursion, find}
use Rattle.std.proofs.lemmas.Bool.{eqb-true, ne_eqb}
use Rattle.net_values.proofs.NumberLemmas.{same_number}
use Rattle.net_values.proofs.OptionLemmas.{something}
use Rattle.label_space.specs.declared.owner.Owner.{Owner}
use Rattle.label_space.specs.Kept.{put_by}
use Rattle.label_space.specs.Labels.{LabelNumbers, freed_of, owned_label, owns}
use Rattle.edge_model.specs.declared.end_place.EndPlace.{EndPlace}
use Rattle.edge_model.specs.Labels.{left_label, owner_at}
use Rattle.pw_ends.specs.Ends.{no_place}
use Rattle.pw_ends.specs.Kept.{AreOwners, Differ, IsOwner, OwnApart, freed_one}
use Rattle.pw_ends.proofs.FindLemmas.{find_left_other, find_put}
use Rattle.pw_ends.proofs.OwnerLemmas.{all_at, differ_sym, set_same}

-- ---- a label is given

-- a label keeps its owner where another owner comes
put_same : (label : ℕ) (xs : List Owner) (owner who : Owner) → find (owns owner.label) xs ≡ None → find (owns label) xs ≡ Some who → find (owns label) (put_by owned_label owner xs) ≡ Some who
put_same label xs owner who none is = find_put owned_label owner xs none label ∙ by (owner.label == label) refl where
  by : (b : Bool) → (owner.label == label) ≡ b → cond b (Some owner) (find (owns label) xs) ≡ Some who
  by true here = absurd (something who (sym is ∙ (ap (λ (n : ℕ). find (owns n) xs) (sym (eqb-true owner.label label here)) ∙ none)))
  by false other = is

owner_put : (xs : List Owner) (owner : Owner) (place : EndPlace) (own : Option ℕ) → find (owns owner.label) xs ≡ None → IsOwner xs place own → IsOwner (put_by owned_label owner xs) place own
owner_put xs owner place None none is = tt
owner_put xs owner place (Some label) none is = put_same label xs owner (owner_at place label) none is

owners_put : (xs : List Owner) (owner : Owner) (places : List EndPlace) (own_list : List (Option ℕ)) → find (owns owner.label) xs ≡ None → AreOwners xs places own_list
    → AreOwners (put_by owned_label owner xs) places own_list
owners_put xs owner [] own_list none are = tt
owners_put xs owner (p ∷ ps) [] none are = tt
owners_put xs owner (p ∷ ps) (o ∷ os) none are = (owner_put xs owner p o none are.0, owners_put xs owner ps os none are.1)

owners_set : (xs : List Owner) (places : List EndPlace) (own_list : List (Option ℕ)) (slot label : ℕ) → AreOwners xs places own_list → find (owns label) xs
    ≡ Some (owner_at (get_or places slot no_place) label)
    → AreOwners xs places (set own_list slot (Some label))
owners_set xs [] own_list slot label are is = tt
owners_set xs (p ∷ ps) [] slot label are is = tt
owners_set xs (p ∷ ps) (o ∷ os) zero label are is = (is, are.1)
owners_set xs (p ∷ ps) (o ∷ os) (suc slot) label are is = (are.0, owners_set xs ps os slot label are.1 is)

-- a label that nobody owned is given to the end of a slot
pub owners_issued : (own_list : List (Option ℕ)) (labels : LabelNumbers) (places : List EndPlace) (slot label : ℕ) → AreOwners labels.owners places own_list → find (owns label) labels.owners ≡ None
    → AreOwners (put_by owned_label (owner_at (get_or places slot no_place) label) labels.owners) places (set own_list slot (Some label))
owners_issued own_list labels places slot label are none =
    let owner : Owner = owner_at (get_or places slot no_place) label in
    let is : find (owns label) (put_by owned_label owner labels.owners) ≡ Some owner = find_put owned_label owner labels.owners none label ∙ rw (same_number label) refl in
    owners_set (put_by owned_label owner labels.owners) places own_list slot label (owners_put labels.owners owner places own_list none are) is

-- ---- a label is freed

owner_left : (xs : List Owner) (label : ℕ) (place : EndPlace) (own : Option ℕ) → Differ (Some label) own → IsOwner xs place own → IsOwner (filter (λ o. not (owns label o)) xs) place own
owner_left xs label place None differ is = tt
owner_left xs label place (Some other) differ is = find_left_other owned_label label other xs (ne_eqb label other differ) ∙ is

owners_left : (xs : List Owner) (label : ℕ) (places : List EndPlace) (own_list : List (Option ℕ)) → AllByRecursion (Differ (Some label)) own_list → AreOwners xs places own_list
    → AreOwners (filter (λ o. not (owns label o)) xs) places own_list
owners_left xs label [] own_list differ are = tt
owners_left xs label (p ∷ ps) [] differ are = tt
owners_left xs label (p ∷ ps) (o ∷ os) differ are = (owner_left xs label p o differ.0 are.0, owners_left xs label ps os differ.1 are.1)

-- each other end's label keeps its owner
owners_freed : (xs : List Owner) (label : ℕ) (places : List EndPlace) (own_list : List (Option ℕ)) (slot : ℕ) → OwnApart own_list → AreOwners xs places own_list
    → slot < length own_list → get_or own_list slot None ≡ Some label
    → AreOwners (filter (λ o. not (owns label o)) xs) places (set own_list slot None)
owners_freed xs label [] own_list slot apart are within at = tt
owners_freed xs label (p ∷ ps) [] slot apart are within at = tt
owners_freed xs label (p ∷ ps) (o ∷ os) zero apart are within at = (tt, owners_left xs label ps os (rw at at apart.0) are.1)
owners_freed xs label (p ∷ ps) (o ∷ os) (suc slot) apart are within at =
    let differ : Differ o (Some label) = rw at at (all_at (Differ o) os slot apart.0 (omega (arith, within))) in
    (owner_left xs label p o (differ_sym o (Some label) differ) are.0, owners_freed xs label ps os slot apart.1 are.1 (omega (arith, within)) at)

owners_unset : (xs : List Owner) (places : List EndPlace) (own_list : List (Option ℕ)) (slot : ℕ) → AreOwners xs places own_list → AreOwners xs places (set own_list slot None)
owners_unset xs [] own_list slot are = tt
owners_unset xs (p ∷ ps) [] slot are = tt
owners_unset xs (p ∷ ps) (o ∷ os) zero are = (tt, are.1)
owners_unset xs (p ∷ ps) (o ∷ os) (suc slot) are = (are.0, owners_unset xs ps os slot are.1)

-- after a change each label that is left has its owner
pub owners_changed : (own_list : List (Option ℕ)) (labels : LabelNumbers) (places : List EndPlace) (slot : ℕ) (before after : Option ℕ) → OwnApart own_list
    → AreOwners labels.owners places own_list → slot < length own_list → get_or own_list slot None ≡ before → (after ≡ before) ⊎ (after ≡ None)
    → AreOwners (freed_one (left_label before after) labels).owners places (set own_list slot after)
owners_changed own_list labels places slot None None apart are within at either = rw (set_same own_list slot None None within (sym at)) are
owners_changed own_list labels places slot None (Some label) apart are within at (inl same) = absurd (something {X = ℕ} label same)
owners_changed own_list labels places slot None (Some label) apart are within at (inr none) = absurd (something {X = ℕ} label none)
owners_changed own_list labels places slot (Some label) None apart are within at either = by (find (owns label) labels.owners) refl where
  by : (r : Option Owner) → find (owns label) labels.owners ≡ r → AreOwners (freed_of label r labels).owners places (set own_list slot None)
  by None none = owners_unset labels.owners places own_list slot are
  by (Some owner) found = owners_freed labels.owners label places own_list slot apart are within at
owners_changed own_list labels places slot (Some label) (Some other) apart are within at (inl same) = rw (set_same own_list slot None (Some other) within (same ∙ sym at)) are
owners_changed own_list labels places slot (Some label) (Some other) apart are within at (inr none) = absurd (something {X = ℕ} other none)

-- ---- opened

pub owners_none : (owners : List Owner) (places : List EndPlace) (count : ℕ) → AreOwners owners places (replicate count None)
owners_none owners [] count = tt
owners_none owners (p ∷ ps) zero = tt
owners_none owners (p ∷ ps) (suc count) = (tt, owners_none owners ps count)

-- ---- what the owners say

-- the owner of the label that the end of a slot owns
pub owner_in : (owners : List Owner) (places : List EndPlace) (own_list : List (Option ℕ)) (slot : ℕ) → AreOwners owners places own_list → slot < length places → slot < length own_list
    → IsOwner owners (get_or places slot no_place) (get_or own_list slot None)
owner_in owners [] own_list slot are within short = absurd (omega (arith, within))
owner_in owners (p ∷ ps) [] slot are within short = absurd (omega (arith, short))
owner_in owners (p ∷ ps) (o ∷ os) zero are within short = are.0
owner_in owners (p ∷ ps) (o ∷ os) (suc slot) are within short = owner_in owners ps os slot are.1 (omega (arith, within)) (omega (arith, short))
