-- What the label space has is what the ends own.
use Rattle.std.proofs.Common.{◌≡◌, ◌<◌, ◌∙◌, ◌==◌, ℕ, Bool, true, false, List, [], ◌∷◌, Option, Some, None, length, get_or, map, option_map, position, refl, ap, sym, subst, arith, inl, inr}
use Rattle.std.specs.List.{find}
use Rattle.std.proofs.lemmas.Bool.{cases_Bool, eqb-true}
use Rattle.std.proofs.lemmas.List.Quantifiers.{position-Some}
use Rattle.net_values.proofs.OptionLemmas.{something}
use Rattle.hvpls_spokes.proofs.SearchLemmas.{find_is, find_none}
use Rattle.net_base.specs.declared.plan.places.SegKey.{SegKey}
use Rattle.label_space.specs.declared.owner.Owner.{Owner}
use Rattle.label_space.specs.Labels.{owner_of, owns}
use Rattle.label_space.proofs.LabelLemmas.{owner_of-find}
use Rattle.pw_signalling.specs.End.{fresh}
use Rattle.pw_signalling.specs.Laws.{own_label}
use Rattle.edge_model.specs.declared.end_place.EndPlace.{EndPlace}
use Rattle.pw_ends.specs.declared.owned_labels.OwnedLabel.{OwnedLabel}
use Rattle.pw_ends.specs.Ends.{EndLists, end_in, end_there, is_label, no_place, owns_label, place_of}
use Rattle.pw_ends.specs.Kept.{AreKept, IsOwner, segment_of}
use Rattle.pw_ends.specs.Owned.{OwnedList, has_label, slot_of}
use Rattle.pw_ends.proofs.KeptLemmas.{owner_seen}
use Rattle.pw_ends.proofs.NoneLemmas.{fails_all}
use Rattle.pw_ends.proofs.OwnerLemmas.{owner_found}
use Rattle.pw_ends.proofs.SlotLemmas.{seen_at}

pub label_is : (label : ℕ) (own : Option ℕ) → is_label label own ≡ true → own ≡ Some label
label_is label None is = absurd (cc (is))
label_is label (Some own) is = ap Some (eqb-true own label is)

-- a label that is not in the index has no owner
pub unowned : (label : ℕ) (xs : List OwnedLabel) (owners : List Owner) → map (λ o. o.label) xs ≡ map (λ o. o.label) owners → slot_of label xs ≡ None → owner_of label owners ≡ None
unowned label [] [] same none = refl
unowned label [] (o ∷ owners) same none = absurd (cc (same))
unowned label (x ∷ xs) [] same none = absurd (cc (same))
unowned label (x ∷ xs) (o ∷ owners) same none =
    let head : x.label ≡ o.label = cc (same) in
    let tail : map (λ (o : OwnedLabel). o.label) xs ≡ map (λ (o : Owner). o.label) owners = cc (same) in
    elim (cases_Bool (has_label label x)) [
      | inl here ↦ absurd (something x.slot (rw here at none))
      | inr other ↦
          (let away : owns label o ≡ false = subst (λ (n : ℕ). (n == label) ≡ false) head other in
          rw away (unowned label xs owners tail (rw other at none)))
    ]

module _ (lists : EndLists) (index : OwnedList) (kept : AreKept lists.places lists.ends lists.labels index) (label : ℕ) where
  -- the end at the place owns the label
  abbrev owning : EndPlace → Bool
  owning place = owns_label label (end_there lists place)

  abbrev named : EndPlace → SegKey × ℕ
  named place = (segment_of place, place.side)

  seen : (slot : ℕ) → slot < length lists.places → owning (get_or lists.places slot no_place) ≡ owns_label label (get_or lists.ends slot fresh)
  seen slot within = ap (owns_label label) (seen_at lists slot kept.apart kept.count within)

  -- each label that the label space has is that of the end that owns it
  pub labels_owned : owner_of label lists.labels.owners ≡ option_map (λ place. (segment_of place, place.side)) (find (λ place. owns_label label (end_there lists place)) lists.places)
  labels_owned = by (position (owns_label label) lists.ends) refl
    where
      by : (r : Option ℕ) → position (owns_label label) lists.ends ≡ r → owner_of label lists.labels.owners ≡ option_map named (find owning lists.places)
      by None none =
          unowned label index.labels lists.labels.owners kept.slots.same (owner_found label lists.ends lists.labels index kept.slots ∙ none)
          ∙ ap (option_map named) (sym (find_none owning lists.places no_place (λ i within. seen i within ∙ fails_all (owns_label label) lists.ends none i fresh (omega (arith, within, kept.count)))))
      by (Some slot) is =
          let found = position-Some (owns_label label) lists.ends slot fresh is in
          let within : slot < length lists.places = omega (arith, found.0, kept.count) in
          let here : owning (get_or lists.places slot no_place) ≡ true = seen slot within ∙ found.1 in
          let own : own_label (end_in lists slot).local ≡ Some label = label_is label (own_label (end_in lists slot).local) here in
          let owner : IsOwner lists.labels.owners (place_of lists slot) (Some label) = subst (IsOwner lists.labels.owners (place_of lists slot)) own (owner_seen lists index slot kept within) in
          owner_of-find label lists.labels.owners ∙ ap (option_map (λ o. (o.key, o.side))) owner
          ∙ ap (option_map named) (sym (find_is owning lists.places slot no_place within here (λ i below. seen i (omega (arith, below, within)) ∙ found.2 i below)))
