-- The end that advertises a label is the one that owns it, where it has not withdrawn it.
use Rattle.std.proofs.Common.{◌≡◌, ◌<◌, ◌∙◌, ℕ, zero, suc, Bool, true, false, List, [], ◌∷◌, Option, Some, None, length, get_or, map, position, ap, sym, subst, arith, inl, inr}
use Rattle.std.specs.List.{find}
use Rattle.std.proofs.lemmas.Bool.{cases_order, false_from_ne_true, true≢false}
use Rattle.std.proofs.lemmas.List.Quantifiers.{position-Some}
use Rattle.hvpls_spokes.proofs.SearchLemmas.{find_is, find_none}
use Rattle.pw_ends.proofs.NoneLemmas.{fails_all}
use Rattle.pw_signalling.specs.End.{EndState, LocalPart, Idle, Advertised, Withdrawing, fresh}
use Rattle.pw_signalling.specs.Laws.{own_label}
use Rattle.edge_model.specs.declared.end_place.EndPlace.{EndPlace}
use Rattle.edge_model.specs.Packet.{advertises_label}
use Rattle.pw_ends.specs.Ends.{EndLists, end_in, end_there, is_label, no_place, owns_label, place_of}
use Rattle.pw_ends.specs.Kept.{AreApart, Differ, OwnApart, own_of}
use Rattle.pw_ends.proofs.KeptLemmas.{own_at}
use Rattle.pw_ends.proofs.OwnerLemmas.{all_at, away, count_own}
use Rattle.pw_ends.proofs.SlotLemmas.{seen_at}
use Rattle.pw_ends.proofs.LabelLemmas.{label_is}

-- an end that advertises a label owns it
advertises_own : (label : ℕ) (local : LocalPart) → advertises_label label local ≡ true → is_label label (own_label local) ≡ true
advertises_own label (Idle declined) tells = absurd (cc (tells))
advertises_own label (Advertised own told) tells = tells
advertises_own label (Withdrawing own) tells = absurd (cc (tells))

differ_at : (owns : List (Option ℕ)) (i j : ℕ) → OwnApart owns → i < j → j < length owns → Differ (get_or owns i None) (get_or owns j None)
differ_at [] i j apart below within = absurd (omega (arith, within))
differ_at (o ∷ os) i zero apart below within = absurd (omega (arith, below))
differ_at (o ∷ os) zero (suc j) apart below within = all_at (Differ o) os j apart.0 (omega (arith, within))
differ_at (o ∷ os) (suc i) (suc j) apart below within = differ_at os i j apart.1 (omega (arith, below)) (omega (arith, within))

module _ (lists : EndLists) (label : ℕ) (apart : AreApart lists.places) (count : length lists.ends ≡ length lists.places) where
  -- the end at the place advertises the label
  abbrev tells : EndPlace → Bool
  tells place = advertises_label label (end_there lists place).local

  -- an end that owns another label, or none
  quiet : (slot : ℕ) → slot < length lists.places → owns_label label (get_or lists.ends slot fresh) ≡ false → tells (get_or lists.places slot no_place) ≡ false
  quiet slot within other =
      ap (λ (end : EndState). advertises_label label end.local) (seen_at lists slot apart count within)
      ∙ false_from_ne_true (advertises_label label (get_or lists.ends slot fresh).local) (λ told. true≢false (sym (advertises_own label (get_or lists.ends slot fresh).local told) ∙ other))

  pub advertiser_found : (slot : ℕ) → position (owns_label label) lists.ends ≡ Some slot → advertises_label label (end_in lists slot).local ≡ true → Some (place_of lists slot)
      ≡ find tells lists.places
  advertiser_found slot owner told =
      let found = position-Some (owns_label label) lists.ends slot fresh owner in
      let within : slot < length lists.places = omega (arith, found.0, count) in
      sym (find_is tells lists.places slot no_place within told (λ i below. quiet i (omega (arith, below, within)) (found.2 i below)))

  -- the end that owns the label has withdrawn it
  pub advertiser_left : OwnApart (map own_of lists.ends) → (slot : ℕ) → position (owns_label label) lists.ends ≡ Some slot → advertises_label label (end_in lists slot).local ≡ false
      → None ≡ find tells lists.places
  advertiser_left own_apart slot owner silent =
      let found = position-Some (owns_label label) lists.ends slot fresh owner in
      sym (find_none tells lists.places no_place (λ i within. elim (cases_order i slot) [
        | inl same ↦ ap (λ (n : ℕ). tells (get_or lists.places n no_place)) same ∙ silent
        | inr rest ↦ elim rest [
          | inl below ↦ quiet i within (found.2 i below)
          | inr above ↦ quiet i within (later i found.1 above (omega (arith, within, count)))
        ]
      ]))
    where
      later : (i : ℕ) → owns_label label (get_or lists.ends slot fresh) ≡ true → slot < i → i < length lists.ends → owns_label label (get_or lists.ends i fresh) ≡ false
      later i here above within =
          let own : get_or (map own_of lists.ends) slot None ≡ Some label = own_at lists.ends slot ∙ label_is label (own_of (get_or lists.ends slot fresh)) here in
          let differ : Differ (get_or (map own_of lists.ends) slot None) (get_or (map own_of lists.ends) i None) =
          differ_at (map own_of lists.ends) slot i own_apart above (omega (arith, within, count_own lists.ends)) in
          ap (is_label label) (sym (own_at lists.ends i)) ∙ away label (get_or (map own_of lists.ends) i None) (subst (λ (o : Option ℕ). Differ o (get_or (map own_of lists.ends) i None)) own differ)

  pub advertiser_none : position (owns_label label) lists.ends ≡ None → None ≡ find tells lists.places
  advertiser_none none = sym (find_none tells lists.places no_place (λ i within. quiet i within (fails_all (owns_label label) lists.ends none i fresh (omega (arith, within, count)))))
