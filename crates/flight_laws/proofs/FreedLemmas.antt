-- Numbers that ends own no longer, and that wait for their neighbours.
use Rattle.std.proofs.Common.{◌≡◌, ◌≢◌, ◌∙◌, ◌⊎◌, ◌==◌, ℕ, Bool, true, false, cond, List, [], ◌∷◌, Option, Some, None, length, inl, inr, refl, sym, subst, arith}
use Rattle.std.specs.Prelude.{nat_lt}
use Rattle.std.specs.List.{AllByRecursion}
use Rattle.std.proofs.lemmas.Bool.{eqb-true}
use Rattle.net_values.proofs.NumberLemmas.{same_number as is_same}
use Rattle.net_values.proofs.OptionLemmas.{something}
use Rattle.net_base.specs.declared.plan.places.EdgeId.{EdgeId}
use Rattle.label_space.specs.declared.kept.Kept.{Kept}
use Rattle.label_space.specs.declared.kept.KeptState.{KeptState}
use Rattle.label_space.specs.declared.kept.KeptState.TheVariants.{Waits}
use Rattle.label_space.specs.declared.owner.Owner.{Owner}
use Rattle.label_space.specs.Kept.{AreRisingBy, kept_at, label_of, most_kept, put_in, waiting}
use Rattle.label_space.specs.Labels.{owned_label}
use Rattle.label_space.proofs.KeptLemmas.{apart_all, kept_put}
use Rattle.label_space.proofs.OrderLemmas.{all_put, rising_put}
use Rattle.pw_signalling.specs.End.{EndState, LocalPart, Idle, Advertised, Withdrawing}
use Rattle.pw_signalling.specs.Laws.{own_label}
use Rattle.edge_model.specs.declared.end_place.EndPlace.{EndPlace}
use Rattle.edge_model.specs.Labels.{keeps_lost, keeps_one, keeps_owned, left_label, owner_at, owners_of, unless_kept, with_owner_at}
use Rattle.flight_laws.specs.Rules.{MayBeKept, part_owns}

-- ---- what an end owns

pub owns_own : (local : LocalPart) (label : ℕ) → own_label local ≡ Some label → part_owns local label ≡ true
owns_own (Idle declined) label is = absurd (something label (sym is))
owns_own (Advertised own told) label is = subst (λ (n : ℕ). (own == n) ≡ true) (some_is own label is) (is_same own) where
  some_is : (a b : ℕ) → Some a ≡ Some b → a ≡ b
  some_is a b e = cc
owns_own (Withdrawing own) label is = subst (λ (n : ℕ). (own == n) ≡ true) (some_is own label is) (is_same own) where
  some_is : (a b : ℕ) → Some a ≡ Some b → a ≡ b
  some_is a b e = cc

pub owns_none : (local : LocalPart) (label : ℕ) → own_label local ≡ None → part_owns local label ≡ false
owns_none (Idle declined) label is = refl
owns_none (Advertised own told) label is = absurd (something own is)
owns_none (Withdrawing own) label is = absurd (something own is)

pub left_is : (before now : Option ℕ) (label : ℕ) → left_label before now ≡ Some label → (before ≡ Some label) × (now ≡ None)
left_is None now label is = absurd (something label (sym is))
left_is (Some own) None label is = (is, refl)
left_is (Some own) (Some other) label is = absurd (something label (sym is))

-- ---- one number is kept

pub may_keep : (label : ℕ) (peer : EdgeId) (kept : List Kept) (other p : ℕ) (age : Option ℕ) → (label ≡ other → peer.0 ≡ p) → MayBeKept p age (kept_at other kept)
    → MayBeKept p age (kept_at other (keeps_one (Some label) peer kept))
may_keep label peer kept other p age same may = by (kept_at label kept) refl where
  by : (r : Option KeptState) → kept_at label kept ≡ r → MayBeKept p age (kept_at other (unless_kept r label peer kept))
  by (Some state) is = may
  by None is = elim (nat_lt (length kept) most_kept) as (λ v. MayBeKept p age (kept_at other (cond v (put_in (waiting label peer) kept) kept))) [
    | true ↦ subst (MayBeKept p age) (sym (kept_put (waiting label peer) kept is other)) (there (label == other) refl)
    | false ↦ may
  ]
    where
      there : (b : Bool) → (label == other) ≡ b → MayBeKept p age (cond b (Some (Waits peer)) (kept_at other kept))
      there true here = same (eqb-true label other here)
      there false apart = may

pub rising_keep : (label : ℕ) (peer : EdgeId) (kept : List Kept) → AreRisingBy label_of 0 kept → AreRisingBy label_of 0 (keeps_one (Some label) peer kept)
rising_keep label peer kept rising = by (kept_at label kept) refl where
  by : (r : Option KeptState) → kept_at label kept ≡ r → AreRisingBy label_of 0 (unless_kept r label peer kept)
  by (Some state) is = rising
  by None is = elim (nat_lt (length kept) most_kept) as (λ v. AreRisingBy label_of 0 (cond v (put_in (waiting label peer) kept) kept)) [
    | true ↦ rising_put label_of (waiting label peer) 0 kept (apart_all label kept is) (omega arith) rising
    | false ↦ rising
  ]

-- what is kept then was so before, or is this number
pub kept_from : (label : ℕ) (peer : EdgeId) (kept : List Kept) (other : ℕ) → kept_at other (keeps_one (Some label) peer kept) ≢ None → (kept_at other kept ≢ None) ⊎ (label ≡ other)
kept_from label peer kept other = by (kept_at label kept) refl where
  by : (r : Option KeptState) → kept_at label kept ≡ r → kept_at other (unless_kept r label peer kept) ≢ None → (kept_at other kept ≢ None) ⊎ (label ≡ other)
  by (Some state) is there = inl there
  by None is there = either (nat_lt (length kept) most_kept) there
    where
      new : kept_at other (put_in (waiting label peer) kept) ≢ None → (b : Bool) → (label == other) ≡ b → (kept_at other kept ≢ None) ⊎ (label ≡ other)
      new there true here = inr (eqb-true label other here)
      new there false apart = inl (λ none. there (kept_put (waiting label peer) kept is other ∙ rw apart none))

      either : (v : Bool) → kept_at other (cond v (put_in (waiting label peer) kept) kept) ≢ None → (kept_at other kept ≢ None) ⊎ (label ≡ other)
      either true there = new there (label == other) refl
      either false there = inl there

-- ---- each end beside a peer is lost

pub lost_may : (beside : EdgeId) (ends : ℕ → ℕ → EndState) (places : List EndPlace) (kept : List Kept) (other p : ℕ) (age : Option ℕ) → ((w k : ℕ) → part_owns (ends w k).local other ≡ true → k ≡ p)
    → MayBeKept p age (kept_at other kept) → MayBeKept p age (kept_at other (keeps_lost beside ends places kept))
lost_may beside ends [] kept other p age owner may = may
lost_may beside ends (place ∷ places) kept other p age owner may =
    lost_may beside ends places (cond (place.peer.0 == beside.0) (keeps_one (own_label (ends place.wire.0 place.peer.0).local) place.peer kept) kept) other p age owner (by (place.peer.0 == beside.0))
  where
    one : (own : Option ℕ) → own_label (ends place.wire.0 place.peer.0).local ≡ own → MayBeKept p age (kept_at other (keeps_one own place.peer kept))
    one None is = may
    one (Some label) is =
        may_keep label place.peer kept other p age
        (λ same. owner place.wire.0 place.peer.0 (subst (λ (l : ℕ). part_owns (ends place.wire.0 place.peer.0).local l ≡ true) same (owns_own (ends place.wire.0 place.peer.0).local label is))) may

    by : (b : Bool) → MayBeKept p age (kept_at other (cond b (keeps_one (own_label (ends place.wire.0 place.peer.0).local) place.peer kept) kept))
    by true = one (own_label (ends place.wire.0 place.peer.0).local) refl
    by false = may

rising_one : (own : Option ℕ) (peer : EdgeId) (kept : List Kept) → AreRisingBy label_of 0 kept → AreRisingBy label_of 0 (keeps_one own peer kept)
rising_one None peer kept rising = rising
rising_one (Some label) peer kept rising = rising_keep label peer kept rising

pub lost_rising : (beside : EdgeId) (ends : ℕ → ℕ → EndState) (places : List EndPlace) (kept : List Kept) → AreRisingBy label_of 0 kept → AreRisingBy label_of 0 (keeps_lost beside ends places kept)
lost_rising beside ends [] kept rising = rising
lost_rising beside ends (place ∷ places) kept rising =
    lost_rising beside ends places (cond (place.peer.0 == beside.0) (keeps_one (own_label (ends place.wire.0 place.peer.0).local) place.peer kept) kept) (by (place.peer.0 == beside.0))
  where
    by : (b : Bool) → AreRisingBy label_of 0 (cond b (keeps_one (own_label (ends place.wire.0 place.peer.0).local) place.peer kept) kept)
    by true = rising_one (own_label (ends place.wire.0 place.peer.0).local) place.peer kept rising
    by false = rising

-- an end beside the peer owns the number
pub record IsOwnedBeside (beside : EdgeId) (ends : ℕ → ℕ → EndState) (label : ℕ) : Type 0 where
  pub wire : ℕ
  pub owned : part_owns (ends wire beside.0).local label ≡ true

pub lost_from : (beside : EdgeId) (ends : ℕ → ℕ → EndState) (places : List EndPlace) (kept : List Kept) (other : ℕ) → kept_at other (keeps_lost beside ends places kept) ≢ None
    → (kept_at other kept ≢ None) ⊎ IsOwnedBeside beside ends other
lost_from beside ends [] kept other there = inl there
lost_from beside ends (place ∷ places) kept other there =
    by (place.peer.0 == beside.0) refl (lost_from beside ends places (cond (place.peer.0 == beside.0) (keeps_one (own_label (ends place.wire.0 place.peer.0).local) place.peer kept) kept) other there)
  where
    owned : (label : ℕ) → own_label (ends place.wire.0 place.peer.0).local ≡ Some label → (place.peer.0 == beside.0) ≡ true → label ≡ other → IsOwnedBeside beside ends other
    owned label is here same =
        record {
          wire = place.wire.0;
          owned = subst (λ (k : ℕ). part_owns (ends place.wire.0 k).local other ≡ true) (eqb-true place.peer.0 beside.0 here)
              (subst (λ (l : ℕ). part_owns (ends place.wire.0 place.peer.0).local l ≡ true) same (owns_own (ends place.wire.0 place.peer.0).local label is));
        }

    one : (own : Option ℕ) → own_label (ends place.wire.0 place.peer.0).local ≡ own → (place.peer.0 == beside.0) ≡ true → kept_at other (keeps_one own place.peer kept) ≢ None
        → (kept_at other kept ≢ None) ⊎ IsOwnedBeside beside ends other
    one None is here there = inl there
    one (Some label) is here there = to (kept_from label place.peer kept other there) where
      to : (kept_at other kept ≢ None) ⊎ (label ≡ other) → (kept_at other kept ≢ None) ⊎ IsOwnedBeside beside ends other
      to (inl before) = inl before
      to (inr same) = inr (owned label is here same)

    by : (b : Bool) → (place.peer.0 == beside.0) ≡ b → (kept_at other (cond b (keeps_one (own_label (ends place.wire.0 place.peer.0).local) place.peer kept) kept) ≢ None)
        ⊎ IsOwnedBeside beside ends other → (kept_at other kept ≢ None) ⊎ IsOwnedBeside beside ends other
    by true here (inl there) = one (own_label (ends place.wire.0 place.peer.0).local) refl here there
    by true here (inr freed) = inr freed
    by false apart before = before

-- ---- a restart

-- an owner is an end that owns the label
abbrev pub IsOwnEnd : (ℕ → ℕ → EndState) → Owner → Type 0
IsOwnEnd ends o = part_owns (ends o.key.wire.0 o.peer.0).local o.label ≡ true

pub owners_own : (ends : ℕ → ℕ → EndState) (places : List EndPlace) → AllByRecursion (IsOwnEnd ends) (owners_of ends places)
owners_own ends [] = tt
owners_own ends (place ∷ places) = by (own_label (ends place.wire.0 place.peer.0).local) refl (owners_own ends places) where
  by : (own : Option ℕ) → own_label (ends place.wire.0 place.peer.0).local ≡ own → AllByRecursion (IsOwnEnd ends) (owners_of ends places)
      → AllByRecursion (IsOwnEnd ends) (with_owner_at place own (owners_of ends places))
  by None is all = all
  by (Some label) is all = all_put owned_label (IsOwnEnd ends) (owner_at place label) (owners_of ends places) (owns_own (ends place.wire.0 place.peer.0).local label is) all

pub owned_may : (ends : ℕ → ℕ → EndState) (owners : List Owner) (kept : List Kept) (other p : ℕ) (age : Option ℕ) → AllByRecursion (IsOwnEnd ends) owners
    → ((w k : ℕ) → part_owns (ends w k).local other ≡ true → k ≡ p)
    → MayBeKept p age (kept_at other kept) → MayBeKept p age (kept_at other (keeps_owned owners kept))
owned_may ends [] kept other p age all owner may = may
owned_may ends (o ∷ os) kept other p age all owner may =
    owned_may ends os (keeps_one (Some o.label) o.peer kept) other p age all.1 owner
    (may_keep o.label o.peer kept other p age (λ same. owner o.key.wire.0 o.peer.0 (subst (λ (l : ℕ). part_owns (ends o.key.wire.0 o.peer.0).local l ≡ true) same all.0)) may)

pub owned_rising : (owners : List Owner) (kept : List Kept) → AreRisingBy label_of 0 kept → AreRisingBy label_of 0 (keeps_owned owners kept)
owned_rising [] kept rising = rising
owned_rising (o ∷ os) kept rising = owned_rising os (keeps_one (Some o.label) o.peer kept) (rising_keep o.label o.peer kept rising)

-- an end owns the number
pub record IsOwnedAt (ends : ℕ → ℕ → EndState) (label : ℕ) : Type 0 where
  pub wire : ℕ
  pub peer : ℕ
  pub owned : part_owns (ends wire peer).local label ≡ true

pub owned_from : (ends : ℕ → ℕ → EndState) (owners : List Owner) (kept : List Kept) (other : ℕ) → AllByRecursion (IsOwnEnd ends) owners → kept_at other (keeps_owned owners kept) ≢ None
    → (kept_at other kept ≢ None) ⊎ IsOwnedAt ends other
owned_from ends [] kept other all there = inl there
owned_from ends (o ∷ os) kept other all there = to (owned_from ends os (keeps_one (Some o.label) o.peer kept) other all.1 there) where
  one : (kept_at other kept ≢ None) ⊎ (o.label ≡ other) → (kept_at other kept ≢ None) ⊎ IsOwnedAt ends other
  one (inl before) = inl before
  one (inr same) = inr (record { wire = o.key.wire.0; peer = o.peer.0; owned = subst (λ (l : ℕ). part_owns (ends o.key.wire.0 o.peer.0).local l ≡ true) same all.0 })

  to : (kept_at other (keeps_one (Some o.label) o.peer kept) ≢ None) ⊎ IsOwnedAt ends other → (kept_at other kept ≢ None) ⊎ IsOwnedAt ends other
  to (inl there) = one (kept_from o.label o.peer kept other there)
  to (inr freed) = inr freed
