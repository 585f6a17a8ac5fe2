-- The kept numbers, before and after the calls.
use Rattle.std.proofs.Common.{◌≡◌, ◌<◌, ◌+◌, ◌∙◌, ◌==◌, ℕ, suc, Bool, true, false, List, [], ◌∷◌, Option, Some, None, length, cond, map, refl, ap, sym, subst, inl, inr, arith}
use Rattle.std.specs.Prelude.{option_map, nat_lt}
use Rattle.std.specs.List.{AllByRecursion}
use Rattle.std.proofs.lemmas.Bool.{cases_Bool, eqb-true}
use Rattle.std.proofs.lemmas.Option.{same_Some}
use Rattle.net_values.proofs.NumberLemmas.{same_number, equal_to_one, elsewhere, above_apart}
use Rattle.net_values.proofs.OptionLemmas.{something}
use Rattle.net_base.specs.declared.plan.places.EdgeId.{EdgeId}
use Rattle.label_space.specs.declared.kept.Kept.{Kept}
use Rattle.label_space.specs.declared.kept.KeptState.{KeptState}
use Rattle.label_space.specs.declared.kept.KeptState.TheVariants.{Waits, Rests, Free}
use Rattle.label_space.specs.Kept.{AreRisingBy, is_free, is_free_state, kept_at, keeps, label_of, least_free, most_kept, put_by, put_in, waiting, without}

-- a number that is below all is not kept
pub unkept_below : (label from : ℕ) (kept : List Kept) → label < from → AreRisingBy label_of from kept → kept_at label kept ≡ None
unkept_below label from [] less rising = refl
unkept_below label from (k ∷ ks) less rising =
    rw (above_apart label k.label (omega (arith, less, rising.0))) (unkept_below label (k.label + 1) ks (omega (arith, less, rising.0)) rising.1)

-- ---- one more

-- a number that is not kept is another one than each that is
pub apart_all : (label : ℕ) (kept : List Kept) → kept_at label kept ≡ None → AllByRecursion (λ k. (k.label == label) ≡ false) kept
apart_all label [] none = tt
apart_all label (k ∷ ks) none = elim (cases_Bool (k.label == label)) [
  | inl here ↦ absurd (something k.state (rw here at none))
  | inr other ↦ (other, apart_all label ks (rw other at none))
]

pub kept_put : (new : Kept) (kept : List Kept) → kept_at new.label kept ≡ None → (label : ℕ) → kept_at label (put_in new kept) ≡ cond (new.label == label) (Some new.state) (kept_at label kept)
kept_put new [] none label = refl
kept_put new (k ∷ ks) none label = elim (cases_Bool (k.label == new.label)) [
  | inl here ↦ absurd (something k.state (rw here at none))
  | inr other ↦
      elim (nat_lt k.label new.label) as (λ v. kept_at label (cond v (k ∷ put_by label_of new ks) (new ∷ k ∷ ks)) ≡ cond (new.label == label) (Some new.state) (kept_at label (k ∷ ks))) [
        | true ↦ by (k.label == label) refl other (kept_put new ks (rw other at none) label)
        | false ↦ refl
      ]
]
  where
    by : (b : Bool) → (k.label == label) ≡ b → (k.label == new.label) ≡ false → kept_at label (put_in new ks) ≡ cond (new.label == label) (Some new.state) (kept_at label ks)
        → cond b (Some k.state) (kept_at label (put_in new ks)) ≡ cond (new.label == label) (Some new.state) (cond b (Some k.state) (kept_at label ks))
    by true is other rest = elim (cases_Bool (new.label == label)) [
      | inl clash ↦ equal_to_one k.label new.label label is clash other
      | inr unlike ↦ rw unlike refl
    ]
    by false is other rest = rest

pub kept_more : (label : ℕ) (peer : EdgeId) (kept : List Kept) → kept_at label kept ≡ None → (other : ℕ) → (label == other) ≡ false → kept_at other (keeps label peer kept) ≡ kept_at other kept
kept_more label peer kept none other unlike = elim (nat_lt (length kept) most_kept) as (λ v. kept_at other (cond v (put_in (waiting label peer) kept) kept) ≡ kept_at other kept) [
  | true ↦ kept_put (waiting label peer) kept none other ∙ rw unlike refl
  | false ↦ refl
]

-- ---- each changed

pub kept_map : (f : KeptState → KeptState) (kept : List Kept) (label : ℕ) → kept_at label (map (λ k. record { label = k.label; state = f k.state }) kept) ≡ option_map f (kept_at label kept)
kept_map f [] label = refl
kept_map f (k ∷ ks) label = elim (k.label == label) as
    (λ v. cond v (Some (f k.state)) (kept_at label (map (λ o. record { label = o.label; state = f o.state }) ks)) ≡ option_map f (cond v (Some k.state) (kept_at label ks))) [
      | true ↦ refl
      | false ↦ kept_map f ks label
    ]

pub long_map : {X : Type 0} (f : X → X) (xs : List X) → length (map f xs) ≡ length xs
long_map f [] = refl
long_map f (x ∷ xs) = ap suc (long_map f xs)

-- ---- one less

pub kept_without : (at label : ℕ) (kept : List Kept) → kept_at label (without at kept) ≡ cond (at == label) None (kept_at label kept)
kept_without at label [] = none (at == label) where
  none : (b : Bool) → ◌≡◌ {A = Option KeptState} None (cond b None None)
  none true = refl
  none false = refl
kept_without at label (k ∷ ks) = elim (cases_Bool (k.label == at)) [
  | inl here ↦ rw here (kept_without at label ks ∙ gone (at == label) refl here)
  | inr other ↦ rw other (by (k.label == label) refl other (kept_without at label ks))
]
  where
    gone : (b : Bool) → (at == label) ≡ b → (k.label == at) ≡ true → cond b None (kept_at label ks) ≡ cond b None (cond (k.label == label) (Some k.state) (kept_at label ks))
    gone true is here = refl
    gone false is here = rw (elsewhere k.label at label here is) refl

    by : (b : Bool) → (k.label == label) ≡ b → (k.label == at) ≡ false → kept_at label (without at ks) ≡ cond (at == label) None (kept_at label ks)
        → cond b (Some k.state) (kept_at label (without at ks)) ≡ cond (at == label) None (cond b (Some k.state) (kept_at label ks))
    by true is other rest = elim (cases_Bool (at == label)) [
      | inl clash ↦ equal_to_one k.label at label is clash other
      | inr apart ↦ rw apart refl
    ]
    by false is other rest = rest

-- ---- the least that is free

-- what is found is kept as free
pub least_is : (label from : ℕ) (kept : List Kept) → AreRisingBy label_of from kept → least_free kept ≡ Some label → kept_at label kept ≡ Some Free
least_is label from [] rising found = absurd (something label (sym found))
least_is label from (k ∷ ks) rising found = elim (cases_Bool (is_free k)) [
  | inl free ↦
      (let one : k.label ≡ label = same_Some k.label label (rw free at found) in
      subst (λ (l : ℕ). cond (k.label == l) (Some k.state) (kept_at l ks) ≡ Some Free) one (rw (same_number k.label) (by k.state free)))
  | inr other ↦
      (let rest : kept_at label ks ≡ Some Free = least_is label (k.label + 1) ks rising.1 (rw other at found) in
      apart rest)
]
  where
    by : (s : KeptState) → is_free_state s ≡ true → Some s ≡ Some Free
    by (Waits peer) free = absurd (clash free) where
      clash : false ≡ true → ⊥
      clash is = cc
    by (Rests ticks) free = absurd (clash free) where
      clash : false ≡ true → ⊥
      clash is = cc
    by Free free = refl

    apart : kept_at label ks ≡ Some Free → cond (k.label == label) (Some k.state) (kept_at label ks) ≡ Some Free
    apart rest = elim (cases_Bool (k.label == label)) [
      | inl here ↦ absurd (something Free (sym rest ∙ unkept_below label (k.label + 1) ks (omega (arith, eqb-true k.label label here)) rising.1))
      | inr unlike ↦ rw unlike rest
    ]
