-- Entries that are taken out one by one.
use Rattle.std.proofs.Common.{◌≡◌, ◌<◌, ◌≤◌, ◌+◌, ℕ, Bool, true, false, List, [], ◌∷◌, length, take, get_or, suc, zero, cond, refl, ap, subst, arith}
use Rattle.std.specs.Prelude.{filter, All}
use Rattle.std.specs.List.{remove}
use Rattle.std.proofs.lemmas.List.Elements.{All-head, All-push, All-tail}
use Rattle.std.proofs.lemmas.Bool.{or_parts}
use Rattle.net_values.specs.declared.mac.Mac.{Mac}
use Rattle.net_values.proofs.NumberLemmas.{suc_is_add}
use Rattle.mac_table.specs.declared.mac_entry.MacEntry.{MacEntry}
use Rattle.mac_table.specs.Addresses.{AreDistinctAddresses, IsHeld, has_address, is_of}
use Rattle.mac_table.proofs.IndexLemmas.{take_next}

-- where all stay, that is all
pub filter_all : (p : MacEntry → Bool) (es : List MacEntry) → All (λ e. p e ≡ true) es → filter p es ≡ es
filter_all p [] all = refl
filter_all p (e ∷ es) all = rw (All-head (λ (x : MacEntry). p x ≡ true) e es all) (ap (λ (l : List MacEntry). e ∷ l) (filter_all p es (All-tail (λ (x : MacEntry). p x ≡ true) e es all)))

-- what goes makes no difference to what stays
pub filter_removed : (p : MacEntry → Bool) (xs : List MacEntry) (i : ℕ) (d : MacEntry) → i < length xs → p (get_or xs i d) ≡ false → filter p (remove xs i) ≡ filter p xs
filter_removed p [] i d within goes = absurd (omega (arith, within))
filter_removed p (x ∷ xs) zero d within goes = rw goes refl
filter_removed p (x ∷ xs) (suc i) d within goes =
    ap (λ (l : List MacEntry). cond (p x) (x ∷ l) l) (filter_removed p xs i d (omega (arith, within)) goes)

pub length_removed : (xs : List MacEntry) (i : ℕ) → i < length xs → length (remove xs i) + 1 ≡ length xs
length_removed [] i within = absurd (omega (arith, within))
length_removed (x ∷ xs) zero within = omega arith
length_removed (x ∷ xs) (suc i) within = omega (arith, length_removed xs i (omega (arith, within)))

pub front_removed : (xs : List MacEntry) (i : ℕ) → i < length xs → take i (remove xs i) ≡ take i xs
front_removed [] i within = absurd (omega (arith, within))
front_removed (x ∷ xs) zero within = refl
front_removed (x ∷ xs) (suc i) within = ap (λ (l : List MacEntry). x ∷ l) (front_removed xs i (omega (arith, within)))

absent_removed : (xs : List MacEntry) (i : ℕ) (address : Mac) → has_address xs address ≡ false → has_address (remove xs i) address ≡ false
absent_removed [] zero address absent = refl
absent_removed [] (suc i) address absent = refl
absent_removed (x ∷ xs) zero address absent = (or_parts (is_of address x) (has_address xs address) absent).1
absent_removed (x ∷ xs) (suc i) address absent =
    let both = or_parts (is_of address x) (has_address xs address) absent in
    rw (both.0) (absent_removed xs i address both.1)

pub distinct_removed : (xs : List MacEntry) (i : ℕ) → AreDistinctAddresses xs → AreDistinctAddresses (remove xs i)
distinct_removed [] zero distinct = tt
distinct_removed [] (suc i) distinct = tt
distinct_removed (x ∷ xs) zero distinct = distinct.1
distinct_removed (x ∷ xs) (suc i) distinct = (absent_removed xs i x.address distinct.0, distinct_removed xs i distinct.1)

-- one more entry stays
pub front_stays : (p : MacEntry → Bool) (xs : List MacEntry) (i : ℕ) (d : MacEntry) → i < length xs → p (get_or xs i d) ≡ true → All (λ e. p e ≡ true) (take i xs)
    → All (λ e. p e ≡ true) (take (i + 1) xs)
front_stays p xs i d within stays all =
    subst (λ (n : ℕ). All (λ e. p e ≡ true) (take n xs)) (suc_is_add i)
    (subst (All (λ (e : MacEntry). p e ≡ true)) (take_next xs i d within) (All-push (λ (e : MacEntry). p e ≡ true) (take i xs) (get_or xs i d) all stays))

take_all : (xs : List MacEntry) (i : ℕ) → length xs ≤ i → take i xs ≡ xs
take_all [] zero past = refl
take_all [] (suc i) past = refl
take_all (x ∷ xs) zero past = absurd (omega (arith, past))
take_all (x ∷ xs) (suc i) past = ap (λ (l : List MacEntry). x ∷ l) (take_all xs i (omega (arith, past)))

-- where all stay, nothing is left to go
pub all_stay : (p : MacEntry → Bool) (xs : List MacEntry) (i : ℕ) → length xs ≤ i → All (λ e. p e ≡ true) (take i xs) → filter p xs ≡ xs
all_stay p xs i past all = filter_all p xs (subst (All (λ (e : MacEntry). p e ≡ true)) (take_all xs i past) all)

-- the table holds what is left
pub held_removed : (capacity room now : ℕ) (xs ys : List MacEntry) (i : ℕ) → IsHeld capacity room xs → i < length xs → ys ≡ remove xs i → now ≡ room → IsHeld capacity now ys
held_removed capacity room now xs ys i held within same equal = rw (same, equal) (record {
  reserved = held.reserved;
  within = omega (arith, held.within, length_removed xs i within);
  distinct = distinct_removed xs i held.distinct;
})
