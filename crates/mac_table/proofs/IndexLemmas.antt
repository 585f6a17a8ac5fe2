-- The map beside the entries, before and after the calls.
use Rattle.std.proofs.Common.{◌≡◌, ◌<◌, ◌≤◌, ◌+◌, ◌++◌, ◌∙◌, ℕ, Bool, true, false, List, [], ◌∷◌, Option, Some, None, length, take, get_or, set, suc, zero, nat_lt, cond, refl, ap, sym, subst, inl, inr, arith}
use Rattle.std.specs.Prelude.{filter, bytes_eq, option_map}
use Rattle.std.specs.List.{position, position_or_len, remove}
use Rattle.std.specs.Map.{keys_of, lookup}
use Rattle.indexmap.specs.IndexMap.{insert_entry, set_value_at}
use Rattle.std.proofs.lemmas.Bool.{cases_Bool, or_parts}
use Rattle.std.proofs.lemmas.Bool.Decides.{nat_tests}
use Rattle.net_values.specs.declared.mac.Mac.{Mac}
use Rattle.net_values.proofs.NumberLemmas.{suc_is_add}
use Rattle.net_values.proofs.OptionLemmas.{found_at}
use Rattle.net_values.proofs.RowLemmas.{bytes_eq-sym}
use Rattle.mac_table.specs.declared.mac_entry.MacEntry.{MacEntry}
use Rattle.mac_table.specs.Addresses.{AreDistinctAddresses, is_of, has_address, entry_place, port_of}
use Rattle.mac_table.proofs.AddressLemmas.{address_of, distinct-filter, other_way}
use Rattle.mac_table.specs.Index.{IsAddressIndex, address_pair, address_pairs}

key : (address : Mac) (e : MacEntry) → bytes_eq address.0 e.address.0 ≡ is_of address e
key address e = bytes_eq-sym address.0 e.address.0

pub length-address_pairs : (es : List MacEntry) → length (address_pairs es) ≡ length es
length-address_pairs [] = refl
length-address_pairs (e ∷ es) = ap suc (length-address_pairs es)

-- the place of the address among the keys
place_found : (address : Mac) (es : List MacEntry) → position_or_len (λ m. bytes_eq address.0 m.0) (keys_of (address_pairs es)) ≡ entry_place es address
place_found address [] = refl
place_found address (e ∷ es) = elim (cases_Bool (is_of address e)) [
  | inl found ↦ rw (key address e, found) refl
  | inr other ↦ rw (key address e, other) (omega (arith, place_found address es))
]

-- the value of the address
pub port_found : (address : Mac) (es : List MacEntry) → option_map (λ v. v.0) (lookup (λ m. bytes_eq address.0 m.0) (address_pairs es)) ≡ port_of es address
port_found address [] = refl
port_found address (e ∷ es) = elim (cases_Bool (is_of address e)) [
  | inl found ↦ rw (key address e, found) refl
  | inr other ↦ rw (key address e, other) (port_found address es)
]

found_none : (p n : ℕ) → None ≡ cond (nat_lt p n) (Some p) None → n ≤ p
found_none p n is = elim (cases_Bool (nat_lt p n)) [
  | inl less ↦ absurd (none-some p (rw less at is))
  | inr more ↦ grind (arith, nat_tests, more)
]
  where
    none-some : (p : ℕ) → None ≡ Some p → ⊥
    none-some p is = cc

pub place_some : (address : Mac) (es : List MacEntry) (fs : List (Mac × (ℕ × ℕ))) (i : ℕ) → fs ≡ address_pairs es → Some i ≡ position (λ m. bytes_eq address.0 m.0) (keys_of fs) → i
    ≡ entry_place es address
place_some address es fs i same is =
    found_at _ _ i (subst (λ l. Some i ≡ position (λ m. bytes_eq address.0 m.0) (keys_of l)) same is) ∙ place_found address es

place_within : (es : List MacEntry) (address : Mac) → entry_place es address ≤ length es
place_within [] address = omega arith
place_within (e ∷ es) address = elim (is_of address e) as (λ v. cond v 0 (entry_place es address + 1) ≤ length (e ∷ es)) [
  | true ↦ omega arith
  | false ↦ omega (arith, place_within es address)
]

length-keys : (es : List MacEntry) → length (keys_of (address_pairs es)) ≡ length es
length-keys [] = refl
length-keys (e ∷ es) = ap suc (length-keys es)

pub place_none : (address : Mac) (es : List MacEntry) (fs : List (Mac × (ℕ × ℕ))) → fs ≡ address_pairs es → None ≡ position (λ m. bytes_eq address.0 m.0) (keys_of fs) → length es
    ≡ entry_place es address
place_none address es fs same is =
    let none : length (keys_of (address_pairs es)) ≤ position_or_len (λ m. bytes_eq address.0 m.0) (keys_of (address_pairs es)) =
    found_none _ _ (subst (λ l. None ≡ position (λ m. bytes_eq address.0 m.0) (keys_of l)) same is) in
    omega (arith, rw (length-keys es, place_found address es) at none, place_within es address)

pub port_some : (address : Mac) (es : List MacEntry) (fs : List (Mac × (ℕ × ℕ))) (v : ℕ × ℕ) → fs ≡ address_pairs es → Some v ≡ lookup (λ m. bytes_eq address.0 m.0) fs → Some v.0 ≡ port_of es address
port_some address es fs v same is =
    ap (λ (o : Option (ℕ × ℕ)). option_map (λ v. v.0) o) (subst (λ l. Some v ≡ lookup (λ m. bytes_eq address.0 m.0) l) same is) ∙ port_found address es

pub port_none : (address : Mac) (es : List MacEntry) (fs : List (Mac × (ℕ × ℕ))) → fs ≡ address_pairs es → None ≡ lookup (λ m. bytes_eq address.0 m.0) fs → None ≡ port_of es address
port_none address es fs same is =
    ap (λ (o : Option (ℕ × ℕ)). option_map (λ v. v.0) o) (subst (λ l. None ≡ lookup (λ m. bytes_eq address.0 m.0) l) same is) ∙ port_found address es

pub set_past : (fs : List (Mac × (ℕ × ℕ))) (i : ℕ) (v : ℕ × ℕ) → length fs ≤ i → set_value_at fs i v ≡ fs
set_past [] i v past = refl
set_past (f ∷ fs) zero v past = absurd (omega (arith, past))
set_past (f ∷ fs) (suc i) v past = ap (λ (l : List (Mac × (ℕ × ℕ))). f ∷ l) (set_past fs i v (omega (arith, past)))

-- a new address goes last
inserted_last : (entry : MacEntry) (xs : List MacEntry) → has_address xs entry.address ≡ false
    → insert_entry (λ a b. bytes_eq a.0 b.0) (address_pairs xs) entry.address (entry.port, entry.tick) ≡ address_pairs (xs ++ entry ∷ [])
inserted_last entry [] absent = refl
inserted_last entry (x ∷ xs) absent =
    let both = or_parts (is_of entry.address x) (has_address xs entry.address) absent in
    rw (key entry.address x, both.0) (ap (λ (l : List (Mac × (ℕ × ℕ))). address_pair x ∷ l) (inserted_last entry xs both.1))

-- where it is as long as the list it is the list's
pub index_whole : (fs : List (Mac × (ℕ × ℕ))) (xs : List MacEntry) → IsAddressIndex fs xs → length fs ≡ length xs → fs ≡ address_pairs xs
index_whole fs xs (inl same) long = same
index_whole fs [] (inr none) long = none
index_whole fs (x ∷ xs) (inr none) long = absurd (omega (arith, rw none at long))

pub index_added : (fs gs : List (Mac × (ℕ × ℕ))) (xs : List MacEntry) (entry : MacEntry) → IsAddressIndex fs xs → length fs ≡ length xs → has_address xs entry.address ≡ false → gs
    ≡ insert_entry (λ a b. bytes_eq a.0 b.0) fs entry.address (entry.port, entry.tick) → IsAddressIndex gs (xs ++ entry ∷ [])
index_added fs gs xs entry index long absent same =
    inl (same ∙ ap (λ (l : List (Mac × (ℕ × ℕ))). insert_entry (λ a b. bytes_eq a.0 b.0) l entry.address (entry.port, entry.tick)) (index_whole fs xs index long) ∙ inserted_last entry xs absent)

set_pairs : (xs : List MacEntry) (i : ℕ) (entry : MacEntry) → i ≡ entry_place xs entry.address → i < length xs → set_value_at (address_pairs xs) i (entry.port, entry.tick)
    ≡ address_pairs (set xs i entry)
set_pairs [] i entry at within = refl
set_pairs (x ∷ xs) zero entry at within = elim (cases_Bool (is_of entry.address x)) [
  | inl found ↦ ap (λ (a : Mac). (a, (entry.port, entry.tick)) ∷ address_pairs xs) (address_of entry.address x found)
  | inr other ↦ absurd (omega (arith, rw other at at))
]
set_pairs (x ∷ xs) (suc i) entry at within = elim (cases_Bool (is_of entry.address x)) [
  | inl found ↦ absurd (omega (arith, rw found at at))
  | inr other ↦ ap (λ (l : List (Mac × (ℕ × ℕ))). address_pair x ∷ l) (set_pairs xs i entry (omega (arith, rw other at at)) (omega (arith, within)))
]

-- the map has what the list has, after a write at a place
pub index_written : (fs gs : List (Mac × (ℕ × ℕ))) (xs ys : List MacEntry) (i : ℕ) (entry : MacEntry) → IsAddressIndex fs xs → i ≡ entry_place xs entry.address → i < length xs → gs
    ≡ set_value_at fs i (entry.port, entry.tick) → ys ≡ set xs i entry → IsAddressIndex gs ys
index_written fs gs xs ys i entry (inl whole) at within put same =
    inl (put ∙ ap (λ (l : List (Mac × (ℕ × ℕ))). set_value_at l i (entry.port, entry.tick)) whole ∙ set_pairs xs i entry at within ∙ sym (ap address_pairs same))
index_written fs gs xs ys i entry (inr none) at within put same = inr (put ∙ ap (λ (l : List (Mac × (ℕ × ℕ))). set_value_at l i (entry.port, entry.tick)) none)

removed_pairs : (xs : List MacEntry) (i : ℕ) → remove (address_pairs xs) i ≡ address_pairs (remove xs i)
removed_pairs [] zero = refl
removed_pairs [] (suc i) = refl
removed_pairs (x ∷ xs) zero = refl
removed_pairs (x ∷ xs) (suc i) = ap (λ (l : List (Mac × (ℕ × ℕ))). address_pair x ∷ l) (removed_pairs xs i)

-- the map has what the list has, after both lost what was at a place
pub index_removed : (fs gs : List (Mac × (ℕ × ℕ))) (xs ys : List MacEntry) (i : ℕ) → IsAddressIndex fs xs → gs ≡ remove fs i → ys ≡ remove xs i → IsAddressIndex gs ys
index_removed fs gs xs ys i (inl whole) lost same = inl (lost ∙ ap (λ (l : List (Mac × (ℕ × ℕ))). remove l i) whole ∙ removed_pairs xs i ∙ sym (ap address_pairs same))
index_removed fs gs xs ys i (inr none) lost same = inr (lost ∙ ap (λ (l : List (Mac × (ℕ × ℕ))). remove l i) none ∙ nothing i)
  where
    nothing : (n : ℕ) → remove {X = Mac × (ℕ × ℕ)} [] n ≡ []
    nothing zero = refl
    nothing (suc n) = refl

pub distinct_left : (p : MacEntry → Bool) (xs ys : List MacEntry) → AreDistinctAddresses xs → ys ≡ filter p xs → AreDistinctAddresses ys
distinct_left p xs ys distinct same = subst AreDistinctAddresses (sym same) (distinct-filter p xs distinct)

-- an entry is of no address of the entries before it
unlike_at : (xs : List MacEntry) (i : ℕ) (x d : MacEntry) → has_address xs x.address ≡ false → i < length xs → is_of x.address (get_or xs i d) ≡ false
unlike_at [] i x d absent within = absurd (omega (arith, within))
unlike_at (y ∷ ys) zero x d absent within = (or_parts (is_of x.address y) (has_address ys x.address) absent).0
unlike_at (y ∷ ys) (suc i) x d absent within = unlike_at ys i x d (or_parts (is_of x.address y) (has_address ys x.address) absent).1 (omega (arith, within))

absent_before : (xs : List MacEntry) (i : ℕ) (d : MacEntry) → AreDistinctAddresses xs → i < length xs → has_address (take i xs) (get_or xs i d).address ≡ false
absent_before [] i d distinct within = absurd (omega (arith, within))
absent_before (x ∷ xs) zero d distinct within = refl
absent_before (x ∷ xs) (suc i) d distinct within =
    let less : i < length xs = omega (arith, within) in
    rw (other_way x (get_or xs i d) (unlike_at xs i x d distinct.0 less)) (absent_before xs i d distinct.1 less)

pub take_next : (xs : List MacEntry) (i : ℕ) (d : MacEntry) → i < length xs → take i xs ++ get_or xs i d ∷ [] ≡ take (suc i) xs
take_next [] i d within = absurd (omega (arith, within))
take_next (x ∷ xs) zero d within = refl
take_next (x ∷ xs) (suc i) d within = ap (λ (l : List MacEntry). x ∷ l) (take_next xs i d (omega (arith, within)))

-- one more entry is put in anew
pub index_refilled : (fs gs : List (Mac × (ℕ × ℕ))) (xs : List MacEntry) (i next : ℕ) (d : MacEntry) → AreDistinctAddresses xs → i < length xs → next ≡ i + 1 → fs ≡ address_pairs (take i xs)
    → gs ≡ insert_entry (λ a b. bytes_eq a.0 b.0) fs (get_or xs i d).address ((get_or xs i d).port, (get_or xs i d).tick) → gs ≡ address_pairs (take next xs)
index_refilled fs gs xs i next d distinct within after done put =
    let e : MacEntry = get_or xs i d in
    put ∙ ap (λ (l : List (Mac × (ℕ × ℕ))). insert_entry (λ a b. bytes_eq a.0 b.0) l e.address (e.port, e.tick)) done
    ∙ inserted_last e (take i xs) (absent_before xs i d distinct within) ∙ ap address_pairs (take_next xs i d within ∙ ap (λ (n : ℕ). take n xs) (suc_is_add i ∙ sym after))

length-take_next : (xs : List MacEntry) (i : ℕ) → i < length xs → length (take (suc i) xs) ≡ i + 1
length-take_next [] i within = absurd (omega (arith, within))
length-take_next (x ∷ xs) zero within = refl
length-take_next (x ∷ xs) (suc i) within = ap suc (length-take_next xs i (omega (arith, within))) ∙ omega arith

-- as many address_pairs as entries were put in
pub index_long : (fs : List (Mac × (ℕ × ℕ))) (xs : List MacEntry) (i : ℕ) → i < length xs → fs ≡ address_pairs (take (i + 1) xs) → length fs ≡ i + 1
index_long fs xs i within same =
    let next : i + 1 ≡ suc i = omega arith in
    ap length same ∙ length-address_pairs (take (i + 1) xs) ∙ ap (λ (n : ℕ). length (take n xs)) next ∙ length-take_next xs i within

-- what an index reads, whatever stands for a place that is not there
pub read_at : (xs : List MacEntry) (i : ℕ) (x d : MacEntry) → i < length xs → x ≡ get_or xs i x → x ≡ get_or xs i d
read_at xs i x d within is = is ∙ same_in xs i within
  where
    same_in : (xs : List MacEntry) (i : ℕ) → i < length xs → get_or xs i x ≡ get_or xs i d
    same_in [] i within = absurd (omega (arith, within))
    same_in (y ∷ ys) zero within = refl
    same_in (y ∷ ys) (suc i) within = same_in ys i (omega (arith, within))
