-- What a table holds after an address came, and after entries were taken out.
use Rattle.std.proofs.Common.{◌≡◌, ◌<◌, ◌+◌, ◌++◌, ◌||◌, ◌⊎◌, ◌∙◌, ℕ, Bool, true, false, List, [], ◌∷◌, Option, Some, None, length, set, suc, nat_lt, cond, refl, ap, sym, subst, inl, inr, add-one, arith, length-append, ◌≤◌}
use Rattle.std.specs.Prelude.{filter, All, Contains, bytes_eq, option_map}
use Rattle.std.proofs.lemmas.Bool.{cases_Bool, ltb-true, or_parts, lt-ltb, le-ltb}
use Rattle.std.proofs.lemmas.Map.Entries.{option_filter}
use Rattle.std.proofs.lemmas.Bool.Decides.{nat_tests}
use Rattle.std.proofs.lemmas.Slice.Eq.{bytes_eq-Decides}
use Rattle.std.proofs.lemmas.List.Elements.{All-cons, All-head, All-tail, All-push, All-weaker, All-same, All-filter, All-contains_itself}
use Rattle.net_values.specs.declared.mac.Mac.{Mac}
use Rattle.net_values.proofs.NumberLemmas.{zero_below}
use Rattle.mac_table.specs.declared.mac_entry.MacEntry.{MacEntry}
use Rattle.mac_table.specs.Addresses.{AddressTable, is_of, has_address, has_room, port_of, mac_entry_of, entry_place, replaced, learned, AreDistinctAddresses, NoneAfter, IsHeld}

-- an entry of the address has that address
pub address_of : (address : Mac) (e : MacEntry) → is_of address e ≡ true → e.address ≡ address
address_of address e found = ap (λ (octets : List ℕ). record { 0 = octets }) ((bytes_eq-Decides e.address.0 address.0).0 found)

-- an entry is of its own address
pub is_of-itself : (e : MacEntry) → is_of e.address e ≡ true
is_of-itself e = (bytes_eq-Decides e.address.0 e.address.0).1 refl

-- addresses differ both ways
pub other_way : (a b : MacEntry) → is_of a.address b ≡ false → is_of b.address a ≡ false
other_way a b differs = elim (cases_Bool (is_of b.address a)) [
  | inl found ↦ (let same : is_of a.address b ≡ true = (bytes_eq-Decides b.address.0 a.address.0).1 (sym ((bytes_eq-Decides a.address.0 b.address.0).0 found)) in absurd (cc))
  | inr absent ↦ absent
]

absent-push : (xs : List MacEntry) (e : MacEntry) (address : Mac) → has_address xs address ≡ false → is_of address e ≡ false → has_address (xs ++ e ∷ []) address ≡ false
absent-push [] e address absent differs = rw differs refl
absent-push (x ∷ xs) e address absent differs =
    let both = or_parts (is_of address x) (has_address xs address) absent in
    rw (both.0) (absent-push xs e address both.1 differs)

distinct-push : (xs : List MacEntry) (e : MacEntry) → AreDistinctAddresses xs → has_address xs e.address ≡ false → AreDistinctAddresses (xs ++ e ∷ [])
distinct-push [] e distinct absent = (refl, tt)
distinct-push (x ∷ xs) e distinct absent =
    let both = or_parts (is_of e.address x) (has_address xs e.address) absent in
    (absent-push xs e x.address distinct.0 (other_way e x both.0), distinct-push xs e distinct.1 both.1)

pub absent-filter : (p : MacEntry → Bool) (xs : List MacEntry) (address : Mac) → has_address xs address ≡ false → has_address (filter p xs) address ≡ false
absent-filter p [] address absent = refl
absent-filter p (x ∷ xs) address absent =
    let both = or_parts (is_of address x) (has_address xs address) absent in
    elim (p x) as (λ v. has_address (cond v (x ∷ filter p xs) (filter p xs)) address ≡ false) [
      | true ↦ rw (both.0) (absent-filter p xs address both.1)
      | false ↦ absent-filter p xs address both.1
    ]

-- what is left of distinct entries is distinct
pub distinct-filter : (p : MacEntry → Bool) (xs : List MacEntry) → AreDistinctAddresses xs → AreDistinctAddresses (filter p xs)
distinct-filter p [] distinct = tt
distinct-filter p (x ∷ xs) distinct =
    elim (p x) as (λ v. AreDistinctAddresses (cond v (x ∷ filter p xs) (filter p xs))) [
      | true ↦ (absent-filter p xs x.address distinct.0, distinct-filter p xs distinct.1)
      | false ↦ distinct-filter p xs distinct.1
    ]

has-replaced : (entry : MacEntry) (xs : List MacEntry) (address : Mac) → has_address (replaced entry xs) address ≡ has_address xs address
has-replaced entry [] address = refl
has-replaced entry (x ∷ xs) address = elim (cases_Bool (is_of entry.address x)) [
  | inl found ↦ rw found (ap (λ (m : Mac). bytes_eq m.0 address.0 || has_address xs address) (sym (address_of entry.address x found)))
  | inr absent ↦ rw absent (ap (λ (b : Bool). is_of address x || b) (has-replaced entry xs address))
]

distinct-replaced : (entry : MacEntry) (xs : List MacEntry) → AreDistinctAddresses xs → AreDistinctAddresses (replaced entry xs)
distinct-replaced entry [] distinct = tt
distinct-replaced entry (x ∷ xs) distinct = elim (cases_Bool (is_of entry.address x)) [
  | inl found ↦ rw found (subst (λ (m : Mac). has_address xs m ≡ false) (address_of entry.address x found) distinct.0, distinct.1)
  | inr absent ↦ rw absent (has-replaced entry xs x.address ∙ distinct.0, distinct-replaced entry xs distinct.1)
]

-- distinct entries stay so when an address comes
pub distinct-learned : (table : AddressTable) (entry : MacEntry) → AreDistinctAddresses table.entries → AreDistinctAddresses (learned table entry)
distinct-learned table entry distinct = elim (cases_Bool (has_address table.entries entry.address)) [
  | inl held ↦ rw held (distinct-replaced entry table.entries distinct)
  | inr absent ↦ rw absent (elim (has_room table) as (λ v. AreDistinctAddresses (cond v (table.entries ++ entry ∷ []) table.entries)) [
    | true ↦ distinct-push table.entries entry distinct absent
    | false ↦ distinct
  ])
]

next_below : (a n : ℕ) → nat_lt (a + 1) (suc n) ≡ nat_lt a n
next_below a n = grind (arith, nat_tests)

one_more : (xs : List MacEntry) (e : MacEntry) (capacity : ℕ) → nat_lt (length xs) capacity ≡ true → length (xs ++ e ∷ []) ≤ capacity
one_more xs e capacity room = omega (arith, length-append xs (e ∷ []), ltb-true (length xs) capacity room)

pub length-filter_le : (p : MacEntry → Bool) (xs : List MacEntry) → length (filter p xs) ≤ length xs
length-filter_le p [] = omega arith
length-filter_le p (x ∷ xs) =
    let rest : length (filter p xs) ≤ length xs = length-filter_le p xs in
    elim (p x) as (λ v. length (cond v (x ∷ filter p xs) (filter p xs)) ≤ length (x ∷ xs)) [
      | true ↦ omega arith
      | false ↦ omega arith
    ]

-- the place of an address is that of an entry exactly where it is held
pub place_held : (xs : List MacEntry) (address : Mac) → nat_lt (entry_place xs address) (length xs) ≡ has_address xs address
place_held [] address = refl
place_held (x ∷ xs) address = elim (cases_Bool (is_of address x)) [
  | inl found ↦ rw found (zero_below (length xs))
  | inr absent ↦ rw absent (next_below (entry_place xs address) (length xs) ∙ place_held xs address)
]

-- a write at the place of the address replaces its entry
pub replaced_at : (entry : MacEntry) (xs : List MacEntry) → entry_place xs entry.address < length xs → set xs (entry_place xs entry.address) entry ≡ replaced entry xs
replaced_at entry [] within = refl
replaced_at entry (x ∷ xs) within = elim (cases_Bool (is_of entry.address x)) [
  | inl found ↦ rw found refl
  | inr absent ↦
      (let inside : entry_place xs entry.address < length xs = omega (arith, rw absent at within) in
      rw (absent, add-one) (ap (λ (l : List MacEntry). x ∷ l) (replaced_at entry xs inside)))
]

all-replaced : (P : MacEntry → Type 0) (entry : MacEntry) (xs : List MacEntry) → All P xs → P entry → All P (replaced entry xs)
all-replaced P entry [] all new = all
all-replaced P entry (x ∷ xs) all new = elim (is_of entry.address x) as (λ v. All P (cond v (entry ∷ xs) (x ∷ replaced entry xs))) [
  | true ↦ All-cons P entry xs new (All-tail P x xs all)
  | false ↦ All-cons P x (replaced entry xs) (All-head P x xs all) (all-replaced P entry xs (All-tail P x xs all) new)
]

-- what holds of all entries, and of the one that came, holds of all afterwards
pub all-learned : (P : MacEntry → Type 0) (table : AddressTable) (entry : MacEntry) → All P table.entries → P entry → All P (learned table entry)
all-learned P table entry all new = elim (has_address table.entries entry.address) as
    (λ v. All P (cond v (replaced entry table.entries) (cond (has_room table) (table.entries ++ entry ∷ []) table.entries))) [
      | true ↦ all-replaced P entry table.entries all new
      | false ↦ elim (has_room table) as (λ v. All P (cond v (table.entries ++ entry ∷ []) table.entries)) [
        | true ↦ All-push P table.entries entry all new
        | false ↦ all
      ]
    ]

-- an entry is the one that came, or stood there before
pub learned_from : (table : AddressTable) (entry : MacEntry) → All (λ e. (e ≡ entry) ⊎ Contains table.entries e) (learned table entry)
learned_from table entry =
    all-learned (λ e. (e ≡ entry) ⊎ Contains table.entries e) table entry
    (All-weaker (Contains table.entries) (λ e. (e ≡ entry) ⊎ Contains table.entries e) (λ e held. inr held) table.entries (All-contains_itself table.entries))
    (inl refl)

-- an address that is not held has no entry
pub entry_of-absent : (xs : List MacEntry) (address : Mac) → has_address xs address ≡ false → mac_entry_of xs address ≡ None
entry_of-absent [] address absent = refl
entry_of-absent (x ∷ xs) address absent =
    let both = or_parts (is_of address x) (has_address xs address) absent in
    rw (both.0) (entry_of-absent xs address both.1)

-- an address that is held has an entry
pub entry_of-held : (xs : List MacEntry) (address : Mac) → has_address xs address ≡ true → (e : MacEntry) × (mac_entry_of xs address ≡ Some e) × (e.address ≡ address) × Contains xs e
entry_of-held [] address held = absurd (cc)
entry_of-held (x ∷ xs) address held = elim (cases_Bool (is_of address x)) [
  | inl found ↦ (x, rw found refl, address_of address x found, (0, omega arith, refl))
  | inr absent ↦
      (let later = entry_of-held xs address (rw absent at held) in
      (later.0, rw absent (later.1), later.2, (later.3.0 + 1, omega (arith, later.3.1), rw add-one (later.3.2))))
]

-- the entry of an address that came is the one that came, where it was held or there was room
entry_of-replaced_same : (entry : MacEntry) (xs : List MacEntry) → has_address xs entry.address ≡ true → mac_entry_of (replaced entry xs) entry.address ≡ Some entry
entry_of-replaced_same entry [] held = absurd (cc)
entry_of-replaced_same entry (x ∷ xs) held = elim (cases_Bool (is_of entry.address x)) [
  | inl found ↦ rw (found, is_of-itself entry) refl
  | inr absent ↦ rw (absent, absent) (entry_of-replaced_same entry xs (rw absent at held))
]

entry_of-replaced_other : (entry : MacEntry) (xs : List MacEntry) (address : Mac) → is_of address entry ≡ false → mac_entry_of (replaced entry xs) address ≡ mac_entry_of xs address
entry_of-replaced_other entry [] address other = refl
entry_of-replaced_other entry (x ∷ xs) address other = elim (cases_Bool (is_of entry.address x)) [
  | inl found ↦
      (let differs : is_of address x ≡ false = subst (λ (m : Mac). bytes_eq m.0 address.0 ≡ false) (sym (address_of entry.address x found)) other in
      rw (found, other, differs) refl)
  | inr absent ↦ rw absent (ap (λ (o : Option MacEntry). cond (is_of address x) (Some x) o) (entry_of-replaced_other entry xs address other))
]

entry_of-push : (xs : List MacEntry) (entry : MacEntry) (address : Mac) → has_address xs address ≡ false → mac_entry_of (xs ++ entry ∷ []) address ≡ mac_entry_of (entry ∷ []) address
entry_of-push [] entry address absent = refl
entry_of-push (x ∷ xs) entry address absent =
    let both = or_parts (is_of address x) (has_address xs address) absent in
    rw (both.0) (entry_of-push xs entry address both.1)

entry_of-push_other : (xs : List MacEntry) (entry : MacEntry) (address : Mac) → is_of address entry ≡ false → mac_entry_of (xs ++ entry ∷ []) address ≡ mac_entry_of xs address
entry_of-push_other [] entry address other = rw other refl
entry_of-push_other (x ∷ xs) entry address other =
    ap (λ (o : Option MacEntry). cond (is_of address x) (Some x) o) (entry_of-push_other xs entry address other)

-- after an address came it has the entry that came, but where it was new and the table full
pub entry_of-learned_same : (table : AddressTable) (entry : MacEntry) → (has_address table.entries entry.address || has_room table) ≡ true
    → mac_entry_of (learned table entry) entry.address ≡ Some entry
entry_of-learned_same table entry took = elim (cases_Bool (has_address table.entries entry.address)) [
  | inl held ↦ rw held (entry_of-replaced_same entry table.entries held)
  | inr absent ↦
      (let room : has_room table ≡ true = rw absent at took in
      rw (absent, room) (entry_of-push table.entries entry entry.address absent ∙ rw (is_of-itself entry) refl))
]

-- every other address has the entry that it had
pub entry_of-learned_other : (table : AddressTable) (entry : MacEntry) (address : Mac) → is_of address entry ≡ false → mac_entry_of (learned table entry) address ≡ mac_entry_of table.entries address
entry_of-learned_other table entry address other =
    elim (has_address table.entries entry.address) as
    (λ v. mac_entry_of (cond v (replaced entry table.entries) (cond (has_room table) (table.entries ++ entry ∷ []) table.entries)) address ≡ mac_entry_of table.entries address) [
      | true ↦ entry_of-replaced_other entry table.entries address other
      | false ↦ elim (has_room table) as (λ v. mac_entry_of (cond v (table.entries ++ entry ∷ []) table.entries) address ≡ mac_entry_of table.entries address) [
        | true ↦ entry_of-push_other table.entries entry address other
        | false ↦ refl
      ]
    ]

-- the same of the ports
pub port_of-learned_same : (table : AddressTable) (entry : MacEntry) → (has_address table.entries entry.address || has_room table) ≡ true → port_of (learned table entry) entry.address
    ≡ Some entry.port
port_of-learned_same table entry took = ap (λ (o : Option MacEntry). option_map (λ e. e.port) o) (entry_of-learned_same table entry took)

pub port_of-learned_other : (table : AddressTable) (entry : MacEntry) (address : Mac) → is_of address entry ≡ false → port_of (learned table entry) address ≡ port_of table.entries address
port_of-learned_other table entry address other = ap (λ (o : Option MacEntry). option_map (λ e. e.port) o) (entry_of-learned_other table entry address other)

-- after entries were taken out an address has its entry where that one stayed
pub entry_of-filter : (p : MacEntry → Bool) (xs : List MacEntry) (address : Mac) → AreDistinctAddresses xs → mac_entry_of (filter p xs) address ≡ option_filter p (mac_entry_of xs address)
entry_of-filter p [] address distinct = refl
entry_of-filter p (x ∷ xs) address distinct = elim (cases_Bool (is_of address x)) [
  | inl found ↦
      (let none : has_address xs address ≡ false = subst (λ (m : Mac). has_address xs m ≡ false) (address_of address x found) distinct.0 in
      rw found (elim (p x) as (λ v. mac_entry_of (cond v (x ∷ filter p xs) (filter p xs)) address ≡ cond v (Some x) None) [
        | true ↦ rw found refl
        | false ↦ entry_of-absent (filter p xs) address (absent-filter p xs address none)
      ]))
  | inr absent ↦ rw absent (elim (p x) as (λ v. mac_entry_of (cond v (x ∷ filter p xs) (filter p xs)) address ≡ option_filter p (mac_entry_of xs address)) [
    | true ↦ rw absent (entry_of-filter p xs address distinct.1)
    | false ↦ entry_of-filter p xs address distinct.1
  ])
]

-- the same of the ports
pub port_of-filter : (p : MacEntry → Bool) (xs : List MacEntry) (address : Mac) → AreDistinctAddresses xs → port_of (filter p xs) address
    ≡ option_map (λ e. e.port) (option_filter p (mac_entry_of xs address))
port_of-filter p xs address distinct = ap (λ (o : Option MacEntry). option_map (λ e. e.port) o) (entry_of-filter p xs address distinct)

-- what one look at the place of an address says
pub held_at : (xs : List MacEntry) (address : Mac) (place : ℕ) → place ≡ entry_place xs address → place < length xs → has_address xs address ≡ true
held_at xs address place at within =
    let inside : entry_place xs address < length xs = subst (λ (n : ℕ). n < length xs) at within in
    sym (place_held xs address) ∙ lt-ltb _ _ inside

pub written_at : (entry : MacEntry) (xs : List MacEntry) (place : ℕ) → place ≡ entry_place xs entry.address → place < length xs → set xs place entry ≡ replaced entry xs
written_at entry xs place at within =
    let inside : entry_place xs entry.address < length xs = subst (λ (n : ℕ). n < length xs) at within in
    ap (λ (n : ℕ). set xs n entry) at ∙ replaced_at entry xs inside

pub absent_past : (xs : List MacEntry) (address : Mac) (place : ℕ) → place ≡ entry_place xs address → length xs ≤ place → has_address xs address ≡ false
absent_past xs address place at past =
    let outside : length xs ≤ entry_place xs address = subst (λ (n : ℕ). length xs ≤ n) at past in
    sym (place_held xs address) ∙ le-ltb _ _ outside

pub length-replaced : (entry : MacEntry) (xs : List MacEntry) → length (replaced entry xs) ≡ length xs
length-replaced entry [] = refl
length-replaced entry (x ∷ xs) = elim (is_of entry.address x) as (λ v. length (cond v (entry ∷ xs) (x ∷ replaced entry xs)) ≡ length (x ∷ xs)) [
  | true ↦ refl
  | false ↦ ap suc (length-replaced entry xs)
]

-- an address that came leaves no more entries than are to be held
length-learned : (table : AddressTable) (entry : MacEntry) → length table.entries ≤ table.capacity → length (learned table entry) ≤ table.capacity
length-learned table entry within = elim (has_address table.entries entry.address) as
    (λ v. length (cond v (replaced entry table.entries) (cond (has_room table) (table.entries ++ entry ∷ []) table.entries)) ≤ table.capacity) [
      | true ↦ rw (length-replaced entry table.entries) within
      | false ↦ elim (cases_Bool (has_room table)) [
        | inl room ↦ rw room (one_more table.entries entry table.capacity room)
        | inr full ↦ rw full within
      ]
    ]

-- the invariant holds after an address came
pub held_learned : (capacity room now : ℕ) (xs ys : List MacEntry) (entry : MacEntry) → IsHeld capacity room xs → ys ≡ learned (record { entries = xs; capacity = capacity }) entry
    → now ≡ room → IsHeld capacity now ys
held_learned capacity room now xs ys entry held same equal = rw (same, equal) (record {
  reserved = held.reserved;
  within = length-learned (record { entries = xs; capacity = capacity }) entry held.within;
  distinct = distinct-learned (record { entries = xs; capacity = capacity }) entry held.distinct;
})

-- and where an entry took the place of the one of its address
pub held_written : (capacity room now : ℕ) (xs ys : List MacEntry) (entry : MacEntry) (place : ℕ) → IsHeld capacity room xs → place ≡ entry_place xs entry.address → place < length xs
    → ys ≡ set xs place entry → now ≡ room → IsHeld capacity now ys
held_written capacity room now xs ys entry place held is within same equal =
    let table : AddressTable = record { entries = xs; capacity = capacity } in
    let kept : learned table entry ≡ replaced entry xs = rw (held_at xs entry.address place is within) refl in
    held_learned capacity room now xs ys entry held (same ∙ (written_at entry xs place is within ∙ sym kept)) equal

-- the invariant holds of what is left
pub held_filtered : (p : MacEntry → Bool) (capacity room now : ℕ) (xs ys : List MacEntry) → IsHeld capacity room xs → ys ≡ filter p xs → now ≡ room → IsHeld capacity now ys
held_filtered p capacity room now xs ys held same equal = rw (same, equal) (record {
  reserved = held.reserved;
  within = omega (arith, held.within, length-filter_le p xs);
  distinct = distinct-filter p xs held.distinct;
})

-- no frame came after now where none did before
pub none_after_filtered : (p : MacEntry → Bool) (now : ℕ) (xs ys : List MacEntry) → NoneAfter now xs → ys ≡ filter p xs → NoneAfter now ys
none_after_filtered p now xs ys before same = All-same (λ e. e.tick ≤ now) ys (filter p xs) same (All-filter p (λ e. e.tick ≤ now) xs before)

-- what came by a tick came by every later one
pub none_after_later : (before now : ℕ) (xs : List MacEntry) → NoneAfter before xs → before ≤ now → NoneAfter now xs
none_after_later before now xs none later = λ k d within. omega (arith, none k d within)
