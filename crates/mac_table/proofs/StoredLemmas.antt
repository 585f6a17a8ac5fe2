-- What a table holds among what it stores.
use Rattle.std.proofs.Common.{◌≡◌, ◌<◌, ◌≤◌, ◌+◌, ◌++◌, ◌∙◌, ◌&&◌, ◌||◌, ℕ, zero, suc, Bool, true, false, cond, nat_eq, nat_le, nat_lt, List, [], ◌∷◌, Option, Some, None, length, length-append, drop, get_or, refl, ap, sym, subst, arith}
use Rattle.std.specs.Prelude.{All, filter, option_map}
use Rattle.std.specs.List.{remove}
use Rattle.std.proofs.lemmas.Bool.{lt-ltb, or_right}
use Rattle.std.proofs.lemmas.Bool.Decides.{nat_tests}
use Rattle.std.proofs.lemmas.List.Elements.{All-cons, All-filter, All-head, All-same, All-tail, All-weaker}
use Rattle.std.proofs.lemmas.Map.Entries.{option_filter}
use Rattle.net_values.specs.declared.mac.Mac.{Mac}
use Rattle.mac_table.specs.declared.mac_entry.MacEntry.{MacEntry}
use Rattle.mac_table.specs.Addresses.{AddressTable, AreDistinctAddresses, NoneAfter, entry_place, has_address, has_room, is_of, is_young, learned, learning_of, mac_entry_of, port_of, replaced}
use Rattle.mac_table.specs.Stored.{IsReady, held, held_table, is_held, young_since}
use Rattle.mac_table.proofs.AddressLemmas.{absent-filter, absent_past, address_of, all-learned, distinct-filter, entry_of-absent, held_at, length-filter_le, port_of-filter}
use Rattle.mac_table.proofs.RemovalLemmas.{filter_all, filter_removed, length_removed}

-- ---- filters

-- in either order
pub filters_turned : (p q : MacEntry → Bool) (xs : List MacEntry) → filter p (filter q xs) ≡ filter q (filter p xs)
filters_turned p q [] = refl
filters_turned p q (x ∷ xs) = by (p x) (q x) refl refl (filters_turned p q xs) where
  by : (a b : Bool) → p x ≡ a → q x ≡ b → filter p (filter q xs) ≡ filter q (filter p xs)
      → filter p (cond b (x ∷ filter q xs) (filter q xs)) ≡ filter q (cond a (x ∷ filter p xs) (filter p xs))
  by true true pa qb rest = rw (pa, qb) (ap (λ (l : List MacEntry). x ∷ l) rest)
  by true false pa qb rest = rw qb rest
  by false true pa qb rest = rw pa rest
  by false false pa qb rest = rest

-- one that lets less through than another one
pub filters_one : (p q r : MacEntry → Bool) (xs : List MacEntry) → ((x : MacEntry) → (q x && p x) ≡ r x) → filter p (filter q xs) ≡ filter r xs
filters_one p q r [] same = refl
filters_one p q r (x ∷ xs) same = by (p x) (q x) (r x) refl (same x) (filters_one p q r xs same) where
  by : (a b c : Bool) → p x ≡ a → (b && a) ≡ c → filter p (filter q xs) ≡ filter r xs → filter p (cond b (x ∷ filter q xs) (filter q xs)) ≡ cond c (x ∷ filter r xs) (filter r xs)
  by true true true pa is rest = rw pa (ap (λ (l : List MacEntry). x ∷ l) rest)
  by true true false pa is rest = absurd (cc (is))
  by true false true pa is rest = absurd (cc (is))
  by true false false pa is rest = rest
  by false true true pa is rest = absurd (cc (is))
  by false true false pa is rest = rw pa rest
  by false false true pa is rest = absurd (cc (is))
  by false false false pa is rest = rest

filter_push : (p : MacEntry → Bool) (xs : List MacEntry) (entry : MacEntry) → p entry ≡ true → filter p (xs ++ entry ∷ []) ≡ filter p xs ++ entry ∷ []
filter_push p [] entry is = rw is refl
filter_push p (x ∷ xs) entry is = elim (p x) as (λ v. cond v (x ∷ filter p (xs ++ entry ∷ [])) (filter p (xs ++ entry ∷ [])) ≡ cond v (x ∷ filter p xs) (filter p xs) ++ entry ∷ []) [
  | true ↦ ap (λ (l : List MacEntry). x ∷ l) (filter_push p xs entry is)
  | false ↦ filter_push p xs entry is
]

-- ---- what is held

le_holds : (a b : ℕ) → a ≤ b → nat_le a b ≡ true
le_holds a b less = grind (arith, nat_tests, less)

-- where none is earlier, all that is stored is held
pub all_held : (since oldest : ℕ) (xs : List MacEntry) → All (λ e. oldest ≤ e.tick) xs → since ≤ oldest → held since xs ≡ xs
all_held since oldest xs aged less =
    filter_all (is_held since) xs (All-weaker (λ e. oldest ≤ e.tick) (λ e. is_held since e ≡ true) (λ e late. le_holds since e.tick (omega (arith, late, less))) xs aged)

pub held_again : (since : ℕ) (xs : List MacEntry) → held since (held since xs) ≡ held since xs
held_again since xs = filters_one (is_held since) (is_held since) (is_held since) xs (λ x. twice (is_held since x))
  where
    twice : (b : Bool) → (b && b) ≡ b
    twice true = refl
    twice false = refl

pub held_few : (since : ℕ) (xs : List MacEntry) → length (held since xs) ≤ length xs
held_few since xs = length-filter_le (is_held since) xs

-- where the next one is held, there is room for it among all that are
held_next : (since : ℕ) (xs : List MacEntry) (i : ℕ) (d : MacEntry) → i < length xs → since ≤ (get_or xs i d).tick → 0 < length (held since (drop i xs))
held_next since [] i d within late = absurd (omega (arith, within))
held_next since (x ∷ xs) zero d within late = rw (le_holds since x.tick late) (omega arith)
held_next since (x ∷ xs) (suc i) d within late = held_next since xs i d (omega (arith, within)) late

pub room_for_next : (since room i : ℕ) (before now xs : List MacEntry) (d : MacEntry) → now ++ held since (drop i xs) ≡ before ++ held since xs → length before + length (held since xs) ≤ room
    → i < length xs → since ≤ (get_or xs i d).tick → length now < room
room_for_next since room i before now xs d same fits within late =
    omega (arith, ap length same, length-append now (held since (drop i xs)), length-append before (held since xs), fits, held_next since xs i d within late)

-- ---- ageing

-- nothing is young for no ticks
none_young : (now : ℕ) (xs : List MacEntry) → filter (is_young now 0) xs ≡ []
none_young now [] = refl
none_young now (x ∷ xs) = let none : is_young now 0 x ≡ false = grind (arith, nat_tests) in rw none (none_young now xs)

pub aged_all : (since now limit : ℕ) (xs : List MacEntry) → limit ≡ 0 → [] ≡ filter (is_young now limit) (held since xs)
aged_all since now limit xs none = sym (ap (λ (n : ℕ). filter (is_young now n) (held since xs)) none ∙ none_young now (held since xs))

young_is : (now limit : ℕ) (e : MacEntry) → 0 < limit → is_young now limit e ≡ is_held (young_since now limit) e
young_is now limit e some = grind (arith, nat_tests, some)

-- those that are young are held since a later tick
pub aged_since : (since now limit : ℕ) (xs : List MacEntry) → 0 < limit → since ≤ young_since now limit → held (young_since now limit) xs ≡ filter (is_young now limit) (held since xs)
aged_since since now limit xs some later =
    sym (filters_one (is_young now limit) (is_held since) (is_held (young_since now limit)) xs (λ e. ap (λ (b : Bool). is_held since e && b) (young_is now limit e some) ∙ both e.tick))
  where
    both : (tick : ℕ) → (nat_le since tick && nat_le (young_since now limit) tick) ≡ nat_le (young_since now limit) tick
    both tick = by (nat_le since tick) (nat_le (young_since now limit) tick) refl refl where
      by : (a b : Bool) → nat_le since tick ≡ a → nat_le (young_since now limit) tick ≡ b → (a && b) ≡ b
      by true b sa yb = refl
      by false true sa yb = absurd (grind (arith, nat_tests, sa, yb, later))
      by false false sa yb = refl

-- where they are held since an earlier one, all are young
pub aged_none : (since now limit : ℕ) (xs : List MacEntry) → 0 < limit → young_since now limit ≤ since → held since xs ≡ filter (is_young now limit) (held since xs)
aged_none since now limit xs some earlier =
    sym (filters_one (is_young now limit) (is_held since) (is_held since) xs (λ e. ap (λ (b : Bool). is_held since e && b) (young_is now limit e some) ∙ both e.tick))
  where
    both : (tick : ℕ) → (nat_le since tick && nat_le (young_since now limit) tick) ≡ nat_le since tick
    both tick = by (nat_le since tick) (nat_le (young_since now limit) tick) refl refl where
      by : (a b : Bool) → nat_le since tick ≡ a → nat_le (young_since now limit) tick ≡ b → (a && b) ≡ a
      by true true sa yb = refl
      by true false sa yb = absurd (grind (arith, nat_tests, sa, yb, earlier))
      by false b sa yb = refl

pub aged_oldest : (since oldest now limit : ℕ) (xs : List MacEntry) → All (λ e. oldest ≤ e.tick) xs → 0 < limit → young_since now limit ≤ oldest
    → held since xs ≡ filter (is_young now limit) (held since xs)
aged_oldest since oldest now limit xs aged some earlier =
    sym (filters_turned (is_young now limit) (is_held since) xs ∙ ap (held since) (young xs aged))
  where
    young : (ys : List MacEntry) → All (λ e. oldest ≤ e.tick) ys → filter (is_young now limit) ys ≡ ys
    young ys late =
        filter_all (is_young now limit) ys (All-weaker (λ e. oldest ≤ e.tick) (λ e. is_young now limit e ≡ true)
        (λ e after. young_is now limit e some ∙ le_holds (young_since now limit) e.tick (omega (arith, after, earlier))) ys late)

-- ---- an address comes

-- it takes the place of its entry, which is held
held_replaced : (since : ℕ) (entry : MacEntry) (xs : List MacEntry) → AreDistinctAddresses xs → is_held since entry ≡ true → has_address (held since xs) entry.address ≡ true
    → held since (replaced entry xs) ≡ replaced entry (held since xs)
held_replaced since entry [] distinct here has = refl
held_replaced since entry (x ∷ xs) distinct here has = by (is_of entry.address x) (is_held since x) refl refl has (λ more. held_replaced since entry xs distinct.1 here more) where
  by : (a b : Bool) → is_of entry.address x ≡ a → is_held since x ≡ b → has_address (cond b (x ∷ held since xs) (held since xs)) entry.address ≡ true
      → (has_address (held since xs) entry.address ≡ true → held since (replaced entry xs) ≡ replaced entry (held since xs))
      → held since (cond a (entry ∷ xs) (x ∷ replaced entry xs)) ≡ replaced entry (cond b (x ∷ held since xs) (held since xs))
  by true true own stays found rest = rw (here, own) refl
  by true false own gone found rest =
      let absent : has_address xs entry.address ≡ false = subst (λ (m : Mac). has_address xs m ≡ false) (address_of entry.address x own) distinct.0 in
      let wrong : false ≡ true = sym (absent-filter (is_held since) xs entry.address absent) ∙ found in
      absurd (cc (wrong))
  by false true other stays found rest =
      let more : has_address (held since xs) entry.address ≡ true = sym (ap (λ (c : Bool). c || has_address (held since xs) entry.address) other) ∙ found in
      rw (stays, other) (ap (λ (l : List MacEntry). x ∷ l) (rest more))
  by false false other gone found rest = rw gone (rest found)

-- where what is stored is ready, the address comes to what is held
pub held_learned_by : (since : ℕ) (table : AddressTable) (entry : MacEntry) → AreDistinctAddresses table.entries → is_held since entry ≡ true
    → IsReady since table.capacity entry.address table.entries
    → held since (learned table entry) ≡ learned (record table { entries = held since table.entries }) entry
held_learned_by since table entry distinct here ready = by (has_address table.entries entry.address) refl where
  by : (known : Bool) → has_address table.entries entry.address ≡ known → held since (learned table entry) ≡ learned (record table { entries = held since table.entries }) entry
  by true known =
      let has : has_address (held since table.entries) entry.address ≡ true = sym ready.known ∙ known in
      rw (known, has) (held_replaced since entry table.entries distinct here has)
  by false unknown =
      let none : has_address (held since table.entries) entry.address ≡ false = sym ready.known ∙ unknown in
      rw (unknown, none) (room (nat_lt (length table.entries) table.capacity) refl)
    where
      room : (b : Bool) → nat_lt (length table.entries) table.capacity ≡ b
          → held since (cond (has_room table) (table.entries ++ entry ∷ []) table.entries)
          ≡ cond (nat_lt (length (held since table.entries)) table.capacity) (held since table.entries ++ entry ∷ []) (held since table.entries)
      room true is = rw (sym (ready.room unknown), is) (filter_push (is_held since) table.entries entry here)
      room false is = rw (sym (ready.room unknown), is) refl

pub learning_held : (since : ℕ) (table : AddressTable) (address : Mac) → IsReady since table.capacity address table.entries
    → learning_of table address ≡ learning_of (record table { entries = held since table.entries }) address
learning_held since table address ready = by (has_address table.entries address) refl where
  by : (known : Bool) → has_address table.entries address ≡ known → learning_of table address ≡ learning_of (record table { entries = held since table.entries }) address
  by true known = (let has : has_address (held since table.entries) address ≡ true = sym ready.known ∙ known in rw (known, has) refl)
  by false unknown =
      let none : has_address (held since table.entries) address ≡ false = sym ready.known ∙ unknown in
      rw (unknown, none, ready.room unknown) refl

-- ---- what is stored makes way

-- a frame came at a tick before all that is held, so that nothing is
pub none_held : (since now : ℕ) (xs : List MacEntry) → NoneAfter now (held since xs) → now < since → held since xs ≡ []
none_held since now [] none before = refl
none_held since now (x ∷ xs) none before = by (is_held since x) refl none (λ all. none_held since now xs all before) where
  by : (b : Bool) → is_held since x ≡ b → NoneAfter now (cond b (x ∷ held since xs) (held since xs)) → (NoneAfter now (held since xs) → held since xs ≡ [])
      → cond b (x ∷ held since xs) (held since xs) ≡ []
  by true is all rest = (let late : x.tick ≤ now = All-head (λ e. e.tick ≤ now) x (held since xs) all in absurd (grind (arith, nat_tests, is, late, before)))
  by false is all rest = rest all

-- the entry at the place of an address is of it
place_is : (xs : List MacEntry) (address : Mac) (d : MacEntry) → entry_place xs address < length xs → is_of address (get_or xs (entry_place xs address) d) ≡ true
place_is [] address d within = absurd (omega (arith, within))
place_is (x ∷ xs) address d within = by (is_of address x) refl within (λ inside. place_is xs address d inside) where
  by : (b : Bool) → is_of address x ≡ b → cond b 0 (entry_place xs address + 1) < length (x ∷ xs)
      → (entry_place xs address < length xs → is_of address (get_or xs (entry_place xs address) d) ≡ true)
      → is_of address (get_or (x ∷ xs) (cond b 0 (entry_place xs address + 1)) d) ≡ true
  by true own less rest = own
  by false other less rest =
      let next : entry_place xs address + 1 ≡ suc (entry_place xs address) = omega arith in
      ap (λ (n : ℕ). is_of address (get_or (x ∷ xs) n d)) next ∙ rest (omega (arith, less))

has_one : (p : MacEntry → Bool) (xs : List MacEntry) (address : Mac) (i : ℕ) (d : MacEntry) → i < length xs → is_of address (get_or xs i d) ≡ true → p (get_or xs i d) ≡ true
    → has_address (filter p xs) address ≡ true
has_one p [] address i d within own stays = absurd (omega (arith, within))
has_one p (x ∷ xs) address zero d within own stays = by (p x) stays where
  by : (b : Bool) → b ≡ true → has_address (cond b (x ∷ filter p xs) (filter p xs)) address ≡ true
  by true is = ap (λ (c : Bool). c || has_address (filter p xs) address) own
  by false is = absurd (cc (is))
has_one p (x ∷ xs) address (suc i) d within own stays = by (p x) (has_one p xs address i d (omega (arith, within)) own stays) where
  by : (b : Bool) → has_address (filter p xs) address ≡ true → has_address (cond b (x ∷ filter p xs) (filter p xs)) address ≡ true
  by true rest = or_right (is_of address x) (has_address (filter p xs) address) rest
  by false rest = rest

-- without the entry of an address none is of it
absent_without : (xs : List MacEntry) (address : Mac) → AreDistinctAddresses xs → entry_place xs address < length xs → has_address (remove xs (entry_place xs address)) address ≡ false
absent_without [] address distinct within = absurd (omega (arith, within))
absent_without (x ∷ xs) address distinct within = by (is_of address x) refl within (λ inside. absent_without xs address distinct.1 inside) where
  by : (b : Bool) → is_of address x ≡ b → cond b 0 (entry_place xs address + 1) < length (x ∷ xs)
      → (entry_place xs address < length xs → has_address (remove xs (entry_place xs address)) address ≡ false)
      → has_address (remove (x ∷ xs) (cond b 0 (entry_place xs address + 1))) address ≡ false
  by true own less rest = subst (λ (m : Mac). has_address xs m ≡ false) (address_of address x own) distinct.0
  by false other less rest =
      let next : entry_place xs address + 1 ≡ suc (entry_place xs address) = omega arith in
      ap (λ (n : ℕ). has_address (remove (x ∷ xs) n) address) next
      ∙ (ap (λ (c : Bool). c || has_address (remove xs (entry_place xs address)) address) other ∙ rest (omega (arith, less)))

pub All-remove : (P : MacEntry → Type 0) (xs : List MacEntry) (i : ℕ) → All P xs → All P (remove xs i)
All-remove P [] zero all = all
All-remove P [] (suc i) all = all
All-remove P (x ∷ xs) zero all = All-tail P x xs all
All-remove P (x ∷ xs) (suc i) all = All-cons P x (remove xs i) (All-head P x xs all) (All-remove P xs i (All-tail P x xs all))

-- all that is stored is held
same_ready : (since capacity : ℕ) (address : Mac) (xs : List MacEntry) → held since xs ≡ xs → IsReady since capacity address xs
same_ready since capacity address xs same = record {
  known = ap (λ (l : List MacEntry). has_address l address) (sym same);
  room = λ unknown. ap (λ (l : List MacEntry). nat_lt (length l) capacity) (sym same);
}

pub ready_all : (since oldest capacity : ℕ) (address : Mac) (xs : List MacEntry) → All (λ e. oldest ≤ e.tick) xs → since ≤ oldest → IsReady since capacity address xs
ready_all since oldest capacity address xs aged less = same_ready since capacity address xs (all_held since oldest xs aged less)

pub ready_renewed : (since capacity : ℕ) (address : Mac) (xs ys : List MacEntry) → ys ≡ held since xs → IsReady since capacity address ys
ready_renewed since capacity address xs ys is = same_ready since capacity address ys (ap (held since) is ∙ (held_again since xs ∙ sym is))

-- the address is held
pub ready_known : (since capacity place : ℕ) (address : Mac) (xs : List MacEntry) (e d : MacEntry) → place ≡ entry_place xs address → place < length xs → e ≡ get_or xs place d
    → since ≤ e.tick → IsReady since capacity address xs
ready_known since capacity place address xs e d at within is late =
    let inside : entry_place xs address < length xs = subst (λ (n : ℕ). n < length xs) at within in
    let here : is_of address (get_or xs place d) ≡ true = subst (λ (n : ℕ). is_of address (get_or xs n d) ≡ true) (sym at) (place_is xs address d inside) in
    let stays : is_held since (get_or xs place d) ≡ true = subst (λ (x : MacEntry). is_held since x ≡ true) is (le_holds since e.tick late) in
    let has : has_address xs address ≡ true = held_at xs address place at within in
    record {
      known = has ∙ sym (has_one (is_held since) xs address place d within here stays);
      room = λ unknown. absurd (cc (has, unknown));
    }

few_held : (since capacity : ℕ) (xs : List MacEntry) → length xs < capacity → nat_lt (length xs) capacity ≡ nat_lt (length (held since xs)) capacity
few_held since capacity xs less =
    lt-ltb (length xs) capacity less ∙ sym (lt-ltb (length (held since xs)) capacity (omega (arith, less, length-filter_le (is_held since) xs)))

pub room_left : (n capacity : ℕ) → n ≤ capacity → nat_eq n capacity ≡ false → n < capacity
room_left n capacity within full = grind (arith, nat_tests, within, full)

-- the address is not stored, and there is room
pub ready_absent : (since capacity : ℕ) (address : Mac) (xs : List MacEntry) → has_address xs address ≡ false → length xs < capacity → IsReady since capacity address xs
ready_absent since capacity address xs absent less = record {
  known = absent ∙ sym (absent-filter (is_held since) xs address absent);
  room = λ unknown. few_held since capacity xs less;
}

-- its entry, which was not held any more, is taken out
pub ready_without : (since capacity place : ℕ) (address : Mac) (xs ys : List MacEntry) → AreDistinctAddresses xs → length xs ≤ capacity → place ≡ entry_place xs address → place < length xs
    → ys ≡ remove xs place → IsReady since capacity address ys
ready_without since capacity place address xs ys distinct few at within is =
    let inside : entry_place xs address < length xs = subst (λ (n : ℕ). n < length xs) at within in
    let absent : has_address ys address ≡ false =
    ap (λ (l : List MacEntry). has_address l address) (is ∙ ap (remove xs) at) ∙ absent_without xs address distinct inside in
    ready_absent since capacity address ys absent (omega (arith, few, ap length is, length_removed xs place within))

pub held_without : (since place : ℕ) (xs ys : List MacEntry) (e d : MacEntry) → place < length xs → e ≡ get_or xs place d → e.tick < since → ys ≡ remove xs place → held since ys ≡ held since xs
held_without since place xs ys e d within is early same =
    let goes : is_held since (get_or xs place d) ≡ false = subst (λ (x : MacEntry). is_held since x ≡ false) is (grind (arith, nat_tests, early)) in
    ap (held since) same ∙ filter_removed (is_held since) xs place d within goes

-- ---- the table of what is held

-- what is held stays what it is
pub held_same : (since now : ℕ) (stored after old : AddressTable) → held now after.entries ≡ held since stored.entries → after.capacity ≡ stored.capacity → held_table since stored ≡ old
    → held_table now after ≡ old
held_same since now stored after old same most is = (λ i. record { entries = same i; capacity = most i }) ∙ is

-- where none is earlier, what is stored is what is held
pub all_table : (since oldest : ℕ) (stored old : AddressTable) → All (λ e. oldest ≤ e.tick) stored.entries → since ≤ oldest → held_table since stored ≡ old → stored.entries ≡ old.entries
all_table since oldest stored old aged less is = sym (all_held since oldest stored.entries aged less) ∙ ap (λ (t : AddressTable). t.entries) is

-- what passes a test is left of what was held
pub held_rest : (p : MacEntry → Bool) (since now : ℕ) (stored after old : AddressTable) → held now after.entries ≡ filter p (held since stored.entries) → after.capacity ≡ stored.capacity
    → held_table since stored ≡ old → held_table now after ≡ record old { entries = filter p old.entries }
held_rest p since now stored after old rest most is =
    (λ i. record { entries = rest i; capacity = most i }) ∙ ap (λ (t : AddressTable). record t { entries = filter p t.entries }) is

-- and so it is where that is taken out of all that is stored
pub held_taken : (p : MacEntry → Bool) (since : ℕ) (stored after old : AddressTable) → after ≡ record stored { entries = filter p stored.entries } → held_table since stored ≡ old
    → held_table since after ≡ record old { entries = filter p old.entries }
held_taken p since stored after old taken is =
    held_rest p since since stored after old (ap (λ (t : AddressTable). held since t.entries) taken ∙ filters_turned (is_held since) p stored.entries)
    (ap (λ (t : AddressTable). t.capacity) taken) is

pub held_learning : (since : ℕ) (stored old : AddressTable) (address : Mac) → IsReady since stored.capacity address stored.entries → held_table since stored ≡ old
    → learning_of stored address ≡ learning_of old address
held_learning since stored old address ready is = learning_held since stored address ready ∙ ap (λ (t : AddressTable). learning_of t address) is

pub held_learned : (since : ℕ) (stored after old : AddressTable) (entry : MacEntry) → after ≡ record stored { entries = learned stored entry } → AreDistinctAddresses stored.entries
    → since ≤ entry.tick → IsReady since stored.capacity entry.address stored.entries → held_table since stored ≡ old → held_table since after ≡ record old { entries = learned old entry }
held_learned since stored after old entry came distinct here ready is =
    ap (held_table since) came
    ∙ (ap (λ (l : List MacEntry). record stored { entries = l }) (held_learned_by since stored entry distinct (le_holds since entry.tick here) ready)
    ∙ ap (λ (t : AddressTable). record t { entries = learned t entry }) is)

pub held_within : (since : ℕ) (stored old : AddressTable) → length stored.entries ≤ stored.capacity → held_table since stored ≡ old → length old.entries ≤ old.capacity
held_within since stored old within is =
    subst (λ (t : AddressTable). length t.entries ≤ t.capacity) is (omega (arith, within, held_few since stored.entries))

pub held_distinct : (since : ℕ) (stored old : AddressTable) → AreDistinctAddresses stored.entries → held_table since stored ≡ old → AreDistinctAddresses old.entries
held_distinct since stored old distinct is =
    subst (λ (t : AddressTable). AreDistinctAddresses t.entries) is (distinct-filter (is_held since) stored.entries distinct)

-- no entry came earlier than the earlier one of both ticks
pub oldest_learned : (oldest first : ℕ) (stored after : AddressTable) (entry : MacEntry) → All (λ e. oldest ≤ e.tick) stored.entries → after ≡ record stored { entries = learned stored entry }
    → first ≤ oldest → first ≤ entry.tick → All (λ e. first ≤ e.tick) after.entries
oldest_learned oldest first stored after entry aged came less here =
    All-same (λ e. first ≤ e.tick) after.entries (learned stored entry) (ap (λ (t : AddressTable). t.entries) came)
    (all-learned (λ e. first ≤ e.tick) stored entry (All-weaker (λ e. oldest ≤ e.tick) (λ e. first ≤ e.tick) (λ e late. omega (arith, late, less)) stored.entries aged) here)

pub oldest_taken : (p : MacEntry → Bool) (oldest : ℕ) (stored after : AddressTable) → All (λ e. oldest ≤ e.tick) stored.entries → after ≡ record stored { entries = filter p stored.entries }
    → All (λ e. oldest ≤ e.tick) after.entries
oldest_taken p oldest stored after aged taken =
    All-same (λ e. oldest ≤ e.tick) after.entries (filter p stored.entries) (ap (λ (t : AddressTable). t.entries) taken) (All-filter p (λ e. oldest ≤ e.tick) stored.entries aged)

-- ---- the entry of an address

pub entry_at : (xs : List MacEntry) (address : Mac) (d : MacEntry) → entry_place xs address < length xs → mac_entry_of xs address ≡ Some (get_or xs (entry_place xs address) d)
entry_at [] address d within = absurd (omega (arith, within))
entry_at (x ∷ xs) address d within = by (is_of address x) refl within (λ inside. entry_at xs address d inside) where
  by : (b : Bool) → is_of address x ≡ b → cond b 0 (entry_place xs address + 1) < length (x ∷ xs)
      → (entry_place xs address < length xs → mac_entry_of xs address ≡ Some (get_or xs (entry_place xs address) d))
      → cond b (Some x) (mac_entry_of xs address) ≡ Some (get_or (x ∷ xs) (cond b 0 (entry_place xs address + 1)) d)
  by true own less rest = refl
  by false other less rest =
      let next : entry_place xs address + 1 ≡ suc (entry_place xs address) = omega arith in
      rest (omega (arith, less)) ∙ ap (λ (n : ℕ). Some (get_or (x ∷ xs) n d)) (sym next)

-- the port of an address among those that are held, by the entry at its place
port_held : (since : ℕ) (stored old : AddressTable) (address : Mac) → AreDistinctAddresses stored.entries → held_table since stored ≡ old
    → port_of old.entries address ≡ option_map (λ e. e.port) (option_filter (is_held since) (mac_entry_of stored.entries address))
port_held since stored old address distinct is =
    ap (λ (t : AddressTable). port_of t.entries address) (sym is) ∙ port_of-filter (is_held since) stored.entries address distinct

pub port_found : (since place : ℕ) (stored old : AddressTable) (address : Mac) (e d : MacEntry) → AreDistinctAddresses stored.entries → held_table since stored ≡ old
    → place ≡ entry_place stored.entries address → place < length stored.entries → e ≡ get_or stored.entries place d → since ≤ e.tick → port_of old.entries address ≡ Some e.port
port_found since place stored old address e d distinct is at within here late =
    let inside : entry_place stored.entries address < length stored.entries = subst (λ (n : ℕ). n < length stored.entries) at within in
    let one : mac_entry_of stored.entries address ≡ Some e = entry_at stored.entries address d inside ∙ ap Some (ap (λ (n : ℕ). get_or stored.entries n d) (sym at) ∙ sym here) in
    let stays : is_held since e ≡ true = le_holds since e.tick late in
    port_held since stored old address distinct is
    ∙ (ap (λ (o : Option MacEntry). option_map (λ e. e.port) (option_filter (is_held since) o)) one ∙ rw stays refl)

pub port_aged : (since place : ℕ) (stored old : AddressTable) (address : Mac) (e d : MacEntry) → AreDistinctAddresses stored.entries → held_table since stored ≡ old
    → place ≡ entry_place stored.entries address → place < length stored.entries → e ≡ get_or stored.entries place d → e.tick < since → port_of old.entries address ≡ None
port_aged since place stored old address e d distinct is at within here early =
    let inside : entry_place stored.entries address < length stored.entries = subst (λ (n : ℕ). n < length stored.entries) at within in
    let one : mac_entry_of stored.entries address ≡ Some e = entry_at stored.entries address d inside ∙ ap Some (ap (λ (n : ℕ). get_or stored.entries n d) (sym at) ∙ sym here) in
    let goes : is_held since e ≡ false = grind (arith, nat_tests, early) in
    port_held since stored old address distinct is
    ∙ (ap (λ (o : Option MacEntry). option_map (λ e. e.port) (option_filter (is_held since) o)) one ∙ rw goes refl)

pub port_absent : (since place : ℕ) (stored old : AddressTable) (address : Mac) → AreDistinctAddresses stored.entries → held_table since stored ≡ old
    → place ≡ entry_place stored.entries address → length stored.entries ≤ place → port_of old.entries address ≡ None
port_absent since place stored old address distinct is at past =
    port_held since stored old address distinct is
    ∙ ap (λ (o : Option MacEntry). option_map (λ e. e.port) (option_filter (is_held since) o)) (entry_of-absent stored.entries address (absent_past stored.entries address place at past))
