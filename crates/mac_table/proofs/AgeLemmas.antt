-- What is left of an address after ticks.
use Rattle.std.proofs.Common.{◌≡◌, ◌<◌, ◌≤◌, ◌+◌, ◌-◌, ◌∙◌, ℕ, zero, suc, Bool, true, false, List, Some, None, cond, nat_lt, ap, inl, inr, arith}
use Rattle.std.specs.Prelude.{filter}
use Rattle.std.proofs.lemmas.Bool.{cases_Bool, ltb-true, ltb-false}
use Rattle.std.proofs.lemmas.Bool.Decides.{nat_tests}
use Rattle.std.proofs.lemmas.Map.Entries.{option_filter}
use Rattle.net_values.specs.declared.mac.Mac.{Mac}
use Rattle.mac_table.specs.declared.mac_entry.MacEntry.{MacEntry}
use Rattle.mac_table.specs.Addresses.{AreDistinctAddresses, is_young, learned, mac_entry_of}
use Rattle.mac_table.specs.Laws.{LastsItsAge, aging}
use Rattle.mac_table.proofs.AddressLemmas.{distinct-filter, distinct-learned, entry_of-filter, entry_of-learned_same}

-- an entry is young while fewer ticks than the limit have passed since its own
pub young : (now limit tick : ℕ) → tick ≤ now → now < tick + limit → nat_lt (now - tick) limit ≡ true
young now limit tick after within = grind (arith, nat_tests)

pub old : (now limit tick : ℕ) → tick + limit ≤ now → nat_lt (now - tick) limit ≡ false
old now limit tick past = grind (arith, nat_tests)

-- at one tick: an entry that is young stays, one that is not goes, and none comes
pub stays_young : (now limit : ℕ) (xs : List MacEntry) (address : Mac) (entry : MacEntry) → AreDistinctAddresses xs → mac_entry_of xs address ≡ Some entry → is_young now limit entry ≡ true
    → mac_entry_of (filter (is_young now limit) xs) address ≡ Some entry
stays_young now limit xs address entry distinct found is =
    entry_of-filter (is_young now limit) xs address distinct
    ∙ (ap (option_filter (is_young now limit)) found ∙ ap (λ (b : Bool). cond b (Some entry) None) is)

pub goes_old : (now limit : ℕ) (xs : List MacEntry) (address : Mac) (entry : MacEntry) → AreDistinctAddresses xs → mac_entry_of xs address ≡ Some entry → is_young now limit entry ≡ false
    → mac_entry_of (filter (is_young now limit) xs) address ≡ None
goes_old now limit xs address entry distinct found is =
    entry_of-filter (is_young now limit) xs address distinct
    ∙ (ap (option_filter (is_young now limit)) found ∙ ap (λ (b : Bool). cond b (Some entry) None) is)

pub none_comes : (p : MacEntry → Bool) (xs : List MacEntry) (address : Mac) → AreDistinctAddresses xs → mac_entry_of xs address ≡ None → mac_entry_of (filter p xs) address ≡ None
none_comes p xs address distinct none = entry_of-filter p xs address distinct ∙ ap (option_filter p) none

aging_none : (limit now n : ℕ) (xs : List MacEntry) (address : Mac) → AreDistinctAddresses xs → mac_entry_of xs address ≡ None → mac_entry_of (aging limit now n xs) address ≡ None
aging_none limit now zero xs address distinct none = none
aging_none limit now (suc n) xs address distinct none =
    aging_none limit (now + 1) n (filter (is_young (now + 1) limit) xs) address (distinct-filter (is_young (now + 1) limit) xs distinct)
    (none_comes (is_young (now + 1) limit) xs address distinct none)

aging_stands : (limit now n : ℕ) (xs : List MacEntry) (address : Mac) (entry : MacEntry) → AreDistinctAddresses xs → mac_entry_of xs address ≡ Some entry → entry.tick ≤ now
    → now + n < entry.tick + limit
    → mac_entry_of (aging limit now n xs) address ≡ Some entry
aging_stands limit now zero xs address entry distinct found after within = found
aging_stands limit now (suc n) xs address entry distinct found after within =
    aging_stands limit (now + 1) n (filter (is_young (now + 1) limit) xs) address entry (distinct-filter (is_young (now + 1) limit) xs distinct)
    (stays_young (now + 1) limit xs address entry distinct found (young (now + 1) limit entry.tick (omega (arith, after)) (omega (arith, within))))
    (omega (arith, after)) (omega (arith, within))

-- it is not gone yet before as many ticks have passed as the limit says, and then it goes
aging_goes : (limit now n : ℕ) (xs : List MacEntry) (address : Mac) (entry : MacEntry) → AreDistinctAddresses xs → mac_entry_of xs address ≡ Some entry → entry.tick ≤ now
    → now < entry.tick + limit → entry.tick + limit ≤ now + n
    → mac_entry_of (aging limit now n xs) address ≡ None
aging_goes limit now zero xs address entry distinct found after young_yet past = absurd (omega (arith, young_yet, past))
aging_goes limit now (suc n) xs address entry distinct found after young_yet past = elim (cases_Bool (nat_lt (now + 1) (entry.tick + limit))) [
  | inl less ↦
      (let within : now + 1 < entry.tick + limit = ltb-true (now + 1) (entry.tick + limit) less in
      aging_goes limit (now + 1) n (filter (is_young (now + 1) limit) xs) address entry (distinct-filter (is_young (now + 1) limit) xs distinct)
      (stays_young (now + 1) limit xs address entry distinct found (young (now + 1) limit entry.tick (omega (arith, after)) within))
      (omega (arith, after)) within (omega (arith, past)))
  | inr more ↦
      (let over : entry.tick + limit ≤ now + 1 = ltb-false (now + 1) (entry.tick + limit) more in
      aging_none limit (now + 1) n (filter (is_young (now + 1) limit) xs) address (distinct-filter (is_young (now + 1) limit) xs distinct)
      (goes_old (now + 1) limit xs address entry distinct found (old (now + 1) limit entry.tick over)))
]

pub lasts_its_age : LastsItsAge
lasts_its_age = record {
  stands = λ table entry limit n distinct took within.
      aging_stands limit entry.tick n (learned table entry) entry.address entry (distinct-learned table entry distinct) (entry_of-learned_same table entry took) (omega arith) (omega (arith, within));
  goes = λ table entry limit n distinct took some past.
      aging_goes limit entry.tick n (learned table entry) entry.address entry (distinct-learned table entry distinct) (entry_of-learned_same table entry took) (omega arith)
      (omega (arith, some)) (omega (arith, past));
}
