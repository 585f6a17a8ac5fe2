-- What is seen of each item of a list, one after another.
use Rattle.std.proofs.Common.{◌≡◌, ◌<◌, ◌≤◌, ◌+◌, ℕ, Bool, true, false, List, refl, sym, subst, nat_eq, length, slice_index_or, arith}
use Rattle.std.proofs.lemmas.Bool.{eqb-true}
use Rattle.std.proofs.lemmas.Bool.Decides.{nat_tests}
use Rattle.std.proofs.lemmas.List.{get_or_default}
use Rattle.std.specs.List.{All}
use Rattle.net_base.specs.declared.trace.entry.Entry.{Entry}
use Rattle.report_laws.specs.Types.{IsTypedEntry}

-- so many of the items are seen to be so
pub record AreSeen {X : Type 0} (P : X → Type 0) (items : List X) (count : ℕ) : Type 0 where
  pub each : (k : ℕ) (other : X) → k < length items → k < count → P (slice_index_or items k other)

none_seen : {X : Type 0} (P : X → Type 0) (items : List X) → AreSeen P items 0
none_seen P items = record { each = λ k other within below. absurd (no k below) }
  where
    no : (k : ℕ) → k < 0 → ⊥
    no k below = omega (arith, below)

one_seen : {X : Type 0} (P : X → Type 0) (items : List X) (count : ℕ) (item : X) → AreSeen P items count → P (slice_index_or items count item) → AreSeen P items (count + 1)
one_seen {X} P items count item seen here = record { each = λ k other within below. by k other within below (nat_eq k count) refl }
  where
    by : (k : ℕ) (other : X) → k < length items → k < count + 1 → (b : Bool) → nat_eq k count ≡ b → P (slice_index_or items k other)
    by k other within below true same =
        let is : k ≡ count = eqb-true k count same in
        subst P (get_or_default items k item other within) (subst (λ (at : ℕ). P (slice_index_or items at item)) (sym is) here)
    by k other within below false apart = seen.each k other within (grind (arith, nat_tests, apart))

all_seen : {X : Type 0} (P : X → Type 0) (items : List X) (count : ℕ) → length items ≤ count → AreSeen P items count → All P items
all_seen P items count whole seen = λ k other within. seen.each k other within (omega (arith, whole, within))

-- ---- entries

pub no_entries : (entries : List Entry) → AreSeen IsTypedEntry entries 0
no_entries entries = none_seen IsTypedEntry entries

pub one_entry : (entries : List Entry) (count : ℕ) (told : Entry) → AreSeen IsTypedEntry entries count → IsTypedEntry (slice_index_or entries count told) → AreSeen IsTypedEntry entries (count + 1)
one_entry entries count told seen here = one_seen IsTypedEntry entries count told seen here

pub all_entries : (entries : List Entry) (count : ℕ) → length entries ≤ count → AreSeen IsTypedEntry entries count → All IsTypedEntry entries
all_entries entries count whole seen = all_seen IsTypedEntry entries count whole seen

pub ruleset entry_steps = (no_entries, one_entry, all_entries)
