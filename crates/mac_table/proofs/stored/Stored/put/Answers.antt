-- The map has what the list has, after the write in both.
use Rattle.std.proofs.Common.{rules, ◌≡◌, ◌<◌, ◌≤◌, ◌++◌, ◌∙◌, nat_lt, true, false, List, [], ◌∷◌, length, ap, sym, refl}
use Rattle.std.proofs.lemmas.Bool.{lt-ltb}
use Rattle.mac_table.specs.declared.mac_entry.MacEntry.{MacEntry}
use Rattle.mac_table.specs.Addresses.{entry_place, has_address, learned}
use Rattle.mac_table.proofs.AddressLemmas.{absent_past, held_learned, held_written}
use Rattle.mac_table.proofs.IndexLemmas.{index_written}
use Rattle.mac_table.proofs.stored.Stored.put.Goals as goal

pub invariant_of-self : goal.invariant_of-self
invariant_of-self c =
    let xs = c.self.inside.entries.items in
    let at : c.place_of-place.result ≡ entry_place xs c.args.entry.address = c.place_of-place.ensures ∙ ap (λ (l : List MacEntry). entry_place l c.args.entry.address) c.as_slice.ensures.value in
    let within : c.place_of-place.result < length xs = search rules in (
      held_written _ _ _ _ _ c.args.entry c.place_of-place.result c.self.invariant.0 at within refl refl,
      index_written _ _ _ _ c.place_of-place.result c.args.entry c.self.invariant.1 at within c.put_at.ensures refl,
    )

pub invariant_of-self-then-len-self : goal.invariant_of-self-then-len-self
invariant_of-self-then-len-self c =
    let xs = c.self.inside.entries.items in
    let at : c.place_of-place.result ≡ entry_place xs c.args.entry.address = c.place_of-place.ensures ∙ ap (λ (l : List MacEntry). entry_place l c.args.entry.address) c.as_slice.ensures.value in
    let past : length xs ≤ c.place_of-place.result = search rules in
    let absent : has_address xs c.args.entry.address ≡ false = absent_past xs c.args.entry.address c.place_of-place.result at past in
    let under : length xs < c.self.inside.capacity = search rules in
    let fits : nat_lt (length xs) c.self.inside.capacity ≡ true = lt-ltb _ _ under in
    let grown : learned (record { entries = xs; capacity = c.self.inside.capacity }) c.args.entry ≡ xs ++ c.args.entry ∷ [] = rw (absent, fits) refl in
    let pushed : c.append.new.entries.items ≡ xs ++ c.args.entry ∷ [] = search rules in (
      held_learned _ _ _ _ _ c.args.entry c.self.invariant.0 (pushed ∙ sym grown) c.append.ensures.room,
      search rules,
    )

pub returns-then-place-len-clause-distinct : goal.returns-then-place-len-clause-distinct
returns-then-place-len-clause-distinct c = let held = invariant_of-self c in held.0.distinct

pub returns-then-len-self-clause-distinct : goal.returns-then-len-self-clause-distinct
returns-then-len-self-clause-distinct c = let held = invariant_of-self-then-len-self c in held.0.distinct
