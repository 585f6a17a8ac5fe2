-- What `retain` keeps is the filter.
use Rattle.std.proofs.Common.{rules, ◌∙◌, ap, subst}
use Rattle.std.specs.Prelude.{filter}
use Rattle.std.proofs.lemmas.Fn.{filter_same}
use Rattle.mac_table.specs.Addresses.{AddressTable}
use Rattle.mac_table.specs.Index.{IsAddressIndex}
use Rattle.mac_table.specs.Removal.{keeps_entry}
use Rattle.mac_table.proofs.AddressLemmas.{held_filtered}
use Rattle.mac_table.proofs.IndexLemmas.{distinct_left}
use Rattle.mac_table.proofs.stored.Stored.take_many.Goals as goal

pub refill-requires : goal.refill-requires
refill-requires c =
    distinct_left (keeps_entry c.args.removal) _ _ c.self.invariant.0.distinct (c.as_slice.ensures.value ∙ filter_same _ _ _ (λ x b f' k. search rules) _ _ c.retain.ensures.filtered)

pub invariant_of-self : goal.invariant_of-self
invariant_of-self c = (
  held_filtered (keeps_entry c.args.removal) _ _ _ _ _ c.self.invariant.0 (filter_same _ _ _ (λ x b f' k. search rules) _ _ c.retain.ensures.filtered) c.retain.ensures.capacity,
  subst (IsAddressIndex c.refill.new.index.entries) c.as_slice.ensures.value c.refill.ensures.index,
)

pub returns-clause-entries : goal.returns-clause-entries
returns-clause-entries c =
    let kept = filter_same _ _ _ (λ x b f' k. search rules) _ _ c.retain.ensures.filtered ∙ ap (λ (t : AddressTable). filter (keeps_entry c.args.removal) t.entries) c.self.view_is in
    λ i. record { entries = kept i; capacity = (c.self.view_is i).capacity }

pub returns-clause-distinct : goal.returns-clause-distinct
returns-clause-distinct c = let held = invariant_of-self c in held.0.distinct
