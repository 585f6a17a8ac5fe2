-- The map loses what the list loses.
use Rattle.std.proofs.Common.{◌<◌, subst, sym, length}
use Rattle.mac_table.specs.Addresses.{AddressTable}
use Rattle.mac_table.proofs.IndexLemmas.{index_removed}
use Rattle.mac_table.proofs.RemovalLemmas.{held_removed}
use Rattle.mac_table.proofs.stored.Stored.take_at.Goals as goal

pub invariant_of-self : goal.invariant_of-self
invariant_of-self c =
    let within : c.args.place < length c.self.inside.entries.items = subst (λ (t : AddressTable). c.args.place < length t.entries) (sym c.self.view_is) c.requires in (
      held_removed _ _ _ _ _ c.args.place c.self.invariant.0 within c.remove.ensures.items c.remove.ensures.capacity,
      index_removed _ _ _ _ c.args.place c.self.invariant.1 c.shift_remove_index.ensures.entries c.remove.ensures.items,
    )
