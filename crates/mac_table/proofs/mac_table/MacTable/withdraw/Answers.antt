-- What goes from all that is stored goes from what is held.
use Rattle.std.proofs.Common.{◌∙◌, List, ap}
use Rattle.std.specs.Prelude.{filter}
use Rattle.net_values.specs.declared.mac.Mac.{Mac}
use Rattle.mac_table.specs.{Addresses.{AddressTable, entry_stays}, Stored.{held, is_held}}
use Rattle.mac_table.proofs.{AddressLemmas.{distinct-filter, none_after_filtered}, StoredLemmas.{held_taken, oldest_taken}}
use Rattle.mac_table.proofs.mac_table.MacTable.withdraw.Goals as goal

pub invariant_of-self : goal.invariant_of-self
invariant_of-self c =
    (oldest_taken (entry_stays c.args.from c.as_slice.result.now) c.self.inside.oldest c.self.inside.stored c.take_out.new.self c.self.invariant.0 c.take_out.ensures.entries, c.self.invariant.1)

pub returns-clause-entries : goal.returns-clause-entries
returns-clause-entries c =
    let stored : AddressTable = c.self.inside.stored in
    held_taken (entry_stays c.args.from c.args.list.now) c.self.inside.since stored c.take_out.new.self c.args.self.now
    (c.take_out.ensures.entries ∙ ap (λ (l : List Mac). record stored { entries = filter (entry_stays c.args.from l) stored.entries }) c.as_slice.ensures) c.self.view_is

pub returns-clause-ticks : goal.returns-clause-ticks
returns-clause-ticks c = λ now before.
    none_after_filtered (entry_stays c.args.from c.args.list.now) now c.args.self.now.entries (held c.self.inside.since c.take_out.new.self.entries) before
    (ap (λ (t : AddressTable). t.entries) (returns-clause-entries c))

pub returns-clause-distinct : goal.returns-clause-distinct
returns-clause-distinct c = distinct-filter (is_held c.self.inside.since) c.take_out.new.self.entries c.take_out.ensures.distinct
