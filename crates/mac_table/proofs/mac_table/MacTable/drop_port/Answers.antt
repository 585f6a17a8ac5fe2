-- What goes from all that is stored goes from what is held.
use Rattle.std.proofs.Common.{ap, nat_eq, not}
use Rattle.mac_table.specs.{Addresses.{AddressTable}, Stored.{held, is_held}}
use Rattle.mac_table.proofs.{AddressLemmas.{distinct-filter, none_after_filtered}, StoredLemmas.{held_taken, oldest_taken}}
use Rattle.mac_table.proofs.mac_table.MacTable.drop_port.Goals as goal

pub invariant_of-self : goal.invariant_of-self
invariant_of-self c =
    (oldest_taken (λ e. not (nat_eq e.port c.args.port)) c.self.inside.oldest c.self.inside.stored c.take_out.new.self c.self.invariant.0 c.take_out.ensures.entries, c.self.invariant.1)

pub returns-clause-entries : goal.returns-clause-entries
returns-clause-entries c =
    held_taken (λ e. not (nat_eq e.port c.args.port)) c.self.inside.since c.self.inside.stored c.take_out.new.self c.args.self.now c.take_out.ensures.entries c.self.view_is

pub returns-clause-ticks : goal.returns-clause-ticks
returns-clause-ticks c = λ now before.
    none_after_filtered (λ e. not (nat_eq e.port c.args.port)) now c.args.self.now.entries (held c.self.inside.since c.take_out.new.self.entries) before
    (ap (λ (t : AddressTable). t.entries) (returns-clause-entries c))

pub returns-clause-distinct : goal.returns-clause-distinct
returns-clause-distinct c = distinct-filter (is_held c.self.inside.since) c.take_out.new.self.entries c.take_out.ensures.distinct
