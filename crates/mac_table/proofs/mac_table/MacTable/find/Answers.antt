-- The entry at the place of the address tells, where it is held.
use Rattle.std.proofs.Common.{◌<◌, ◌≤◌, List, [], length, get_or, ap, arith, sym}
use Rattle.mac_table.specs.declared.mac_entry.MacEntry.{MacEntry}
use Rattle.mac_table.proofs.StoredLemmas.{held_distinct, port_absent, port_aged, port_found}
use Rattle.mac_table.proofs.mac_table.MacTable.find.Goals as goal

pub returns-then-self-entry-clause-port : goal.returns-then-self-entry-clause-port
returns-then-self-entry-clause-port c =
    let none : MacEntry = record { address = record { 0 = [] }; port = 0; tick = 0 } in
    let within : c.place-place.result < length c.self.inside.stored.entries = omega (arith, c.if-place-len.true, c.len.ensures.count) in
    sym (port_found c.self.inside.since c.place-place.result c.self.inside.stored c.args.self.now c.args.address (get_or c.as_slice.result.now c.place-place.result none) none
    c.place-place.ensures.distinct c.self.view_is c.place-place.ensures.place within
    (ap (λ (l : List MacEntry). get_or l c.place-place.result none) c.as_slice.ensures.items) (omega (arith, c.if-self-entry.true)))

pub returns-then-self-entry-clause-distinct : goal.returns-then-self-entry-clause-distinct
returns-then-self-entry-clause-distinct c = held_distinct c.self.inside.since c.self.inside.stored c.args.self.now c.place-place.ensures.distinct c.self.view_is

pub returns-else-self-entry-clause-port : goal.returns-else-self-entry-clause-port
returns-else-self-entry-clause-port c =
    let none : MacEntry = record { address = record { 0 = [] }; port = 0; tick = 0 } in
    let within : c.place-place.result < length c.self.inside.stored.entries = omega (arith, c.if-place-len.true, c.len.ensures.count) in
    sym (port_aged c.self.inside.since c.place-place.result c.self.inside.stored c.args.self.now c.args.address (get_or c.as_slice.result.now c.place-place.result none) none
    c.place-place.ensures.distinct c.self.view_is c.place-place.ensures.place within
    (ap (λ (l : List MacEntry). get_or l c.place-place.result none) c.as_slice.ensures.items) (omega (arith, c.if-self-entry.false)))

pub returns-else-self-entry-clause-distinct : goal.returns-else-self-entry-clause-distinct
returns-else-self-entry-clause-distinct c = held_distinct c.self.inside.since c.self.inside.stored c.args.self.now c.place-place.ensures.distinct c.self.view_is

pub returns-else-place-len-clause-port : goal.returns-else-place-len-clause-port
returns-else-place-len-clause-port c =
    let past : length c.self.inside.stored.entries ≤ c.place-place.result = omega (arith, c.if-place-len.false, c.len.ensures.count) in
    sym (port_absent c.self.inside.since c.place-place.result c.self.inside.stored c.args.self.now c.args.address c.place-place.ensures.distinct c.self.view_is c.place-place.ensures.place past)

pub returns-else-place-len-clause-distinct : goal.returns-else-place-len-clause-distinct
returns-else-place-len-clause-distinct c = held_distinct c.self.inside.since c.self.inside.stored c.args.self.now c.place-place.ensures.distinct c.self.view_is
