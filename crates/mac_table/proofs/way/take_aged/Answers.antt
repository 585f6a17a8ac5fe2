-- An entry that has aged out is missed by none, and without it its address is not stored.
use Rattle.std.proofs.Common.{◌≤◌, List, [], length, get_or, ap, arith}
use Rattle.std.specs.List.{remove}
use Rattle.std.proofs.lemmas.List.Elements.{All-same}
use Rattle.mac_table.specs.declared.mac_entry.MacEntry.{MacEntry}
use Rattle.mac_table.specs.Addresses.{AddressTable}
use Rattle.mac_table.proofs.StoredLemmas.{All-remove, held_without, ready_known, ready_without}
use Rattle.mac_table.proofs.way.take_aged.Goals as goal

pub returns-then-as_slice-place-clause-held : goal.returns-then-as_slice-place-clause-held
returns-then-as_slice-place-clause-held c =
    let none : MacEntry = record { address = record { 0 = [] }; port = 0; tick = 0 } in
    held_without c.args.since c.args.place c.args.stored.now.entries c.take_at.new.self.entries (get_or c.as_slice.result.now c.args.place none) none c.requires.within
    (ap (λ (l : List MacEntry). get_or l c.args.place none) c.as_slice.ensures.items) (omega (arith, c.if-as_slice-place.true)) (ap (λ (t : AddressTable). t.entries) c.take_at.ensures)

pub returns-then-as_slice-place-clause-aged : goal.returns-then-as_slice-place-clause-aged
returns-then-as_slice-place-clause-aged c = λ oldest aged.
    All-same (λ e. oldest ≤ e.tick) c.take_at.new.self.entries (remove c.args.stored.now.entries c.args.place) (ap (λ (t : AddressTable). t.entries) c.take_at.ensures)
    (All-remove (λ e. oldest ≤ e.tick) c.args.stored.now.entries c.args.place aged)

pub returns-then-as_slice-place-clause-ready : goal.returns-then-as_slice-place-clause-ready
returns-then-as_slice-place-clause-ready c =
    let few : length c.args.stored.now.entries ≤ c.take_at.new.self.capacity =
    omega (arith, c.as_slice.ensures.within, ap (λ (t : AddressTable). t.capacity) c.take_at.ensures) in
    ready_without c.args.since c.take_at.new.self.capacity c.args.place c.args.address c.args.stored.now.entries c.take_at.new.self.entries c.as_slice.ensures.distinct few
    c.requires.place c.requires.within (ap (λ (t : AddressTable). t.entries) c.take_at.ensures)

pub returns-else-as_slice-place-clause-ready : goal.returns-else-as_slice-place-clause-ready
returns-else-as_slice-place-clause-ready c =
    let none : MacEntry = record { address = record { 0 = [] }; port = 0; tick = 0 } in
    ready_known c.args.since c.args.stored.now.capacity c.args.place c.args.address c.args.stored.now.entries (get_or c.as_slice.result.now c.args.place none) none c.requires.place c.requires.within
    (ap (λ (l : List MacEntry). get_or l c.args.place none) c.as_slice.ensures.items) (omega (arith, c.if-as_slice-place.false))
