-- An address comes to what is stored as it comes to what is held, in each case.
use Rattle.std.proofs.Common.{◌≡◌, ◌<◌, ◌≤◌, ◌∙◌, false, length, nat_eq, ap, sym, arith}
use Rattle.mac_table.specs.{Addresses.{AddressTable, has_address}, Stored.{held}}
use Rattle.mac_table.proofs.{AddressLemmas.{absent_past}, StoredLemmas.{held_again, ready_absent, ready_all, ready_renewed, room_left}}
use Rattle.mac_table.proofs.way.make_way.Goals as goal

pub returns-then-since-oldest-clause-ready : goal.returns-then-since-oldest-clause-ready
returns-then-since-oldest-clause-ready c =
    ready_all c.args.since c.args.oldest c.args.stored.now.capacity c.args.address c.args.stored.now.entries c.requires (omega (arith, c.if-since-oldest.true))

pub returns-then-is_full-clause-held : goal.returns-then-is_full-clause-held
returns-then-is_full-clause-held c =
    ap (λ (t : AddressTable). held c.args.since t.entries) c.take_all_aged.ensures.rest ∙ held_again c.args.since c.args.stored.now.entries

pub returns-then-is_full-clause-ready : goal.returns-then-is_full-clause-ready
returns-then-is_full-clause-ready c =
    ready_renewed c.args.since c.take_all_aged.new.stored.capacity c.args.address c.args.stored.now.entries c.take_all_aged.new.stored.entries
    (ap (λ (t : AddressTable). t.entries) c.take_all_aged.ensures.rest)

pub returns-clause-ready : goal.returns-clause-ready
returns-clause-ready c =
    let xs = c.args.stored.now.entries in
    let past : length xs ≤ c.place-place.result = omega (arith, c.if-place-len.false, c.len.ensures.count) in
    let full : nat_eq (length xs) c.args.stored.now.capacity ≡ false = sym c.is_full.ensures ∙ c.if-is_full.false in
    let room : length xs < c.args.stored.now.capacity = room_left (length xs) c.args.stored.now.capacity (omega (arith, c.len.ensures.within, c.len.ensures.count)) full in
    let absent : has_address xs c.args.address ≡ false = absent_past xs c.args.address c.place-place.result c.place-place.ensures.place past in
    ready_absent c.args.since c.args.stored.now.capacity c.args.address xs absent room
