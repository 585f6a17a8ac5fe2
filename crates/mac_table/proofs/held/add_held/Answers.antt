-- There is room for all that are left.
use Rattle.std.proofs.Common.{rules, ◌<◌, ◌≤◌, ◌+◌, ℕ, [], length, vec_capacity, subst, sym, arith}
use Rattle.mac_table.specs.declared.mac_entry.MacEntry.{MacEntry}
use Rattle.mac_table.specs.Stored.{held}
use Rattle.mac_table.proofs.StoredLemmas.{room_for_next}
use Rattle.mac_table.proofs.held.add_held.Goals as goal

pub append-requires : goal.append-requires
append-requires c =
    let none : MacEntry = record { address = record { 0 = [] }; port = 0; tick = 0 } in
    let room : length c.loop-entry.out.items < vec_capacity c.loop-entry.out =
    room_for_next c.args.since (vec_capacity c.loop-entry.out) c.loop-entry.entry-index c.args.out.now.items c.loop-entry.out.items c.args.entries.now none c.loop-entry.invariant.0
    (subst (λ (n : ℕ). length c.args.out.now.items + length (held c.args.since c.args.entries.now) ≤ n) (sym c.loop-entry.invariant.1) c.requires)
    (omega (arith, c.loop-entry-test.true)) (omega (arith, c.if-since-entry.true)) in
    search rules
