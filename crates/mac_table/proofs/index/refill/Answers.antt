-- One more entry is put in, whose address none before it has.
use Rattle.std.proofs.Common.{rules, refl, [], ◌≡◌, ◌+◌, length, take, arith}
use Rattle.mac_table.specs.declared.mac_entry.MacEntry.{MacEntry}
use Rattle.mac_table.specs.Index.{address_pairs}
use Rattle.mac_table.proofs.IndexLemmas.{index_long, index_refilled}
use Rattle.mac_table.proofs.index.refill.Goals as goal

pub loop-entry-preserved : goal.loop-entry-preserved
loop-entry-preserved c =
    let none : MacEntry = record { address = record { 0 = [] }; port = 0; tick = 0 } in
    let i = c.loop-entry.entry-index in
    let grown : c.insert.new.self.entries ≡ address_pairs (take (i + 1) c.args.entries.now) =
    index_refilled c.loop-entry.index.entries c.insert.new.self.entries c.args.entries.now i (i + 1) none c.requires c.loop-entry-test.true refl c.loop-entry.invariant.0 (search rules) in
    let long : length c.insert.new.self.entries ≡ i + 1 = index_long c.insert.new.self.entries c.args.entries.now i c.loop-entry-test.true grown in
    (grown, long, omega (arith, long, c.loop-entry.invariant.1, c.loop-entry.invariant.2, c.insert.ensures.spare))
