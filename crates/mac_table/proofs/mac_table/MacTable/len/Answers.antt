-- All that is stored is held.
use Rattle.std.proofs.Common.{◌∙◌, length, ap, arith}
use Rattle.mac_table.proofs.StoredLemmas.{all_table}
use Rattle.mac_table.proofs.mac_table.MacTable.len.Goals as goal

pub returns-then-self-clause-count : goal.returns-then-self-clause-count
returns-then-self-clause-count c =
    c.len.ensures.count
    ∙ ap length (all_table c.self.inside.since c.self.inside.oldest c.self.inside.stored c.args.self.now c.self.invariant.0 (omega (arith, c.if-self.true)) c.self.view_is)
