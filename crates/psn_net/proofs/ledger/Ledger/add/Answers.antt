use Rattle.psn_net.proofs.WeightLemmas.{counted_more}
use Rattle.psn_net.proofs.ledger.Ledger.add.Goals as goal

pub invariant_of-self : goal.invariant_of-self
invariant_of-self c =
    let more =
    counted_more c.self.inside.trace c.args.entry c.self.inside.weight c.self.inside.events c.octets_in.result c.events_of_entry-events.result
    (record { weighs = c.self.invariant.weighs; counts = c.self.invariant.counts }) c.octets_in.ensures c.events_of_entry-events.ensures in
    rw (c.in-Ok.ensures.ok, c.saturating_add-self-inside.ensures, c.saturating_add-weight.ensures, c.saturating_add-self-inside-in-Ok.ensures) more
