use Rattle.provider_edge.proofs.RowLemmas.{fec_some}
use Rattle.provider_edge.proofs.edge.Edge.slot_of.Goals as goal

pub returns-in-Some-clause-named : goal.returns-in-Some-clause-named
returns-in-Some-clause-named c = fec_some c.args.self.now.plan c.args.self.now c.args.peer c.args.fec.now c.in-Some.pw_id _ c.in-Some.is c.slot_named.ensures.named
