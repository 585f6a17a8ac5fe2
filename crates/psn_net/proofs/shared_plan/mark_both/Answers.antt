use Rattle.psn_net.proofs.JoinedLemmas.{both_marked}
use Rattle.psn_net.proofs.shared_plan.mark_both.Goals as goal

pub returns-clause-marked : goal.returns-clause-marked
returns-clause-marked c = both_marked c.args.index.now c.put.new.self c.put-2.new.self c.args.first.0 c.args.next.0 c.put.ensures.step c.put-2.ensures.step
