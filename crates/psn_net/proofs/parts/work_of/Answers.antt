use Rattle.network_model.specs.Absorb.{taken_all}
use Rattle.provider_edge.specs.Lists.{seen}
use Rattle.psn_net.proofs.NetworkLemmas.{worked_so}
use Rattle.psn_net.proofs.parts.work_of.Goals as goal

pub returns-in-Ok-clause-worked : goal.returns-in-Ok-clause-worked
returns-in-Ok-clause-worked c =
    worked_so c.take.new.self c.new-link.result c.take.new.link c.in-Ok.effects c.args.edge.now.plan c.args.input (seen c.args.edge.now) c.new-link.ensures
    (c.in-Ok.ensures.step taken_all c.close.ensures)
