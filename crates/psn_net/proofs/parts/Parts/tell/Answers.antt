use Rattle.std.proofs.Common.{ap}
use Rattle.psn_net.specs.Lists.{network_seen}
use Rattle.psn_net.proofs.NetworkLemmas.{told_network}
use Rattle.psn_net.proofs.parts.Parts.tell.Goals as goal

pub invariant_of-self : goal.invariant_of-self
invariant_of-self c = told_network (record {
  plan = c.self.inside.plan;
  edges = c.self.inside.edges.items;
  pipes = c.self.inside.pipes;
  packets = c.self.inside.packets;
  entered = c.self.inside.entered;
  trace = c.self.inside.ledger;
  failed = c.self.inside.failed;
}) c.add.new.self c.args.entry c.add.result c.self.invariant c.add.ensures.ok c.add.ensures.err

pub returns-clause-state : goal.returns-clause-state
unfolding network_seen
returns-clause-state c = ap network_seen c.self.view_is
