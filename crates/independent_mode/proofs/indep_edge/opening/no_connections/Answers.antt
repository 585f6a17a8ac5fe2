use Rattle.std.proofs.Common.{None}
use Rattle.independent_mode.proofs.ListLemmas.{one_more}
use Rattle.independent_mode.proofs.indep_edge.opening.no_connections.Goals as goal

pub loop-peer-preserved : goal.loop-peer-preserved
loop-peer-preserved c = one_more c.loop-peer.connections.items c.push.new.self.items c.loop-peer._peer None c.loop-peer.invariant c.in_ok-push.ensures.items
