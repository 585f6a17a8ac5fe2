use Rattle.std.proofs.Common.{length}
use Rattle.independent_model.specs.Stops.{answers_of}
use Rattle.independent_model.proofs.StopLemmas.{agrees_self, all_end}
use Rattle.independent_mode.specs.Lists.{independent_seen}
use Rattle.independent_mode.proofs.indep_edge.IndepEdge.connected.Goals as goal

pub returns-in-Ok-clause-ends : goal.returns-in-Ok-clause-ends
returns-in-Ok-clause-ends g c =
    all_end c.tell_all.result c.begin.new.self.plan c.begin.new.self.me.0 c.args.peer 0 (length c.begin.new.self.plan.wires) (independent_seen c.begin.new.self)
    (independent_seen c.tell_all.new.self) (g.L.Link.calls c.args.link.now) (g.L.Link.calls c.tell_all.new.link)
    (c.tell_all.ensures.speaks.step (answers_of (g.L.Link.calls c.tell_all.new.link)) (agrees_self (g.L.Link.calls c.tell_all.new.link)))
