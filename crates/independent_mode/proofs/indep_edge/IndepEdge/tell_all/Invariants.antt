use Rattle.std.proofs.Common.{◌≡◌, ◌-◌, length}
use Rattle.pw_messages.specs.LinkAnswers.{Agrees, Answers}
use Rattle.independent_mode.specs.Changed.{ChangesOnly}
use Rattle.independent_mode.specs.Lists.{KeepsIndependent, independent_seen}
use Rattle.independent_model.specs.Tell.{tells_from}
use Rattle.independent_model.specs.Work.{CallsGoOn}
use Rattle.independent_mode.proofs.indep_edge.IndepEdge.tell_all.Given as goal

abbrev pub invariant-loop-wire : goal.invariant-loop-wire
invariant-loop-wire g l = record {
  keeps : KeepsIndependent l.fn.self l.self;
  goes : CallsGoOn (g.L.Link.calls l.fn.link) (g.L.Link.calls l.link);
  step : (told : Answers) → Agrees told (g.L.Link.calls l.link)
      → tells_from l.fn.self.plan told l.fn.self.me.0 l.work.peer 0 (length l.fn.self.plan.wires) (independent_seen l.fn.self) (g.L.Link.calls l.fn.link)
      ≡ tells_from l.fn.self.plan told l.fn.self.me.0 l.work.peer l.wire (length l.fn.self.plan.wires - l.wire) (independent_seen l.self) (g.L.Link.calls l.link);
  changed : ChangesOnly l.work.peer.0 (independent_seen l.fn.self) (independent_seen l.self);
}
