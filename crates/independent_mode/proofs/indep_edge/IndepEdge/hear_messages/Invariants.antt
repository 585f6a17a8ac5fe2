use Rattle.std.proofs.Common.{◌≡◌, drop, take}
use Rattle.pw_messages.specs.LinkAnswers.{Agrees, Answers}
use Rattle.independent_model.specs.Hear.{independent_hears_messages}
use Rattle.independent_mode.specs.Changed.{ChangesOnly, learns_messages}
use Rattle.independent_mode.specs.Lists.{KeepsIndependent, independent_seen}
use Rattle.independent_model.specs.Work.{CallsGoOn}
use Rattle.independent_mode.proofs.indep_edge.IndepEdge.hear_messages.Given as goal

abbrev pub invariant-loop-place : goal.invariant-loop-place
invariant-loop-place g l = record {
  keeps : KeepsIndependent l.fn.self l.self;
  goes : CallsGoOn (g.L.Link.calls l.fn.link) (g.L.Link.calls l.link);
  step : (told : Answers) → Agrees told (g.L.Link.calls l.link)
      → independent_hears_messages l.fn.self.plan told l.fn.self.me.0 l.work.peer l.messages (independent_seen l.fn.self) (g.L.Link.calls l.fn.link)
      ≡ independent_hears_messages l.fn.self.plan told l.fn.self.me.0 l.work.peer (drop l.place l.messages) (independent_seen l.self) (g.L.Link.calls l.link);
  changed : ChangesOnly l.work.peer.0 (learns_messages l.fn.self.plan l.fn.self.me.0 l.work.peer (take l.place l.messages) (independent_seen l.fn.self)) (independent_seen l.self);
}
