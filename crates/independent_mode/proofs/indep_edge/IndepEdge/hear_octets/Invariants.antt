use Rattle.std.proofs.Common.{◌≡◌, ◌≤◌, ◌-◌, ◌++◌, drop, length, take}
use Rattle.pw_messages.specs.LinkAnswers.{Agrees, Answers}
use Rattle.independent_mode.specs.Receiver.{receiver_of}
use Rattle.independent_model.specs.Hear.{hears_at}
use Rattle.independent_mode.specs.Changed.{HearsAll}
use Rattle.independent_mode.specs.Lists.{KeepsIndependent, independent_seen}
use Rattle.independent_model.specs.Work.{CallsGoOn}
use Rattle.independent_mode.proofs.indep_edge.IndepEdge.hear_octets.Given as goal

abbrev pub invariant-hearing : goal.invariant-hearing
invariant-hearing g l = record {
  keeps : KeepsIndependent l.fn.self l.self;
  goes : CallsGoOn (g.L.Link.calls l.fn.link) (g.L.Link.calls l.link);
  within : l.at ≤ length l.octets;
  step : (told : Answers) → Agrees told (g.L.Link.calls l.link)
      → hears_at l.fn.self.plan told l.fn.self.me.0 l.work.peer (receiver_of l.fn.receiver) l.octets (independent_seen l.fn.self) (g.L.Link.calls l.fn.link)
      ≡ hears_at l.fn.self.plan told l.fn.self.me.0 l.work.peer (receiver_of l.receiver) (drop l.at l.octets) (independent_seen l.self) (g.L.Link.calls l.link);
  heard : HearsAll l.fn.self.plan l.fn.self.me.0 l.work.peer (l.fn.receiver.held ++ take l.at l.octets) l.receiver.held (independent_seen l.fn.self) (independent_seen l.self);
}

abbrev pub decreases-hearing : goal.decreases-hearing
decreases-hearing g l = length l.octets - l.at
