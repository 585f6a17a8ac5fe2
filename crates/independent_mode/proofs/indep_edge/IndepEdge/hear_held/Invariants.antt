use Rattle.std.proofs.Common.{◌≡◌, ℕ, List, length}
use Rattle.net_values.specs.Octets.{AreOctets}
use Rattle.pw_messages.specs.LinkAnswers.{Agrees, Answers}
use Rattle.independent_mode.specs.Receiver.{receiver_of}
use Rattle.independent_model.specs.Hear.{hears_at}
use Rattle.independent_mode.specs.Changed.{HearsAll}
use Rattle.independent_mode.specs.Lists.{KeepsIndependent, independent_seen}
use Rattle.independent_model.specs.Work.{CallsGoOn}
use Rattle.independent_mode.proofs.indep_edge.IndepEdge.hear_held.Given as goal

abbrev pub invariant-pdus : goal.invariant-pdus
invariant-pdus g l = record {
  keeps : KeepsIndependent l.fn.self l.self;
  goes : CallsGoOn (g.L.Link.calls l.fn.link) (g.L.Link.calls l.link);
  step : (told : Answers) (more : List ℕ) → Agrees told (g.L.Link.calls l.link) → AreOctets more
      → hears_at l.fn.self.plan told l.fn.self.me.0 l.work.peer (receiver_of l.fn.receiver) more (independent_seen l.fn.self) (g.L.Link.calls l.fn.link)
      ≡ hears_at l.fn.self.plan told l.fn.self.me.0 l.work.peer (receiver_of l.receiver) more (independent_seen l.self) (g.L.Link.calls l.link);
  heard : HearsAll l.fn.self.plan l.fn.self.me.0 l.work.peer l.fn.receiver.held l.receiver.held (independent_seen l.fn.self) (independent_seen l.self);
}

abbrev pub decreases-pdus : goal.decreases-pdus
decreases-pdus g l = length l.receiver.held
