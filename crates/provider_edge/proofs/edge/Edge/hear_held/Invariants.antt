use Rattle.std.proofs.Common.{◌++◌, ℕ, List, length}
use Rattle.net_values.specs.Octets.{AreOctets}
use Rattle.pw_messages.specs.LinkAnswers.{Agrees, Answers}
use Rattle.peer_dialogue.specs.Hearing.{HearsOn}
use Rattle.provider_edge.specs.AtWork.{Works, at_work}
use Rattle.provider_edge.proofs.edge.Edge.hear_held.Given as goal

abbrev pub invariant-pdus : goal.invariant-pdus
invariant-pdus g l = record {
  goes : Works g.L.Link.calls l.fn.self l.fn.work l.self l.work;
  step : (told : Answers) (more : List ℕ) → Agrees told (g.L.Link.calls l.work.link.now) → AreOctets more
      → HearsOn l.fn.self.plan told l.peer (l.fn.held ++ more) (l.held ++ more) (at_work g.L.Link.calls l.fn.self l.fn.work) (at_work g.L.Link.calls l.self l.work);
}

abbrev pub decreases-pdus : goal.decreases-pdus
decreases-pdus g l = length l.held
