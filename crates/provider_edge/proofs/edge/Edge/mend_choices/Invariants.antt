use Rattle.std.proofs.Common.{None, ◌≡◌, drop}
use Rattle.pw_messages.specs.LinkAnswers.{Agrees, Answers}
use Rattle.edge_model.specs.EndPlaces.{end_places}
use Rattle.edge_model.specs.Mend.{each_end, mends_choice}
use Rattle.edge_forwarding.specs.Views.{view}
use Rattle.provider_edge.specs.AtWork.{Works, at_work}
use Rattle.provider_edge.proofs.edge.Edge.mend_choices.Given as goal

abbrev pub invariant-loop-slot : goal.invariant-loop-slot
invariant-loop-slot g l = record {
  goes : Works g.L.Link.calls l.fn.self l.fn.work l.self l.work;
  places : l.fn.self.ends.places ≡ end_places l.fn.self.plan l.fn.self.me;
  step : (told : Answers) → Agrees told (g.L.Link.calls l.work.link.now)
      → each_end (mends_choice l.fn.self.plan told (view None l.chosen)) (end_places l.fn.self.plan l.fn.self.me) (record { work = at_work g.L.Link.calls l.fn.self l.fn.work; failed = l.before })
      ≡ each_end (mends_choice l.fn.self.plan told (view None l.chosen)) (drop l.slot (end_places l.fn.self.plan l.fn.self.me))
      (record { work = at_work g.L.Link.calls l.self l.work; failed = l.failed });
}
