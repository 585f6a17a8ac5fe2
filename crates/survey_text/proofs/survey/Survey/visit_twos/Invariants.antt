use Rattle.std.proofs.Common.{◌≡◌, ◌+◌, ◌++◌, [], ◌∷◌, drop}
use Rattle.text_lines.specs.Written.{lines_written}
use Rattle.survey_text.specs.Cases.{pairs, with_one}
use Rattle.survey_text.specs.Surveys.{fault_in, tallied}
use Rattle.survey_text.proofs.VisitLemmas.{Visiting}
use Rattle.survey_text.proofs.survey.Survey.visit_twos.Given as goal

abbrev pub ghost-visit : goal.ghost-visit
ghost-visit g a = g.before

abbrev pub invariant-loop-first : goal.invariant-loop-first
invariant-loop-first g l = record {
  visiting : Visiting l.over.plan.now g.before (lines_written (g.K.Sink.taken l.fn.sink) (g.K.Sink.faults l.fn.sink) l.fn.page) (lines_written (g.K.Sink.taken l.sink) (g.K.Sink.faults l.sink) l.page)
      (tallied l.fn.self.tally) (tallied l.self.tally)
      (pairs (drop l.first l.fn.self.known.faults)) (pairs l.fn.self.known.faults);
  known : l.self.known ≡ l.fn.self.known;
}

abbrev pub invariant-loop-second : goal.invariant-loop-second
invariant-loop-second g l = record {
  visiting : Visiting l.over.plan.now g.before (lines_written (g.K.Sink.taken l.fn.sink) (g.K.Sink.faults l.fn.sink) l.fn.page) (lines_written (g.K.Sink.taken l.sink) (g.K.Sink.faults l.sink) l.page)
      (tallied l.fn.self.tally) (tallied l.self.tally)
      (with_one (fault_in l.fn.self.known.faults l.first ∷ []) (drop l.second l.fn.self.known.faults) ++ pairs (drop (l.first + 1) l.fn.self.known.faults)) (pairs l.fn.self.known.faults);
  known : l.self.known ≡ l.fn.self.known;
}
