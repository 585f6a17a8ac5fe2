use Rattle.std.proofs.Common.{◌≡◌, ◌+◌, ◌++◌, [], ◌∷◌, drop}
use Rattle.text_lines.specs.Written.{lines_written}
use Rattle.survey_text.specs.Cases.{triples, triples_with, with_one}
use Rattle.survey_text.specs.Surveys.{fault_in, tallied}
use Rattle.survey_text.proofs.VisitLemmas.{Visiting}
use Rattle.survey_text.proofs.survey.Survey.visit_threes.Given as goal

abbrev pub ghost-visit : goal.ghost-visit
ghost-visit g a = g.before

abbrev pub invariant-loop-first : goal.invariant-loop-first
invariant-loop-first g l = record {
  visiting : Visiting l.over.plan.now g.before (lines_written (g.K.Sink.taken l.fn.sink) (g.K.Sink.faults l.fn.sink) l.fn.page) (lines_written (g.K.Sink.taken l.sink) (g.K.Sink.faults l.sink) l.page)
      (tallied l.fn.self.tally) (tallied l.self.tally)
      (triples (drop l.first l.fn.self.known.faults)) (triples l.fn.self.known.faults);
  known : l.self.known ≡ l.fn.self.known;
}

abbrev pub invariant-loop-second : goal.invariant-loop-second
invariant-loop-second g l = record {
  visiting : Visiting l.over.plan.now g.before (lines_written (g.K.Sink.taken l.fn.sink) (g.K.Sink.faults l.fn.sink) l.fn.page) (lines_written (g.K.Sink.taken l.sink) (g.K.Sink.faults l.sink) l.page)
      (tallied l.fn.self.tally) (tallied l.self.tally)
      (triples_with (fault_in l.fn.self.known.faults l.first) (drop l.second l.fn.self.known.faults) ++ triples (drop (l.first + 1) l.fn.self.known.faults)) (triples l.fn.self.known.faults);
  known : l.self.known ≡ l.fn.self.known;
}

abbrev pub invariant-loop-third : goal.invariant-loop-third
invariant-loop-third g l = record {
  visiting : Visiting l.over.plan.now g.before (lines_written (g.K.Sink.taken l.fn.sink) (g.K.Sink.faults l.fn.sink) l.fn.page) (lines_written (g.K.Sink.taken l.sink) (g.K.Sink.faults l.sink) l.page)
      (tallied l.fn.self.tally) (tallied l.self.tally)
      (with_one (fault_in l.fn.self.known.faults l.first ∷ fault_in l.fn.self.known.faults l.second ∷ []) (drop l.third l.fn.self.known.faults)
      ++ (triples_with (fault_in l.fn.self.known.faults l.first) (drop (l.second + 1) l.fn.self.known.faults) ++ triples (drop (l.first + 1) l.fn.self.known.faults)))
      (triples l.fn.self.known.faults);
  known : l.self.known ≡ l.fn.self.known;
}
