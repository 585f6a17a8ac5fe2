use Rattle.std.proofs.Common.{◌≡◌, [], drop}
use Rattle.text_lines.specs.Written.{lines_written}
use Rattle.survey_text.specs.Cases.{with_one}
use Rattle.survey_text.specs.Surveys.{IsKnown, tallied}
use Rattle.survey_text.proofs.VisitLemmas.{Visiting}
use Rattle.survey_text.proofs.survey.Survey.visit_ones.Given as goal

abbrev pub ghost-visit_next : goal.ghost-visit_next
ghost-visit_next g a = g.before

abbrev pub invariant-loop-place : goal.invariant-loop-place
invariant-loop-place g l = record {
  visiting : Visiting l.over.plan.now g.before (lines_written (g.K.Sink.taken l.fn.sink) (g.K.Sink.faults l.fn.sink) l.fn.page) (lines_written (g.K.Sink.taken l.sink) (g.K.Sink.faults l.sink) l.page)
      (tallied l.fn.self.tally) (tallied l.self.tally) (with_one [] (drop l.place l.fn.self.known.faults)) (with_one [] l.fn.self.known.faults);
  known : IsKnown l.over.plan.now g.before l.place l.self.known;
  faults : l.self.known.faults ≡ l.fn.self.known.faults;
}
