use Rattle.std.proofs.Common.{drop}
use Rattle.survey_text.specs.Text.{change_texts}
use Rattle.text_lines.specs.Written.{lines_written}
use Rattle.text_lines.proofs.WrittenLemmas.{Putting}
use Rattle.survey_text.proofs.put_case.put_changes.Given as goal

abbrev pub ghost-put_change : goal.ghost-put_change
ghost-put_change g a = g.case

abbrev pub invariant-loop-service : goal.invariant-loop-service
invariant-loop-service g l = Putting (lines_written (g.K.Sink.taken l.fn.sink) (g.K.Sink.faults l.fn.sink) l.fn.page) (lines_written (g.K.Sink.taken l.sink) (g.K.Sink.faults l.sink) l.page)
    (change_texts l.worked.over.plan.now g.case.before g.case.faults l.service (drop l.service l.worked.over.plan.now.services)) (change_texts l.worked.over.plan.now g.case.before g.case.faults 0 l.worked.over.plan.now.services)
