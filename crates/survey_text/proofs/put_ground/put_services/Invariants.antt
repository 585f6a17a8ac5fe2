use Rattle.std.proofs.Common.{drop}
use Rattle.survey_text.specs.Text.{service_texts}
use Rattle.text_lines.specs.Written.{lines_written}
use Rattle.text_lines.proofs.WrittenLemmas.{Putting}
use Rattle.survey_text.proofs.put_ground.put_services.Given as goal

abbrev pub ghost-put_service : goal.ghost-put_service
ghost-put_service g a = g.before

abbrev pub invariant-loop-place : goal.invariant-loop-place
invariant-loop-place g l = Putting (lines_written (g.K.Sink.taken l.fn.sink) (g.K.Sink.faults l.fn.sink) l.fn.page) (lines_written (g.K.Sink.taken l.sink) (g.K.Sink.faults l.sink) l.page)
    (service_texts l.over.plan.now g.before l.place (drop l.place l.over.plan.now.services)) (service_texts l.over.plan.now g.before 0 l.over.plan.now.services)
