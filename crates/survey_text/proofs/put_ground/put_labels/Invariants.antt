use Rattle.std.proofs.Common.{drop}
use Rattle.survey_text.specs.Text.{label_lines}
use Rattle.text_lines.specs.Written.{lines_written}
use Rattle.text_lines.proofs.WrittenLemmas.{Putting}
use Rattle.survey_text.proofs.put_ground.put_labels.Given as goal

abbrev pub ghost-put_label : goal.ghost-put_label
ghost-put_label g a = g.before

abbrev pub invariant-loop-edge : goal.invariant-loop-edge
invariant-loop-edge g l = Putting (lines_written (g.K.Sink.taken l.fn.sink) (g.K.Sink.faults l.fn.sink) l.fn.page) (lines_written (g.K.Sink.taken l.sink) (g.K.Sink.faults l.sink) l.page)
    (label_lines l.over.plan.now g.before l.edge (drop l.edge l.over.plan.now.edges)) (label_lines l.over.plan.now g.before 0 l.over.plan.now.edges)
