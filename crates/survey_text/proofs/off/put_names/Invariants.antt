use Rattle.std.proofs.Common.{drop}
use Rattle.survey_text.specs.Text.{names_off}
use Rattle.text_pieces.specs.Pieces.{spaced}
use Rattle.text_lines.specs.Written.{lines_written}
use Rattle.text_lines.proofs.WrittenLemmas.{Putting}
use Rattle.survey_text.proofs.off.put_names.Given as goal

abbrev pub ghost-put_name : goal.ghost-put_name
ghost-put_name g a = g.before

abbrev pub invariant-loop-circuit : goal.invariant-loop-circuit
invariant-loop-circuit g l = Putting (lines_written (g.K.Sink.taken l.fn.sink) (g.K.Sink.faults l.fn.sink) l.fn.page) (lines_written (g.K.Sink.taken l.sink) (g.K.Sink.faults l.sink) l.page)
    (spaced (names_off g.before l.of.service l.circuit (drop l.circuit l.of.over.plan.now.circuits))) (spaced (names_off g.before l.of.service 0 l.of.over.plan.now.circuits))
