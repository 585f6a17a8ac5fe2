use Rattle.std.proofs.Common.{drop}
use Rattle.survey_text.specs.Text.{names_at}
use Rattle.text_pieces.specs.Pieces.{spaced}
use Rattle.text_lines.specs.Written.{lines_written}
use Rattle.text_lines.proofs.WrittenLemmas.{Putting}
use Rattle.survey_text.proofs.sites.put_at.Given as goal

abbrev pub ghost-put_site : goal.ghost-put_site
ghost-put_site g a = g.before

abbrev pub invariant-loop-circuit : goal.invariant-loop-circuit
invariant-loop-circuit g l = Putting (lines_written (g.K.Sink.taken l.fn.sink) (g.K.Sink.faults l.fn.sink) l.fn.page) (lines_written (g.K.Sink.taken l.sink) (g.K.Sink.faults l.sink) l.page)
    (spaced (names_at g.before l.of.service l.edge l.circuit (drop l.circuit l.of.over.plan.now.circuits))) (spaced (names_at g.before l.of.service l.edge 0 l.of.over.plan.now.circuits))
