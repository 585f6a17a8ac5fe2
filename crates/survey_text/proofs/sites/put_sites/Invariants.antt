use Rattle.std.proofs.Common.{drop}
use Rattle.survey_reach.specs.Words.{in_word}
use Rattle.survey_text.specs.Text.{names_where}
use Rattle.text_pieces.specs.Pieces.{spaced}
use Rattle.text_lines.specs.Written.{lines_written}
use Rattle.text_lines.proofs.WrittenLemmas.{Putting}
use Rattle.survey_text.proofs.sites.put_sites.Given as goal

abbrev pub ghost-put_if : goal.ghost-put_if
ghost-put_if g a = g.before

abbrev pub invariant-loop-edge : goal.invariant-loop-edge
invariant-loop-edge g l = Putting (lines_written (g.K.Sink.taken l.fn.sink) (g.K.Sink.faults l.fn.sink) l.fn.page) (lines_written (g.K.Sink.taken l.sink) (g.K.Sink.faults l.sink) l.page)
    (spaced (names_where l.of.over.plan.now g.before l.of.service (in_word l.edges) l.edge (drop l.edge l.of.over.plan.now.edges))) (spaced (names_where l.of.over.plan.now g.before l.of.service (in_word l.edges) l.from (drop l.from l.of.over.plan.now.edges)))
