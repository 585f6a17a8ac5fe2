use Rattle.std.proofs.Common.{drop}
use Rattle.survey_reach.specs.Words.{has_pair, in_word}
use Rattle.survey_text.specs.Text.{are_left, row_lines}
use Rattle.text_lines.specs.Written.{lines_written}
use Rattle.text_lines.proofs.WrittenLemmas.{Putting}
use Rattle.survey_text.proofs.relation.Relation.put_rows.Given as goal

abbrev pub ghost-put_row : goal.ghost-put_row
ghost-put_row g a = g.before

abbrev pub invariant-loop-edge : goal.invariant-loop-edge
invariant-loop-edge g l = Putting (lines_written (g.K.Sink.taken l.fn.sink) (g.K.Sink.faults l.fn.sink) l.fn.page) (lines_written (g.K.Sink.taken l.sink) (g.K.Sink.faults l.sink) l.page)
    (row_lines l.self.of.over.plan.now g.before l.self.of.service l.self.word.now (are_left (has_pair l.self.pairs.now) (in_word l.self.cut)) l.edge (drop l.edge l.self.of.over.plan.now.edges)) (row_lines l.self.of.over.plan.now g.before l.self.of.service l.self.word.now (are_left (has_pair l.self.pairs.now) (in_word l.self.cut)) 0 l.self.of.over.plan.now.edges)
