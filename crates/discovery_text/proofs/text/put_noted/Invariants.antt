-- The notes so far, and the entries before them, were put.
use Rattle.std.proofs.Common.{drop}
use Rattle.text_lines.specs.Written.{lines_written}
use Rattle.text_lines.proofs.WrittenLemmas.{Putting}
use Rattle.discovery_text.specs.Text.{noted_lines}
use Rattle.discovery_text.proofs.text.put_noted.Given as goal

abbrev pub invariant-loop-placed : goal.invariant-loop-placed
invariant-loop-placed g l = Putting (lines_written (g.K.Sink.taken l.fn.sink) (g.K.Sink.faults l.fn.sink) l.fn.page) (lines_written (g.K.Sink.taken l.sink) (g.K.Sink.faults l.sink) l.page)
    (noted_lines l.plan l.written l.rest (drop l.placed-index l.notes)) (noted_lines l.plan 0 l.trace l.notes)
