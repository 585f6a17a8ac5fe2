-- The lines so far were put, each with what was told of it.
use Rattle.std.proofs.Common.{drop}
use Rattle.switchover_text.specs.Text.{lines_text}
use Rattle.text_lines.specs.Written.{lines_written}
use Rattle.text_lines.proofs.WrittenLemmas.{Putting}
use Rattle.switchover_text.proofs.report.put_lines.Given as goal

abbrev pub invariant-loop-line : goal.invariant-loop-line
invariant-loop-line g l = Putting (lines_written (g.K.Sink.taken l.fn.sink) (g.K.Sink.faults l.fn.sink) l.fn.page) (lines_written (g.K.Sink.taken l.sink) (g.K.Sink.faults l.sink) l.page)
    (lines_text l.plan (drop l.line-index l.lines) l.rest) (lines_text l.plan l.lines l.told)
