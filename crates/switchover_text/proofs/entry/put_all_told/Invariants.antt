-- The lines so far were put.
use Rattle.std.proofs.Common.{drop}
use Rattle.switchover_text.specs.Text.{told_lines}
use Rattle.text_lines.specs.Written.{lines_written}
use Rattle.text_lines.proofs.WrittenLemmas.{Putting}
use Rattle.switchover_text.proofs.entry.put_all_told.Given as goal

abbrev pub invariant-loop-entry : goal.invariant-loop-entry
invariant-loop-entry g l = Putting (lines_written (g.K.Sink.taken l.fn.sink) (g.K.Sink.faults l.fn.sink) l.fn.page) (lines_written (g.K.Sink.taken l.sink) (g.K.Sink.faults l.sink) l.page)
    (told_lines l.plan (drop l.entry-index l.entries)) (told_lines l.plan l.entries)
