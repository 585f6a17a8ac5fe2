use Rattle.std.proofs.Common.{drop}
use Rattle.tables_text.specs.Tables.{address_lines}
use Rattle.text_lines.specs.Written.{lines_written}
use Rattle.text_lines.proofs.WrittenLemmas.{Putting}
use Rattle.tables_text.proofs.addresses.put_entries.Given as goal

abbrev pub invariant-loop-entry : goal.invariant-loop-entry
invariant-loop-entry g l = Putting (lines_written (g.K.Sink.taken l.fn.sink) (g.K.Sink.faults l.fn.sink) l.fn.page) (lines_written (g.K.Sink.taken l.sink) (g.K.Sink.faults l.sink) l.page)
    (address_lines l.service.plan.now l.service.name.now l.service.ports.now (drop l.entry-index l.entries)) (address_lines l.service.plan.now l.service.name.now l.service.ports.now l.entries)
