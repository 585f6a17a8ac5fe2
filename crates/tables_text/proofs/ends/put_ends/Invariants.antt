use Rattle.std.proofs.Common.{drop}
use Rattle.edge_model.specs.EndPlaces.{end_places}
use Rattle.provider_edge.specs.Lists.{seen}
use Rattle.tables_text.specs.Tables.{end_lines}
use Rattle.text_lines.specs.Written.{lines_written}
use Rattle.text_lines.proofs.WrittenLemmas.{Putting}
use Rattle.tables_text.proofs.ends.put_ends.Given as goal

abbrev pub invariant-loop-slot : goal.invariant-loop-slot
invariant-loop-slot g l = Putting (lines_written (g.K.Sink.taken l.fn.sink) (g.K.Sink.faults l.fn.sink) l.fn.page) (lines_written (g.K.Sink.taken l.sink) (g.K.Sink.faults l.sink) l.page)
    (end_lines l.edge.plan (seen l.edge) (drop l.slot (end_places l.edge.plan l.edge.me))) (end_lines l.edge.plan (seen l.edge) (end_places l.edge.plan l.edge.me))
