use Rattle.std.proofs.Common.{drop}
use Rattle.psn_net.specs.Lists.{network_seen}
use Rattle.tables_text.specs.Tables.{edge_texts}
use Rattle.text_lines.specs.Written.{lines_written}
use Rattle.text_lines.proofs.WrittenLemmas.{Putting}
use Rattle.tables_text.proofs.tables.put_tables.Given as goal

abbrev pub invariant-loop-place : goal.invariant-loop-place
invariant-loop-place g l = Putting (lines_written (g.K.Sink.taken l.fn.sink) (g.K.Sink.faults l.fn.sink) l.fn.page) (lines_written (g.K.Sink.taken l.sink) (g.K.Sink.faults l.sink) l.page)
    (edge_texts l.network.plan (network_seen l.network) l.place (drop l.place l.network.plan.edges)) (edge_texts l.network.plan (network_seen l.network) 0 l.network.plan.edges)
