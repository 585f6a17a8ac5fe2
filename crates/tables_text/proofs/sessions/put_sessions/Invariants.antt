use Rattle.std.proofs.Common.{drop}
use Rattle.provider_edge.specs.Lists.{seen}
use Rattle.tables_text.specs.Tables.{session_lines}
use Rattle.text_lines.specs.Written.{lines_written}
use Rattle.text_lines.proofs.WrittenLemmas.{Putting}
use Rattle.tables_text.proofs.sessions.put_sessions.Given as goal

abbrev pub invariant-loop-place : goal.invariant-loop-place
invariant-loop-place g l = Putting (lines_written (g.K.Sink.taken l.fn.sink) (g.K.Sink.faults l.fn.sink) l.fn.page) (lines_written (g.K.Sink.taken l.sink) (g.K.Sink.faults l.sink) l.page)
    (session_lines l.edge.plan l.edge.me (seen l.edge) l.place (drop l.place l.edge.plan.edges)) (session_lines l.edge.plan l.edge.me (seen l.edge) 0 l.edge.plan.edges)
