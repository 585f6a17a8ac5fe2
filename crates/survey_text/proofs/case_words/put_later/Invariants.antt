use Rattle.std.proofs.Common.{drop}
use Rattle.survey_text.specs.Text.{later_words}
use Rattle.text_pieces.specs.Pieces.{spaced}
use Rattle.text_lines.specs.Written.{lines_written}
use Rattle.text_lines.proofs.WrittenLemmas.{Putting}
use Rattle.survey_text.proofs.case_words.put_later.Given as goal

abbrev pub invariant-loop-fault : goal.invariant-loop-fault
invariant-loop-fault g l = Putting (lines_written (g.K.Sink.taken l.fn.sink) (g.K.Sink.faults l.fn.sink) l.fn.page) (lines_written (g.K.Sink.taken l.sink) (g.K.Sink.faults l.sink) l.page)
    (spaced (later_words l.plan (drop l.fault-index l.faults))) (spaced (later_words l.plan l.faults))
