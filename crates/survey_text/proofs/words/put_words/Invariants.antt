use Rattle.std.proofs.Common.{drop, map}
use Rattle.text_pieces.specs.Pieces.{spaced}
use Rattle.text_lines.specs.Lines.{word_octets}
use Rattle.text_lines.specs.Written.{lines_written}
use Rattle.text_lines.proofs.WrittenLemmas.{Putting}
use Rattle.survey_text.proofs.words.put_words.Given as goal

abbrev pub invariant-loop-word : goal.invariant-loop-word
invariant-loop-word g l = Putting (lines_written (g.K.Sink.taken l.fn.sink) (g.K.Sink.faults l.fn.sink) l.fn.page) (lines_written (g.K.Sink.taken l.sink) (g.K.Sink.faults l.sink) l.page)
    (spaced (map word_octets (drop l.word-index l.words))) (spaced (map word_octets l.words))
