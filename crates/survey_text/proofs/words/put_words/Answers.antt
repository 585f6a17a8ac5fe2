use Rattle.std.proofs.Common.{List, map}
use Rattle.std.proofs.lemmas.List.{at_drop_more}
use Rattle.text_pieces.specs.Pieces.{spaced}
use Rattle.text_lines.specs.declared.line_word.LineWord.{LineWord}
use Rattle.text_lines.specs.Lines.{word_octets}
use Rattle.std.proofs.lemmas.Result.{err_from_is_err_and}
use Rattle.text_lines.proofs.WrittenLemmas.{putting_cut, putting_more}
use Rattle.survey_text.proofs.words.put_words.Goals as goal

pub returns-in_err-put_next : goal.returns-in_err-put_next
returns-in_err-put_next g c =
    let p = err_from_is_err_and c.from_residual.result c.from_residual.ensures.1 in
    rw p.1 (putting_cut _ _ _ _ _ _ _ (at_drop_more (λ (ws : List LineWord). spaced (map word_octets ws)) c.args.words.now c.loop-word.word-index _ c.loop-word-test.true) c.loop-word.invariant c.in_err-put_next.ensures)

pub loop-word-preserved : goal.loop-word-preserved
loop-word-preserved g c = putting_more _ _ _ _ _ _ _ (at_drop_more (λ (ws : List LineWord). spaced (map word_octets ws)) c.args.words.now c.loop-word.word-index _ c.loop-word-test.true) c.loop-word.invariant c.in_ok-put_next.ensures
