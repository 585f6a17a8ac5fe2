use Rattle.std.proofs.Common.{map}
use Rattle.std.specs.Prelude.{codes}
use Rattle.text_pieces.specs.Pieces.{spaced}
use Rattle.text_lines.specs.Lines.{line_end, word_octets}
use Rattle.text_lines.proofs.LineLemmas.{line_end_spaced}
use Rattle.text_lines.proofs.WrittenLemmas.{cut_first, cut_later}
use Rattle.text_lines.proofs.page.Page.put_line.Goals as goal

pub returns-in-Err-put_words : goal.returns-in-Err-put_words
returns-in-Err-put_words g c =
    let words = map word_octets c.args.words.now in
    cut_later _ _ _ c.args.first.now (line_end words) c.in_default.ensures (rw (line_end_spaced words) (cut_first _ _ (spaced words) (codes "\n") c.in-Err-put_words.ensures))
