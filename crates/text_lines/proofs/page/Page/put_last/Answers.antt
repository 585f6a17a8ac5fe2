use Rattle.std.proofs.Common.{[], ◌∷◌}
use Rattle.text_lines.specs.Lines.{word_octets}
use Rattle.text_lines.proofs.WrittenLemmas.{cut_first, puts_two}
use Rattle.text_lines.proofs.page.Page.put_last.Goals as goal

pub returns-in-Ok : goal.returns-in-Ok
returns-in-Ok g c = puts_two _ _ _ _ (32 ∷ word_octets c.args.word) (10 ∷ []) c.in-Ok.ensures c.put_octet.ensures

pub returns-in-Err : goal.returns-in-Err
returns-in-Err g c = cut_first _ _ (32 ∷ word_octets c.args.word) (10 ∷ []) c.in-Err.ensures
