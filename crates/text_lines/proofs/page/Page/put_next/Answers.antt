use Rattle.std.proofs.Common.{[], ◌∷◌}
use Rattle.text_lines.specs.Lines.{word_octets}
use Rattle.text_lines.proofs.WrittenLemmas.{puts_two}
use Rattle.text_lines.proofs.page.Page.put_next.Goals as goal

pub returns-in-Ok : goal.returns-in-Ok
returns-in-Ok g c = puts_two _ _ _ _ (32 ∷ []) (word_octets c.args.word) c.in-Ok.ensures c.put_word.ensures
