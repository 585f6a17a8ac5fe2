-- The row is the place of the first shape of the word.
use Rattle.std.proofs.Common.{◌∙◌}
use Rattle.line_shapes.proofs.RowLemmas.{row_is}
use Rattle.line_shapes.proofs.reader.row.Goals as goal

pub returns-clause-exact : goal.returns-clause-exact
returns-clause-exact c = c.place_of_word.ensures.exact ∙ row_is c.args.shapes.now c.args.word.now
