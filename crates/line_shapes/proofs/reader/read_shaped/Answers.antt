-- What is read fits its row.
use Rattle.std.proofs.Common.{map}
use Rattle.line_shapes.specs.Shapes.{form_of}
use Rattle.line_shapes.proofs.ReadLemmas.{fit_result}
use Rattle.line_shapes.proofs.reader.read_shaped.Goals as goal

pub returns-clause-fit : goal.returns-clause-fit
returns-clause-fit g c =
    fit_result c.args.plan.now (map form_of c.args.shapes.now) (g.W.Words.words c.args.line.now) c.read_row.result c.read_row.ensures.exact
