-- The end of a slot is that of its place.
use Rattle.std.proofs.Common.{◌∙◌, ap, sym}
use Rattle.edge_model.specs.declared.end_place.EndPlace.{EndPlace}
use Rattle.edge_model.specs.Role.{down_at}
use Rattle.provider_edge.specs.Lists.{seen}
use Rattle.tables_text.proofs.ends.down.Goals as goal

pub returns : goal.returns
returns c = c.down_of.ensures ∙ ap (λ (p : EndPlace). down_at c.args.edge.now.plan (seen c.args.edge.now) p) (sym c.requires.place)
