-- The end of a slot is that of its place.
use Rattle.std.proofs.Common.{◌∙◌}
use Rattle.tables_text.proofs.TableLemmas.{end_seen}
use Rattle.tables_text.proofs.ends.end_at.Goals as goal

pub returns : goal.returns
returns c = c.end_in.ensures.end ∙ end_seen c.args.edge.now c.args.slot c.args.place c.requires.place
