-- The keys of the map are those of the members.
use Rattle.std.proofs.Common.{◌∙◌}
use Rattle.scenario_text.proofs.KeyLemmas.{unknown_view}
use Rattle.scenario_text.proofs.keys.unknown.Goals as goal

pub returns : goal.returns
returns c = c.unknown_among.ensures.first ∙ unknown_view c.args.version c.args.table c.args.members.now.entries c.unknown_among.ensures.ascend
