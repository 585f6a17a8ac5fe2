-- The items are the values.
use Rattle.std.proofs.Common.{◌∙◌, sym}
use Rattle.scenario_text.proofs.RowLemmas.{all_items_view}
use Rattle.scenario_text.specs.Arrays.{has_kind}
use Rattle.scenario_text.proofs.values.are_of.Goals as goal

pub returns : goal.returns
returns c = c.each_is_of.ensures ∙ sym (all_items_view (has_kind c.args.kind) c.args.array.now)
