-- What stood at the key of the events is their array.
use Rattle.std.proofs.Common.{◌∙◌, codes, ap, option_map}
use Rattle.toml.specs.View.{view, table_view}
use Rattle.toml.proofs.Views.{view-lookup}
use Rattle.scenario_text.proofs.EventLemmas.{taken_events, few_events}
use Rattle.scenario_text.proofs.arrays.take_events.Goals as goal

pub returns-clause-exact : goal.returns-clause-exact
returns-clause-exact c =
    taken_events (table_view c.args.table) c.remove.result c.items_in.result.items (ap (option_map view) c.remove.ensures.value ∙ view-lookup (codes "events") c.args.table.entries) c.items_in.ensures.array c.items_in.ensures.none

pub returns-clause-few : goal.returns-clause-few
returns-clause-few c =
    few_events (table_view c.args.table) c.remove.result c.items_in.result.items (ap (option_map view) c.remove.ensures.value ∙ view-lookup (codes "events") c.args.table.entries) c.items_in.ensures.array c.items_in.ensures.none
