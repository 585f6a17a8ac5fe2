use Rattle.std.proofs.Common.{subst, sym}
use Rattle.migration.specs.Sayable.{IsSayableScenario}
use Rattle.migration.proofs.JoinLemmas.{migrated_is, was_sayable}
use Rattle.migration.proofs.text.migrate.Goals as goal

pub migrated_text-requires : goal.migrated_text-requires
migrated_text-requires c = subst (IsSayableScenario c.args.scenario.now.plan) (sym c.as_slice.ensures) (was_sayable c.args.scenario.now c.requires)

pub returns : goal.returns
returns c = migrated_is c.args.scenario.now c.as_slice.result.now c.migrated_text.result c.requires c.as_slice.ensures c.migrated_text.ensures.text c.migrated_text.ensures.read
