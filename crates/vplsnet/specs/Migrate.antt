-- What `migrate` writes of a scenario.
use Rattle.std.specs.Prelude.{◌≡◌, ℕ, List, Option, None}
use Rattle.migration.specs.Law.{IsMigrated}
use Rattle.psn_net.specs.Lists.{NetLists}
use Rattle.scenario_text.specs.declared.scenario.Scenario.{Scenario}
use Rattle.vplsnet.specs.declared.outcome.Outcome.{Outcome}
use Rattle.vplsnet.specs.declared.outcome.Outcome.TheVariants.{Done}

-- a text of the document of version 2 that the scenario is, which is read as this scenario again; no run begins
pub record IsMigration (scenario : Scenario) (text : List ℕ) (network : Option NetLists) (outcome : Outcome) : Type 0 where
  pub migrated : IsMigrated scenario text
  pub ends : outcome ≡ Done
  pub no_run : network ≡ None
