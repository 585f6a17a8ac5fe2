-- A scenario that is written as a document of version 2 is read again.
use Rattle.std.specs.Prelude.{◌≡◌, ℕ, false, List, Some, Ok}
use Rattle.std.specs.Str.{IsUtf8}
use Rattle.toml.specs.Parse.{parse_document}
use Rattle.toml.specs.Text.{IsDocumentText}
use Rattle.migration.specs.Migrated.{migrated}
use Rattle.scenario_text.specs.declared.scenario.Scenario.{Scenario}
use Rattle.scenario_text.specs.Document.{document}

-- the scenario was read from a document, of version 1 or 2
pub record WasRead (scenario : Scenario) : Type 0 where
  pub bytes : List ℕ
  pub is : document bytes ≡ Ok scenario

-- every text of the document of version 2 that such a scenario is, is read as this scenario again
abbrev pub ReadsWhatIsMigrated : Type 0
ReadsWhatIsMigrated = (scenario : Scenario) (text : List ℕ) → WasRead scenario → IsUtf8 text → parse_document text ≡ Some (migrated scenario.plan scenario.commands)
    → document text ≡ Ok scenario

-- a text of that document, which is this scenario again
pub record IsMigrated (scenario : Scenario) (octets : List ℕ) : Type 0 where
  pub text : IsDocumentText false (migrated scenario.plan scenario.commands) octets
  pub table : parse_document octets ≡ Some (migrated scenario.plan scenario.commands)
  pub same : document octets ≡ Ok scenario
