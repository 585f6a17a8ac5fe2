-- A scenario that is written as a document of version 2 is read again.
use Rattle.std.proofs.Common.{◌≡◌, ◌∙◌, ℕ, zero, suc, true, false, List, [], ◌∷◌, length, Some, Result, Ok, Err, IfOk, String, Global, string_bytes, refl, ap, subst, arith}
use Rattle.std.proofs.lemmas.Str.{IsUtf8-string_bytes}
use Rattle.std.specs.List.{All}
use Rattle.toml.specs.Parse.{parse_document}
use Rattle.toml.specs.Text.{IsDocumentText}
use Rattle.toml.specs.View.{items_of}
use Rattle.net_base.specs.declared.plan.Plan.{Plan}
use Rattle.command_text.specs.declared.command.Command.{Command}
use Rattle.command_text.specs.declared.command.Command.TheVariants.{One, Settle, Flow, Ticks, Play}
use Rattle.command_text.specs.Events.{plays_after}
use Rattle.scenario_text.proofs.DocumentLemmas.{document_text}
use Rattle.scenario_text.specs.declared.scenario.Scenario.{Scenario}
use Rattle.scenario_text.specs.Document.{document, scenario_in, scenario_or, scenario_with}
use Rattle.scenario_text.specs.Rows.{items_length}
use Rattle.scenario_text.specs.Values.{all_items, is_string}
use Rattle.migration.proofs.CommandLemmas.{reads_all}
use Rattle.migration.specs.Commands.{event_items}
use Rattle.migration.specs.CommandLaw.{AreSaidCommands, IsSaidCommand}
use Rattle.migration.specs.Migrated.{migrated}
use Rattle.migration.specs.Sayable.{IsSayable, IsSayableScenario}
use Rattle.migration.proofs.AcceptedLemmas.{IsReadScenario, has_names, read_scenario_is}
use Rattle.migration.proofs.TopLemmas.{scenario_read}
use Rattle.migration.specs.Law.{IsMigrated, ReadsWhatIsMigrated, WasRead}

-- events are texts, one for each command
are_strings : (plan : Plan) (commands : List Command) → all_items is_string (items_of (event_items plan commands)) ≡ true
are_strings plan [] = refl
are_strings plan (command ∷ commands) = are_strings plan commands

items_are : (plan : Plan) (commands : List Command) → items_length (items_of (event_items plan commands)) ≡ length commands
items_are plan [] = refl
items_are plan (command ∷ commands) = ap (λ n. suc n) (items_are plan commands)

-- the table of a scenario that was read is this scenario
table_read : (scenario : Scenario) → IsReadScenario scenario → scenario_in (migrated scenario.plan scenario.commands) ≡ Ok scenario
table_read scenario is =
    let events = items_of (event_items scenario.plan scenario.commands) in
    scenario_read scenario.plan events is.plan (are_strings scenario.plan scenario.commands) (omega (arith, items_are scenario.plan scenario.commands, is.few))
    ∙ ap (scenario_with scenario.plan) (reads_all scenario.plan scenario.commands (has_names scenario.plan is.plan) is.commands)

-- and so is each text of this table
pub text_read : ReadsWhatIsMigrated
text_read scenario text was utf8 table =
    document_text text utf8 ∙ ap scenario_or table ∙ table_read scenario (read_scenario_is was.bytes scenario was.is)

pub text_again : (scenario : Scenario) (text : String Global) → WasRead scenario → parse_document (string_bytes text) ≡ Some (migrated scenario.plan scenario.commands)
    → document (string_bytes text) ≡ Ok scenario
text_again scenario text was table = text_read scenario (string_bytes text) was (IsUtf8-string_bytes text) table

-- what was read can be written
sayable : (plan : Plan) (plays : ℕ) (command : Command) → IsSaidCommand plan plays command → IsSayable plan command
sayable plan plays (One event) is = is
sayable plan plays (Settle count) is = tt
sayable plan plays (Flow count) is = tt
sayable plan plays (Ticks count) is = tt
sayable plan plays (Play circuit file) is = is.0

commands_sayable : (plan : Plan) (plays : ℕ) (commands : List Command) → AreSaidCommands plan plays commands → All (IsSayable plan) commands
commands_sayable plan plays [] said k d lt = absurd (omega (arith, lt))
commands_sayable plan plays (command ∷ commands) said zero d lt = sayable plan plays command said.0
commands_sayable plan plays (command ∷ commands) said (suc k) d lt = commands_sayable plan (plays_after plays command) commands said.1 k d (omega (arith, lt))

pub was_sayable : (scenario : Scenario) → WasRead scenario → IsSayableScenario scenario.plan scenario.commands
was_sayable scenario was =
    let is = read_scenario_is was.bytes scenario was.is in
    record {
      names = has_names scenario.plan is.plan;
      descriptions = λ k d lt. record { near = (is.plan.near k d lt).description.1; far = (is.plan.far k d lt).description.1 };
      each = commands_sayable scenario.plan 0 scenario.commands is.commands;
    }

-- what a document is was read
pub was_read : (bytes : List ℕ) (scenario : Scenario) → document bytes ≡ Ok scenario → WasRead scenario
was_read bytes scenario is = record { bytes = bytes; is = is }

-- the text that is made of a scenario that was read
pub migrated_is : {E : Type 0} (scenario : Scenario) (commands : List Command) (result : Result (String Global) E) → WasRead scenario → commands ≡ scenario.commands
    → IfOk result (λ t. IsDocumentText false (migrated scenario.plan commands) (string_bytes t)) → IfOk result (λ t. parse_document (string_bytes t) ≡ Some (migrated scenario.plan commands))
    → IfOk result (λ t. IsMigrated scenario (string_bytes t))
migrated_is scenario commands (Ok t) was same text table =
    let all : parse_document (string_bytes t) ≡ Some (migrated scenario.plan scenario.commands) =
    subst (λ (cs : List Command). parse_document (string_bytes t) ≡ Some (migrated scenario.plan cs)) same table in
    record {
      text = subst (λ (cs : List Command). IsDocumentText false (migrated scenario.plan cs) (string_bytes t)) same text;
      table = all;
      same = text_again scenario t was all;
    }
migrated_is scenario commands (Err e) was same text table = tt
