-- How a call ends that writes a text.
use Rattle.std.specs.Prelude.{◌≡◌, ◌⊎◌, ℕ, List, Option, Some, None, Err}
use Rattle.net_base.specs.declared.plan.Plan.{Plan}
use Rattle.net_base.specs.outside.Outside.{Rose}
use Rattle.discovery_script.specs.declared.placed_note.PlacedNote.{PlacedNote}
use Rattle.discovery_script.specs.declared.script_line.ScriptLine.{ScriptLine}
use Rattle.migration.specs.Law.{IsMigrated}
use Rattle.psn_net.specs.declared.net_stop.NetStop.{NetStop}
use Rattle.psn_net.specs.Lists.{NetLists}
use Rattle.report_laws.specs.Laws.{IsTypedTrace}
use Rattle.scenario_text.specs.declared.scenario.Scenario.{Scenario}
use Rattle.switchover_model.specs.declared.switch_line.SwitchLine.{SwitchLine}
use Rattle.switchover_text.specs.Text.{switchover_report}
use Rattle.text_lines.specs.Written.{Written, AppendsFront, Writes}
use Rattle.trace_audit.specs.Audited.{IsAudited, IsGoodReport}
use Rattle.vplsnet.specs.declared.audit_rule.AuditRule.{AuditRule}
use Rattle.vplsnet.specs.declared.outcome.Outcome.{Outcome}
use Rattle.vplsnet.specs.declared.outcome.Outcome.TheVariants.{Done, WriteFault, AuditRefused, NoMemory}
use Rattle.vplsnet.specs.Answers.{run_text}
use Rattle.vplsnet.specs.Asked.{Asked}
use Rattle.vplsnet.specs.Audit.{stop_of, yes}
use Rattle.vplsnet.specs.Decode.{AppendsPart, IsDecoding}
use Rattle.vplsnet.specs.Discover.{IsDiscoveryRun, discovery_text}
use Rattle.vplsnet.specs.Replay.{ending_by}
use Rattle.vplsnet.specs.RunOver.{outcome_by}
use Rattle.vplsnet.specs.ScenarioRun.{IsScenarioRun}
use Rattle.vplsnet.specs.Switchover.{AgreesBehindEach}

-- the whole text was taken, and the call ends as it was to end
pub record WritesWhole (text : List ℕ) (left : Option NetLists) (made : Outcome) (old now : Written) (network : Option NetLists) (outcome : Outcome) : Type 0 where
  pub outcome_is : outcome ≡ made
  pub network_is : network ≡ left
  pub taken : Writes old.taken now.taken text

-- the sink failed, and a front of the text was taken that lacks its end
pub record WritesFront (text : List ℕ) (left : Option NetLists) (old now : Written) (network : Option NetLists) (outcome : Outcome) : Type 0 where
  pub outcome_is : outcome ≡ WriteFault
  pub network_is : network ≡ left
  pub taken : AppendsFront old.taken now.taken text
  pub cause : Rose old.faults now.faults

-- memory was refused before anything was taken
pub record WritesNone (old now : Written) (network : Option NetLists) (outcome : Outcome) : Type 0 where
  pub outcome_is : outcome ≡ NoMemory
  pub no_run : network ≡ None
  pub taken : now.taken ≡ old.taken

-- one of the three
abbrev pub EndsText : List ℕ → Option NetLists → Outcome → Written → Written → Option NetLists → Outcome → Type 0
EndsText text left made old now network outcome =
    WritesWhole text left made old now network outcome ⊎ WritesFront text left old now network outcome ⊎ WritesNone old now network outcome

-- a text is written of a call that ends so, or a front of it
abbrev pub WritesText : List ℕ → Outcome → Written → Written → Outcome → Type 0
WritesText text made old now outcome = WritesWhole text None made old now None outcome ⊎ WritesFront text None old now None outcome

-- the run of a scenario, of which the command's text is written, and what the types of its entries say of them
pub record TellsRunOf (scenario : Scenario) (captures : List (List (List ℕ))) (asked : Asked) (old now : Written) (network : Option NetLists) (outcome : Outcome) : Type 0 where
  pub left : NetLists
  pub reason : Option NetStop
  pub is_run : IsScenarioRun scenario captures left reason
  pub typed : IsTypedTrace left.trace (ending_by reason)
  pub ends : EndsText (run_text asked left reason) (Some left) (outcome_by reason) old now network outcome

-- the same, or memory was refused before
abbrev pub EndsRun : Scenario → List (List (List ℕ)) → Asked → Written → Written → Option NetLists → Outcome → Type 0
EndsRun scenario captures asked old now network outcome = TellsRunOf scenario captures asked old now network outcome ⊎ WritesNone old now network outcome

-- memory was refused on the way through a stream, and a front of its text was taken
pub record GivesUp (text : List ℕ) (old now : Written) (network : Option NetLists) (outcome : Outcome) : Type 0 where
  pub outcome_is : outcome ≡ NoMemory
  pub no_run : network ≡ None
  pub taken : AppendsPart old.taken now.taken text

-- a stream, of which the text is written
pub record TellsStream (octets : List ℕ) (old now : Written) (network : Option NetLists) (outcome : Outcome) : Type 0 where
  pub text : List ℕ
  pub made : Outcome
  pub is_decoding : IsDecoding octets text None made
  pub ends : EndsText text None made old now network outcome ⊎ GivesUp text old now network outcome

-- the same, or memory was refused before
abbrev pub EndsStream : List ℕ → Written → Written → Option NetLists → Outcome → Type 0
EndsStream octets old now network outcome = TellsStream octets old now network outcome ⊎ WritesNone old now network outcome

-- a scenario, of which a text of version 2 is written
pub record TellsMigration (scenario : Scenario) (old now : Written) (network : Option NetLists) (outcome : Outcome) : Type 0 where
  pub text : List ℕ
  pub is_migrated : IsMigrated scenario text
  pub ends : EndsText text None Done old now network outcome

-- the same, or memory was refused before
abbrev pub EndsMigration : Scenario → Written → Written → Option NetLists → Outcome → Type 0
EndsMigration scenario old now network outcome = TellsMigration scenario old now network outcome ⊎ WritesNone old now network outcome

-- the run of a script, of which the report is written
pub record TellsScript (plan : Plan) (lines : List ScriptLine) (old now : Written) (network : Option NetLists) (outcome : Outcome) : Type 0 where
  pub left : NetLists
  pub notes : List PlacedNote
  pub reason : Option NetStop
  pub is_run : IsDiscoveryRun plan lines left notes reason
  pub ends : EndsText (discovery_text left notes reason) (Some left) (outcome_by reason) old now network outcome

-- the same, or memory was refused before
abbrev pub EndsDiscovery : Plan → List ScriptLine → Written → Written → Option NetLists → Outcome → Type 0
EndsDiscovery plan lines old now network outcome = TellsScript plan lines old now network outcome ⊎ WritesNone old now network outcome

-- the exchange of a script, of which the text is written; no network of the full machine runs
pub record TellsExchange (plan : Plan) (lines : List SwitchLine) (old now : Written) (network : Option NetLists) (outcome : Outcome) : Type 0 where
  pub agrees : AgreesBehindEach plan lines
  pub ends : EndsText (switchover_report plan lines) None Done old now network outcome

-- the same, or memory was refused before
abbrev pub EndsExchange : Plan → List SwitchLine → Written → Written → Option NetLists → Outcome → Type 0
EndsExchange plan lines old now network outcome = TellsExchange plan lines old now network outcome ⊎ WritesNone old now network outcome

-- a report that meets all rules, of which that is written
pub record TellsYes (plan : Plan) (octets : List ℕ) (old now : Written) (network : Option NetLists) (outcome : Outcome) : Type 0 where
  pub good : IsGoodReport plan octets
  pub ends : EndsText yes None Done old now network outcome

-- one that breaks a rule, of which nothing is written
pub record TellsRule (plan : Plan) (octets : List ℕ) (old now : Written) (network : Option NetLists) (outcome : Outcome) : Type 0 where
  pub line : ℕ
  pub rule : AuditRule
  pub judged : IsAudited plan octets (Err (stop_of rule line))
  pub outcome_is : outcome ≡ AuditRefused line rule
  pub taken : now.taken ≡ old.taken
  pub no_run : network ≡ None

-- one of the two, or memory was refused before
abbrev pub EndsAudit : Plan → List ℕ → Written → Written → Option NetLists → Outcome → Type 0
EndsAudit plan octets old now network outcome = TellsYes plan octets old now network outcome ⊎ TellsRule plan octets old now network outcome ⊎ WritesNone old now network outcome
