-- How a call of the program ends: what is common to all commands.
use Rattle.std.specs.Prelude.{Err, ◌≡◌, ◌≢◌, ◌⊎◌, ◌<◌, ℕ, List, [], length, Option, Some, None}
use Rattle.net_base.specs.declared.plan.Plan.{Plan}
use Rattle.net_base.specs.outside.Outside.{Rose}
use Rattle.command_text.specs.declared.scenario_fault.ScenarioFault.TheVariants as scenario_fault
use Rattle.pcap_file.specs.declared.capture_fault.CaptureFault.TheVariants as capture_fault
use Rattle.psn_net.specs.declared.net_stop.NetStop.{NetStop}
use Rattle.psn_net.specs.Lists.{NetLists}
use Rattle.scenario_text.specs.declared.scenario.Scenario.{Scenario}
use Rattle.text_lines.specs.Written.{AppendsFront, Writes}
use Rattle.trace_audit.specs.Audited.{IsAudited, IsGoodReport}
use Rattle.vplsnet.specs.declared.audit_rule.AuditRule.{AuditRule}
use Rattle.vplsnet.specs.declared.outcome.Outcome.{Outcome}
use Rattle.vplsnet.specs.declared.outcome.Outcome.TheVariants.{Done, Usage, ReadFault, WriteFault, TooLong, ScenarioRefused, NoCircuit, CaptureRefused, ScriptRefused, AuditRefused, Stopped, NoMemory}
use Rattle.vplsnet.specs.Around.{Files, Around, HasReadFault, HasWriteFault, IsUntouched, Has, OfFiles, TellsFile}
use Rattle.vplsnet.specs.Asked.{Asked, Replay, Tables, Capture, Decode, Rehearse, Migrate, Discover, Switchover, Audit}
use Rattle.vplsnet.specs.Audit.{IsReportPassed, stop_of}
use Rattle.vplsnet.specs.Capture.{captured}
use Rattle.vplsnet.specs.Decode.{AppendsPart, IsDecoding, IsDecodedAs}
use Rattle.discovery_net.specs.Script.{events_made}
use Rattle.vplsnet.specs.Discover.{IsDiscoverRun}
use Rattle.vplsnet.specs.Files.{IsLonger}
use Rattle.vplsnet.specs.Inputs.{Wanted, Next, Reads, Refuses, Works, CommandWork, Run, Stream, Migration, Discovery, Exchange, Report, ComesTo}
use Rattle.vplsnet.specs.Migrate.{IsMigration}
use Rattle.vplsnet.specs.Rehearse.{rehearse_text}
use Rattle.vplsnet.specs.Replay.{replay_text}
use Rattle.vplsnet.specs.RunOver.{outcome_by, run_of}
use Rattle.vplsnet.specs.Switchover.{IsExchange}
use Rattle.vplsnet.specs.ScenarioRun.{IsScenarioRun, whole_run}
use Rattle.vplsnet.specs.Tables.{tables_text}

-- The text of a command, a row for each: what it writes of the network that a run left, and of the limit that stopped it, if one did.
-- That of `decode` is told of octets, that of `migrate` of the scenario alone, those of `discover` and `switchover` of a
-- script, and that of `audit` of a report.
abbrev pub run_text : Asked → NetLists → Option NetStop → List ℕ
run_text (Replay file) left reason = replay_text left reason
run_text (Tables file) left reason = tables_text left reason
run_text (Capture file circuit) left reason = captured left circuit reason
run_text (Rehearse seed) left reason = rehearse_text seed left reason
run_text (Decode file) left reason = []
run_text (Migrate file) left reason = []
run_text (Discover file script) left reason = []
run_text (Switchover file script) left reason = []
run_text (Audit file report) left reason = []

-- a report meets all rules of `audit`: of its octets, with the plan of this scenario, that calls for a yes
abbrev pub PassesIfReport : Asked → Plan → List ℕ → Type 0
PassesIfReport (Replay file) plan text = IsGoodReport plan text
PassesIfReport (Tables file) plan text = Unit {0}
PassesIfReport (Capture file circuit) plan text = Unit {0}
PassesIfReport (Rehearse seed) plan text = Unit {0}
PassesIfReport (Decode file) plan text = Unit {0}
PassesIfReport (Migrate file) plan text = Unit {0}
PassesIfReport (Discover file script) plan text = Unit {0}
PassesIfReport (Switchover file script) plan text = Unit {0}
PassesIfReport (Audit file report) plan text = Unit {0}

-- the text and the network of a run
pub record TellsRun (asked : Asked) (scenario : Scenario) (captures : List (List (List ℕ))) (text : List ℕ) (network : Option NetLists) (reason : Option NetStop) : Type 0 where
  pub left : NetLists
  pub network_is : network ≡ Some left
  pub is_run : IsScenarioRun scenario captures left reason
  pub text_is : text ≡ run_text asked left reason
  pub passes : PassesIfReport asked scenario.plan text

-- the text, the network after the run and the outcome that a command makes of its work
abbrev pub MakesRun : Asked → Scenario → List (List (List ℕ)) → List ℕ → Option NetLists → Outcome → Type 0
MakesRun asked scenario captures text network Done = TellsRun asked scenario captures text network None
MakesRun asked scenario captures text network (Stopped reason) = TellsRun asked scenario captures text network (Some reason)
MakesRun asked scenario captures text network outcome = ⊥

abbrev pub MakesAnswer : Asked → CommandWork → List ℕ → Option NetLists → Outcome → Type 0
MakesAnswer asked (Run scenario captures) text network outcome = MakesRun asked scenario captures text network outcome
MakesAnswer asked (Stream octets) text network outcome = IsDecoding octets text network outcome
MakesAnswer asked (Migration scenario) text network outcome = IsMigration scenario text network outcome
MakesAnswer asked (Discovery plan lines) text network outcome = IsDiscoverRun plan lines text network outcome
MakesAnswer asked (Exchange plan lines) text network outcome = IsExchange plan lines text network outcome
MakesAnswer asked (Report plan octets) text network outcome = IsReportPassed plan octets text network outcome

-- the outcome of this work alone
abbrev pub IsEndOf : CommandWork → Outcome → Type 0
IsEndOf (Run scenario captures) outcome = outcome ≡ outcome_by (whole_run scenario captures).stop
IsEndOf (Stream octets) outcome = IsDecodedAs octets outcome
IsEndOf (Migration scenario) outcome = outcome ≡ Done
IsEndOf (Discovery plan lines) outcome = outcome ≡ outcome_by (run_of plan (events_made plan lines)).stop
IsEndOf (Exchange plan lines) outcome = outcome ≡ Done
IsEndOf (Report plan octets) outcome = (outcome ≡ Done) × IsGoodReport plan octets

-- the files were read, and the command had its work, and makes this text, the network of this run and this outcome of it
pub record IsMade (around : Around) (asked : Asked) (text : List ℕ) (network : Option NetLists) (outcome : Outcome) : Type 0 where
  pub work : CommandWork
  pub come : ComesTo (Has around.files) asked (Works work)
  pub makes : MakesAnswer asked work text network outcome

-- the whole text was taken
pub record IsWholeTaken (around : Around) (asked : Asked) (network : Option NetLists) (outcome : Outcome) : Type 0 where
  pub text : List ℕ
  pub made : IsMade around asked text network outcome
  pub taken : Writes around.taken_before around.taken_after text

-- a front of the text was taken that lacks its end, and then the sink failed
pub record IsCutShort (around : Around) (asked : Asked) (network : Option NetLists) : Type 0 where
  pub text : List ℕ
  pub outcome : Outcome
  pub made : IsMade around asked text network outcome
  pub taken : AppendsFront around.taken_before around.taken_after text
  pub cause : HasWriteFault around

-- a file that comes next was not read, since the shelf failed
pub record IsUnread (files : Files) (before after : List ℕ → ℕ) (asked : Asked) : Type 0 where
  pub wanted : Wanted
  pub come : ComesTo (Has files) asked (Reads wanted)
  pub cause : Rose (before wanted.name) (after wanted.name)

-- a file that comes next has more octets than its limit
pub record IsTooLong (files : Files) (asked : Asked) (named : List ℕ) (limit : ℕ) : Type 0 where
  pub come : ComesTo (Has files) asked (Reads (record { name = named; limit = limit }))
  pub longer : OfFiles files (λ held. IsLonger limit (held named))

-- a report that was read breaks this rule, first in this line, and none of the rules before it
pub record IsJudged (files : Files) (asked : Asked) (line : ℕ) (rule : AuditRule) : Type 0 where
  pub plan : Plan
  pub octets : List ℕ
  pub come : ComesTo (Has files) asked (Works (Report plan octets))
  pub judged : IsAudited plan octets (Err (stop_of rule line))

-- What is refused before any run, by the files and by the shelf's counts of faults before and after: a file that comes next was not had,
-- or the outcome is what comes next. Want of memory says nothing.
abbrev pub IsRefused : Files → (List ℕ → ℕ) → (List ℕ → ℕ) → Asked → Outcome → Type 0
IsRefused files before after asked ReadFault = IsUnread files before after asked
IsRefused files before after asked (TooLong named limit) = IsTooLong files asked named limit
IsRefused files before after asked (ScenarioRefused fault) = ComesTo (Has files) asked (Refuses (ScenarioRefused fault)) × (fault ≢ scenario_fault.NoMemory)
IsRefused files before after asked (NoCircuit circuit) = ComesTo (Has files) asked (Refuses (NoCircuit circuit))
IsRefused files before after asked (CaptureRefused file fault) = ComesTo (Has files) asked (Refuses (CaptureRefused file fault)) × (fault ≢ capture_fault.NoMemory)
IsRefused files before after asked (ScriptRefused line word) = ComesTo (Has files) asked (Refuses (ScriptRefused line word))
IsRefused files before after asked (AuditRefused line rule) = IsJudged files asked line rule
IsRefused files before after asked NoMemory = Unit {0}
IsRefused files before after asked outcome = ⊥

-- no run began, and nothing was taken
abbrev pub SaysRefusal : Around → Asked → Option NetLists → Outcome → Type 0
SaysRefusal around asked network outcome = IsRefused around.files around.shelf_before around.shelf_after asked outcome × IsUntouched around network

-- where memory was refused in the middle of a stream, a front of the text of its messages was taken, all of it perhaps
pub record IsGivenUp (around : Around) (asked : Asked) (network : Option NetLists) : Type 0 where
  pub text : List ℕ
  pub outcome : Outcome
  pub made : IsMade around asked text network outcome
  pub taken : AppendsPart around.taken_before around.taken_after text

-- where memory was refused: nothing was taken, or a front of the text of a decoding, whose messages want memory one by one
abbrev pub SaysWant : Around → Asked → Option NetLists → Type 0
SaysWant around (Replay file) network = IsUntouched around network
SaysWant around (Tables file) network = IsUntouched around network
SaysWant around (Capture file circuit) network = IsUntouched around network
SaysWant around (Rehearse seed) network = IsUntouched around network
SaysWant around (Migrate file) network = IsUntouched around network
SaysWant around (Discover file script) network = IsUntouched around network
SaysWant around (Switchover file script) network = IsUntouched around network
SaysWant around (Audit file report) network = IsUntouched around network
SaysWant around (Decode file) network = IsUntouched around network ⊎ IsGivenUp around (Decode file) network

-- What an outcome says, its cause among it.
abbrev pub SaysOutcome : Around → Asked → Option NetLists → Outcome → Type 0
SaysOutcome around asked network Usage = ⊥
SaysOutcome around asked network ReadFault = SaysRefusal around asked network ReadFault
SaysOutcome around asked network (TooLong named limit) = SaysRefusal around asked network (TooLong named limit)
SaysOutcome around asked network (ScenarioRefused fault) = SaysRefusal around asked network (ScenarioRefused fault)
SaysOutcome around asked network (NoCircuit circuit) = SaysRefusal around asked network (NoCircuit circuit)
SaysOutcome around asked network (CaptureRefused file fault) = SaysRefusal around asked network (CaptureRefused file fault)
SaysOutcome around asked network (ScriptRefused line word) = SaysRefusal around asked network (ScriptRefused line word)
SaysOutcome around asked network (AuditRefused line rule) = SaysRefusal around asked network (AuditRefused line rule)
SaysOutcome around asked network WriteFault = IsCutShort around asked network
SaysOutcome around asked network NoMemory = SaysWant around asked network
SaysOutcome around asked network outcome = IsWholeTaken around asked network outcome

-- the same of words that may ask for nothing
abbrev pub Finishes : Around → Option Asked → Option NetLists → Outcome → Type 0
Finishes around None network outcome = (outcome ≡ Usage) × IsUntouched around network
Finishes around (Some asked) network outcome = SaysOutcome around asked network outcome

-- a file with which the answers agree has these octets, and no call with its name failed
pub record IsSoundFile (around : Around) (name octets : List ℕ) : Type 0 where
  pub tells : TellsFile around.files name octets
  pub read : ¬ HasReadFault around name

-- a file that comes next and is too long
pub record CallsTooLong (around : Around) (wanted : Wanted) (outcome : Outcome) : Type 0 where
  pub octets : List ℕ
  pub sound : IsSoundFile around wanted.name octets
  pub longer : wanted.limit < length octets
  pub is : outcome ≡ TooLong wanted.name wanted.limit

-- The outcome that is called for by what comes next: a file that is too long, what is refused before any run, or what the command makes
-- of its work, where no call of the sink failed. A report calls for one where it meets all rules.
abbrev pub CallsFor : Around → Next → Outcome → Type 0
CallsFor around (Reads wanted) outcome = CallsTooLong around wanted outcome
CallsFor around (Refuses refused) outcome = outcome ≡ refused
CallsFor around (Works work) outcome = IsEndOf work outcome × (¬ HasWriteFault around)

-- the answers agree with the files that are read, no call with their names failed, and what comes next behind them calls for this outcome
pub record IsSoundOutcome (around : Around) (asked : Asked) (outcome : Outcome) : Type 0 where
  pub next : Next
  pub come : ComesTo (IsSoundFile around) asked next
  pub calls : CallsFor around next outcome

-- in a sound surrounding the outcome is what the files call for, or memory was refused
abbrev pub Completes : Around → Asked → Outcome → Type 0
Completes around asked outcome = (called : Outcome) → IsSoundOutcome around asked called → (outcome ≡ called) ⊎ (outcome ≡ NoMemory)
