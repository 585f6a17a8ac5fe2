-- Which files a command reads, in which order, and what is refused on the way.
use Rattle.std.specs.Prelude.{◌≡◌, ◌⊎◌, ◌≤◌, ◌++◌, ℕ, List, [], ◌∷◌, length, Option, Some, None, Result, Ok, Err}
use Rattle.net_base.specs.declared.plan.Plan.{Plan}
use Rattle.command_text.specs.declared.command.Command.{Command}
use Rattle.command_text.specs.declared.command.Command.TheVariants.{One, Settle, Flow, Ticks, Play}
use Rattle.command_text.specs.declared.scenario_fault.ScenarioFault.{ScenarioFault}
use Rattle.discovery_script.specs.declared.script_line.ScriptLine.{ScriptLine}
use Rattle.discovery_script.specs.Lines.{discovery_lines_in}
use Rattle.pcap_file.specs.declared.capture_fault.CaptureFault.{CaptureFault}
use Rattle.pcap_file.specs.FirstFault.{IsFirstFault}
use Rattle.pcap_file.specs.Records.{IsCapture}
use Rattle.rehearsal.specs.Scenario.{rehearsal}
use Rattle.scenario_text.specs.declared.scenario.Scenario.{Scenario}
use Rattle.scenario_text.specs.Document.{document}
use Rattle.script_text.specs.declared.script_fault.ScriptFault.{ScriptFault}
use Rattle.script_text.specs.declared.script_fault.ScriptFault.TheVariants as script_fault
use Rattle.switchover_model.specs.declared.switch_line.SwitchLine.{SwitchLine}
use Rattle.switchover_script.specs.Lines.{switch_lines_in}
use Rattle.vplsnet.specs.declared.outcome.Outcome.{Outcome}
use Rattle.vplsnet.specs.declared.outcome.Outcome.TheVariants.{ScenarioRefused, NoCircuit, CaptureRefused, ScriptRefused, NoMemory}
use Rattle.vplsnet.specs.Asked.{Asked, Replay, Tables, Capture, Decode, Rehearse, Migrate, Discover, Switchover, Audit}
use Rattle.vplsnet.specs.Capture.{lacks_circuit}

-- the most octets of a scenario, of a capture, of a stream, of a script and of a report
abbrev pub scenario_limit : ℕ
scenario_limit = 8388608

abbrev pub capture_limit : ℕ
capture_limit = 67108864

abbrev pub stream_limit : ℕ
stream_limit = 67108864

abbrev pub script_limit : ℕ
script_limit = 8388608

abbrev pub report_limit : ℕ
report_limit = 67108864

-- a file that is read: its name, and the most octets that it may have
pub record Wanted : Type 0 where
  pub name : List ℕ
  pub limit : ℕ

-- what a command works on once its files are read: a scenario with the frames of the captures that it plays, in the order of its
-- commands, the octets of a stream, a scenario that is written as a text of version 2, the lines of a script of discovery or of
-- switchover with the plan of its scenario, or the octets of a report with the plan that it is of
pub data CommandWork : Type 0 where
  Run : (scenario : Scenario) (captures : List (List (List ℕ))) → CommandWork
  Stream : (octets : List ℕ) → CommandWork
  Migration : (scenario : Scenario) → CommandWork
  Discovery : (plan : Plan) (lines : List ScriptLine) → CommandWork
  Exchange : (plan : Plan) (lines : List SwitchLine) → CommandWork
  Report : (plan : Plan) (octets : List ℕ) → CommandWork

-- what comes next where some files were read: a further file is, or an outcome before any run ends the call, or the command has its work
pub data Next : Type 0 where
  Reads : (wanted : Wanted) → Next
  Refuses : (outcome : Outcome) → Next
  Works : (work : CommandWork) → Next

abbrev pub scenario_file : List ℕ → Next
scenario_file name = Reads (record { name = name; limit = scenario_limit })

abbrev pub capture_file : List ℕ → Next
capture_file name = Reads (record { name = name; limit = capture_limit })

abbrev pub stream_file : List ℕ → Next
stream_file name = Reads (record { name = name; limit = stream_limit })

abbrev pub script_file : List ℕ → Next
script_file name = Reads (record { name = name; limit = script_limit })

abbrev pub report_file : List ℕ → Next
report_file name = Reads (record { name = name; limit = report_limit })

-- the files that commands play, in their order; one that is played twice stands twice
abbrev pub played_by : Command → List (List ℕ)
played_by (One event) = []
played_by (Settle count) = []
played_by (Flow count) = []
played_by (Ticks count) = []
played_by (Play circuit file) = file ∷ []

-- the files of all commands
abbrev pub played : List Command → List (List ℕ)
played [] = []
played (command ∷ commands) = played_by command ++ played commands

-- What comes next where of the files that are played the first ones had these octets: a capture of frames, behind which the next file
-- is read, or octets that are no capture, by their first fault. The frames of earlier captures stand before theirs.
abbrev pub IsNextPlayed : Scenario → List (List (List ℕ)) → List (List ℕ) → List (List ℕ) → Next → Type 0
IsNextPlayed scenario captures [] read next = next ≡ Works (Run scenario captures)
IsNextPlayed scenario captures (file ∷ files) [] next = next ≡ capture_file file
IsNextPlayed scenario captures (file ∷ files) (octets ∷ read) next =
    ((frames : List (List ℕ)) × IsCapture octets frames × IsNextPlayed scenario (captures ++ frames ∷ []) files read next)
    ⊎ ((fault : CaptureFault) × IsFirstFault octets fault × (next ≡ Refuses (CaptureRefused file fault)))

-- of an accepted scenario, by the circuit that the command names and the plan lacks, if it does
abbrev pub IsNextOf : Option (List ℕ) → Scenario → List (List ℕ) → Next → Type 0
IsNextOf (Some circuit) scenario read next = next ≡ Refuses (NoCircuit circuit)
IsNextOf None scenario read next = IsNextPlayed scenario [] (played scenario.commands) read next

-- of the octets of a scenario's file, by what they read as
abbrev pub IsNextRead : Asked → Result Scenario ScenarioFault → List (List ℕ) → Next → Type 0
IsNextRead asked (Err fault) read next = next ≡ Refuses (ScenarioRefused fault)
IsNextRead asked (Ok scenario) read next = IsNextOf (lacks_circuit asked scenario.plan) scenario read next

-- of the octets of a scenario's file whose captures are not played: what comes next behind an accepted scenario is told of it
abbrev pub IsNextAfter : (Scenario → Next → Type 0) → Result Scenario ScenarioFault → Next → Type 0
IsNextAfter IsNextOfIt (Err fault) next = next ≡ Refuses (ScenarioRefused fault)
IsNextAfter IsNextOfIt (Ok scenario) next = IsNextOfIt scenario next

-- behind an accepted scenario a second file is read, and what comes next behind it is told of its octets
abbrev pub IsNextBehind : Next → (List ℕ → Next → Type 0) → List (List ℕ) → Next → Type 0
IsNextBehind file IsNextOfIt [] next = next ≡ file
IsNextBehind file IsNextOfIt (octets ∷ read) next = IsNextOfIt octets next

-- what comes next behind a script, by the lines that its octets are; that they are some never comes to want of memory
abbrev pub next_script : {Lines : Type 0} → (Lines → CommandWork) → Result Lines ScriptFault → Next
next_script work (Err (script_fault.Bad line word)) = Refuses (ScriptRefused line word)
next_script work (Err script_fault.NoMemory) = Refuses NoMemory
next_script work (Ok lines) = Works (work lines)

-- behind a script of discovery
abbrev pub IsNextDiscovery : Scenario → List ℕ → Next → Type 0
IsNextDiscovery scenario octets next = next ≡ next_script (Discovery scenario.plan) (discovery_lines_in scenario.plan octets)

-- behind a script of switchovers
abbrev pub IsNextExchange : Scenario → List ℕ → Next → Type 0
IsNextExchange scenario octets next = next ≡ next_script (Exchange scenario.plan) (switch_lines_in scenario.plan octets)

-- behind a report, which is audited
abbrev pub IsNextReport : Scenario → List ℕ → Next → Type 0
IsNextReport scenario octets next = next ≡ Works (Report scenario.plan octets)

-- behind the octets of the files that were read, in their order
abbrev pub IsNextInput : Asked → List (List ℕ) → Next → Type 0
IsNextInput (Replay file) [] next = next ≡ scenario_file file
IsNextInput (Replay file) (octets ∷ read) next = IsNextRead (Replay file) (document octets) read next
IsNextInput (Tables file) [] next = next ≡ scenario_file file
IsNextInput (Tables file) (octets ∷ read) next = IsNextRead (Tables file) (document octets) read next
IsNextInput (Capture file circuit) [] next = next ≡ scenario_file file
IsNextInput (Capture file circuit) (octets ∷ read) next = IsNextRead (Capture file circuit) (document octets) read next
IsNextInput (Decode file) [] next = next ≡ stream_file file
IsNextInput (Decode file) (octets ∷ read) next = next ≡ Works (Stream octets)
IsNextInput (Rehearse seed) read next = next ≡ Works (Run (rehearsal seed) [])
IsNextInput (Migrate file) [] next = next ≡ scenario_file file
IsNextInput (Migrate file) (octets ∷ read) next = IsNextAfter (λ scenario it. it ≡ Works (Migration scenario)) (document octets) next
IsNextInput (Discover file script) [] next = next ≡ scenario_file file
IsNextInput (Discover file script) (octets ∷ read) next = IsNextAfter (λ scenario it. IsNextBehind (script_file script) (IsNextDiscovery scenario) read it) (document octets) next
IsNextInput (Switchover file script) [] next = next ≡ scenario_file file
IsNextInput (Switchover file script) (octets ∷ read) next = IsNextAfter (λ scenario it. IsNextBehind (script_file script) (IsNextExchange scenario) read it) (document octets) next
IsNextInput (Audit file report) [] next = next ≡ scenario_file file
IsNextInput (Audit file report) (octets ∷ read) next = IsNextAfter (λ scenario it. IsNextBehind (report_file report) (IsNextReport scenario) read it) (document octets) next

-- a file that comes next has these octets, and they are within its limit
pub record IsReadNext (Holds : List ℕ → List ℕ → Type 0) (asked : Asked) (before : List (List ℕ)) (octets : List ℕ) : Type 0 where
  pub wanted : Wanted
  pub next : IsNextInput asked before (Reads wanted)
  pub holds : Holds wanted.name octets
  pub fits : length octets ≤ wanted.limit

-- behind the octets that were read before, these are those of the files that come next, one after another
abbrev pub AreReadNext : (List ℕ → List ℕ → Type 0) → Asked → List (List ℕ) → List (List ℕ) → Type 0
AreReadNext Holds asked before [] = Unit {0}
AreReadNext Holds asked before (octets ∷ rest) = IsReadNext Holds asked before octets × AreReadNext Holds asked (before ++ octets ∷ []) rest

-- the first files were read whole, and behind them this comes next
pub record ComesTo (Holds : List ℕ → List ℕ → Type 0) (asked : Asked) (next : Next) : Type 0 where
  pub read : List (List ℕ)
  pub are_read : AreReadNext Holds asked [] read
  pub is_next : IsNextInput asked read next
