-- What is known on the way through a scenario's file.
use Rattle.std.specs.Prelude.{◌≡◌, ◌≢◌, ◌≤◌, ℕ, List, [], ◌∷◌, length, Some, None, Ok, Err}
use Rattle.net_base.specs.outside.Outside.{Rose}
use Rattle.command_text.specs.declared.scenario_fault.ScenarioFault.{ScenarioFault}
use Rattle.command_text.specs.declared.scenario_fault.ScenarioFault.TheVariants as scenario_fault
use Rattle.scenario_text.specs.declared.scenario.Scenario.{Scenario}
use Rattle.scenario_text.specs.Document.{document}
use Rattle.vplsnet.specs.declared.outcome.Outcome.{Outcome}
use Rattle.vplsnet.specs.declared.outcome.Outcome.TheVariants.{ReadFault, TooLong, ScenarioRefused, NoCircuit, CaptureRefused, NoMemory}
use Rattle.vplsnet.specs.Around.{Files, Has, OfFiles}
use Rattle.vplsnet.specs.Asked.{Asked}
use Rattle.vplsnet.specs.Capture.{lacks_circuit}
use Rattle.vplsnet.specs.Captures.{FailsToPlay, HasPlayed}
use Rattle.vplsnet.specs.Files.{IsLonger}
use Rattle.vplsnet.specs.Inputs.{Next, IsNextInput, IsNextRead, played, scenario_file, scenario_limit}

-- the command reads a scenario of this file first, and what comes then is told by what its octets read as
pub record ReadsScenario (asked : Asked) (file : List ℕ) : Type 0 where
  pub first : IsNextInput asked [] (scenario_file file)
  pub behind : (octets : List ℕ) (read : List (List ℕ)) (next : Next) → IsNextRead asked (document octets) read next → IsNextInput asked (octets ∷ read) next

-- a fault is told as it is; want of memory is no fault of the scenario
abbrev pub outcome_of_fault : ScenarioFault → Outcome
outcome_of_fault scenario_fault.NoMemory = NoMemory
outcome_of_fault scenario_fault.NotToml = ScenarioRefused scenario_fault.NotToml
outcome_of_fault (scenario_fault.Missing place) = ScenarioRefused (scenario_fault.Missing place)
outcome_of_fault (scenario_fault.WrongKind place) = ScenarioRefused (scenario_fault.WrongKind place)
outcome_of_fault (scenario_fault.UnknownKey place) = ScenarioRefused (scenario_fault.UnknownKey place)
outcome_of_fault (scenario_fault.BadWord event word) = ScenarioRefused (scenario_fault.BadWord event word)
outcome_of_fault (scenario_fault.TooMany table limit) = ScenarioRefused (scenario_fault.TooMany table limit)
outcome_of_fault scenario_fault.Version = ScenarioRefused scenario_fault.Version
outcome_of_fault (scenario_fault.Plan fault) = ScenarioRefused (scenario_fault.Plan fault)

-- the outcome of octets that are no scenario, by their fault
abbrev pub IsNoScenario : List ℕ → Outcome → Type 0
IsNoScenario octets (ScenarioRefused fault) = (document octets ≡ Err fault) × (fault ≢ scenario_fault.NoMemory)
IsNoScenario octets NoMemory = Unit {0}
IsNoScenario octets outcome = ⊥

-- a file has octets of this scenario, within the limit
pub record IsOfFile (files : Files) (file : List ℕ) (scenario : Scenario) : Type 0 where
  pub octets : List ℕ
  pub has : Has files file octets
  pub fits : length octets ≤ scenario_limit
  pub document_is : document octets ≡ Ok scenario

-- a file has octets with this first fault, within the limit
pub record HasScenarioFault (files : Files) (file : List ℕ) (fault : ScenarioFault) : Type 0 where
  pub octets : List ℕ
  pub has : Has files file octets
  pub fits : length octets ≤ scenario_limit
  pub document_is : document octets ≡ Err fault

-- why the scenario of a file was not had, by the shelf's counts of faults before and after
abbrev pub HasNoScenario : Files → (List ℕ → ℕ) → (List ℕ → ℕ) → List ℕ → Outcome → Type 0
HasNoScenario files before after file ReadFault = Rose (before file) (after file)
HasNoScenario files before after file (TooLong named limit) = (named ≡ file) × (limit ≡ scenario_limit) × OfFiles files (λ held. IsLonger scenario_limit (held file))
HasNoScenario files before after file (ScenarioRefused fault) = HasScenarioFault files file fault × (fault ≢ scenario_fault.NoMemory)
HasNoScenario files before after file NoMemory = Unit {0}
HasNoScenario files before after file outcome = ⊥

-- the outcome of a circuit that is not there
abbrev pub IsNoCircuit : List ℕ → Outcome → Type 0
IsNoCircuit circuit (NoCircuit named) = named ≡ circuit
IsNoCircuit circuit NoMemory = Unit {0}
IsNoCircuit circuit outcome = ⊥

-- the scenario has the circuit that the command names, if it names one, and of the files that it plays these are the frames
pub record HasAll (files : Files) (asked : Asked) (scenario : Scenario) (captures : List (List (List ℕ))) : Type 0 where
  pub circuit : lacks_circuit asked scenario.plan ≡ None
  pub played : HasPlayed files (played scenario.commands) captures

-- it has the circuit, and of the files that it plays one was not had
pub record LacksCapture (files : Files) (before after : List ℕ → ℕ) (asked : Asked) (scenario : Scenario) (outcome : Outcome) : Type 0 where
  pub circuit : lacks_circuit asked scenario.plan ≡ None
  pub fails : FailsToPlay files before after (played scenario.commands) outcome

-- the outcome of a scenario that lacks the circuit, or of whose files one was not had
abbrev pub LacksSome : Files → (List ℕ → ℕ) → (List ℕ → ℕ) → Asked → Scenario → Outcome → Type 0
LacksSome files before after asked scenario ReadFault = LacksCapture files before after asked scenario ReadFault
LacksSome files before after asked scenario (TooLong named limit) = LacksCapture files before after asked scenario (TooLong named limit)
LacksSome files before after asked scenario (CaptureRefused file fault) = LacksCapture files before after asked scenario (CaptureRefused file fault)
LacksSome files before after asked scenario (NoCircuit circuit) = lacks_circuit asked scenario.plan ≡ Some circuit
LacksSome files before after asked scenario NoMemory = Unit {0}
LacksSome files before after asked scenario outcome = ⊥
