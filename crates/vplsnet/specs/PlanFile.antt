-- A scenario's file, and a second file that is read behind it.
use Rattle.std.specs.Prelude.{◌≡◌, ◌⊎◌, ◌≤◌, ℕ, List, [], ◌∷◌, length, Ok, Err}
use Rattle.net_base.specs.outside.Outside.{ReadCall}
use Rattle.command_text.specs.declared.scenario_fault.ScenarioFault.{ScenarioFault}
use Rattle.scenario_text.specs.declared.scenario.Scenario.{Scenario}
use Rattle.scenario_text.specs.Document.{document}
use Rattle.vplsnet.specs.declared.outcome.Outcome.{Outcome}
use Rattle.vplsnet.specs.declared.outcome.Outcome.TheVariants.{ScenarioRefused}
use Rattle.vplsnet.specs.Around.{Files, Has}
use Rattle.vplsnet.specs.Asked.{Asked}
use Rattle.vplsnet.specs.Files.{IsNotHad}
use Rattle.vplsnet.specs.Inputs.{IsNextInput, Reads, Refuses, Wanted, scenario_file, scenario_limit}
use Rattle.vplsnet.specs.Reads.{IsReadOf}
use Rattle.vplsnet.specs.ScenarioFile.{HasNoScenario, IsOfFile}

-- the command reads a scenario of this file first, and where it is accepted a second file next
pub record ReadsSecond (asked : Asked) (file : List ℕ) (second : Wanted) : Type 0 where
  pub first : IsNextInput asked [] (scenario_file file)
  pub refuses : (octets : List ℕ) (fault : ScenarioFault) → document octets ≡ Err fault → IsNextInput asked (octets ∷ []) (Refuses (ScenarioRefused fault))
  pub next : (octets : List ℕ) (scenario : Scenario) → document octets ≡ Ok scenario → IsNextInput asked (octets ∷ []) (Reads second)

-- both were had
pub record HasBoth (files : Files) (file : List ℕ) (second : Wanted) (scenario : Scenario) (octets : List ℕ) : Type 0 where
  pub of : IsOfFile files file scenario
  pub has : Has files second.name octets
  pub fits : length octets ≤ second.limit

-- the scenario was had, and the second file was not
pub record LacksSecond (files : Files) (before after : List ℕ → ℕ) (file : List ℕ) (second : Wanted) (outcome : Outcome) : Type 0 where
  pub scenario : Scenario
  pub of : IsOfFile files file scenario
  pub why : IsNotHad files before after second.name second.limit outcome

-- one of them was not had
abbrev pub LacksOne : Files → (List ℕ → ℕ) → (List ℕ → ℕ) → List ℕ → Wanted → Outcome → Type 0
LacksOne files before after file second outcome = HasNoScenario files before after file outcome ⊎ LacksSecond files before after file second outcome

-- a read of the second file, where the scenario was had
pub record IsSecondRead (files : Files) (file : List ℕ) (second : Wanted) (read : ReadCall) : Type 0 where
  pub scenario : Scenario
  pub of : IsOfFile files file scenario
  pub is : IsReadOf second read

-- a read of one of them
abbrev pub IsReadOfTwo : Files → List ℕ → Wanted → ReadCall → Type 0
IsReadOfTwo files file second read = IsReadOf (record { name = file; limit = scenario_limit }) read ⊎ IsSecondRead files file second read
