-- A script, as it is read behind a scenario.
use Rattle.std.specs.Prelude.{◌≡◌, ◌⊎◌, Option, None, Result, Ok, Err}
use Rattle.psn_net.specs.Lists.{NetLists}
use Rattle.script_text.specs.declared.script_fault.ScriptFault.{ScriptFault}
use Rattle.script_text.specs.declared.script_fault.ScriptFault.TheVariants as fault
use Rattle.text_lines.specs.Written.{Written}
use Rattle.vplsnet.specs.declared.outcome.Outcome.{Outcome}
use Rattle.vplsnet.specs.declared.outcome.Outcome.TheVariants.{ScriptRefused, NoMemory}

-- a fault is told by its place; want of memory is no fault of the script
abbrev pub outcome_of_script : ScriptFault → Outcome
outcome_of_script (fault.Bad line word) = ScriptRefused line word
outcome_of_script fault.NoMemory = NoMemory

-- the outcome of octets that are no lines, by what they are
abbrev pub IsNoScript : {Lines : Type 0} → Result Lines ScriptFault → Outcome → Type 0
IsNoScript read (ScriptRefused line word) = read ≡ Err (fault.Bad line word)
IsNoScript read NoMemory = Unit {0}
IsNoScript read outcome = ⊥

-- the octets are these lines, and the call ends as it does of them
pub record EndsLines {Lines : Type 0} (read : Result Lines ScriptFault) (Ends : Lines → Type 0) : Type 0 where
  pub lines : Lines
  pub is : read ≡ Ok lines
  pub ends : Ends lines

-- they are none, and nothing was taken
pub record EndsBefore {Lines : Type 0} (read : Result Lines ScriptFault) (old now : Written) (network : Option NetLists) (outcome : Outcome) : Type 0 where
  pub why : IsNoScript read outcome
  pub taken : now.taken ≡ old.taken
  pub no_run : network ≡ None

abbrev pub EndsScript : {Lines : Type 0} → Result Lines ScriptFault → (Lines → Type 0) → Written → Written → Option NetLists → Outcome → Type 0
EndsScript read Ends old now network outcome = EndsLines read Ends ⊎ EndsBefore read old now network outcome
