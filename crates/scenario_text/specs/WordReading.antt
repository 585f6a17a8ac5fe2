-- What words are read as.
use Rattle.std.specs.Prelude.{◌≡◌, ℕ, Result, Ok, Err}
use Rattle.command_text.specs.declared.command.Command.{Command}
use Rattle.command_text.specs.declared.scenario_fault.ScenarioFault.{ScenarioFault}
use Rattle.command_text.specs.declared.scenario_fault.ScenarioFault.TheVariants.{BadWord}
use Rattle.scenario_text.specs.declared.word_fault.WordFault.{WordFault}
use Rattle.scenario_text.specs.declared.word_fault.WordFault.TheVariants.{Bad, NoMemory}

-- a call gives the command that the definition reads, or the word at which it finds a fault, want of memory apart
abbrev pub ReadsWords : Result Command WordFault → Result Command ScenarioFault → Type 0
ReadsWords (Ok command) read = read ≡ Ok command
ReadsWords (Err (Bad word)) read = (event : ℕ) × (read ≡ Err (BadWord event word))
ReadsWords (Err NoMemory) read = Unit {0}
