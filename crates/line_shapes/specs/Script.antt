-- Lines of a script by their shapes.
use Rattle.std.specs.Prelude.{ℕ, List, Result, Ok, Err}
use Rattle.script_text.specs.declared.script_fault.ScriptFault.{ScriptFault}
use Rattle.script_text.specs.declared.script_fault.ScriptFault.TheVariants.{Bad}

-- what a row and its values make; a word that does not fit is one of this line
abbrev pub made_at : {A : Type 0} → (ℕ → List ℕ → A) → ℕ → Result (ℕ × List ℕ) ℕ → Result A ScriptFault
made_at made line (Ok read) = Ok (made read.0 read.1)
made_at made line (Err word) = Err (Bad line word)
