-- A whole script, where a line is read by its number and its words.
use Rattle.std.specs.Prelude.{◌+◌, ℕ, List, [], ◌∷◌, Result, Ok}
use Rattle.script_text.specs.declared.script_fault.ScriptFault.{ScriptFault}
use Rattle.script_text.specs.Reading.{◌>>=◌}
use Rattle.script_text.specs.Script.{script}

-- the lines, the first of which has this number
abbrev pub lines_said : {A : Type 0} → (ℕ → List (List ℕ) → Result A ScriptFault) → ℕ → List (List (List ℕ)) → Result (List A) ScriptFault
lines_said line_of number [] = Ok []
lines_said line_of number (words ∷ rest) = line_of number words >>= (λ line. lines_said line_of (number + 1) rest >>= (λ lines. Ok (line ∷ lines)))

-- the lines that octets are, or the first place that is wrong: what is no word comes before a word that fits no line
unfoldable pub script_said : {A : Type 0} → (ℕ → List (List ℕ) → Result A ScriptFault) → List ℕ → Result (List A) ScriptFault
script_said line_of octets = script octets >>= lines_said line_of 1
