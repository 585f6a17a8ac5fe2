-- The lines of a script of Hellos and events (RFC 5036 section 2.4.2): a row for each, and the line that its values make; and `do`.
use Rattle.std.specs.Prelude.{◌+◌, ◌==◌, ◌||◌, codes, drop, ℕ, Bool, List, [], ◌∷◌, Result, Ok, Err, if◌then◌else◌}
use Rattle.std.specs.Str.{bytes_eq}
use Rattle.net_base.specs.declared.plan.Plan.{Plan}
use Rattle.command_text.specs.declared.command.Command.{Command}
use Rattle.command_text.specs.declared.scenario_fault.ScenarioFault.{ScenarioFault}
use Rattle.command_text.specs.declared.scenario_fault.ScenarioFault.TheVariants.{BadWord}
use Rattle.command_text.specs.Events.{command_in}
use Rattle.command_text.specs.Words.{first_word}
use Rattle.script_text.specs.declared.script_fault.ScriptFault.{ScriptFault}
use Rattle.script_text.specs.declared.script_fault.ScriptFault.TheVariants.{Bad}
use Rattle.script_text.specs.Script.{spaced_words}
use Rattle.line_shapes.specs.Script.{made_at}
use Rattle.line_shapes.specs.Shapes.{first_said, Form, form, line_said, nth_value}
use Rattle.line_shapes.specs.declared.kind.Kind.TheVariants.{Edge, Number}
use Rattle.discovery_script.specs.declared.script_line.ScriptLine.{ScriptLine}
use Rattle.discovery_script.specs.declared.script_line.ScriptLine.TheVariants as line
use Rattle.script_text.specs.Lines.{script_said}

-- the rows
abbrev pub discovery_forms : List Form
discovery_forms =
    form (codes "hello") (Edge ∷ Edge ∷ Number 0 65535 ∷ [])
    ∷ form (codes "bring") (Number 1 18446744073709551615 ∷ [])
    ∷ form (codes "open") (Edge ∷ Edge ∷ [])
    ∷ form (codes "tick") []
    ∷ []

-- the line of a row and its values
abbrev pub discovery_made : ℕ → List ℕ → ScriptLine
discovery_made row v =
    if row == 0 then line.Hello (record { 0 = nth_value 0 v }) (record { 0 = nth_value 1 v }) (nth_value 2 v)
    else if row == 1 then line.Bring (nth_value 0 v)
    else if row == 2 then line.Open (record { 0 = nth_value 0 v }) (record { 0 = nth_value 1 v })
    else line.Tick

-- ---- do WORDS: a command of a scenario

-- but these: connections open and ticks pass by lines of their own, and a script plays no capture
abbrev pub is_barred : List ℕ → Bool
is_barred word = (bytes_eq word (codes "connect") || bytes_eq word (codes "tick")) || bytes_eq word (codes "play")

-- the word of a command stands behind `do`
abbrev pub command_at : ℕ → Result Command ScenarioFault → Result ScriptLine ScriptFault
command_at number (Ok command) = Ok (line.Do command)
command_at number (Err (BadWord event word)) = Err (Bad number (word + 1))
command_at number (Err fault) = Err (Bad number 2)

-- a command that stands behind `do`, unless it is barred there
abbrev pub said_behind : Plan → ℕ → List ℕ → Result ScriptLine ScriptFault
said_behind plan number text = if is_barred (first_word text) then Err (Bad number 2) else command_at number (command_in plan 1 0 text)

-- the line `do`
unfoldable pub do_in : Plan → ℕ → List (List ℕ) → Result ScriptLine ScriptFault
do_in plan number words = said_behind plan number (spaced_words (drop 1 words))

-- ---- any line

-- a line by its words
unfoldable pub discovery_line_of : Plan → ℕ → List (List ℕ) → Result ScriptLine ScriptFault
discovery_line_of plan number words =
    if bytes_eq (first_said words) (codes "do") then do_in plan number words else made_at discovery_made number (line_said plan discovery_forms words)

-- the lines that octets are, or the first place that is wrong
unfoldable pub discovery_lines_in : Plan → List ℕ → Result (List ScriptLine) ScriptFault
discovery_lines_in plan octets = script_said (discovery_line_of plan) octets
