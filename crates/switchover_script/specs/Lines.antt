-- The lines of a script of independent mode (RFC 6870 section 4): a row for each, the line that its values make, and the values of a line.
use Rattle.std.specs.Prelude.{◌==◌, codes, ℕ, List, [], ◌∷◌, Result, if◌then◌else◌}
use Rattle.net_base.specs.declared.plan.Plan.{Plan}
use Rattle.line_shapes.specs.Shapes.{Form, form, line_said, nth_value}
use Rattle.line_shapes.specs.declared.kind.Kind.TheVariants.{Edge, Between, Number}
use Rattle.status_exchange.specs.declared.wish.Wish.TheVariants.{Active, Standby, Ask}
use Rattle.script_text.specs.declared.script_fault.ScriptFault.{ScriptFault}
use Rattle.script_text.specs.Lines.{script_said}
use Rattle.line_shapes.specs.Script.{made_at}
use Rattle.switchover_model.specs.declared.switch_line.SwitchLine.{SwitchLine}
use Rattle.switchover_model.specs.declared.switch_line.SwitchLine.TheVariants.{Connect, Cut, Deliver, Settle, Set}

-- the rows: wires of two edges take part
abbrev pub switch_forms : List Form
switch_forms =
    form (codes "connect") (Edge ∷ Edge ∷ [])
    ∷ form (codes "cut") (Edge ∷ Edge ∷ [])
    ∷ form (codes "deliver") (Edge ∷ Edge ∷ Number 1 65535 ∷ [])
    ∷ form (codes "settle") (Number 1 10000 ∷ [])
    ∷ form (codes "active") (Edge ∷ Between ∷ [])
    ∷ form (codes "standby") (Edge ∷ Between ∷ [])
    ∷ form (codes "ask") (Edge ∷ Between ∷ [])
    ∷ []

-- the line of a row and its values
abbrev pub switch_made : ℕ → List ℕ → SwitchLine
switch_made row v =
    if row == 0 then Connect (record { 0 = nth_value 0 v }) (record { 0 = nth_value 1 v })
    else if row == 1 then Cut (record { 0 = nth_value 0 v }) (record { 0 = nth_value 1 v })
    else if row == 2 then Deliver (record { 0 = nth_value 0 v }) (record { 0 = nth_value 1 v }) (nth_value 2 v)
    else if row == 3 then Settle (nth_value 0 v)
    else Set (record { 0 = nth_value 0 v }) (record { 0 = nth_value 1 v }) (if row == 4 then Active else if row == 5 then Standby else Ask)

-- the row of a line, and its values
abbrev pub switch_apart : SwitchLine → ℕ × List ℕ
switch_apart (Connect a b) = (0, a.0 ∷ b.0 ∷ [])
switch_apart (Cut a b) = (1, a.0 ∷ b.0 ∷ [])
switch_apart (Deliver from to count) = (2, from.0 ∷ to.0 ∷ count ∷ [])
switch_apart (Settle count) = (3, count ∷ [])
switch_apart (Set edge wire Active) = (4, edge.0 ∷ wire.0 ∷ [])
switch_apart (Set edge wire Standby) = (5, edge.0 ∷ wire.0 ∷ [])
switch_apart (Set edge wire Ask) = (6, edge.0 ∷ wire.0 ∷ [])

-- a line by its words
unfoldable pub switch_line_of : Plan → ℕ → List (List ℕ) → Result SwitchLine ScriptFault
switch_line_of plan number words = made_at switch_made number (line_said plan switch_forms words)

-- the lines that octets are, or the first place that is wrong
unfoldable pub switch_lines_in : Plan → List ℕ → Result (List SwitchLine) ScriptFault
switch_lines_in plan octets = script_said (switch_line_of plan) octets
