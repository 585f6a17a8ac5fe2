-- The entries without octets: a row for each, the entry that its values make, and the values of an entry.
use Rattle.std.specs.Prelude.{◌==◌, codes, ℕ, List, [], ◌∷◌, if◌then◌else◌}
use Rattle.net_base.specs.declared.trace.entry.Entry.{Entry}
use Rattle.net_base.specs.declared.trace.entry.Entry.TheVariants as entry
use Rattle.line_shapes.specs.Choices.{cause_at, cause_place, state_at, state_place, wire_end_at, wire_end_place}
use Rattle.line_shapes.specs.Shapes.{Form, form, nth_value}
use Rattle.line_shapes.specs.declared.choice.Choice.TheVariants.{Cause, End, State}
use Rattle.line_shapes.specs.declared.kind.Kind.TheVariants.{Edge, Wire, Number, OneOf}

-- the rows
abbrev pub entry_forms : List Form
entry_forms =
    form (codes "session") (Edge ∷ Edge ∷ OneOf State ∷ [])
    ∷ form (codes "wire") (Edge ∷ Wire ∷ OneOf End ∷ [])
    ∷ form (codes "dropped") (Edge ∷ Number 0 18446744073709551615 ∷ OneOf Cause ∷ [])
    ∷ form (codes "idle") []
    ∷ form (codes "copied") (Number 0 18446744073709551615 ∷ Number 0 18446744073709551615 ∷ [])
    ∷ form (codes "aged") (Number 0 18446744073709551615 ∷ [])
    ∷ form (codes "pong") (Edge ∷ Wire ∷ Number 0 65535 ∷ [])
    ∷ []

-- the entry of a row and its values
abbrev pub entry_made : ℕ → List ℕ → Entry
entry_made row v =
    if row == 0 then entry.Session (record { 0 = nth_value 0 v }) (record { 0 = nth_value 1 v }) (state_at (nth_value 2 v))
    else if row == 1 then entry.Wire (record { 0 = nth_value 0 v }) (record { 0 = nth_value 1 v }) (wire_end_at (nth_value 2 v))
    else if row == 2 then entry.Dropped (record { 0 = nth_value 0 v }) (nth_value 1 v) (cause_at (nth_value 2 v))
    else if row == 3 then entry.Idle
    else if row == 4 then entry.Copied (nth_value 0 v) (nth_value 1 v)
    else if row == 5 then entry.Aged (nth_value 0 v)
    else entry.Pong (record { 0 = nth_value 0 v }) (record { 0 = nth_value 1 v }) (nth_value 2 v)

-- the row of an entry, and its values; those with octets have none
abbrev pub entry_apart : Entry → ℕ × List ℕ
entry_apart (entry.Session edge peer state) = (0, edge.0 ∷ peer.0 ∷ state_place state ∷ [])
entry_apart (entry.Wire edge wire down) = (1, edge.0 ∷ wire.0 ∷ wire_end_place down ∷ [])
entry_apart (entry.Dropped edge origin cause) = (2, edge.0 ∷ origin ∷ cause_place cause ∷ [])
entry_apart entry.Idle = (3, [])
entry_apart (entry.Copied packet of) = (4, packet ∷ of ∷ [])
entry_apart (entry.Aged packet) = (5, packet ∷ [])
entry_apart (entry.Pong edge wire sequence) = (6, edge.0 ∷ wire.0 ∷ sequence ∷ [])
entry_apart entry = (7, [])
