-- The lines of a trace one by one.
use Rattle.std.proofs.Common.{◌≡◌, ◌<◌, ◌+◌, ◌++◌, ◌∙◌, ℕ, List, length, get_or, drop, refl, sym, ap}
use Rattle.std.proofs.lemmas.List.{at_drop_more}
use Rattle.net_base.specs.declared.trace.arrival.Arrival.{Arrival}
use Rattle.net_base.specs.declared.trace.entry.Entry.{Entry}
use Rattle.net_base.specs.declared.trace.entry.Entry.TheVariants as entry
use Rattle.net_base.specs.declared.trace.event.Event.{Event}
use Rattle.net_base.specs.declared.plan.places.CircuitId.{CircuitId}
use Rattle.net_base.specs.declared.plan.places.EdgeId.{EdgeId}
use Rattle.net_base.specs.declared.plan.places.WireId.{WireId}
use Rattle.net_base.specs.declared.plan.Plan.{Plan}
use Rattle.line_shapes.specs.Shapes.{form_at, row_words}
use Rattle.report_text.specs.Report.{entry_line, entry_lines, entry_words}
use Rattle.report_text.specs.Rows.{entry_apart, entry_forms}

-- the line of the next entry, and those behind it
pub lines_from : (plan : Plan) (trace : List Entry) (index : ℕ) (entry : Entry) → index < length trace → entry ≡ get_or trace index entry
    → entry_lines plan (drop index trace) ≡ entry_line plan entry ++ entry_lines plan (drop (index + 1) trace)
lines_from plan trace index entry within is =
    at_drop_more (entry_lines plan) trace index entry within ∙ ap (λ (first : Entry). entry_line plan first ++ entry_lines plan (drop (index + 1) trace)) (sym is)

-- an entry without octets has the words of its row
pub by_row : (plan : Plan) (x : Entry) → ((event : Event) → x ≡ entry.Did event → ⊥) → ((from to : EdgeId) (octets : List ℕ) → x ≡ entry.Said from to octets → ⊥)
    → ((circuit : CircuitId) (number : ℕ) (octets : List ℕ) → x ≡ entry.In circuit number octets → ⊥)
    → ((from to : EdgeId) (wire : WireId) (came : Arrival) (packet origin hops : ℕ) (octets : List ℕ) → x ≡ entry.Sent from to wire came packet origin hops octets → ⊥)
    → ((circuit : CircuitId) (origin hops : ℕ) (octets : List ℕ) → x ≡ entry.Left circuit origin hops octets → ⊥)
    → row_words plan (form_at entry_forms (entry_apart x).0) (entry_apart x).1 ≡ entry_words plan x
by_row plan (entry.Did event) did said entered sent left = absurd (did event refl)
by_row plan entry.Idle did said entered sent left = refl
by_row plan (entry.Said from to octets) did said entered sent left = absurd (said from to octets refl)
by_row plan (entry.In circuit number octets) did said entered sent left = absurd (entered circuit number octets refl)
by_row plan (entry.Sent from to wire came packet origin hops octets) did said entered sent left = absurd (sent from to wire came packet origin hops octets refl)
by_row plan (entry.Copied packet of) did said entered sent left = refl
by_row plan (entry.Aged packet) did said entered sent left = refl
by_row plan (entry.Left circuit origin hops octets) did said entered sent left = absurd (left circuit origin hops octets refl)
by_row plan (entry.Dropped edge origin cause) did said entered sent left = refl
by_row plan (entry.Session edge peer name) did said entered sent left = refl
by_row plan (entry.Wire edge wire down) did said entered sent left = refl
by_row plan (entry.Pong edge wire sequence) did said entered sent left = refl
