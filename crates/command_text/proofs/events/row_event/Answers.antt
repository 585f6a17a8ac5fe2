-- What the rows make is of the plan.
use Rattle.std.proofs.Common.{◌≡◌, ◌<◌, ◌∙◌, List, ℕ, length, map, ap, subst, sym}
use Rattle.std.proofs.lemmas.List.{length-map}
use Rattle.net_base.specs.declared.trace.event.Event.{Event}
use Rattle.net_base.specs.plan.Planned.{IsEventOf}
use Rattle.line_shapes.specs.Shapes.{AreValuesOf, Form, form_at, form_of}
use Rattle.line_shapes.specs.declared.shape.Shape.{Shape}
use Rattle.event_rows.specs.Rows.{event_forms}
use Rattle.event_rows.proofs.RowLemmas.{row_planned}
use Rattle.command_text.proofs.events.row_event.Goals as goal

within : (shapes : List Shape) (row : ℕ) → map form_of shapes ≡ event_forms → row < length shapes → row < length event_forms
within shapes row are lt = subst (λ (n : ℕ). row < n) (sym (length-map shapes form_of) ∙ ap (λ (l : List Form). length l) are) lt

pub event_made-requires-clause-row : goal.event_made-requires-clause-row
event_made-requires-clause-row c = within c.event_shapes.result.now c.in-Ok.row c.event_shapes.ensures c.in-Ok.ensures.within

pub returns-in-Ok-clause-planned : goal.returns-in-Ok-clause-planned
returns-in-Ok-clause-planned c =
    let fit = subst (λ (f : List Form). AreValuesOf c.args.plan.now (form_at f c.in-Ok.row).kinds c.in-Ok.values) c.event_shapes.ensures c.in-Ok.ensures.fit in
    subst (λ (x : Event). IsEventOf c.args.plan.now x) (sym c.event_made.ensures)
    (row_planned c.args.plan.now c.in-Ok.row c.in-Ok.values (within c.event_shapes.result.now c.in-Ok.row c.event_shapes.ensures c.in-Ok.ensures.within) fit)
