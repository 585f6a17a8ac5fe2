-- An entry without octets is put by its row.
use Rattle.std.proofs.Common.{◌∙◌, ℕ, List, ap, subst}
use Rattle.line_shapes.specs.Shapes.{Form, form_at, row_words}
use Rattle.text_lines.specs.Lines.{line_of}
use Rattle.text_lines.specs.Written.{PutsOn}
use Rattle.report_text.specs.Rows.{entry_forms}
use Rattle.report_text.proofs.LineLemmas.{by_row}
use Rattle.report_text.proofs.entry.put_entry.Goals as goal

pub returns-in_default : goal.returns-in_default
returns-in_default g c =
    let plan = c.args.plan.now in
    let told = by_row plan c.args.entry.now c.in_default.not-Did c.in_default.not-Said c.in_default.not-In c.in_default.not-Sent c.in_default.not-Left in
    let form = ap (λ (f : Form). row_words plan f c.entry_apart-row.result.1) c.entry_shape.ensures.form in
    let apart = ap (λ (a : ℕ × List ℕ). row_words plan (form_at entry_forms a.0) a.1) c.entry_apart-row.ensures in
    subst (λ (w : List (List ℕ)). PutsOn g.K.Sink.taken g.K.Sink.faults c.args.page.now c.put_row.new.page c.args.sink.now c.put_row.new.sink c.put_row.result (line_of w))
    (form ∙ (apart ∙ told)) c.put_row.ensures
