-- The note stands behind the entries.
use Rattle.report_text.specs.Report.{entry_lines}
use Rattle.discovery_text.specs.Text.{note_line}
use Rattle.text_lines.proofs.WrittenLemmas.{cut_first, puts_two}
use Rattle.discovery_text.proofs.text.put_placed.Goals as goal

pub returns-in-Ok : goal.returns-in-Ok
returns-in-Ok g c = puts_two c.put_note.result _ _ _ (entry_lines c.args.plan.now c.args.front.now) (note_line c.args.plan.now c.args.placed.now.note) c.in-Ok.ensures c.put_note.ensures

pub returns-in-Err : goal.returns-in-Err
returns-in-Err g c = cut_first _ _ (entry_lines c.args.plan.now c.args.front.now) (note_line c.args.plan.now c.args.placed.now.note) c.in-Err.ensures
