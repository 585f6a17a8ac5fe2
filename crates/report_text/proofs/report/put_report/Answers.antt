-- The lines of the entries stand behind the first one, and the last line behind all.
use Rattle.std.specs.Prelude.{◌++◌, codes}
use Rattle.report_text.specs.Report.{entry_lines, last_line, report}
use Rattle.text_lines.proofs.WrittenLemmas.{cut_first, cut_later, goes_two, puts_two}
use Rattle.report_text.proofs.report.put_report.Goals as goal

pub returns-in-Err : goal.returns-in-Err
unfolding report
returns-in-Err g c =
    let lines = entry_lines c.args.plan.now c.args.trace.now in
    cut_first _ _ (codes "vplsnet 1\n" ++ lines) (last_line c.args.trace.now c.args.ending) (cut_first _ _ (codes "vplsnet 1\n") lines c.in-Err.ensures)

pub returns-in-Ok : goal.returns-in-Ok
unfolding report
returns-in-Ok g c =
    let lines = entry_lines c.args.plan.now c.args.trace.now in
    puts_two c.put_last_line.result _ _ _ (codes "vplsnet 1\n" ++ lines) (last_line c.args.trace.now c.args.ending)
    (goes_two _ _ _ (codes "vplsnet 1\n") lines c.in_default.ensures c.in-Ok.ensures) c.put_last_line.ensures

pub returns-in-Err-put_entries : goal.returns-in-Err-put_entries
unfolding report
returns-in-Err-put_entries g c =
    let lines = entry_lines c.args.plan.now c.args.trace.now in
    cut_first _ _ (codes "vplsnet 1\n" ++ lines) (last_line c.args.trace.now c.args.ending)
    (cut_later _ _ _ (codes "vplsnet 1\n") lines c.in_default.ensures c.in-Err-put_entries.ensures)
