-- The lines of entries and notes stand behind the first one, and the last line behind all.
use Rattle.std.specs.Prelude.{◌++◌, codes}
use Rattle.report_text.specs.Report.{last_line}
use Rattle.discovery_text.specs.Text.{discovery_report, noted_lines}
use Rattle.text_lines.proofs.WrittenLemmas.{cut_first, cut_later, goes_two, puts_two}
use Rattle.discovery_text.proofs.text.put_discovery.Goals as goal

pub returns-in-Err : goal.returns-in-Err
unfolding discovery_report
returns-in-Err g c =
    let lines = noted_lines c.args.plan.now 0 c.args.noted.trace.now c.args.noted.notes.now in
    cut_first _ _ (codes "vplsnet 1\n" ++ lines) (last_line c.args.noted.trace.now c.args.ending) (cut_first _ _ (codes "vplsnet 1\n") lines c.in-Err.ensures)

pub returns-in-Ok : goal.returns-in-Ok
unfolding discovery_report
returns-in-Ok g c =
    let lines = noted_lines c.args.plan.now 0 c.args.noted.trace.now c.args.noted.notes.now in
    puts_two c.put_last_line.result _ _ _ (codes "vplsnet 1\n" ++ lines) (last_line c.args.noted.trace.now c.args.ending)
    (goes_two _ _ _ (codes "vplsnet 1\n") lines c.in_default.ensures c.in-Ok.ensures) c.put_last_line.ensures

pub returns-in-Err-put_noted : goal.returns-in-Err-put_noted
unfolding discovery_report
returns-in-Err-put_noted g c =
    let lines = noted_lines c.args.plan.now 0 c.args.noted.trace.now c.args.noted.notes.now in
    cut_first _ _ (codes "vplsnet 1\n" ++ lines) (last_line c.args.noted.trace.now c.args.ending)
    (cut_later _ _ _ (codes "vplsnet 1\n") lines c.in_default.ensures c.in-Err-put_noted.ensures)
