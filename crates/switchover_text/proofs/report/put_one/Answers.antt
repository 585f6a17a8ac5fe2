-- What was told of a line stands behind it.
use Rattle.switchover_text.specs.Text.{done_line, told_lines}
use Rattle.text_lines.proofs.WrittenLemmas.{cut_first, puts_two}
use Rattle.switchover_text.proofs.report.put_one.Goals as goal

pub returns-in-Ok : goal.returns-in-Ok
returns-in-Ok g c =
    puts_two c.put_all_told.result _ _ _ (done_line c.args.plan.now c.args.line.now) (told_lines c.args.plan.now c.args.entries.now) c.in-Ok.ensures c.put_all_told.ensures

pub returns-in-Err : goal.returns-in-Err
returns-in-Err g c = cut_first _ _ (done_line c.args.plan.now c.args.line.now) (told_lines c.args.plan.now c.args.entries.now) c.in-Err.ensures
