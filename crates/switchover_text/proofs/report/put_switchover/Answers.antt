-- The lines of the script stand behind the first one, and the last line behind all.
use Rattle.std.specs.Prelude.{◌++◌, codes}
use Rattle.switchover_text.specs.Text.{count_line, lines_text, switchover_text}
use Rattle.text_lines.proofs.WrittenLemmas.{cut_first, cut_later, goes_two, puts_two}
use Rattle.switchover_text.proofs.report.put_switchover.Goals as goal

pub returns-in-Err : goal.returns-in-Err
unfolding switchover_text
returns-in-Err g c =
    let lines = lines_text c.args.plan.now c.args.lines.now c.args.told.now in
    cut_first _ _ (codes "switchover 1\n" ++ lines) (count_line c.args.lines.now) (cut_first _ _ (codes "switchover 1\n") lines c.in-Err.ensures)

pub returns-in-Ok : goal.returns-in-Ok
unfolding switchover_text
returns-in-Ok g c =
    let lines = lines_text c.args.plan.now c.args.lines.now c.args.told.now in
    puts_two c.put_line.result _ _ _ (codes "switchover 1\n" ++ lines) (count_line c.args.lines.now)
    (goes_two _ _ _ (codes "switchover 1\n") lines c.in_default.ensures c.in-Ok.ensures) c.put_line.ensures

pub returns-in-Err-put_lines : goal.returns-in-Err-put_lines
unfolding switchover_text
returns-in-Err-put_lines g c =
    let lines = lines_text c.args.plan.now c.args.lines.now c.args.told.now in
    cut_first _ _ (codes "switchover 1\n" ++ lines) (count_line c.args.lines.now)
    (cut_later _ _ _ (codes "switchover 1\n") lines c.in_default.ensures c.in-Err-put_lines.ensures)
