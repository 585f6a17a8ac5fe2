-- The counts stand behind the line of the seed.
use Rattle.std.specs.Prelude.{codes, [], ◌∷◌}
use Rattle.std.specs.Fmt.{decimal}
use Rattle.report_text.specs.Report.{counts_line}
use Rattle.text_lines.specs.Lines.{line_of}
use Rattle.text_lines.proofs.WrittenLemmas.{cut_first, puts_two}
use Rattle.vplsnet.proofs.rehearse.put_counts.Goals as goal

pub returns-in-Ok : goal.returns-in-Ok
returns-in-Ok g c = puts_two c.put_last_line.result _ _ _ (line_of (codes "rehearse" ∷ decimal c.args.seed ∷ [])) (counts_line c.args.trace.now) c.in-Ok.ensures c.put_last_line.ensures

pub returns-in-Err : goal.returns-in-Err
returns-in-Err g c = cut_first _ _ (line_of (codes "rehearse" ∷ decimal c.args.seed ∷ [])) (counts_line c.args.trace.now) c.in-Err.ensures
