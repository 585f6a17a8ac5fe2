use Rattle.std.proofs.Common.{[], ◌∷◌}
use Rattle.std.specs.Prelude.{codes}
use Rattle.std.specs.Fmt.{decimal}
use Rattle.std.proofs.lemmas.Result.{err_from_is_err_and}
use Rattle.text_lines.specs.Lines.{line_end}
use Rattle.text_lines.proofs.WrittenLemmas.{cut_first, puts_two}
use Rattle.report_text.proofs.event.put_arrival.Goals as goal

pub returns-in_err-put : goal.returns-in_err-put
returns-in_err-put g c =
    let p = err_from_is_err_and c.from_residual.result c.from_residual.ensures.1 in
    rw p.1 (cut_first _ _ (codes "> arrive") (line_end (decimal c.args.packet ∷ [])) c.in_err-put.ensures)

pub returns : goal.returns
returns g c = puts_two _ _ _ _ (codes "> arrive") (line_end (decimal c.args.packet ∷ [])) c.in_ok-put.ensures c.put_last.ensures
