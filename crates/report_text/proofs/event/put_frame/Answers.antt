-- A line is put word by word: what was put before a word, that word, and the words behind it.
use Rattle.std.proofs.Common.{[], ◌∷◌}
use Rattle.std.specs.Prelude.{codes}
use Rattle.std.proofs.lemmas.Result.{err_from_is_err_and}
use Rattle.text_lines.specs.Lines.{line_end}
use Rattle.text_lines.proofs.WrittenLemmas.{cut_first, cut_later, puts_two}
use Rattle.text_pieces.specs.Pieces.{hex}
use Rattle.report_text.proofs.event.put_frame.Goals as goal

pub returns-in_err-put : goal.returns-in_err-put
returns-in_err-put g c =
    let p = err_from_is_err_and c.from_residual.result c.from_residual.ensures.1 in
    rw p.1 (cut_first _ _ (codes "> frame") (line_end (c.args.circuit.now ∷ hex c.args.octets.now ∷ [])) c.in_err-put.ensures)

pub returns-in_err-put_next : goal.returns-in_err-put_next
returns-in_err-put_next g c =
    let p = err_from_is_err_and c.from_residual-in_err-put_next.result c.from_residual-in_err-put_next.ensures.1 in
    let last = line_end (hex c.args.octets.now ∷ []) in
    rw p.1 (cut_later _ _ _ (codes "> frame") _ c.in_ok-put.ensures (cut_first _ _ (32 ∷ c.args.circuit.now) last c.in_err-put_next.ensures))

pub returns : goal.returns
returns g c =
    let last = line_end (hex c.args.octets.now ∷ []) in
    puts_two _ _ _ _ (codes "> frame") _ c.in_ok-put.ensures (puts_two _ _ _ _ (32 ∷ c.args.circuit.now) last c.in_ok-put_next.ensures c.put_last.ensures)
