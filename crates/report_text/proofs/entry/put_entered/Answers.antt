-- A line is put word by word: what was put before a word, that word, and the words behind it.
use Rattle.std.proofs.Common.{[], ◌∷◌}
use Rattle.std.specs.Prelude.{codes}
use Rattle.std.specs.Fmt.{decimal}
use Rattle.std.proofs.lemmas.Result.{err_from_is_err_and}
use Rattle.text_lines.specs.Lines.{line_end}
use Rattle.text_lines.proofs.WrittenLemmas.{cut_first, cut_later, puts_two}
use Rattle.text_pieces.specs.Pieces.{hex}
use Rattle.report_text.proofs.entry.put_entered.Goals as goal

pub returns-in_err-put : goal.returns-in_err-put
returns-in_err-put g c =
    let p = err_from_is_err_and c.from_residual.result c.from_residual.ensures.1 in
    rw p.1 (cut_first _ _ (codes "in") (line_end (c.args.circuit.now ∷ decimal c.args.number ∷ hex c.args.octets.now ∷ [])) c.in_err-put.ensures)

pub returns-in_err-put_next : goal.returns-in_err-put_next
returns-in_err-put_next g c =
    let p = err_from_is_err_and c.from_residual-in_err-put_next.result c.from_residual-in_err-put_next.ensures.1 in
    let at_0 = cut_first _ _ (32 ∷ c.args.circuit.now) (line_end (decimal c.args.number ∷ hex c.args.octets.now ∷ [])) c.in_err-put_next.ensures in
    rw p.1 (cut_later _ _ _ (codes "in") (line_end (c.args.circuit.now ∷ decimal c.args.number ∷ hex c.args.octets.now ∷ [])) c.in_ok-put.ensures at_0)

pub returns-in_err-put_next-2 : goal.returns-in_err-put_next-2
returns-in_err-put_next-2 g c =
    let p = err_from_is_err_and c.from_residual-in_err-put_next-2.result c.from_residual-in_err-put_next-2.ensures.1 in
    let at_1 = cut_first _ _ (32 ∷ decimal c.args.number) (line_end (hex c.args.octets.now ∷ [])) c.in_err-put_next-2.ensures in
    let at_0 = cut_later _ _ _ (32 ∷ c.args.circuit.now) (line_end (decimal c.args.number ∷ hex c.args.octets.now ∷ [])) c.in_ok-put_next.ensures at_1 in
    rw p.1 (cut_later _ _ _ (codes "in") (line_end (c.args.circuit.now ∷ decimal c.args.number ∷ hex c.args.octets.now ∷ [])) c.in_ok-put.ensures at_0)

pub returns : goal.returns
returns g c =
    let at_1 = puts_two _ _ _ _ (32 ∷ decimal c.args.number) (line_end (hex c.args.octets.now ∷ [])) c.in_ok-put_next-2.ensures c.put_last.ensures in
    let at_0 = puts_two _ _ _ _ (32 ∷ c.args.circuit.now) (line_end (decimal c.args.number ∷ hex c.args.octets.now ∷ [])) c.in_ok-put_next.ensures at_1 in
    puts_two _ _ _ _ (codes "in") (line_end (c.args.circuit.now ∷ decimal c.args.number ∷ hex c.args.octets.now ∷ [])) c.in_ok-put.ensures at_0
