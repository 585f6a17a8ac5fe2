-- The digits of one more piece are put, until those of all are; where the sink fails, they are cut within the piece.
use Rattle.std.proofs.Common.{◌+◌, ◌++◌, ◌∙◌, ℕ, List, ap, arith, drop, length, sym}
use Rattle.std.proofs.lemmas.Result.{err_from_is_err_and}
use Rattle.text_pieces.specs.Pieces.{hex}
use Rattle.text_lines.proofs.HexLemmas.{hex_at, hex_end}
use Rattle.text_lines.proofs.WrittenLemmas.{putting_all, putting_cut, putting_more}
use Rattle.text_lines.proofs.page.Page.put_pieces.Goals as goal

pub returns-in_err-put : goal.returns-in_err-put
returns-in_err-put g c =
    let p = err_from_is_err_and c.from_residual.result c.from_residual.ensures.1 in
    let piece = c.split_at-in-putting.ensures in
    let split = hex_at c.args.octets.now _ _ c.putting.at _ c.split_at.ensures.back piece.front piece.front_len in
    let later = hex (drop (c.putting.at + length c.split_at-in-putting.result.0.now) c.args.octets.now) in
    rw p.1 (putting_cut _ _ _ _ _ _ _ (split ∙ ap (λ (l : List ℕ). l ++ later) (sym c.write_digits.ensures)) c.putting.invariant.putting c.in_err-put.ensures)

pub putting-preserved : goal.putting-preserved
putting-preserved g c =
    let piece = c.split_at-in-putting.ensures in
    let split = hex_at c.args.octets.now _ _ c.putting.at _ c.split_at.ensures.back piece.front piece.front_len in
    let later = hex (drop (c.putting.at + length c.split_at-in-putting.result.0.now) c.args.octets.now) in
    record {
      within = grind (arith, c.split_at.ensures.back_len, piece.back_len, c.putting.invariant.within, piece.front_len);
      putting = putting_more _ _ _ _ _ _ _ (split ∙ ap (λ (l : List ℕ). l ++ later) (sym c.write_digits.ensures)) c.putting.invariant.putting c.in_ok-put.ensures;
    }

pub returns : goal.returns
returns g c = putting_all _ _ _ _ (hex_end c.args.octets.now c.putting.at (omega arith)) c.putting.invariant.putting
