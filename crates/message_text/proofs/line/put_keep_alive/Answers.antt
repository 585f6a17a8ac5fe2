-- The words of a KeepAlive's line stand one after another, and in front of its end.
use Rattle.std.proofs.Common.{◌++◌, ◌∙◌, ℕ, List, [], codes, refl, ap, sym, append_assoc, append-nil, arith}
use Rattle.std.specs.Fmt.{decimal}
use Rattle.std.proofs.lemmas.Result.{on_ok_weaker}
use Rattle.message_text.proofs.LaidLemmas.{laid_told}
use Rattle.message_text.proofs.WordLemmas.{line_told}
use Rattle.message_text.proofs.line.put_keep_alive.Goals as goal

pub returns : goal.returns
returns c =
    let old = c.args.text.now.items in
    let new = c.put_text.new.text.items in
    let place = decimal c.args.base in
    let words : List ℕ = place ++ (codes " KeepAlive id=" ++ decimal c.args.id) in
    let laid = c.lay_opening-begin in
    let whole = laid.ensures.laid ∙ (ap (λ (l : List ℕ). words ++ l) c.lay_octet-end.ensures.laid ∙ sym (append-nil (words ++ codes "\n"))) in
    on_ok_weaker c.put_text.result (λ told. line_told old (old ++ words) (old ++ words) new place (codes "KeepAlive") (decimal c.args.id) [] refl (sym (append-nil (old ++ words)))
    (laid_told old new laid.new.room (words ++ codes "\n") laid.result 80 (omega arith) told whole ∙ sym (append_assoc old words (codes "\n")))) c.put_text.ensures
