-- The request stands behind its FEC.
use Rattle.std.proofs.Common.{◌∷◌, [], ◌++◌, ◌∙◌, ap, codes, ℕ}
use Rattle.std.specs.Fmt.{decimal}
use Rattle.std.proofs.lemmas.Result.{on_ok_weaker}
use Rattle.text_pieces.specs.Pieces.{spaced}
use Rattle.message_text.specs.Words.{fec_words, request_word}
use Rattle.text_pieces.proofs.SpacedLemmas.{both_told}
use Rattle.message_text.proofs.parts.put_abort.Goals as goal

pub returns : goal.returns
returns c =
    let begun = c.put_fec.new.text.items in
    let number = ap (λ (number : ℕ). begun ++ spaced ((codes "request=" ++ decimal number) ∷ [])) c.from.ensures in
    on_ok_weaker c.put_told.result (λ told. both_told c.args.text.now.items begun c.put_told.new.text.items (fec_words c.args.fec.now) (request_word c.args.request ∷ [])
    c.in_ok-put_fec.ensures (told ∙ number)) c.put_told.ensures
