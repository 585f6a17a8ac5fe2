-- A description that is not empty is told.
use Rattle.std.proofs.Common.{◌≡◌, ◌≢◌, ◌++◌, ◌∙◌, ℕ, List, codes, length, append_assoc, ap}
use Rattle.std.proofs.lemmas.Result.{on_ok_weaker}
use Rattle.text_pieces.specs.Pieces.{hex, spaced}
use Rattle.message_text.specs.Words.{description_words}
use Rattle.message_text.proofs.WordLemmas.{description_told}
use Rattle.message_text.proofs.pseudowire.put_description.Goals as goal

named : (old middle new name digits word : List ℕ) → middle ≡ old ++ name → new ≡ middle ++ digits → word ≡ name ++ digits → new ≡ old ++ word
named old middle new name digits word first second is = simp (second, first, is, append_assoc)

pub returns : goal.returns
returns c =
    let some : length c.args.description.now ≢ 0 = λ none. c.if-len-eq0.false (c.len.ensures.count ∙ none) in
    let begun = c.put_text.new.text.items in
    let digits = hex c.args.description.now in
    on_ok_weaker c.put_digits.result (λ told. named c.args.text.now.items begun c.put_digits.new.text.items (codes " description=") digits (spaced (description_words c.args.description.now))
    c.in_ok-put_text.ensures (told ∙ ap (λ (octets : List ℕ). begun ++ hex octets) c.as_slice.ensures) (description_told c.args.description.now some)) c.put_digits.ensures
