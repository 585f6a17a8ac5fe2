-- The octets stand behind the family and a slash.
use Rattle.std.proofs.Common.{◌∙◌, ◌++◌, ◌∷◌, [], ap, List, ℕ, codes}
use Rattle.std.specs.Fmt.{decimal}
use Rattle.std.proofs.lemmas.Result.{on_ok_weaker}
use Rattle.text_pieces.specs.Pieces.{hex, spaced}
use Rattle.message_text.proofs.WordLemmas.{pair_told}
use Rattle.message_text.proofs.parts.put_addresses.Goals as goal

pub returns : goal.returns
returns c =
    let old = c.args.text.now.items in
    let marked = c.push.new.self.items in
    let family = ap (λ (number : ℕ). old ++ spaced ((codes "addresses=" ++ decimal number) ∷ [])) c.from.ensures in
    on_ok_weaker c.put_digits.result (λ told. pair_told old c.put_told.new.text.items marked c.put_digits.new.text.items (codes "addresses=") (decimal c.args.family) (hex c.args.octets.now)
    (c.in_ok-put_told.ensures ∙ family) c.in_ok-push.ensures.items (told ∙ ap (λ (octets : List ℕ). marked ++ hex octets) c.as_slice.ensures)) c.put_digits.ensures
