-- The name of a field stands behind that of the reason.
use Rattle.std.proofs.Common.{◌++◌, ◌∙◌, ℕ, List, ap, codes}
use Rattle.std.proofs.lemmas.Result.{on_ok_weaker}
use Rattle.message_text.specs.Words.{field_name}
use Rattle.message_text.proofs.WordLemmas.{value_told}
use Rattle.message_text.proofs.parts.put_why.Goals as goal

pub returns-in_ok-put_word-in-Missing : goal.returns-in_ok-put_word-in-Missing
returns-in_ok-put_word-in-Missing c =
    let begun = c.put_word.new.text.items in
    let named = c.as_bytes.ensures.value ∙ c.field_text.ensures in
    rw c.in-Missing.is (on_ok_weaker c.put_text.result (λ told. value_told c.args.text.now.items begun c.put_text.new.text.items (codes "why=Missing:") (field_name c.in-Missing.field)
    c.in_ok-put_word-in-Missing.ensures (told ∙ ap (λ (words : List ℕ). begun ++ words) named)) c.put_text.ensures)
