-- The place among the words is the one among their octets.
use Rattle.std.proofs.Common.{◌∙◌, ℕ, List, ap}
use Rattle.plan_names.specs.Names.{place_in}
use Rattle.line_shapes.proofs.RowLemmas.{place_is}
use Rattle.line_shapes.proofs.choice.place_of.Goals as goal

pub returns-in-Some : goal.returns-in-Some
returns-in-Some c =
    c.in-Some.ensures ∙ (place_is c.words_of.result.now c.args.word.now ∙ ap (λ (words : List (List ℕ)). place_in words c.args.word.now) c.words_of.ensures)

pub returns-in-None : goal.returns-in-None
returns-in-None c =
    c.in-None.ensures ∙ (place_is c.words_of.result.now c.args.word.now ∙ ap (λ (words : List (List ℕ)). place_in words c.args.word.now) c.words_of.ensures)
