-- A line by its words.
use Rattle.std.proofs.Common.{◌≡◌, ◌++◌, ◌∙◌, ℕ, List, [], ◌∷◌, refl, sym, ap, append_assoc}
use Rattle.std.specs.Prelude.{codes}
use Rattle.text_pieces.specs.Pieces.{spaced}
use Rattle.text_lines.specs.Lines.{line_end}

-- what stands behind the first word
pub line_end_spaced : (words : List (List ℕ)) → line_end words ≡ spaced words ++ codes "\n"
line_end_spaced [] = refl
line_end_spaced (word ∷ words) = ap (λ rest. (codes " " ++ word) ++ rest) (line_end_spaced words) ∙ sym (append_assoc (codes " " ++ word) (spaced words) (codes "\n"))
