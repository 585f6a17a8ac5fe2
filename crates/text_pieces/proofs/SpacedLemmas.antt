-- Words with a blank before each, joined.
use Rattle.std.proofs.Common.{◌≡◌, ◌++◌, ◌∙◌, ℕ, List, [], ◌∷◌, refl, ap, sym, append_assoc}
use Rattle.std.specs.Prelude.{codes}
use Rattle.text_pieces.specs.Pieces.{spaced}

pub spaced_join : (front back : List (List ℕ)) → spaced (front ++ back) ≡ spaced front ++ spaced back
spaced_join [] back = refl
spaced_join (word ∷ words) back =
    ap (λ (text : List ℕ). (codes " " ++ word) ++ text) (spaced_join words back) ∙ sym (append_assoc (codes " " ++ word) (spaced words) (spaced back))

-- words are told behind others
pub both_told : (old middle new : List ℕ) (front back : List (List ℕ)) → middle ≡ old ++ spaced front → new ≡ middle ++ spaced back → new ≡ old ++ spaced (front ++ back)
both_told old middle new front back first second =
    (second ∙ ap (λ (text : List ℕ). text ++ spaced back) first) ∙ (append_assoc old (spaced front) (spaced back) ∙ ap (λ (text : List ℕ). old ++ text) (sym (spaced_join front back)))
