use Rattle.std.proofs.Common.{◌∙◌, ◌++◌, ◌∷◌, [], List, ℕ, ap}
use Rattle.std.proofs.lemmas.List.{replicate_more}
use Rattle.octet_pipes.proofs.pipe_row.PipeRow.open.Goals as goal

pub loop-place-preserved : goal.loop-place-preserved
loop-place-preserved c =
    c.in_ok-push.ensures.items ∙ (ap (λ (pipe : List ℕ). c.loop-place.pipes.items ++ pipe ∷ []) c.new.ensures
    ∙ (ap (λ (rows : List (List ℕ)). rows ++ [] ∷ []) c.loop-place.invariant ∙ replicate_more c.loop-place._place []))
