use Rattle.std.proofs.Common.{◌==◌, ◌∙◌, Some, ℕ, ap, cond}
use Rattle.seen_state.specs.Copies.{count_in}
use Rattle.seen_state.specs.Numbered.{Values, value_at}
use Rattle.seen_state.proofs.CopyLemmas.{came_one}
use Rattle.seen_state.proofs.copies.Copies.come.Goals as goal

pub returns-clause-told : goal.returns-clause-told
returns-clause-told c = λ copies told.
    came_one c.go.new.self c.put.new.self c.args.number c.args.origin
    (λ n. c.in_ok-put.ensures.origins n ∙ ap (λ (values : Values ℕ). cond (n == c.args.number) (Some c.args.origin) (value_at values n)) c.in_ok-count_up.ensures.origins)
    (λ o. ap (λ (values : Values ℕ). count_in values o) c.in_ok-put.ensures.counts ∙ c.in_ok-count_up.ensures.counts o)
    copies told.own (c.in_ok-gone.ensures.told copies told)
