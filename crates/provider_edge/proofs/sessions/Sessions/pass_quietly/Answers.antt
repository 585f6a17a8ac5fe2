-- Of the ticks that no session needs one has passed.
use Rattle.std.proofs.Common.{◌≤◌, ◌∙◌, ap, subst, arith}
use Rattle.provider_edge.proofs.SessionsLemmas.{later_next, quiet_later, watched_few}
use Rattle.provider_edge.specs.Sessions.{all_later, least_quiet}
use Rattle.provider_edge.proofs.sessions.Sessions.pass_quietly.Goals as goal

pub overflow_add-self : goal.overflow_add-self
overflow_add-self c = omega (arith, watched_few c.self.inside.standing c.self.inside.passed c.self.inside.spare c.self.inside.kept.items c.self.invariant, c.if-self-eq0.false)

pub returns-clause-quiet : goal.returns-clause-quiet
returns-clause-quiet c = λ passed.
    subst (λ l. 1 ≤ least_quiet l) c.self.view_is
    (omega (arith, quiet_later c.self.inside.passed c.self.inside.spare c.self.inside.kept.items c.self.invariant.quiet, c.if-self-eq0.false))

pub returns-clause-later : goal.returns-clause-later
returns-clause-later c = λ passed. later_next c.self.inside.passed c.self.inside.kept.items ∙ ap (all_later 1) c.self.view_is
