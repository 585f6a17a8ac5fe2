-- What so many ticks make of a session.
use Rattle.std.proofs.Common.{rules, ◌<◌, ◌^◌, ◌∙◌, ap, sym}
use Rattle.session_core.specs.declared.standing.Standing.{Standing}
use Rattle.session_core.specs.State.{in_phase}
use Rattle.session_core.specs.Ticks.{ticks_later}
use Rattle.session_core.proofs.TickLemmas.{later_is}
use Rattle.session_core.proofs.in_state.In.pass.Goals as goal

pub returns : goal.returns
returns g c =
    let few : c.self.inside.standing.silence < 2 ^ 64 = search rules in
    ap (in_phase g.S.Stage.phase) c.pass.ensures
    ∙ (sym (later_is c.args.ticks (in_phase g.S.Stage.phase c.self.inside.standing) few) ∙ ap (λ (s : Standing). ticks_later c.args.ticks (in_phase g.S.Stage.phase s)) c.self.view_is)
