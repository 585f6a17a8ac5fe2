-- A tick that is quiet is one of the model; else each session has it, and behind it nothing changes.
use Rattle.std.proofs.Common.{◌∙◌, ap, length, refl}
use Rattle.net_base.specs.declared.plan.Plan.{Plan}
use Rattle.edge_model.specs.State.{EdgeState}
use Rattle.edge_model.specs.Tick.{ticks_sessions}
use Rattle.peer_dialogue.specs.Peering.{at_edge}
use Rattle.provider_edge.specs.Lists.{seen}
use Rattle.provider_edge.proofs.edge.Edge.tick_sessions.Goals as goal

pub returns-then-pass_quietly-clause-step : goal.returns-then-pass_quietly-clause-step
returns-then-pass_quietly-clause-step g c = λ told agrees. c.if-pass_quietly.ensures.step refl told (g.L.Link.calls c.args.work.now.link.now) c.args.work.now.effects.now.list

pub returns-clause-step : goal.returns-clause-step
returns-clause-step g c = λ told agrees.
    ap (λ (e : EdgeState). at_edge e (g.L.Link.calls c.tick_each.new.work.link.now) c.tick_each.new.work.effects.now.list) c.look_ahead.ensures.step
    ∙ (c.in_ok-tick_each.ensures.step told agrees
    ∙ (ap (λ (p : Plan). ticks_sessions told 0 (length p.edges) (at_edge (seen c.pass_quietly.new.self) (g.L.Link.calls c.args.work.now.link.now) c.args.work.now.effects.now.list)) c.pass_quietly.ensures.keeps.plan
    ∙ ap (λ (e : EdgeState). ticks_sessions told 0 (length c.args.self.now.plan.edges) (at_edge e (g.L.Link.calls c.args.work.now.link.now) c.args.work.now.effects.now.list))
    (c.if-pass_quietly.ensures.stays refl)))
