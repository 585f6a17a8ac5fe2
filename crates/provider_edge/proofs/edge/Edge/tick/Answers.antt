-- Labels, count, sessions and addresses have the tick in the definition's order, and then the ends are mended.
use Rattle.std.proofs.Common.{◌∙◌, ◌≡◌, ap, length, subst}
use Rattle.edge_model.specs.declared.effects.Effects.{Effects}
use Rattle.edge_model.specs.Tick.{counted, forgetting, ticks_sessions}
use Rattle.edge_model.specs.Work.{beginning, changes}
use Rattle.peer_dialogue.specs.Peering.{at_edge}
use Rattle.peer_dialogue.proofs.SettleLemmas.{map_on}
use Rattle.peer_dialogue.proofs.SpeakerLemmas.{agrees_before}
use Rattle.peer_dialogue.proofs.AtWorkLemmas.{work_both}
use Rattle.provider_edge.proofs.AtWorkLemmas.{takes_by}
use Rattle.provider_edge.proofs.EdgeLemmas.{mended, ticked}
use Rattle.provider_edge.proofs.ListLemmas.{keeps_both}
use Rattle.provider_edge.specs.AtWork.{at_work}
use Rattle.provider_edge.specs.Lists.{seen}
use Rattle.provider_edge.proofs.edge.Edge.tick.Goals as goal

pub returns-clause-goes : goal.returns-clause-goes
returns-clause-goes g c = takes_by g.L.Link.calls _ _ _ _
    (keeps_both c.args.self.now c.age.new.self c.mend.new.self
    (keeps_both c.args.self.now c.count_tick.new.self c.age.new.self
    (keeps_both c.args.self.now c.rest_labels.new.self c.count_tick.new.self c.rest_labels.ensures.keeps c.count_tick.ensures.keeps)
    (keeps_both c.count_tick.new.self c.tick_sessions.new.self c.age.new.self c.in_ok-tick_sessions.ensures.goes.keeps c.age.ensures.keeps)) c.mend.ensures.goes.keeps)
    (work_both g.L.Link.calls _ _ _ c.in_ok-tick_sessions.ensures.goes.on c.mend.ensures.goes.on)

pub returns-clause-step : goal.returns-clause-step
returns-clause-step g c = map_on _ _ c.mend.result
    (λ step told agrees.
    mended c.args.self.now c.age.new.self c.mend.new.self told (g.L.Link.calls c.tick_sessions.new.work.link.now)
    (g.L.Link.calls c.mend.new.work.link.now) c.tick_sessions.new.work.effects.now.list c.mend.new.work.effects.now
    (changes (forgetting c.args.self.now.plan) (ticks_sessions told 0 (length c.args.self.now.plan.edges)
    (changes counted (beginning (seen c.args.self.now) (g.L.Link.calls c.args.work.now.link.now)))))
    (c.mend.ensures.goes.on.idle ∙ (c.in_ok-tick_sessions.ensures.goes.on.idle ∙ ap (λ (e : Effects). e.idle) c.requires.fresh))
    (keeps_both c.args.self.now c.count_tick.new.self c.age.new.self
    (keeps_both c.args.self.now c.rest_labels.new.self c.count_tick.new.self c.rest_labels.ensures.keeps c.count_tick.ensures.keeps)
    (keeps_both c.count_tick.new.self c.tick_sessions.new.self c.age.new.self c.in_ok-tick_sessions.ensures.goes.keeps c.age.ensures.keeps))
    (ticked told c.args.self.now c.rest_labels.new.self c.count_tick.new.self c.tick_sessions.new.self c.age.new.self (g.L.Link.calls c.args.work.now.link.now)
    (g.L.Link.calls c.tick_sessions.new.work.link.now) c.tick_sessions.new.work.effects.now.list
    (keeps_both c.args.self.now c.rest_labels.new.self c.count_tick.new.self c.rest_labels.ensures.keeps c.count_tick.ensures.keeps) c.in_ok-tick_sessions.ensures.goes.keeps c.rest_labels.ensures.step c.count_tick.ensures.step
    (subst (λ (e : Effects). at_work g.L.Link.calls c.tick_sessions.new.self c.tick_sessions.new.work
    ≡ ticks_sessions told 0 (length c.count_tick.new.self.plan.edges) (at_edge (seen c.count_tick.new.self) (g.L.Link.calls c.args.work.now.link.now) e.list)) c.requires.fresh
    (c.in_ok-tick_sessions.ensures.step told (agrees_before told _ _ c.mend.ensures.goes.on.calls agrees)))
    c.age.ensures.step)
    (step told agrees))
    c.mend.ensures.step

pub returns-in_err-tick_sessions-clause-goes : goal.returns-in_err-tick_sessions-clause-goes
returns-in_err-tick_sessions-clause-goes g c = takes_by g.L.Link.calls _ _ _ _
    (keeps_both c.args.self.now c.count_tick.new.self c.tick_sessions.new.self
    (keeps_both c.args.self.now c.rest_labels.new.self c.count_tick.new.self c.rest_labels.ensures.keeps c.count_tick.ensures.keeps) c.tick_sessions.ensures.goes.keeps) c.tick_sessions.ensures.goes.on
