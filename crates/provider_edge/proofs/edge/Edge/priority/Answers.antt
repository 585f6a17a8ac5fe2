-- A wire that is no spoke from this edge, and a priority that is set already, are idle; else it is set, and the ends are mended.
use Rattle.std.proofs.Common.{◌≡◌, ◌∙◌, ap, sym, subst, true, refl}
use Rattle.std.proofs.lemmas.Bool.{eq-eqb, ne_eqb}
use Rattle.edge_model.specs.declared.effects.Effects.{Effects}
use Rattle.edge_model.specs.State.{with_priority}
use Rattle.edge_model.specs.Wire.{priority_input}
use Rattle.edge_model.specs.Work.{beginning, changes}
use Rattle.peer_dialogue.specs.Peering.{at_edge}
use Rattle.peer_dialogue.proofs.SettleLemmas.{map_on}
use Rattle.provider_edge.proofs.edge.Edge.priority.Goals.{then-not-is_own_spoke-via-then-not-is_own_spoke, then-not-is_own_spoke-via-else-not-is_own_spoke+then-priority_of-priority}
use Rattle.provider_edge.proofs.AtWorkLemmas.{takes_by}
use Rattle.provider_edge.proofs.EdgeLemmas.{mended, priority_already, priority_apart, priority_at, priority_set}
use Rattle.peer_dialogue.proofs.SpeakerLemmas.{goes_nowhere}
use Rattle.provider_edge.proofs.ListLemmas.{keeps_both, keeps_same}
use Rattle.provider_edge.specs.Lists.{seen, worked}
use Rattle.provider_edge.proofs.edge.Edge.priority.Goals as goal

pub returns-then-not-is_own_spoke-clause-step : goal.returns-then-not-is_own_spoke-clause-step
returns-then-not-is_own_spoke-clause-step g c = λ told agrees.
    subst (λ (e : Effects). worked c.args.self.now (g.L.Link.calls c.args.work.now.link.now) (record e { idle = true })
    ≡ priority_input c.args.self.now.plan told c.args.wire c.args.priority (beginning (seen c.args.self.now) (g.L.Link.calls c.args.work.now.link.now))) (sym c.requires.fresh)
    (elim c.then-not-is_own_spoke.branch [
      | then-not-is_own_spoke-via-then-not-is_own_spoke w ↦
          priority_apart c.args.self.now told c.args.wire c.args.priority (g.L.Link.calls c.args.work.now.link.now) (sym c.is_own_spoke.ensures.own ∙ w.if-not-is_own_spoke.true)
      | then-not-is_own_spoke-via-else-not-is_own_spoke+then-priority_of-priority w ↦ priority_already c.args.self.now told c.args.wire c.args.priority (g.L.Link.calls c.args.work.now.link.now)
          (eq-eqb c.args.priority ((seen c.args.self.now).priority c.args.wire.0) (sym w.if-priority_of-priority.true ∙ w.priority_of.ensures))
    ])

pub returns-clause-step : goal.returns-clause-step
returns-clause-step g c = map_on _ _ c.mend.result
    (λ step told agrees.
    priority_set c.args.self.now told c.args.wire c.args.priority (g.L.Link.calls c.args.work.now.link.now) _ (sym c.is_own_spoke.ensures.own ∙ c.if-not-is_own_spoke.false)
    (ne_eqb c.args.priority ((seen c.args.self.now).priority c.args.wire.0) (λ same. c.if-priority_of-priority.false (c.priority_of.ensures ∙ sym same)))
    (mended c.args.self.now c.set_priority.new.self c.mend.new.self told (g.L.Link.calls c.args.work.now.link.now)
    (g.L.Link.calls c.mend.new.work.link.now) c.args.work.now.effects.now.list c.mend.new.work.effects.now
    (changes (with_priority c.args.wire c.args.priority) (beginning (seen c.args.self.now) (g.L.Link.calls c.args.work.now.link.now)))
    (c.mend.ensures.goes.on.idle ∙ ap (λ (e : Effects). e.idle) c.requires.fresh) c.set_priority.ensures.keeps
    (subst (λ (e : Effects). at_edge (seen c.set_priority.new.self) (g.L.Link.calls c.args.work.now.link.now) e.list
    ≡ changes (with_priority c.args.wire c.args.priority) (beginning (seen c.args.self.now) (g.L.Link.calls c.args.work.now.link.now))) (sym c.requires.fresh)
    (priority_at c.args.self.now c.set_priority.new.self c.args.wire c.args.priority (g.L.Link.calls c.args.work.now.link.now) c.set_priority.ensures.step))
    (step told agrees)))
    c.mend.ensures.step

pub returns-then-not-is_own_spoke-clause-goes : goal.returns-then-not-is_own_spoke-clause-goes
returns-then-not-is_own_spoke-clause-goes g c = record { keeps = keeps_same c.args.self.now; link = refl; effects = refl; calls = goes_nowhere (g.L.Link.calls c.args.work.now.link.now) }

pub returns-clause-goes : goal.returns-clause-goes
returns-clause-goes g c = takes_by g.L.Link.calls _ _ _ _
    (keeps_both c.args.self.now c.set_priority.new.self c.mend.new.self c.set_priority.ensures.keeps c.mend.ensures.goes.keeps) c.mend.ensures.goes.on
