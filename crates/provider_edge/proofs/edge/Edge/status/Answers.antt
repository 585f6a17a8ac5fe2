-- A wire that does not end at the edge, and bits that are set already, are idle; else they are set, and the ends are mended.
use Rattle.std.proofs.Common.{◌≡◌, ◌∙◌, ap, sym, subst, true, refl}
use Rattle.std.proofs.lemmas.Bool.{eq-eqb, ne_eqb}
use Rattle.edge_model.specs.declared.effects.Effects.{Effects}
use Rattle.edge_model.specs.State.{with_bits}
use Rattle.edge_model.specs.Wire.{status_input}
use Rattle.edge_model.specs.Work.{beginning, changes}
use Rattle.peer_dialogue.specs.Peering.{at_edge}
use Rattle.peer_dialogue.proofs.SettleLemmas.{map_on}
use Rattle.provider_edge.proofs.edge.Edge.status.Goals.{then-not-ends_here-via-then-not-ends_here, then-not-ends_here-via-else-not-ends_here+then-bits_of-bits}
use Rattle.provider_edge.proofs.AtWorkLemmas.{takes_by}
use Rattle.provider_edge.proofs.EdgeLemmas.{bits_at, mended, status_already, status_apart, status_set}
use Rattle.peer_dialogue.proofs.SpeakerLemmas.{goes_nowhere}
use Rattle.provider_edge.proofs.ListLemmas.{keeps_both, keeps_same}
use Rattle.provider_edge.specs.Lists.{seen, worked}
use Rattle.provider_edge.proofs.edge.Edge.status.Goals as goal

pub returns-then-not-ends_here-clause-step : goal.returns-then-not-ends_here-clause-step
returns-then-not-ends_here-clause-step g c = λ told agrees.
    subst (λ (e : Effects). worked c.args.self.now (g.L.Link.calls c.args.work.now.link.now) (record e { idle = true })
    ≡ status_input c.args.self.now.plan told c.args.wire c.args.bits (beginning (seen c.args.self.now) (g.L.Link.calls c.args.work.now.link.now))) (sym c.requires.begun.fresh)
    (elim c.then-not-ends_here.branch [
      | then-not-ends_here-via-then-not-ends_here w ↦
          status_apart c.args.self.now told c.args.wire c.args.bits (g.L.Link.calls c.args.work.now.link.now) (sym c.ends_here.ensures.ends ∙ w.if-not-ends_here.true)
      | then-not-ends_here-via-else-not-ends_here+then-bits_of-bits w ↦ status_already c.args.self.now told c.args.wire c.args.bits (g.L.Link.calls c.args.work.now.link.now)
          (eq-eqb c.args.bits ((seen c.args.self.now).bits c.args.wire.0) (sym w.if-bits_of-bits.true ∙ w.bits_of.ensures.bits))
    ])

pub returns-clause-step : goal.returns-clause-step
returns-clause-step g c = map_on _ _ c.mend.result
    (λ step told agrees.
    status_set c.args.self.now told c.args.wire c.args.bits (g.L.Link.calls c.args.work.now.link.now) _ (sym c.ends_here.ensures.ends ∙ c.if-not-ends_here.false)
    (ne_eqb c.args.bits ((seen c.args.self.now).bits c.args.wire.0) (λ same. c.if-bits_of-bits.false (c.bits_of.ensures.bits ∙ sym same)))
    (mended c.args.self.now c.set_bits.new.self c.mend.new.self told (g.L.Link.calls c.args.work.now.link.now)
    (g.L.Link.calls c.mend.new.work.link.now) c.args.work.now.effects.now.list c.mend.new.work.effects.now
    (changes (with_bits c.args.wire c.args.bits) (beginning (seen c.args.self.now) (g.L.Link.calls c.args.work.now.link.now)))
    (c.mend.ensures.goes.on.idle ∙ ap (λ (e : Effects). e.idle) c.requires.begun.fresh) c.set_bits.ensures.keeps
    (subst (λ (e : Effects). at_edge (seen c.set_bits.new.self) (g.L.Link.calls c.args.work.now.link.now) e.list
    ≡ changes (with_bits c.args.wire c.args.bits) (beginning (seen c.args.self.now) (g.L.Link.calls c.args.work.now.link.now))) (sym c.requires.begun.fresh)
    (bits_at c.args.self.now c.set_bits.new.self c.args.wire c.args.bits (g.L.Link.calls c.args.work.now.link.now) c.set_bits.ensures.step))
    (step told agrees)))
    c.mend.ensures.step

pub returns-then-not-ends_here-clause-goes : goal.returns-then-not-ends_here-clause-goes
returns-then-not-ends_here-clause-goes g c = record { keeps = keeps_same c.args.self.now; link = refl; effects = refl; calls = goes_nowhere (g.L.Link.calls c.args.work.now.link.now) }

pub returns-clause-goes : goal.returns-clause-goes
returns-clause-goes g c = takes_by g.L.Link.calls _ _ _ _ (keeps_both c.args.self.now c.set_bits.new.self c.mend.new.self c.set_bits.ensures.keeps c.mend.ensures.goes.keeps) c.mend.ensures.goes.on
