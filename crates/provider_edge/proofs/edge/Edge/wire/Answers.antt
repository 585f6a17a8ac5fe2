-- A wire that does not pass the edge, and one that is so already, are idle; else it is turned, and the ends are mended.
use Rattle.std.proofs.Common.{◌≡◌, ◌∙◌, Bool, ap, sym, subst, true, refl}
use Rattle.std.proofs.Math.Bool.{beq}
use Rattle.edge_model.specs.declared.effects.Effects.{Effects}
use Rattle.edge_model.specs.Wire.{turned_wire, wire_input}
use Rattle.edge_model.specs.Work.{beginning, changes}
use Rattle.peer_dialogue.specs.Peering.{at_edge}
use Rattle.peer_dialogue.proofs.SettleLemmas.{map_on}
use Rattle.provider_edge.proofs.edge.Edge.wire.Goals.{then-not-passes-via-then-not-passes, then-not-passes-via-else-not-passes+then-is_wire_on-on}
use Rattle.provider_edge.proofs.AtWorkLemmas.{takes_by}
use Rattle.provider_edge.proofs.EdgeLemmas.{mended, turned_at, wire_already, wire_apart, wire_turned}
use Rattle.peer_dialogue.proofs.SpeakerLemmas.{goes_nowhere}
use Rattle.provider_edge.proofs.ListLemmas.{keeps_both, keeps_same}
use Rattle.provider_edge.specs.Lists.{seen, worked}
use Rattle.provider_edge.proofs.edge.Edge.wire.Goals as goal

pub returns-then-not-passes-clause-step : goal.returns-then-not-passes-clause-step
returns-then-not-passes-clause-step g c = λ told agrees.
    subst (λ (e : Effects). worked c.args.self.now (g.L.Link.calls c.args.work.now.link.now) (record e { idle = true })
    ≡ wire_input c.args.self.now.plan told c.args.wire c.args.on (beginning (seen c.args.self.now) (g.L.Link.calls c.args.work.now.link.now))) (sym c.requires.fresh)
    (elim c.then-not-passes.branch [
      | then-not-passes-via-then-not-passes w ↦ wire_apart c.args.self.now told c.args.wire c.args.on (g.L.Link.calls c.args.work.now.link.now) (sym c.passes.ensures.passes ∙ w.if-not-passes.true)
      | then-not-passes-via-else-not-passes+then-is_wire_on-on w ↦ wire_already c.args.self.now told c.args.wire c.args.on (g.L.Link.calls c.args.work.now.link.now)
          (ap (λ (b : Bool). beq b c.args.on) (sym w.is_wire_on.ensures) ∙ w.if-is_wire_on-on.true)
    ])

pub returns-clause-step : goal.returns-clause-step
returns-clause-step g c = map_on _ _ c.mend.result
    (λ step told agrees.
    wire_turned c.args.self.now told c.args.wire c.args.on (g.L.Link.calls c.args.work.now.link.now) _ (sym c.passes.ensures.passes ∙ c.if-not-passes.false)
    (ap (λ (b : Bool). beq b c.args.on) (sym c.is_wire_on.ensures) ∙ c.if-is_wire_on-on.false)
    (mended c.args.self.now c.turn_wire.new.self c.mend.new.self told (g.L.Link.calls c.args.work.now.link.now)
    (g.L.Link.calls c.mend.new.work.link.now) c.args.work.now.effects.now.list c.mend.new.work.effects.now
    (changes (turned_wire c.args.wire c.args.on) (beginning (seen c.args.self.now) (g.L.Link.calls c.args.work.now.link.now)))
    (c.mend.ensures.goes.on.idle ∙ ap (λ (e : Effects). e.idle) c.requires.fresh) c.turn_wire.ensures.keeps
    (subst (λ (e : Effects). at_edge (seen c.turn_wire.new.self) (g.L.Link.calls c.args.work.now.link.now) e.list
    ≡ changes (turned_wire c.args.wire c.args.on) (beginning (seen c.args.self.now) (g.L.Link.calls c.args.work.now.link.now))) (sym c.requires.fresh)
    (turned_at c.args.self.now c.turn_wire.new.self c.args.wire c.args.on (g.L.Link.calls c.args.work.now.link.now) c.turn_wire.ensures.step))
    (step told agrees)))
    c.mend.ensures.step

pub returns-then-not-passes-clause-goes : goal.returns-then-not-passes-clause-goes
returns-then-not-passes-clause-goes g c = record { keeps = keeps_same c.args.self.now; link = refl; effects = refl; calls = goes_nowhere (g.L.Link.calls c.args.work.now.link.now) }

pub returns-clause-goes : goal.returns-clause-goes
returns-clause-goes g c = takes_by g.L.Link.calls _ _ _ _ (keeps_both c.args.self.now c.turn_wire.new.self c.mend.new.self c.turn_wire.ensures.keeps c.mend.ensures.goes.keeps) c.mend.ensures.goes.on
