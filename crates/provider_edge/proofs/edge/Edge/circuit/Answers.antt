-- A circuit of another edge, and one that is so already, are idle. Any other is turned, and the ends are mended.
use Rattle.std.proofs.Common.{◌≡◌, ◌∙◌, Bool, ap, sym, subst, true, refl}
use Rattle.std.proofs.Math.Bool.{beq}
use Rattle.net_base.specs.plan.Places.{circuit_row}
use Rattle.edge_model.specs.declared.effects.Effects.{Effects}
use Rattle.edge_model.specs.Circuit.{circuit_input, turned}
use Rattle.edge_model.specs.Work.{beginning, changes}
use Rattle.std.proofs.lemmas.Option.{slice_get_within}
use Rattle.peer_dialogue.specs.Peering.{at_edge}
use Rattle.edge_forwarding.proofs.ForwardingLemmas.{own_row}
use Rattle.peer_dialogue.proofs.SettleLemmas.{map_on}
use Rattle.provider_edge.proofs.AtWorkLemmas.{takes_by}
use Rattle.provider_edge.proofs.EdgeLemmas.{circuit_at, mended}
use Rattle.peer_dialogue.proofs.SpeakerLemmas.{goes_nowhere}
use Rattle.provider_edge.proofs.ListLemmas.{keeps_both, keeps_same}
use Rattle.provider_edge.proofs.WorkLemmas.{circuit_already, circuit_done, circuit_other}
use Rattle.provider_edge.specs.Lists.{seen, worked}
use Rattle.provider_edge.proofs.edge.Edge.circuit.Goals as goal

pub returns-in_default-clause-step : goal.returns-in_default-clause-step
returns-in_default-clause-step g c = λ told agrees.
    subst (λ (e : Effects). worked c.args.self.now (g.L.Link.calls c.args.work.now.link.now) (record e { idle = true })
    ≡ circuit_input c.args.self.now.plan told c.args.circuit c.args.on (circuit_row c.args.self.now.plan c.args.circuit)
    (beginning (seen c.args.self.now) (g.L.Link.calls c.args.work.now.link.now))) (sym c.requires.fresh)
    (circuit_other c.args.self.now told c.args.circuit c.args.on (circuit_row c.args.self.now.plan c.args.circuit) (g.L.Link.calls c.args.work.now.link.now)
    (sym c.own_service.ensures ∙ c.in_default.is))

pub is_on-requires : goal.is_on-requires
is_on-requires g c =
    let found = own_row c.args.self.now.me (circuit_row c.args.self.now.plan c.args.circuit) c.in-Some.service (sym c.own_service.ensures ∙ c.in-Some.is) in
    slice_get_within c.args.self.now.plan.circuits c.args.circuit.0 found.circuit found.is

pub returns-then-is_on-on-clause-step : goal.returns-then-is_on-on-clause-step
returns-then-is_on-on-clause-step g c = λ told agrees.
    subst (λ (e : Effects). worked c.args.self.now (g.L.Link.calls c.args.work.now.link.now) (record e { idle = true })
    ≡ circuit_input c.args.self.now.plan told c.args.circuit c.args.on (circuit_row c.args.self.now.plan c.args.circuit)
    (beginning (seen c.args.self.now) (g.L.Link.calls c.args.work.now.link.now))) (sym c.requires.fresh)
    (circuit_already c.args.self.now told c.args.circuit c.args.on (circuit_row c.args.self.now.plan c.args.circuit) c.in-Some.service (g.L.Link.calls c.args.work.now.link.now)
    (sym c.own_service.ensures ∙ c.in-Some.is)
    (ap (λ (b : Bool). beq b c.args.on) (sym c.is_on.ensures) ∙ c.if-is_on-on.true))

pub returns-clause-step : goal.returns-clause-step
returns-clause-step g c = map_on _ _ c.mend.result
    (λ step told agrees.
    let found = own_row c.args.self.now.me (circuit_row c.args.self.now.plan c.args.circuit) c.in-Some.service (sym c.own_service.ensures ∙ c.in-Some.is) in
    circuit_done c.args.self.now told c.args.circuit c.args.on (circuit_row c.args.self.now.plan c.args.circuit) c.in-Some.service (g.L.Link.calls c.args.work.now.link.now) _ found
    (ap (λ (b : Bool). beq b c.args.on) (sym c.is_on.ensures) ∙ c.if-is_on-on.false)
    (mended c.args.self.now c.turn_circuit.new.self c.mend.new.self told (g.L.Link.calls c.args.work.now.link.now)
    (g.L.Link.calls c.mend.new.work.link.now) c.args.work.now.effects.now.list c.mend.new.work.effects.now
    (changes (turned c.args.self.now.plan c.args.circuit found.circuit c.args.on) (beginning (seen c.args.self.now) (g.L.Link.calls c.args.work.now.link.now)))
    (c.mend.ensures.goes.on.idle ∙ ap (λ (e : Effects). e.idle) c.requires.fresh) c.turn_circuit.ensures.keeps
    (subst (λ (e : Effects). at_edge (seen c.turn_circuit.new.self) (g.L.Link.calls c.args.work.now.link.now) e.list
    ≡ changes (turned c.args.self.now.plan c.args.circuit found.circuit c.args.on) (beginning (seen c.args.self.now) (g.L.Link.calls c.args.work.now.link.now))) (sym c.requires.fresh)
    (circuit_at c.args.self.now c.turn_circuit.new.self c.args.circuit found.circuit c.args.on (g.L.Link.calls c.args.work.now.link.now) (c.turn_circuit.ensures.step found.circuit found.is)))
    (step told agrees)))
    c.mend.ensures.step

pub returns-in_default-clause-goes : goal.returns-in_default-clause-goes
returns-in_default-clause-goes g c = record { keeps = keeps_same c.args.self.now; link = refl; effects = refl; calls = goes_nowhere (g.L.Link.calls c.args.work.now.link.now) }

pub returns-then-is_on-on-clause-goes : goal.returns-then-is_on-on-clause-goes
returns-then-is_on-on-clause-goes g c = record { keeps = keeps_same c.args.self.now; link = refl; effects = refl; calls = goes_nowhere (g.L.Link.calls c.args.work.now.link.now) }

pub returns-clause-goes : goal.returns-clause-goes
returns-clause-goes g c = takes_by g.L.Link.calls _ _ _ _
    (keeps_both c.args.self.now c.turn_circuit.new.self c.mend.new.self c.turn_circuit.ensures.keeps c.mend.ensures.goes.keeps) c.mend.ensures.goes.on
