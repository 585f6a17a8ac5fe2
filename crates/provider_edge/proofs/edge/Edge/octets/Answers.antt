-- Octets of a peer without a session are idle. Else they are heard behind those that were held, and the ends are mended.
use Rattle.std.proofs.Common.{◌≡◌, ◌∙◌, ◌++◌, [], ap, refl, sym, subst, true}
use Rattle.net_base.specs.declared.plan.Plan.{Plan}
use Rattle.edge_model.specs.declared.effects.Effects.{Effects}
use Rattle.edge_model.specs.Hear.{hears, hears_on, octets_input}
use Rattle.edge_model.specs.Work.{beginning}
use Rattle.peer_dialogue.proofs.AtWorkLemmas.{work_both}
use Rattle.peer_dialogue.proofs.SettleLemmas.{map_on}
use Rattle.peer_dialogue.proofs.SpeakerLemmas.{agrees_before, goes_nowhere}
use Rattle.peer_dialogue.specs.Peering.{at_edge}
use Rattle.provider_edge.proofs.AtWorkLemmas.{takes_by}
use Rattle.provider_edge.proofs.EdgeLemmas.{begun, mended, octets_done, octets_idle}
use Rattle.provider_edge.proofs.ListLemmas.{keeps_both}
use Rattle.provider_edge.proofs.MessageLemmas.{held_heard, taken_none}
use Rattle.provider_edge.specs.AtWork.{at_work}
use Rattle.provider_edge.specs.Hearing.{AreTakenOut}
use Rattle.provider_edge.specs.Lists.{seen, worked}
use Rattle.provider_edge.proofs.edge.Edge.octets.Goals as goal

pub returns-in_default-clause-step : goal.returns-in_default-clause-step
returns-in_default-clause-step g c = λ told agrees.
    let none = taken_none c.args.peer ((seen c.args.self.now).peering c.args.peer.0) (seen c.args.self.now) (seen c.take_held.new.self)
    (subst (AreTakenOut c.args.peer ((seen c.args.self.now).peering c.args.peer.0) (seen c.args.self.now) (seen c.take_held.new.self)) c.in_default.is c.take_held.ensures.step) in
    subst (λ (e : Effects). worked c.take_held.new.self (g.L.Link.calls c.args.work.now.link.now) (record e { idle = true })
    ≡ octets_input c.args.self.now.plan told c.args.peer c.args.octets.now ((seen c.args.self.now).peering c.args.peer.0)
    (beginning (seen c.args.self.now) (g.L.Link.calls c.args.work.now.link.now))) (sym c.requires.fresh)
    (octets_idle c.args.self.now c.take_held.new.self told c.args.peer c.args.octets.now (g.L.Link.calls c.args.work.now.link.now) none.0 none.1)

pub returns-clause-goes : goal.returns-clause-goes
returns-clause-goes g c = takes_by g.L.Link.calls _ _ _ _
    (keeps_both c.args.self.now c.take_held.new.self c.mend.new.self c.take_held.ensures.keeps
    (keeps_both c.take_held.new.self c.hear.new.self c.mend.new.self c.in_ok-hear.ensures.goes.keeps c.mend.ensures.goes.keeps))
    (work_both g.L.Link.calls _ _ _ c.in_ok-hear.ensures.goes.on c.mend.ensures.goes.on)

pub returns-clause-step : goal.returns-clause-step
returns-clause-step g c = map_on _ _ c.mend.result
    (λ step told agrees.
    let taken = subst (AreTakenOut c.args.peer ((seen c.args.self.now).peering c.args.peer.0) (seen c.args.self.now) (seen c.take_held.new.self)) c.in-Some.is c.take_held.ensures.step in
    let keeps = keeps_both c.args.self.now c.take_held.new.self c.hear.new.self c.take_held.ensures.keeps c.in_ok-hear.ensures.goes.keeps in
    octets_done c.args.self.now told c.args.peer c.args.octets.now c.in-Some.held (seen c.take_held.new.self) (g.L.Link.calls c.args.work.now.link.now) _ taken
    (mended c.args.self.now c.hear.new.self c.mend.new.self told (g.L.Link.calls c.hear.new.work.link.now)
    (g.L.Link.calls c.mend.new.work.link.now) c.hear.new.work.effects.now.list c.mend.new.work.effects.now
    (hears_on c.args.self.now.plan told c.args.peer c.args.octets.now ((seen c.args.self.now).peering c.args.peer.0)
    (beginning (seen c.args.self.now) (g.L.Link.calls c.args.work.now.link.now)))
    (c.mend.ensures.goes.on.idle ∙ (c.in_ok-hear.ensures.goes.on.idle ∙ ap (λ (e : Effects). e.idle) c.requires.fresh)) keeps
    (held_heard c.args.self.now.plan told c.args.peer c.args.octets.now c.in-Some.held (seen c.args.self.now) (seen c.take_held.new.self) (g.L.Link.calls c.args.work.now.link.now) []
    (at_work g.L.Link.calls c.hear.new.self c.hear.new.work) taken
    (subst (λ (e : Effects). at_work g.L.Link.calls c.hear.new.self c.hear.new.work
    ≡ hears c.args.self.now.plan told c.args.peer (c.in-Some.held ++ c.args.octets.now) (at_edge (seen c.take_held.new.self) (g.L.Link.calls c.args.work.now.link.now) e.list)) c.requires.fresh
    (subst (λ (p : Plan). at_work g.L.Link.calls c.hear.new.self c.hear.new.work
    ≡ hears p told c.args.peer (c.in-Some.held ++ c.args.octets.now) (at_work g.L.Link.calls c.take_held.new.self c.args.work.now)) c.take_held.ensures.keeps.plan
    (c.in_ok-hear.ensures.step told (agrees_before told _ _ c.mend.ensures.goes.on.calls agrees))))
    ∙ ap (hears_on c.args.self.now.plan told c.args.peer c.args.octets.now ((seen c.args.self.now).peering c.args.peer.0)) (begun (seen c.args.self.now) (g.L.Link.calls c.args.work.now.link.now)))
    (step told agrees)))
    c.mend.ensures.step

pub returns-in_default-clause-goes : goal.returns-in_default-clause-goes
returns-in_default-clause-goes g c = record { keeps = c.take_held.ensures.keeps; link = refl; effects = refl; calls = goes_nowhere (g.L.Link.calls c.args.work.now.link.now) }

pub returns-in_err-hear-clause-goes : goal.returns-in_err-hear-clause-goes
returns-in_err-hear-clause-goes g c = takes_by g.L.Link.calls _ _ _ _
    (keeps_both c.args.self.now c.take_held.new.self c.hear.new.self c.take_held.ensures.keeps c.hear.ensures.goes.keeps) c.hear.ensures.goes.on
