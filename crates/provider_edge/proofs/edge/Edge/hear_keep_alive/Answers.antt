-- The sender is heard, and then the message.
use Rattle.peer_dialogue.proofs.SettleLemmas.{map_on}
use Rattle.peer_dialogue.proofs.SpeakerLemmas.{agrees_before}
use Rattle.provider_edge.proofs.AtWorkLemmas.{works_both}
use Rattle.provider_edge.proofs.MessageLemmas.{alive_heard}
use Rattle.provider_edge.specs.AtWork.{at_work}
use Rattle.provider_edge.proofs.edge.Edge.hear_keep_alive.Goals as goal

pub returns-clause-goes : goal.returns-clause-goes
returns-clause-goes g c = works_both g.L.Link.calls _ _ _ _ _ _ c.in_ok-happens.ensures.goes c.hear_message.ensures.goes

pub returns-clause-step : goal.returns-clause-step
returns-clause-step g c = map_on _ _ c.hear_message.result
    (λ heard told agrees.
    alive_heard c.args.self.now.plan c.happens.new.self.plan told c.args.peer c.args.sender c.args.id
    (at_work g.L.Link.calls c.args.self.now c.args.work.now) (at_work g.L.Link.calls c.happens.new.self c.happens.new.work) _
    c.in_ok-happens.ensures.goes.keeps.plan (c.in_ok-happens.ensures.step told (agrees_before told _ _ c.hear_message.ensures.goes.on.calls agrees)) (heard told agrees))
    c.hear_message.ensures.step
