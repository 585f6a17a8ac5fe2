use Rattle.peer_dialogue.specs.PwMessage.{numbered}
use Rattle.peer_dialogue.proofs.SettleLemmas.{map_ok}
use Rattle.peer_dialogue.proofs.SpeakerLemmas.{message_by_octets}
use Rattle.peer_dialogue.proofs.speaker.Speaker.say.Goals as goal

pub returns-clause-step : goal.returns-clause-step
returns-clause-step g c = map_ok _ _ c.put_octets.result
    (λ taken step told s held edge agrees between. message_by_octets told c.args.peer c.args.self.now.peers
    (numbered c.args.message.now) c.args.self.now.next_id c.in_ok-octets.octets held s edge _ c.args.work.now.effects.now.list _
    c.in_ok-octets.ensures between (step told s held edge agrees))
    c.put_octets.ensures.step
