-- An empty payload is too short; one of the associated channel is verified, and any other enters as a frame.
use Rattle.std.proofs.Common.{◌∙◌, sym}
use Rattle.pw_ends.specs.Ends.{end_in, place_of}
use Rattle.peer_dialogue.proofs.SettleLemmas.{map_on}
use Rattle.provider_edge.proofs.PacketLemmas.{word_channel, word_frame, word_short}
use Rattle.provider_edge.specs.AtWork.{at_work}
use Rattle.provider_edge.specs.Lists.{seen}
use Rattle.provider_edge.proofs.edge.Edge.with_word.Goals as goal

pub returns-then-is_empty-clause-step : goal.returns-then-is_empty-clause-step
returns-then-is_empty-clause-step g c = map_on _ _ c.drop_for.result
    (λ gave. λ told row binding agrees at held.
    word_short c.args.self.now.plan told row (place_of c.args.self.now.ends c.args.slot) binding c.args.behind_label.now (seen c.args.self.now)
    (g.L.Link.calls c.args.work.now.link.now) c.args.work.now.effects.now.list _ (sym c.is_empty.ensures ∙ c.if-is_empty.true) gave)
    c.drop_for.ensures

pub returns-then-is_channel-clause-step : goal.returns-then-is_channel-clause-step
returns-then-is_channel-clause-step g c = map_on _ _ c.verify_in.result
    (λ step. λ told row binding agrees at held.
    word_channel c.args.self.now.plan told row (place_of c.args.self.now.ends c.args.slot) binding (end_in c.args.self.now.ends c.args.slot).remote c.args.behind_label.now
    (at_work g.L.Link.calls c.args.self.now c.args.work.now) _
    (sym c.is_empty.ensures ∙ c.if-is_empty.false) (sym c.is_channel.ensures ∙ c.if-is_channel.true) held (step told row agrees at))
    c.verify_in.ensures.step

pub returns-clause-step : goal.returns-clause-step
returns-clause-step g c = map_on _ _ c.enter.result
    (λ step. λ told row binding agrees at held.
    word_frame c.args.self.now.plan told row (place_of c.args.self.now.ends c.args.slot) binding c.args.behind_label.now (at_work g.L.Link.calls c.args.self.now c.args.work.now) _
    (sym c.is_empty.ensures ∙ c.if-is_empty.false) (sym c.is_channel.ensures ∙ c.if-is_channel.false) (step told row agrees at))
    c.enter.ensures.step
