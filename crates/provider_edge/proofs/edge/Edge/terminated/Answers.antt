-- An unbound end drops what came. With a control word that decides; without one a TTL that ends here is verified where the end has picked
-- that, and else a frame enters.
use Rattle.std.proofs.Common.{◌∙◌, ap, not, sym}
use Rattle.net_base.specs.plan.Places.{wire_row}
use Rattle.pw_signalling.specs.End.{EndState}
use Rattle.pw_ends.specs.Ends.{end_in, place_of}
use Rattle.peer_dialogue.proofs.SettleLemmas.{map_on}
use Rattle.provider_edge.proofs.PacketLemmas.{bound_read, by_row, ttl_ends, ttl_goes_on, unbound_end, with_word, without_word}
use Rattle.provider_edge.specs.AtWork.{at_work}
use Rattle.provider_edge.specs.Lists.{seen}
use Rattle.provider_edge.proofs.edge.Edge.terminated.Goals as goal

pub returns-then-is_none-clause-step : goal.returns-then-is_none-clause-step
returns-then-is_none-clause-step g c = map_on _ _ c.drop_for.result
    (λ gave. λ told agrees.
    unbound_end c.args.self.now.plan told (place_of c.args.self.now.ends c.args.slot) c.args.ttl (wire_row c.args.self.now.plan (place_of c.args.self.now.ends c.args.slot).wire)
    (end_in c.args.self.now.ends c.args.slot).remote (not c.is_none.result) c.args.payload.now (seen c.args.self.now) (g.L.Link.calls c.args.work.now.link.now) c.args.work.now.effects.now.list _
    (bound_read c.remote.result c.is_none.result (end_in c.args.self.now.ends c.args.slot).remote c.is_none.ensures
    (c.remote.ensures.remote ∙ ap (λ (e : EndState). e.remote) c.end_in.ensures.end)) (ap not c.if-is_none.true) gave)
    c.drop_for.ensures

pub returns-then-offer_at-clause-step : goal.returns-then-offer_at-clause-step
returns-then-offer_at-clause-step g c = map_on _ _ c.with_word.result
    (λ step. λ told agrees.
    by_row c.args.self.now told c.args.slot c.args.ttl (not c.is_none.result) c.offer_at.result c.args.payload.now
    (g.L.Link.calls c.args.work.now.link.now) c.args.work.now.effects.now.list _ c.offer_at.ensures.within
    (bound_read c.remote.result c.is_none.result (end_in c.args.self.now.ends c.args.slot).remote c.is_none.ensures
    (c.remote.ensures.remote ∙ ap (λ (e : EndState). e.remote) c.end_in.ensures.end)) (ap not c.if-is_none.false) c.offer_at.ensures.row
    (λ row binding at held. with_word c.args.self.now.plan told row (place_of c.args.self.now.ends c.args.slot) binding c.args.ttl c.offer_at.result.cword c.args.payload.now
    (at_work g.L.Link.calls c.args.self.now c.args.work.now) _ c.if-offer_at.true (step told row binding agrees at held)))
    c.with_word.ensures.step

pub returns-then-expires-clause-step : goal.returns-then-expires-clause-step
returns-then-expires-clause-step g c = map_on _ _ c.verify.result
    (λ step. λ told agrees.
    by_row c.args.self.now told c.args.slot c.args.ttl (not c.is_none.result) c.offer_at.result c.args.payload.now
    (g.L.Link.calls c.args.work.now.link.now) c.args.work.now.effects.now.list _ c.offer_at.ensures.within
    (bound_read c.remote.result c.is_none.result (end_in c.args.self.now.ends c.args.slot).remote c.is_none.ensures
    (c.remote.ensures.remote ∙ ap (λ (e : EndState). e.remote) c.end_in.ensures.end)) (ap not c.if-is_none.false) c.offer_at.ensures.row
    (λ row binding at held. without_word c.args.self.now.plan told row (place_of c.args.self.now.ends c.args.slot) binding c.args.ttl c.offer_at.result.cword c.args.payload.now
    (at_work g.L.Link.calls c.args.self.now c.args.work.now) _ c.if-offer_at.false
    (ttl_ends c.args.self.now told row (place_of c.args.self.now.ends c.args.slot) binding
    (end_in c.args.self.now.ends c.args.slot).remote c.args.ttl c.channel_at.result c.args.payload.now (g.L.Link.calls c.args.work.now.link.now) c.args.work.now.effects.now.list _
    (c.channel_at.ensures row at) held (sym c.expires.ensures ∙ c.if-expires.true) (step told row binding agrees at held))))
    c.verify.ensures.step

pub returns-clause-step : goal.returns-clause-step
returns-clause-step g c = map_on _ _ c.enter.result
    (λ step. λ told agrees.
    by_row c.args.self.now told c.args.slot c.args.ttl (not c.is_none.result) c.offer_at.result c.args.payload.now
    (g.L.Link.calls c.args.work.now.link.now) c.args.work.now.effects.now.list _ c.offer_at.ensures.within
    (bound_read c.remote.result c.is_none.result (end_in c.args.self.now.ends c.args.slot).remote c.is_none.ensures
    (c.remote.ensures.remote ∙ ap (λ (e : EndState). e.remote) c.end_in.ensures.end)) (ap not c.if-is_none.false) c.offer_at.ensures.row
    (λ row binding at held. without_word c.args.self.now.plan told row (place_of c.args.self.now.ends c.args.slot) binding c.args.ttl c.offer_at.result.cword c.args.payload.now
    (at_work g.L.Link.calls c.args.self.now c.args.work.now) _ c.if-offer_at.false
    (ttl_goes_on c.args.self.now told row (place_of c.args.self.now.ends c.args.slot) binding
    (end_in c.args.self.now.ends c.args.slot).remote c.args.ttl c.channel_at.result c.args.payload.now (g.L.Link.calls c.args.work.now.link.now) c.args.work.now.effects.now.list _
    (c.channel_at.ensures row at) held (sym c.expires.ensures ∙ c.if-expires.false) (step told row agrees at))))
    c.enter.ensures.step
