-- Behind the alert stands no entry, one that is not at the bottom, or a label: of no end, of a switching point, or of a terminal end.
use Rattle.std.proofs.Common.{◌∙◌, None, Some, Err, ap, sym}
use Rattle.std.proofs.lemmas.Bool.{not-true, not-false}
use Rattle.pw_ends.specs.Ends.{place_of}
use Rattle.peer_dialogue.proofs.SettleLemmas.{map_on}
use Rattle.provider_edge.proofs.PacketLemmas.{alerted_err, alerted_ok, alerts_between, alerts_nowhere, alerts_terminal, at_bottom, behind_same, named_none, named_some, not_bottom}
use Rattle.provider_edge.specs.AtWork.{at_work}
use Rattle.provider_edge.specs.Lists.{seen}
use Rattle.provider_edge.proofs.edge.Edge.alerted.Goals as goal

pub returns-in-Err-clause-step : goal.returns-in-Err-clause-step
returns-in-Err-clause-step g c = map_on _ _ c.drop_for.result
    (λ gave. λ told agrees.
    alerted_err c.args.self.now.plan told c.args.octets.now c.cause.result (seen c.args.self.now) (g.L.Link.calls c.args.work.now.link.now) c.args.work.now.effects.now.list _
    (c.in-Err.ensures.fault ∙ ap Err (sym c.cause.ensures)) gave)
    c.drop_for.ensures

pub returns-then-not-entry-clause-step : goal.returns-then-not-entry-clause-step
returns-then-not-entry-clause-step g c = map_on _ _ c.drop_for-then-not-entry.result
    (λ gave. λ told agrees.
    alerted_ok c.args.self.now.plan told c.args.octets.now c.in-Ok.entry (at_work g.L.Link.calls c.args.self.now c.args.work.now) _ c.in-Ok.ensures.ok
    (not_bottom c.args.self.now.plan told c.args.octets.now c.in-Ok.entry (seen c.args.self.now) (g.L.Link.calls c.args.work.now.link.now) c.args.work.now.effects.now.list _
    (not-true c.in-Ok.entry.bottom c.if-not-entry.true) gave))
    c.drop_for-then-not-entry.ensures

pub returns-in_default-clause-step : goal.returns-in_default-clause-step
returns-in_default-clause-step g c = map_on _ _ c.drop_for-in_default.result
    (λ gave. λ told agrees.
    alerted_ok c.args.self.now.plan told c.args.octets.now c.in-Ok.entry (at_work g.L.Link.calls c.args.self.now c.args.work.now) _ c.in-Ok.ensures.ok
    (at_bottom c.args.self.now told c.args.octets.now c.in-Ok.entry (g.L.Link.calls c.args.work.now.link.now) c.args.work.now.effects.now.list None _
    (not-false c.in-Ok.entry.bottom c.if-not-entry.false)
    (named_none (place_of c.args.self.now.ends) c.advertiser.result _ c.advertiser.ensures.named c.in_default.is)
    (alerts_nowhere c.args.self.now.plan told c.args.octets.now (seen c.args.self.now) (g.L.Link.calls c.args.work.now.link.now) c.args.work.now.effects.now.list _ gave)))
    c.drop_for-in_default.ensures

pub returns-then-not-place_at-clause-step : goal.returns-then-not-place_at-clause-step
returns-then-not-place_at-clause-step g c = map_on _ _ c.drop_for-then-not-place_at.result
    (λ gave. λ told agrees.
    alerted_ok c.args.self.now.plan told c.args.octets.now c.in-Ok.entry (at_work g.L.Link.calls c.args.self.now c.args.work.now) _ c.in-Ok.ensures.ok
    (at_bottom c.args.self.now told c.args.octets.now c.in-Ok.entry (g.L.Link.calls c.args.work.now.link.now) c.args.work.now.effects.now.list
    (Some (place_of c.args.self.now.ends c.in-Some.slot)) _ (not-false c.in-Ok.entry.bottom c.if-not-entry.false)
    (named_some (place_of c.args.self.now.ends) c.advertiser.result c.in-Some.slot _ c.advertiser.ensures.named c.in-Some.is)
    (alerts_between c.args.self.now.plan told _ (place_of c.args.self.now.ends c.in-Some.slot) c.place_at.result (seen c.args.self.now)
    (g.L.Link.calls c.args.work.now.link.now) c.args.work.now.effects.now.list _ c.place_at.ensures.place c.if-not-place_at.true gave)))
    c.drop_for-then-not-place_at.ensures

pub returns-clause-step : goal.returns-clause-step
returns-clause-step g c = map_on _ _ c.verify_in.result
    (λ step. λ told agrees.
    alerted_ok c.args.self.now.plan told c.args.octets.now c.in-Ok.entry (at_work g.L.Link.calls c.args.self.now c.args.work.now) _ c.in-Ok.ensures.ok
    (at_bottom c.args.self.now told c.args.octets.now c.in-Ok.entry (g.L.Link.calls c.args.work.now.link.now) c.args.work.now.effects.now.list
    (Some (place_of c.args.self.now.ends c.in-Some.slot)) _ (not-false c.in-Ok.entry.bottom c.if-not-entry.false)
    (named_some (place_of c.args.self.now.ends) c.advertiser.result c.in-Some.slot _ c.advertiser.ensures.named c.in-Some.is)
    (behind_same c.args.self.now.plan told c.args.octets.now c.without_entry.result.now (Some (place_of c.args.self.now.ends c.in-Some.slot))
    (at_work g.L.Link.calls c.args.self.now c.args.work.now) _ c.without_entry.ensures
    (alerts_terminal c.args.self.now told c.in-Some.slot c.place_at.result c.without_entry.result.now
    (g.L.Link.calls c.args.work.now.link.now) c.args.work.now.effects.now.list _ c.place_at.ensures.place c.place_at.ensures.wire c.if-not-place_at.false
    (λ row at. step told row agrees at)))))
    c.verify_in.ensures.step
