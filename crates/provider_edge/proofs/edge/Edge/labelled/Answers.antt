-- A reserved label, an entry that is not at the bottom, and a label of no end are dropped; at a switching point the packet is switched, at
-- a terminal end taken.
use Rattle.edge_model.specs.Packet.{advertiser}
use Rattle.pw_ends.specs.Ends.{place_of}
use Rattle.peer_dialogue.proofs.SettleLemmas.{map_on}
use Rattle.provider_edge.proofs.PacketLemmas.{above_bottom, labelled_here, named_none, named_some, owned_between, owned_none, owned_some, owned_terminal, reserved}
use Rattle.provider_edge.specs.AtWork.{at_work}
use Rattle.provider_edge.specs.Lists.{seen}
use Rattle.provider_edge.proofs.edge.Edge.labelled.Goals as goal

pub returns-then-entry-lt-LEAST_LABEL-clause-step : goal.returns-then-entry-lt-LEAST_LABEL-clause-step
returns-then-entry-lt-LEAST_LABEL-clause-step g c = map_on _ _ c.drop_for.result
    (λ gave. λ told agrees. reserved c.args.self.now.plan told c.args.octets.now c.args.entry.now (seen c.args.self.now)
    (g.L.Link.calls c.args.work.now.link.now) c.args.work.now.effects.now.list _ c.if-entry-lt-LEAST_LABEL.true gave)
    c.drop_for.ensures

pub returns-then-not-entry-clause-step : goal.returns-then-not-entry-clause-step
returns-then-not-entry-clause-step g c = map_on _ _ c.drop_for-then-not-entry.result
    (λ gave. λ told agrees. above_bottom c.args.self.now.plan told c.args.octets.now c.args.entry.now (seen c.args.self.now)
    (g.L.Link.calls c.args.work.now.link.now) c.args.work.now.effects.now.list _ c.if-entry-lt-LEAST_LABEL.false c.if-not-entry.true gave)
    c.drop_for-then-not-entry.ensures

pub returns-in_default-clause-step : goal.returns-in_default-clause-step
returns-in_default-clause-step g c = map_on _ _ c.drop_for-in_default.result
    (λ gave. λ told agrees.
    labelled_here c.args.self.now told c.args.octets.now c.args.entry.now
    (g.L.Link.calls c.args.work.now.link.now) c.args.work.now.effects.now.list _ c.if-entry-lt-LEAST_LABEL.false c.if-not-entry.false
    (owned_none c.args.self.now.plan told c.args.octets.now c.args.entry.now (advertiser c.args.self.now.plan (seen c.args.self.now) c.args.entry.now.label) (seen c.args.self.now)
    (g.L.Link.calls c.args.work.now.link.now) c.args.work.now.effects.now.list _
    (named_none (place_of c.args.self.now.ends) c.advertiser.result _ c.advertiser.ensures.named c.in_default.is) gave))
    c.drop_for-in_default.ensures

pub returns-then-not-place-clause-step : goal.returns-then-not-place-clause-step
returns-then-not-place-clause-step g c = map_on _ _ c.switch.result
    (λ step. λ told agrees.
    labelled_here c.args.self.now told c.args.octets.now c.args.entry.now
    (g.L.Link.calls c.args.work.now.link.now) c.args.work.now.effects.now.list _ c.if-entry-lt-LEAST_LABEL.false c.if-not-entry.false
    (owned_some c.args.self.now.plan told c.args.octets.now c.args.entry.now (advertiser c.args.self.now.plan (seen c.args.self.now) c.args.entry.now.label)
    (place_of c.args.self.now.ends c.in-Some.slot) (at_work g.L.Link.calls c.args.self.now c.args.work.now) _
    (named_some (place_of c.args.self.now.ends) c.advertiser.result c.in-Some.slot _ c.advertiser.ensures.named c.in-Some.is)
    (owned_between c.args.self.now.plan told c.args.octets.now c.args.entry.now (place_of c.args.self.now.ends c.in-Some.slot) c.place_at-place.result
    (at_work g.L.Link.calls c.args.self.now c.args.work.now) _ c.place_at-place.ensures.place c.if-not-place.true (step told agrees))))
    c.switch.ensures.step

pub returns-clause-step : goal.returns-clause-step
returns-clause-step g c = map_on _ _ c.terminated.result
    (λ step. λ told agrees.
    labelled_here c.args.self.now told c.args.octets.now c.args.entry.now
    (g.L.Link.calls c.args.work.now.link.now) c.args.work.now.effects.now.list _ c.if-entry-lt-LEAST_LABEL.false c.if-not-entry.false
    (owned_some c.args.self.now.plan told c.args.octets.now c.args.entry.now (advertiser c.args.self.now.plan (seen c.args.self.now) c.args.entry.now.label)
    (place_of c.args.self.now.ends c.in-Some.slot) (at_work g.L.Link.calls c.args.self.now c.args.work.now) _
    (named_some (place_of c.args.self.now.ends) c.advertiser.result c.in-Some.slot _ c.advertiser.ensures.named c.in-Some.is)
    (owned_terminal c.args.self.now told c.args.octets.now c.without_entry.result.now c.args.entry.now c.in-Some.slot c.place_at-place.result
    (g.L.Link.calls c.args.work.now.link.now) c.args.work.now.effects.now.list _ c.place_at-place.ensures.place c.if-not-place.false c.without_entry.ensures (step told agrees))))
    c.terminated.ensures.step
