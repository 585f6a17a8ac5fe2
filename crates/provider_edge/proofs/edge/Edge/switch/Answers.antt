-- To the mate, by the end beside it.
use Rattle.std.proofs.Common.{◌≡◌, ◌∙◌, Option, ap, subst, sym}
use Rattle.pw_signalling.specs.declared.binding.Binding.{Binding}
use Rattle.pw_signalling.specs.End.{EndState, fresh}
use Rattle.pw_stitch.specs.Swap.{label_onward}
use Rattle.edge_model.specs.declared.end_place.EndPlace.{EndPlace}
use Rattle.pw_ends.specs.Ends.{end_in, place_of, seen_ends}
use Rattle.peer_dialogue.proofs.SettleLemmas.{map_on}
use Rattle.provider_edge.proofs.SwitchLemmas.{alone, no_onward, not_onward, onward, sent_onward}
use Rattle.provider_edge.specs.AtWork.{at_work}
use Rattle.provider_edge.specs.Lists.{EdgeLists, seen}
use Rattle.provider_edge.proofs.edge.Edge.switch.Goals as goal

pub returns-in_default-clause-step : goal.returns-in_default-clause-step
returns-in_default-clause-step g c = λ told agrees.
    alone c.args.self.now told c.args.octets.now c.args.entry.now (place_of c.args.self.now.ends c.args.slot) c.mate_at.result
    (g.L.Link.calls c.args.work.now.link.now) c.args.work.now.effects.now.list
    c.mate_at.ensures.within c.mate_at.ensures.mate c.in_default.is

pub returns-in_default-beside-clause-step : goal.returns-in_default-beside-clause-step
returns-in_default-beside-clause-step g c = map_on _ _ c.drop_for.result
    (λ gave. λ told agrees.
    let untold : seen_ends c.args.self.now.ends c.place_at.result.wire.0 c.in-Some.mate.0 ≡ fresh =
    subst (λ (n : EdgeLists). seen_ends n.ends c.place_at.result.wire.0 c.in-Some.mate.0 ≡ fresh) c.self.view_is (c.beside.ensures.untold c.in_default-beside.is) in
    no_onward c.args.self.now told c.args.octets.now c.args.entry.now (place_of c.args.self.now.ends c.args.slot) c.mate_at.result
    (g.L.Link.calls c.args.work.now.link.now) c.args.work.now.effects.now.list
    c.mate_at.ensures.within c.mate_at.ensures.mate c.in-Some.mate _ c.in-Some.is
    (subst (λ (p : EndPlace). seen_ends c.args.self.now.ends p.wire.0 c.in-Some.mate.0 ≡ fresh) c.place_at.ensures.place untold) gave)
    c.drop_for.ensures

-- the packet goes on by that end, under the label that is bound there, or is dropped
pub returns-in-Err-clause-step : goal.returns-in-Err-clause-step
returns-in-Err-clause-step g c = map_on _ _ c.drop_for-in-Err.result
    (λ gave. λ told agrees.
    onward c.args.self.now told c.args.octets.now c.args.entry.now (place_of c.args.self.now.ends c.args.slot) c.mate_at.result
    (g.L.Link.calls c.args.work.now.link.now) c.args.work.now.effects.now.list
    c.mate_at.ensures.within c.mate_at.ensures.mate c.in-Some.mate c.in-Some-beside.onward _ c.in-Some.is
    (subst (λ (n : EdgeLists). (place_of n.ends c.in-Some-beside.onward).wire ≡ c.place_at.result.wire) c.self.view_is c.in-Some-beside.ensures.wire
    ∙ ap (λ (p : EndPlace). p.wire) c.place_at.ensures.place)
    (subst (λ (n : EdgeLists). (place_of n.ends c.in-Some-beside.onward).peer ≡ c.in-Some.mate) c.self.view_is c.in-Some-beside.ensures.peer)
    (not_onward told c.args.octets.now c.args.entry.now (place_of c.args.self.now.ends c.in-Some-beside.onward) (place_of c.args.self.now.ends c.in-Some-beside.onward).peer
    (label_onward (end_in c.args.self.now.ends c.in-Some-beside.onward).remote c.args.entry.now.ttl) c.in-Err.why c.cause.result
    (seen c.args.self.now) (g.L.Link.calls c.args.work.now.link.now) c.args.work.now.effects.now.list _
    (ap (λ (b : Option Binding). label_onward b c.args.entry.now.ttl) (sym (c.remote.ensures.remote ∙ ap (λ (e : EndState). e.remote) c.end_in.ensures.end))
    ∙ (sym c.label_onward.ensures.label ∙ c.in-Err.is))
    c.cause.ensures gave))
    c.drop_for-in-Err.ensures

pub returns-clause-step : goal.returns-clause-step
returns-clause-step g c = map_on _ _ c.send.result
    (λ step. λ told agrees.
    onward c.args.self.now told c.args.octets.now c.args.entry.now (place_of c.args.self.now.ends c.args.slot) c.mate_at.result
    (g.L.Link.calls c.args.work.now.link.now) c.args.work.now.effects.now.list
    c.mate_at.ensures.within c.mate_at.ensures.mate c.in-Some.mate c.in-Some-beside.onward _ c.in-Some.is
    (subst (λ (n : EdgeLists). (place_of n.ends c.in-Some-beside.onward).wire ≡ c.place_at.result.wire) c.self.view_is c.in-Some-beside.ensures.wire
    ∙ ap (λ (p : EndPlace). p.wire) c.place_at.ensures.place)
    (subst (λ (n : EdgeLists). (place_of n.ends c.in-Some-beside.onward).peer ≡ c.in-Some.mate) c.self.view_is c.in-Some-beside.ensures.peer)
    (sent_onward told c.args.octets.now c.args.entry.now c.place_at-2.result (place_of c.args.self.now.ends c.in-Some-beside.onward) c.in-Ok.label
    (label_onward (end_in c.args.self.now.ends c.in-Some-beside.onward).remote c.args.entry.now.ttl) c.in_ok-packet.packet (at_work g.L.Link.calls c.args.self.now c.args.work.now) _
    c.place_at-2.ensures.place
    (ap (λ (b : Option Binding). label_onward b c.args.entry.now.ttl) (sym (c.remote.ensures.remote ∙ ap (λ (e : EndState). e.remote) c.end_in.ensures.end))
    ∙ (sym c.label_onward.ensures.label ∙ c.in-Ok.is))
    c.in_ok-packet.ensures (step told agrees)))
    c.send.ensures.step
