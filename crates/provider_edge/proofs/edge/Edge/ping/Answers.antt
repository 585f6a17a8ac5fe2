-- A wire without a terminal end here, and an end that can ask no request, are idle; else the ping is counted, and its request is sent by
-- that end.
use Rattle.std.proofs.Common.{ap, position, refl, subst, true, sym, ◌∙◌, ◌≡◌}
use Rattle.edge_model.specs.EndPlaces.{is_end_of_wire}
use Rattle.edge_model.specs.Ping.{ping_input}
use Rattle.edge_model.specs.Work.{beginning}
use Rattle.edge_model.specs.declared.effects.Effects.{Effects}
use Rattle.peer_dialogue.specs.Peering.{at_edge}
use Rattle.peer_dialogue.proofs.SpeakerLemmas.{goes_nowhere}
use Rattle.peer_dialogue.proofs.SettleLemmas.{map_on}
use Rattle.pw_ends.specs.Ends.{place_of}
use Rattle.provider_edge.proofs.AtWorkLemmas.{takes_by}
use Rattle.provider_edge.proofs.EchoLemmas.{asked, asks_counted, counted_at, placed_same, unasked, unended}
use Rattle.provider_edge.proofs.EdgeLemmas.{begun, given_out}
use Rattle.provider_edge.proofs.ListLemmas.{keeps_same}
use Rattle.provider_edge.proofs.SlotLemmas.{none_found, slot_found}
use Rattle.provider_edge.specs.Invariant.{IsEdge}
use Rattle.provider_edge.specs.Lists.{EdgeLists, seen, worked}
use Rattle.provider_edge.specs.Pings.{asks_with}
use Rattle.provider_edge.proofs.edge.Edge.ping.Goals as goal

pub returns-in_default-clause-step : goal.returns-in_default-clause-step
returns-in_default-clause-step g c = λ told agrees.
    let is : IsEdge c.args.self.now = subst IsEdge c.self.view_is c.self.invariant in
    subst (λ (e : Effects). worked c.args.self.now (g.L.Link.calls c.args.work.now.link.now) (record e { idle = true })
    ≡ ping_input c.args.self.now.plan told c.args.wire (beginning (seen c.args.self.now) (g.L.Link.calls c.args.work.now.link.now))) (sym c.requires.fresh)
    (unended c.args.self.now told c.args.wire (g.L.Link.calls c.args.work.now.link.now)
    (none_found c.args.self.now (is_end_of_wire c.args.wire) c.terminal.result is
    (c.terminal.ensures.slot ∙ ap (λ (n : EdgeLists). position (is_end_of_wire c.args.wire) n.ends.places) c.self.view_is) c.in_default.is))

pub returns-in_default-2-clause-step : goal.returns-in_default-2-clause-step
returns-in_default-2-clause-step g c = λ told agrees.
    let is : IsEdge c.args.self.now = subst IsEdge c.self.view_is c.self.invariant in
    subst (λ (e : Effects). worked c.args.self.now (g.L.Link.calls c.args.work.now.link.now) (record e { idle = true })
    ≡ ping_input c.args.self.now.plan told c.args.wire (beginning (seen c.args.self.now) (g.L.Link.calls c.args.work.now.link.now))) (sym c.requires.fresh)
    (unasked c.args.self.now told c.args.wire (g.L.Link.calls c.args.work.now.link.now) (place_of c.args.self.now.ends c.in-Some.slot)
    (slot_found c.args.self.now (is_end_of_wire c.args.wire) c.terminal.result c.in-Some.slot is
    (c.terminal.ensures.slot ∙ ap (λ (n : EdgeLists). position (is_end_of_wire c.args.wire) n.ends.places) c.self.view_is) c.in-Some.is)
    (sym c.in_default-2.is ∙ c.in_ok-packet.ensures))

pub returns-in_default-clause-goes : goal.returns-in_default-clause-goes
returns-in_default-clause-goes g c = record { keeps = keeps_same c.args.self.now; link = refl; effects = refl; calls = goes_nowhere (g.L.Link.calls c.args.work.now.link.now) }

pub returns-clause-step : goal.returns-clause-step
returns-clause-step g c = map_on _ _ c.send.result
    (λ step. λ told agrees.
    let is : IsEdge c.args.self.now = subst IsEdge c.self.view_is c.self.invariant in
    asked c.args.self.now told c.args.wire (g.L.Link.calls c.args.work.now.link.now) (place_of c.args.self.now.ends c.in-Some.slot) c.in-Some-2.packet _
    (slot_found c.args.self.now (is_end_of_wire c.args.wire) c.terminal.result c.in-Some.slot is
    (c.terminal.ensures.slot ∙ ap (λ (n : EdgeLists). position (is_end_of_wire c.args.wire) n.ends.places) c.self.view_is) c.in-Some.is)
    (sym c.in-Some-2.is ∙ c.in_ok-packet.ensures)
    (given_out c.count_ping.new.self (g.L.Link.calls c.send.new.work.link.now) c.send.new.work.effects.now (c.send.ensures.goes.idle ∙ ap (λ (e : Effects). e.idle) c.requires.fresh)
    ∙ (asks_counted c.args.self.now c.count_ping.new.self told (place_of c.args.self.now.ends c.in-Some.slot) (place_of c.count_ping.new.self.ends c.in-Some.slot) c.in-Some-2.packet
    (g.L.Link.calls c.args.work.now.link.now) c.args.work.now.effects.now.list _
    (counted_at c.args.self.now c.count_ping.new.self (place_of c.args.self.now.ends c.in-Some.slot) c.place_at.result c.place_at.ensures.place c.count_ping.ensures.step)
    (placed_same c.args.self.now c.count_ping.new.self c.in-Some.slot c.count_ping.ensures.keeps) (step told agrees)
    ∙ ap (asks_with told (place_of c.args.self.now.ends c.in-Some.slot) c.in-Some-2.packet)
    (ap (λ (e : Effects). at_edge (seen c.args.self.now) (g.L.Link.calls c.args.work.now.link.now) e.list) c.requires.fresh ∙ begun (seen c.args.self.now) (g.L.Link.calls c.args.work.now.link.now)))))
    c.send.ensures.step

pub returns-clause-goes : goal.returns-clause-goes
returns-clause-goes g c = takes_by g.L.Link.calls _ _ _ _ c.count_ping.ensures.keeps c.send.ensures.goes
