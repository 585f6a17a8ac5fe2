-- The forwarding's ports are the edge's; the port of a wire whose end forwards is open, since the edge is in sync.
use Rattle.std.proofs.Common.{◌≡◌, ◌∙◌, ◌<◌, true, length, position, ap, sym, subst}
use Rattle.std.specs.Prelude.{IfSome}
use Rattle.net_base.specs.declared.plan.Plan.{Plan}
use Rattle.hvpls_spokes.specs.Port.{is_wire_port, ports_of}
use Rattle.edge_model.specs.declared.end_place.EndPlace.{EndPlace}
use Rattle.edge_model.specs.Ends.{is_up}
use Rattle.edge_model.specs.Role.{down_at}
use Rattle.edge_model.specs.Synced.{InSync}
use Rattle.pw_ends.specs.Ends.{place_of}
use Rattle.edge_forwarding.specs.Forwarding.{open_ports}
use Rattle.provider_edge.specs.contracts.edge.Edge.{the_view}
use Rattle.provider_edge.proofs.ForwardLemmas.{ports_in}
use Rattle.provider_edge.proofs.SyncLemmas.{if_found, wire_port_opens}
use Rattle.provider_edge.specs.Lists.{EdgeLists, seen}
use Rattle.provider_edge.proofs.edge.Edge.port_at.Goals as goal

pub port_of-requires : goal.port_of-requires
port_of-requires c = subst (λ (p : Plan). c.args.service.0 < length p.services) (sym c.self.invariant.plan)
    (subst (λ (n : EdgeLists). c.args.service.0 < length n.plan.services) (sym c.self.view_is) c.requires.service)

pub returns-clause-port : goal.returns-clause-port
returns-clause-port c =
    let v : EdgeLists = the_view c.self.inside in
    subst (λ (n : EdgeLists). c.port_of.result ≡ position (is_wire_port (place_of n.ends c.args.slot).wire) (ports_of n.plan c.args.service n.me)) c.self.view_is
    (c.port_of.ensures
    ∙ (ap (λ (place : EndPlace). position (is_wire_port place.wire) (ports_of v.forwarding.plan c.args.service v.forwarding.me)) c.place-place.ensures.place
    ∙ ap (λ l. position (is_wire_port (place_of v.ends c.args.slot).wire) l) (ports_in v c.args.service c.self.invariant)))

pub returns-clause-on : goal.returns-clause-on
returns-clause-on c =
    let v : EdgeLists = the_view c.self.inside in
    subst (λ (n : EdgeLists). IfSome c.port_of.result (λ p. open_ports n.forwarding c.args.service p ≡ true)) c.self.view_is
    (if_found (λ p. open_ports v.forwarding c.args.service p ≡ true) c.port_of.result (λ p found.
    wire_port_opens v c.args.slot c.args.service p c.self.invariant (subst (λ (n : EdgeLists). InSync n.plan (seen n)) (sym c.self.view_is) (c.requires.synced))
    (subst (λ (n : EdgeLists). c.args.slot < length n.ends.places) (sym c.self.view_is) c.requires.slot)
    (subst (λ (n : EdgeLists). (place_of n.ends c.args.slot).terminal ≡ true) (sym c.self.view_is) c.requires.terminal)
    (subst (λ (n : EdgeLists). is_up (down_at n.plan (seen n) (place_of n.ends c.args.slot)) ≡ true) (sym c.self.view_is) (c.requires.up))
    (ap (λ l. position (is_wire_port (place_of v.ends c.args.slot).wire) l) (sym (ports_in v c.args.service c.self.invariant))
    ∙ (ap (λ (place : EndPlace). position (is_wire_port place.wire) (ports_of v.forwarding.plan c.args.service v.forwarding.me)) (sym c.place-place.ensures.place) ∙ (sym c.port_of.ensures ∙ found)))))
