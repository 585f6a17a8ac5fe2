-- A ping has both addresses, the wire's number and the next sequence number; without one of the addresses there is none.
use Rattle.std.proofs.Common.{◌≡◌, ◌∙◌, ℕ, Option, Some, ap, refl, sym}
use Rattle.net_values.specs.declared.addr.Addr.{Addr}
use Rattle.edge_model.specs.Ping.{far_address}
use Rattle.provider_edge.specs.Pings.{ping_from}
use Rattle.edge_model.specs.declared.end_place.EndPlace.{EndPlace}
use Rattle.net_base.specs.plan.Paths.{edge_address}
use Rattle.net_base.specs.plan.Places.{wire_row}
use Rattle.pw_ends.specs.Ends.{place_of}
use Rattle.provider_edge.proofs.EchoLemmas.{ping_made}
use Rattle.provider_edge.specs.Lists.{EdgeLists, seen}
use Rattle.provider_edge.proofs.edge.Edge.ping_at.Goals as goal

pub returns-in_err-from : goal.returns-in_err-from
returns-in_err-from c = λ row at.
    let from : c.address_of.result ≡ edge_address c.args.self.now.plan c.args.self.now.me = c.address_of.ensures ∙ ap (λ (n : EdgeLists). edge_address c.args.self.now.plan n.me) c.self.view_is in
    ping_made c.args.self.now (place_of c.args.self.now.ends c.args.slot).wire row _ c.address_of.result _ c.from_residual.result refl from refl
    (c.from_residual.ensures ∙ ap (λ (a : Option Addr). ping_from row ((seen c.args.self.now).next_ping (place_of c.args.self.now.ends c.args.slot).wire.0) a
    (far_address c.args.self.now.plan c.args.self.now.me row)) (sym c.in_err-from.was))

pub returns-in_err-to : goal.returns-in_err-to
returns-in_err-to c = λ row at.
    ping_made c.args.self.now (place_of c.args.self.now.ends c.args.slot).wire row _ (Some c.in_ok-from.from) c.far_address.result c.from_residual-in_err-to.result refl
    (sym c.in_ok-from.was ∙ (c.address_of.ensures ∙ ap (λ (n : EdgeLists). edge_address c.args.self.now.plan n.me) c.self.view_is))
    (c.far_address.ensures row (ap (λ (p : EndPlace). wire_row c.args.self.now.plan p.wire) c.place_at.ensures.place ∙ at))
    (c.from_residual-in_err-to.ensures ∙ ap (λ (a : Option Addr). ping_from row ((seen c.args.self.now).next_ping (place_of c.args.self.now.ends c.args.slot).wire.0)
    (Some c.in_ok-from.from) a) (sym c.in_err-to.was))

pub returns : goal.returns
returns c = λ row at.
    ping_made c.args.self.now (place_of c.args.self.now.ends c.args.slot).wire row c.next_ping.result (Some c.in_ok-from.from) (Some c.in_ok-to.to) _
    (c.next_ping.ensures ∙ ap (λ (p : EndPlace). (seen c.args.self.now).next_ping p.wire.0) c.place_at.ensures.place)
    (sym c.in_ok-from.was ∙ (c.address_of.ensures ∙ ap (λ (n : EdgeLists). edge_address c.args.self.now.plan n.me) c.self.view_is))
    (sym c.in_ok-to.was ∙ c.far_address.ensures row (ap (λ (p : EndPlace). wire_row c.args.self.now.plan p.wire) c.place_at.ensures.place ∙ at))
    (ap (λ (n : ℕ). Some (record { from = c.in_ok-from.from; to = c.in_ok-to.to; number = n; sequence = c.next_ping.result })) (c.ping_number.ensures.row row at))
