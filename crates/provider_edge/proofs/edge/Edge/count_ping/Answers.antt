-- The next number is written at the wire's place; that unsettles no end, so the invariant stands.
use Rattle.std.proofs.Common.{◌≡◌, ◌<◌, ◌∙◌, ℕ, length, length-set, slice_set, ap, sym, subst, arith}
use Rattle.edge_model.specs.Ping.{following_ping}
use Rattle.edge_model.specs.State.{EdgeState, with_next_ping}
use Rattle.provider_edge.specs.contracts.edge.Edge.{the_view}
use Rattle.std.specs.Prelude.{IfSome}
use Rattle.provider_edge.proofs.ListLemmas.{holds_pinged, seen_next_ping}
use Rattle.provider_edge.proofs.TidyLemmas.{tidy_pinged}
use Rattle.provider_edge.specs.Lists.{EdgeLists, seen}
use Rattle.provider_edge.specs.Tidy.{IsTidy}
use Rattle.provider_edge.proofs.edge.Edge.count_ping.Goals as goal

pub invariant_of-self : goal.invariant_of-self
invariant_of-self c =
    let v : EdgeLists = the_view c.self.inside in
    let within : c.args.wire.0 < length v.plan.wires = subst (λ (n : EdgeLists). c.args.wire.0 < length n.plan.wires) (sym c.self.view_is) c.requires.within in
    holds_pinged v (slice_set v.pings c.args.wire.0 c.following_ping.result) (length-set v.pings c.args.wire.0 c.following_ping.result)
    (ap (λ (e : EdgeLists). e.stopped) c.self.view_is ∙ c.requires.working)
    (subst (λ (e : EdgeState). IfSome v.marks (IsTidy v.plan e)) (sym (seen_next_ping v c.args.wire c.following_ping.result (omega (arith, within, c.self.invariant.each_ping))))
    (tidy_pinged v.plan (seen v) c.args.wire c.following_ping.result v.marks c.self.invariant.tidy))
    c.self.invariant

pub returns-clause-step : goal.returns-clause-step
returns-clause-step c =
    let within : c.args.wire.0 < length (the_view c.self.inside).plan.wires = subst (λ (n : EdgeLists). c.args.wire.0 < length n.plan.wires) (sym c.self.view_is) c.requires.within in
    subst (λ (n : EdgeLists). seen (record (the_view c.self.inside) { pings = slice_set (the_view c.self.inside).pings c.args.wire.0 c.following_ping.result })
    ≡ with_next_ping c.args.wire c.following_ping.result (seen n)) c.self.view_is
    (seen_next_ping (the_view c.self.inside) c.args.wire c.following_ping.result (omega (arith, within, c.self.invariant.each_ping)))
    ∙ ap (λ (n : ℕ). with_next_ping c.args.wire n (seen c.args.self.now)) (c.following_ping.ensures ∙ ap following_ping c.next_ping.ensures)
