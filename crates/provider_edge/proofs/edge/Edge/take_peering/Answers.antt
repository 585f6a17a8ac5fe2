-- Of a peer past the plan nothing is kept. Else what stood at its place is taken, and the edge has no marks.
use Rattle.std.proofs.Common.{◌≡◌, ◌∙◌, List, None, Option, length-set, slice_set, ap, sym, subst, arith, refl}
use Rattle.edge_model.specs.State.{Peering, with_peering}
use Rattle.provider_edge.specs.contracts.edge.Edge.{the_view}
use Rattle.provider_edge.proofs.BoundsLemmas.{few_ended}
use Rattle.provider_edge.proofs.ListLemmas.{holds_peerings, peering_past, peering_read, seen_past, seen_put}
use Rattle.provider_edge.specs.Invariant.{IsEdge}
use Rattle.provider_edge.specs.Lists.{EdgeLists, seen}
use Rattle.provider_edge.proofs.edge.Edge.take_peering.Goals as goal

pub returns-then-peer-len-clause-taken : goal.returns-then-peer-len-clause-taken
returns-then-peer-len-clause-taken c =
    subst (λ (n : EdgeLists). None ≡ (seen n).peering c.args.peer.0) c.self.view_is
    (sym (peering_past (the_view c.self.inside) c.args.peer (omega (arith, c.if-peer-len.true, c.len.ensures))))

pub returns-then-peer-len-clause-step : goal.returns-then-peer-len-clause-step
returns-then-peer-len-clause-step c =
    subst (λ (n : EdgeLists). seen n ≡ with_peering c.args.peer None (seen n)) c.self.view_is
    (seen_past (the_view c.self.inside) c.args.peer (omega (arith, c.if-peer-len.true, c.len.ensures)))

pub invariant_of-self : goal.invariant_of-self
invariant_of-self c =
    let v : EdgeLists = the_view c.self.inside in
    subst (λ (l : List (Option Peering)). IsEdge (record v { peerings = l; marks = None })) (sym c.take.ensures.rest)
    (holds_peerings v (slice_set v.peerings c.args.peer.0 None) (length-set v.peerings c.args.peer.0 None)
    (few_ended v.peerings c.args.peer.0 None refl c.self.invariant.held)
    (ap (λ (e : EdgeLists). e.stopped) c.self.view_is ∙ c.requires.working) c.self.invariant)

pub returns-clause-taken : goal.returns-clause-taken
returns-clause-taken c =
    subst (λ (n : EdgeLists). c.take.result ≡ (seen n).peering c.args.peer.0) c.self.view_is
    (peering_read (the_view c.self.inside) c.args.peer c.take.result c.take.ensures.taken)

pub returns-clause-step : goal.returns-clause-step
returns-clause-step c =
    let v : EdgeLists = the_view c.self.inside in
    ap (λ (l : List (Option Peering)). seen (record v { peerings = l; marks = None })) c.take.ensures.rest
    ∙ subst (λ (n : EdgeLists). seen (record v { peerings = slice_set v.peerings c.args.peer.0 None; marks = None }) ≡ with_peering c.args.peer None (seen n)) c.self.view_is
    (seen_put v c.args.peer None (omega (arith, c.if-peer-len.false, c.len.ensures)))
