use Rattle.std.proofs.Common.{◌≡◌, ◌<◌, ◌∙◌, List, None, Option, ap, length, length-set, slice_set, subst, sym, arith}
use Rattle.std.proofs.lemmas.List.Elements.{All-set}
use Rattle.edge_model.specs.State.{Peering, with_peering}
use Rattle.provider_edge.specs.Bounds.{HoldsFew}
use Rattle.provider_edge.specs.contracts.edge.Edge.{the_view}
use Rattle.provider_edge.proofs.ListLemmas.{holds_peerings, seen_put}
use Rattle.provider_edge.specs.Invariant.{IsEdge}
use Rattle.provider_edge.specs.Lists.{EdgeLists, seen}
use Rattle.provider_edge.proofs.edge.Edge.put_peering.Goals as goal

pub put-requires : goal.put-requires
put-requires c =
    let within : c.args.peer.0 < length (the_view c.self.inside).plan.edges = subst (λ (n : EdgeLists). c.args.peer.0 < length n.plan.edges) (sym c.self.view_is) c.requires.within in
    omega (arith, within, c.self.invariant.peerings)

pub invariant_of-self : goal.invariant_of-self
invariant_of-self c =
    let v : EdgeLists = the_view c.self.inside in
    subst (λ (l : List (Option Peering)). IsEdge (record v { peerings = l; marks = None })) (sym c.put.ensures)
    (holds_peerings v (slice_set v.peerings c.args.peer.0 c.args.kept) (length-set v.peerings c.args.peer.0 c.args.kept)
    (All-set HoldsFew v.peerings c.args.peer.0 c.args.kept c.held_in.ensures.few c.self.invariant.held)
    (ap (λ (e : EdgeLists). e.stopped) c.self.view_is ∙ c.requires.working) c.self.invariant)

pub returns-clause-step : goal.returns-clause-step
returns-clause-step c =
    let v : EdgeLists = the_view c.self.inside in
    let within : c.args.peer.0 < length v.plan.edges = subst (λ (n : EdgeLists). c.args.peer.0 < length n.plan.edges) (sym c.self.view_is) c.requires.within in
    ap (λ (l : List (Option Peering)). seen (record v { peerings = l; marks = None })) c.put.ensures
    ∙ subst (λ (n : EdgeLists). seen (record v { peerings = slice_set v.peerings c.args.peer.0 c.args.kept; marks = None }) ≡ with_peering c.args.peer (c.args.kept) (seen n)) c.self.view_is
    (seen_put v c.args.peer c.args.kept (omega (arith, within, c.self.invariant.peerings)))
