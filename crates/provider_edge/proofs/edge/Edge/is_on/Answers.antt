use Rattle.std.proofs.Common.{◌≡◌, ◌<◌, length, sym, subst}
use Rattle.net_base.specs.declared.plan.Plan.{Plan}
use Rattle.edge_model.specs.State.{is_on}
use Rattle.provider_edge.specs.contracts.edge.Edge.{the_view}
use Rattle.provider_edge.proofs.ForwardLemmas.{circuit_read}
use Rattle.provider_edge.specs.Lists.{EdgeLists, seen}
use Rattle.provider_edge.proofs.edge.Edge.is_on.Goals as goal

pub is_on-requires : goal.is_on-requires
is_on-requires c = subst (λ (p : Plan). c.args.circuit.0 < length p.circuits) (sym c.self.invariant.plan)
    (subst (λ (n : EdgeLists). c.args.circuit.0 < length n.plan.circuits) (sym c.self.view_is) c.requires)

pub returns : goal.returns
returns c =
    subst (λ (n : EdgeLists). c.is_on.result ≡ is_on (seen n) c.args.circuit) c.self.view_is
    (circuit_read (the_view c.self.inside) c.args.circuit c.is_on.result c.is_on.ensures)
