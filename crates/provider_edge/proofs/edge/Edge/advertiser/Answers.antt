-- The ends stand where the plan has them.
use Rattle.std.proofs.Common.{◌≡◌, ◌∙◌, option_map, subst}
use Rattle.edge_model.specs.Packet.{advertiser}
use Rattle.pw_ends.specs.Ends.{place_of}
use Rattle.provider_edge.specs.contracts.edge.Edge.{the_view}
use Rattle.provider_edge.proofs.PacketLemmas.{advertiser_in}
use Rattle.provider_edge.specs.Lists.{EdgeLists, seen}
use Rattle.provider_edge.proofs.edge.Edge.advertiser.Goals as goal

pub returns-clause-named : goal.returns-clause-named
returns-clause-named c =
    subst (λ (l : EdgeLists). option_map (place_of l.ends) c.advertiser.result ≡ advertiser l.plan (seen l) c.args.label) c.self.view_is
    (c.advertiser.ensures.place ∙ advertiser_in (the_view c.self.inside) c.args.label c.self.invariant.places)
