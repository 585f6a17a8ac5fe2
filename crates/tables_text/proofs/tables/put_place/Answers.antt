-- The edge at a place stands in its part of the network.
use Rattle.std.proofs.Common.{sym, subst}
use Rattle.net_base.specs.plan.Accepted.{IsWithinLimits}
use Rattle.tables_text.proofs.TableLemmas.{edge_put}
use Rattle.tables_text.proofs.tables.put_place.Goals as goal

pub put_edge-requires : goal.put_edge-requires
put_edge-requires g c = subst IsWithinLimits (sym c.in-Some.ensures.plan) c.requires.checked.limits

pub returns-in-Some : goal.returns-in-Some
returns-in-Some g c = edge_put c.put_edge.result _ _ _ _ _ _ _ _ c.in-Some.ensures.plan c.in-Some.ensures.place c.in-Some.ensures.part c.put_edge.ensures

pub returns-in-None : goal.returns-in-None
returns-in-None g c = let told = c.in-None.ensures.some.1 c.requires.place in absurd (cc)
