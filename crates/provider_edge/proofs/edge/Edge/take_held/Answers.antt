-- Of a peer past the plan nothing is kept. Else what was held is taken out where a session stands; octets held unsettle no end.
use Rattle.std.proofs.Common.{◌∙◌, List, [], None, Option, option_map, slice_index_or, ap, sym, subst, arith, refl}
use Rattle.edge_model.specs.State.{Peering}
use Rattle.provider_edge.proofs.HoldingLemmas.{holds_held, seen_held, taken_out}
use Rattle.provider_edge.proofs.ListLemmas.{peering_past, peering_read}
use Rattle.provider_edge.specs.contracts.edge.Edge.{the_view}
use Rattle.provider_edge.specs.Hearing.{AreTakenOut}
use Rattle.provider_edge.specs.Invariant.{IsEdge}
use Rattle.provider_edge.specs.Lists.{EdgeLists, seen}
use Rattle.provider_edge.proofs.edge.Edge.take_held.Goals as goal

pub returns-then-peer-len-clause-step : goal.returns-then-peer-len-clause-step
returns-then-peer-len-clause-step c =
    let v : EdgeLists = the_view c.self.inside in
    subst (λ (n : EdgeLists). AreTakenOut c.args.peer ((seen n).peering c.args.peer.0) (seen n) (seen n) None) c.self.view_is
    (subst (λ (x : Option Peering). AreTakenOut c.args.peer x (seen v) (seen v) None) (sym (peering_past v c.args.peer (omega (arith, c.if-peer-len.true, c.len.ensures)))) (refl, refl))

pub invariant_of-self : goal.invariant_of-self
invariant_of-self c =
    let v : EdgeLists = the_view c.self.inside in
    subst (λ (l : List (Option Peering)). IsEdge (record v { peerings = l })) (sym c.take_held.ensures.rest)
    (holds_held v c.args.peer [] (omega (arith, c.if-peer-len.false, c.len.ensures)) (ap (λ (e : EdgeLists). e.stopped) c.self.view_is ∙ c.requires.working) (omega arith) c.self.invariant)

pub returns-clause-step : goal.returns-clause-step
returns-clause-step c =
    let v : EdgeLists = the_view c.self.inside in
    subst (λ (n : EdgeLists). AreTakenOut c.args.peer ((seen n).peering c.args.peer.0) (seen n) (seen (record v { peerings = c.take_held.new.self })) c.take_held.result) c.self.view_is
    (taken_out c.args.peer c.take_held.result (seen v) (seen (record v { peerings = c.take_held.new.self }))
    (c.take_held.ensures.taken ∙ ap (λ (x : Option Peering). option_map (λ (kept : Peering). kept.held) x) (peering_read v c.args.peer (slice_index_or v.peerings c.args.peer.0 None) refl))
    (ap (λ (l : List (Option Peering)). seen (record v { peerings = l })) c.take_held.ensures.rest
    ∙ seen_held v c.args.peer [] (omega (arith, c.if-peer-len.false, c.len.ensures))))
