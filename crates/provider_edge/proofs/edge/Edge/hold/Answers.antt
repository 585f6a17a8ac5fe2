-- Of a peer past the plan nothing is kept. Else the octets are held where a session stands; octets held unsettle no end.
use Rattle.std.proofs.Common.{◌≡◌, ◌∙◌, List, Option, ap, sym, subst, arith}
use Rattle.edge_model.specs.Hear.{holds}
use Rattle.edge_model.specs.State.{Peering}
use Rattle.peer_dialogue.specs.Peering.{at_edge}
use Rattle.provider_edge.proofs.HoldingLemmas.{holds_held, now_holding, seen_held}
use Rattle.provider_edge.proofs.ListLemmas.{peering_past}
use Rattle.provider_edge.specs.contracts.edge.Edge.{the_view}
use Rattle.provider_edge.specs.Invariant.{IsEdge}
use Rattle.provider_edge.specs.Lists.{EdgeLists, seen}
use Rattle.provider_edge.proofs.edge.Edge.hold.Goals as goal

pub returns-then-peer-len-clause-step : goal.returns-then-peer-len-clause-step
returns-then-peer-len-clause-step c = λ calls out.
    let v : EdgeLists = the_view c.self.inside in
    subst (λ (n : EdgeLists). at_edge (seen n) calls out ≡ holds c.args.peer c.args.held ((seen n).peering c.args.peer.0) (at_edge (seen n) calls out)) c.self.view_is
    (ap (λ (x : Option Peering). holds c.args.peer c.args.held x (at_edge (seen v) calls out)) (sym (peering_past v c.args.peer (omega (arith, c.if-peer-len.true, c.len.ensures)))))

pub invariant_of-self : goal.invariant_of-self
invariant_of-self c =
    let v : EdgeLists = the_view c.self.inside in
    subst (λ (l : List (Option Peering)). IsEdge (record v { peerings = l })) (sym c.hold.ensures)
    (holds_held v c.args.peer c.args.held (omega (arith, c.if-peer-len.false, c.len.ensures)) (ap (λ (e : EdgeLists). e.stopped) c.self.view_is ∙ c.requires.working)
    (omega (arith, c.requires.few)) c.self.invariant)

pub returns-clause-step : goal.returns-clause-step
returns-clause-step c = λ calls out.
    let v : EdgeLists = the_view c.self.inside in
    subst (λ (n : EdgeLists). at_edge (seen (record v { peerings = c.hold.new.self })) calls out
    ≡ holds c.args.peer c.args.held ((seen n).peering c.args.peer.0) (at_edge (seen n) calls out)) c.self.view_is
    (now_holding c.args.peer c.args.held (seen v) (seen (record v { peerings = c.hold.new.self })) calls out
    (ap (λ (l : List (Option Peering)). seen (record v { peerings = l })) c.hold.ensures ∙ seen_held v c.args.peer c.args.held (omega (arith, c.if-peer-len.false, c.len.ensures))))
