-- Each session is a tick later, and no other is still to be lost.
use Rattle.std.proofs.Common.{rules, ◌≡◌, ◌<◌, ◌∙◌, None, Option, List, ap, false, length, slice_index_or, subst, arith}
use Rattle.net_base.specs.declared.plan.places.EdgeId.{EdgeId}
use Rattle.edge_model.specs.Session.{losing_ends}
use Rattle.edge_model.specs.State.{Peering, is_there}
use Rattle.edge_model.specs.Tick.{ticks_sessions}
use Rattle.peer_dialogue.specs.Peering.{at_edge}
use Rattle.provider_edge.specs.contracts.edge.Edge.{the_view}
use Rattle.provider_edge.proofs.ListLemmas.{lost_already}
use Rattle.provider_edge.proofs.TickLemmas.{holds_passed, quiet_tick}
use Rattle.provider_edge.specs.Lists.{EdgeLists, seen}
use Rattle.provider_edge.specs.Sessions.{all_later}
use Rattle.provider_edge.proofs.edge.Edge.pass_quietly.Goals as goal

pub invariant_of-self : goal.invariant_of-self
invariant_of-self c =
    let v : EdgeLists = the_view c.self.inside in
    holds_passed v c.pass_quietly.new.self c.pass_quietly.result c.pass_quietly.ensures.later c.pass_quietly.ensures.stays
    (ap (λ (e : EdgeLists). e.stopped) c.self.view_is ∙ c.requires.working) c.self.invariant

pub returns-clause-step : goal.returns-clause-step
returns-clause-step c = λ passed told calls out.
    let v : EdgeLists = the_view c.self.inside in
    let untold : (peer : EdgeId) → peer.0 < length v.plan.edges → is_there (slice_index_or v.peerings peer.0 None) ≡ false → losing_ends peer (seen v) ≡ seen v =
    λ peer within absent.
    lost_already v peer
    (c.are_untold_but.ensures.untold (search rules) peer (c.standing.ensures peer.0 (omega (arith, within, c.self.invariant.checked.limits.edges)) absent))
    (c.are_untold_but.ensures.kept (search rules) peer (c.standing.ensures peer.0 (omega (arith, within, c.self.invariant.checked.limits.edges)) absent)) in
    ap (λ (l : List (Option Peering)). at_edge (seen (record v { peerings = l })) calls out) (c.pass_quietly.ensures.later passed)
    ∙ subst (λ (n : EdgeLists). at_edge (seen (record v { peerings = all_later 1 v.peerings })) calls out ≡ ticks_sessions told 0 (length n.plan.edges) (at_edge (seen n) calls out)) c.self.view_is
    (quiet_tick told v calls out c.self.invariant.peerings (c.pass_quietly.ensures.quiet passed) untold)
