-- An edge restarts: it forgets all but its ticks, what was set of its circuits and wires, and the label that it gives next.
use Rattle.std.proofs.Common.{◌≡◌, ◌∙◌, ℕ, true, List, [], Option, None, map, ap, sym, subst}
use Rattle.std.proofs.lemmas.List.{length-map}
use Rattle.pw_signalling.specs.End.{fresh}
use Rattle.edge_model.specs.State.{EdgeState, Peering, with_learned, without_ends, without_peerings}
use Rattle.edge_forwarding.specs.Forwarding.{ForwardingLists, KeepsForwarding, with_forwarding, without_told}
use Rattle.peer_dialogue.specs.Peering.{gone}
use Rattle.pw_ends.specs.Ends.{EndLists, seen_ends}
use Rattle.provider_edge.proofs.BoundsLemmas.{few_gone}
use Rattle.provider_edge.proofs.ForwardLemmas.{holds_forwarding, seen_forwarding}
use Rattle.edge_model.specs.Labels.{keeping_all}
use Rattle.provider_edge.proofs.ListLemmas.{LeavesAll, ends_forgotten, holds_forgotten, holds_peerings, seen_gone}
use Rattle.provider_edge.specs.Invariant.{IsEdge}
use Rattle.provider_edge.specs.Lists.{EdgeLists, seen}
use Rattle.provider_edge.specs.Pings.{unpinged}
use Rattle.provider_edge.specs.Spokes.{SpokeLists, unchosen}

-- what becomes of the parts of an edge
pub record AreForgotten (v : EdgeLists) (kept : List (Option Peering)) (slots : EndLists) (counts : List ℕ) (choices : SpokeLists) (closed cleared : ForwardingLists) : Type 0 where
  pub peerings : kept ≡ map gone v.peerings
  pub places : slots.places ≡ v.ends.places
  pub ends : seen_ends slots ≡ (λ wire peer. fresh)
  pub next : slots.labels.next ≡ v.ends.labels.next
  pub labels : LeavesAll v.ends slots
  pub pings : counts ≡ map unpinged v.pings
  pub spokes : choices ≡ record v.spokes { chosen = map unchosen v.spokes.chosen }
  pub closes : KeepsForwarding v.forwarding closed
  pub untold : (edge : EdgeState) → with_forwarding closed edge ≡ without_told (with_forwarding v.forwarding edge)
  pub clears : KeepsForwarding closed cleared
  pub unlearned : (edge : EdgeState) → with_forwarding cleared edge ≡ with_learned (λ service. []) (with_forwarding closed edge)

-- an edge beside which no session stands
abbrev alone : EdgeLists → EdgeLists
alone v = record v { peerings = map gone v.peerings; marks = None }

holds_alone : (v : EdgeLists) → v.stopped ≡ true → IsEdge v → IsEdge (alone v)
holds_alone v working is = holds_peerings v (map gone v.peerings) (length-map v.peerings gone) (few_gone v.peerings) working is

pub restart_holds : (v : EdgeLists) (peerings : List (Option Peering)) (ends : EndLists) (pings : List ℕ) (spokes : SpokeLists) (told new : ForwardingLists) → v.stopped ≡ true
    → IsEdge v → AreForgotten v peerings ends pings spokes told new
    → IsEdge (record v { peerings = peerings; ends = ends; pings = pings; spokes = spokes; forwarding = new; marks = None })
restart_holds v peerings ends pings spokes told new working is are =
    subst (λ (kept : List (Option Peering)). IsEdge (record v { peerings = kept; ends = ends; pings = pings; spokes = spokes; forwarding = new; marks = None })) (sym are.peerings)
    (holds_forwarding (record (alone v) { ends = ends; pings = pings; spokes = spokes; forwarding = told; marks = None }) new are.clears working
    (holds_forgotten (alone v) ends pings spokes told are.places are.pings are.spokes are.closes working (holds_alone v working is)))

pub restart_seen : (v : EdgeLists) (peerings : List (Option Peering)) (ends : EndLists) (pings : List ℕ) (spokes : SpokeLists) (told new : ForwardingLists) → v.stopped ≡ true
    → IsEdge v → AreForgotten v peerings ends pings spokes told new
    → seen (record v { peerings = peerings; ends = ends; pings = pings; spokes = spokes; forwarding = new; marks = None })
    ≡ with_learned (λ service. []) (without_ends (keeping_all (without_peerings (seen v))))
restart_seen v peerings ends pings spokes told new working is are =
    ap (λ (kept : List (Option Peering)). seen (record v { peerings = kept; ends = ends; pings = pings; spokes = spokes; forwarding = new; marks = None })) are.peerings
    ∙ (seen_forwarding (with_learned (λ service. [])) (record (alone v) { ends = ends; pings = pings; spokes = spokes; forwarding = told; marks = None }) new
    (holds_forgotten (alone v) ends pings spokes told are.places are.pings are.spokes are.closes working (holds_alone v working is)) are.clears are.unlearned
    ∙ ap (with_learned (λ service. []))
    (ends_forgotten (alone v) ends pings spokes told working (holds_alone v working is) are.places are.pings are.spokes are.closes are.ends are.next are.labels are.untold
    ∙ ap (λ (e : EdgeState). without_ends (keeping_all e)) (seen_gone v)))
