-- An edge before its first input.
use Rattle.std.specs.Prelude.{◌≡◌, [], false}
use Rattle.net_base.specs.declared.plan.Plan.{Plan}
use Rattle.net_base.specs.declared.plan.places.EdgeId.{EdgeId}
use Rattle.pw_ends.specs.Ends.{EndLists, seen_ends}
use Rattle.pw_signalling.specs.End.{fresh}
use Rattle.edge_forwarding.specs.Forwarding.{ForwardingLists, IsNewForwarding}
use Rattle.edge_model.specs.EndPlaces.{end_places}
use Rattle.edge_model.specs.State.{empty_edge, first_label}
use Rattle.provider_edge.specs.Lists.{EdgeLists, seen}
use Rattle.provider_edge.specs.Spokes.{IsNewSpokes, SpokeLists}

-- ends of an edge of the plan that have taken no input
pub record AreNewEnds (plan : Plan) (me : EdgeId) (ends : EndLists) : Type 0 where
  pub places : ends.places ≡ end_places plan me
  pub idle : seen_ends ends ≡ (λ wire peer. fresh)
  pub next : ends.labels.next ≡ first_label plan me
  pub kept : ends.labels.kept ≡ []

-- ends, spokes and bridges of it
pub record AreNewParts (plan : Plan) (me : EdgeId) (ends : EndLists) (spokes : SpokeLists) (forwarding : ForwardingLists) : Type 0 where
  pub untold : AreNewEnds plan me ends
  pub unchosen : IsNewSpokes plan me spokes
  pub unheard : IsNewForwarding plan me forwarding

-- an edge of the plan before its first input
pub record IsNewEdge (plan : Plan) (me : EdgeId) (edge : EdgeLists) : Type 0 where
  pub plan_is : edge.plan ≡ plan
  pub place_is : edge.me ≡ me
  pub empty : seen edge ≡ empty_edge plan me
  pub going : edge.stopped ≡ false
