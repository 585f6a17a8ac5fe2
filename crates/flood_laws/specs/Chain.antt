-- In a quiet service what is told along a wire is one chain from terminal edge to terminal edge.
use Rattle.std.specs.Prelude.{◌≡◌, ℕ, true, false, Some, None}
use Rattle.edge_model.specs.Labels.{label_to_give}
use Rattle.net_base.specs.declared.plan.Plan.{Plan}
use Rattle.net_base.specs.declared.plan.places.EdgeId.{EdgeId}
use Rattle.net_base.specs.declared.plan.places.WireId.{WireId}
use Rattle.net_base.specs.declared.plan.wire_plan.WirePlan.{WirePlan}
use Rattle.net_base.specs.plan.Paths.{edge_address, joins, mate}
use Rattle.pw_signalling.specs.declared.told.Told.{Told}
use Rattle.pw_signalling.specs.End.{Advertised, Idle}
use Rattle.pw_stitch.specs.Passing.{own_point, past_point}
use Rattle.edge_model.specs.EndPlaces.{is_terminal}
use Rattle.edge_model.specs.Mend.{is_up_with}
use Rattle.edge_model.specs.State.{EdgeState}
use Rattle.network_model.specs.State.{NetworkState}

-- an edge advertises this content to a neighbour of a wire
pub record Advertises (network : NetworkState) (wire : WireId) (me to : EdgeId) (content : Told) : Type 0 where
  pub label : ℕ
  pub is : ((network.edges me.0).ends wire.0 to.0).local ≡ Advertised label content

-- what a switching point makes of what a neighbour tells: the same, its status too, behind its own point (RFC 6073 section 7)
abbrev pub told_on : Plan → WirePlan → (me from : EdgeId) → Told → Told
told_on plan row me from content = past_point (own_point row.pw_id (edge_address plan me) (edge_address plan from)) content

-- What an edge advertises to a neighbour has come from the terminal edge behind it, edge by edge: a terminal edge tells of itself, and
-- a switching point what its other neighbour advertises to it.
pub data IsChain (plan : Plan) (network : NetworkState) (wire : WireId) (row : WirePlan) : EdgeId → EdgeId → Told → Type 0 where
  BeginsAt : (me to : EdgeId) (content : Told) → is_terminal row me ≡ true → Advertises network wire me to content → IsChain plan network wire row me to content
  GoesOnAt : (from me to : EdgeId) (before content : Told) → mate row me.0 from.0 ≡ Some to → IsChain plan network wire row from me before → content ≡ told_on plan row me from before → Advertises network wire me to content
      → IsChain plan network wire row me to content

-- an edge advertises this content to a neighbour, or is idle, since it has no label left
pub data TellsOn (edge : EdgeState) (wire : WireId) (to : EdgeId) (content : Told) : Type 0 where
  Tells : (label : ℕ) → (edge.ends wire.0 to.0).local ≡ Advertised label content → TellsOn edge wire to content
  HasNoLabel : (edge.ends wire.0 to.0).local ≡ Idle false → label_to_give edge ≡ None → TellsOn edge wire to content

-- Whatever is advertised along the wire ends such a chain; and the chain goes on at each switching point at which the wire is on and the
-- session with the next neighbour is up.
pub record TellsInChains (plan : Plan) (network : NetworkState) (wire : WireId) (row : WirePlan) : Type 0 where
  pub chained : (me to : EdgeId) (content : Told) → joins me.0 to.0 row.path ≡ true → Advertises network wire me to content → IsChain plan network wire row me to content
  pub goes_on : (from me to : EdgeId) (content : Told) → mate row me.0 from.0 ≡ Some to → Advertises network wire from me content
      → (network.edges me.0).wire_on wire.0 ≡ true → is_up_with ((network.edges me.0).peering to.0) ≡ true → TellsOn (network.edges me.0) wire to (told_on plan row me from content)
