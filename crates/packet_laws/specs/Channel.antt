-- The control channel that the two terminal ends of a wire pick (RFC 5085 section 7).
use Rattle.std.specs.Prelude.{◌≡◌, nat_eq, false, true, Some, None}
use Rattle.net_base.specs.declared.plan.Plan.{Plan}
use Rattle.net_base.specs.declared.plan.places.EdgeId.{EdgeId}
use Rattle.net_base.specs.declared.plan.wire_plan.WirePlan.{WirePlan}
use Rattle.net_base.specs.plan.Paths.{expected, joins, offer_of}
use Rattle.net_base.specs.plan.Places.{wire_row}
use Rattle.pw_signalling.specs.declared.binding.Binding.{Binding}
use Rattle.edge_model.specs.declared.end_place.EndPlace.{EndPlace}
use Rattle.edge_model.specs.Echo.{channel_under}
use Rattle.edge_model.specs.EndPlaces.{is_terminal}
use Rattle.edge_model.specs.Role.{down_at}
use Rattle.edge_model.specs.State.{end_at}
use Rattle.network_model.specs.State.{NetworkState, edge_at}

-- an edge's end of a wire of which it is a terminal edge
pub record IsTerminalEnd (plan : Plan) (me : EdgeId) (place : EndPlace) (row : WirePlan) : Type 0 where
  pub is : wire_row plan place.wire ≡ Some row
  pub joined : joins me.0 place.peer.0 row.path ≡ true
  pub terminal : is_terminal row me ≡ true

-- such an end, which is bound
pub record IsBoundEnd (plan : Plan) (network : NetworkState) (me : EdgeId) (place : EndPlace) (row : WirePlan) (binding : Binding) : Type 0 where
  pub is : wire_row plan place.wire ≡ Some row
  pub joined : joins me.0 place.peer.0 row.path ≡ true
  pub terminal : is_terminal row me ≡ true
  pub bound : (end_at (edge_at network me) place).remote ≡ Some binding

-- Of the two terminal ends of a wire.
pub record SharesChannel (plan : Plan) (network : NetworkState) : Type 0 where
  -- where both are bound, and both edges use a control word or neither does, they pick the same type
  pub same : (row : WirePlan) (me other : EdgeId) (place beyond : EndPlace) (binding held : Binding) → nat_eq me.0 other.0 ≡ false
      → IsBoundEnd plan network me place row binding → IsBoundEnd plan network other beyond row held → place.wire ≡ beyond.wire
      → (offer_of row me.0).cword ≡ (offer_of row other.0).cword → channel_under row me binding ≡ channel_under row other held
  -- one that forwards uses a control word where the edge at the other end does
  pub word : (row : WirePlan) (me : EdgeId) (place : EndPlace) → IsTerminalEnd plan me place row → down_at plan (edge_at network me) place ≡ None
      → (expected plan row place.peer.0 me.0).offer.cword ≡ (offer_of row me.0).cword
