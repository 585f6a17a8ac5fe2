-- What becomes of an echo packet at the edge that it reaches (RFC 5085 section 3).
use Rattle.std.specs.Prelude.{◌≡◌}
use Rattle.std.specs.List.{AllByRecursion}
use Rattle.net_base.specs.declared.plan.Plan.{Plan}
use Rattle.net_base.specs.declared.plan.places.WireId.{WireId}
use Rattle.edge_model.specs.declared.effect.Effect.{Effect}
use Rattle.edge_model.specs.declared.effect.Effect.TheVariants.{Left, Sent}
use Rattle.network_model.specs.declared.packet.Packet.{Packet}
use Rattle.network_model.specs.Packet.{packet_work}
use Rattle.network_model.specs.State.{NetworkState, edge_at}

-- no circuit lets a frame out, and what is sent goes on the wire
abbrev pub StaysOnWire : WireId → Effect → Type 0
StaysOnWire wire (Left circuit octets) = ⊥
StaysOnWire wire (Sent peer on came octets) = on ≡ wire
StaysOnWire wire effect = Unit {0}

-- no bridge hears the packet: the edge is as before, and what it gives out stays on the packet's wire
pub record IsNoFrame (plan : Plan) (network : NetworkState) (packet : Packet) : Type 0 where
  pub unheard : (packet_work plan network packet).edge ≡ edge_at network packet.to
  pub stays : AllByRecursion (StaysOnWire packet.wire) (packet_work plan network packet).effects
