-- A stretch of a run in which nothing but frames and packets comes.
use Rattle.std.specs.Prelude.{not, ◌&&◌, ◌==◌, ◌≡◌, Bool, true, false}
use Rattle.std.specs.List.{list_any}
use Rattle.net_base.specs.declared.plan.Plan.{Plan}
use Rattle.net_base.specs.declared.plan.places.ServiceId.{ServiceId}
use Rattle.net_base.specs.declared.trace.event.Event.{Event}
use Rattle.net_base.specs.declared.trace.event.Event.TheVariants.{Connect, Deliver, Lose, Restart, Tick, Frame, Arrive, Discard, Again, Wire, Circuit, Status, Priority, Ping}
use Rattle.net_base.specs.plan.Places.{wire_row}
use Rattle.network_model.specs.declared.packet.Packet.{Packet}
use Rattle.network_model.specs.Calm.{is_calm}
use Rattle.network_model.specs.State.{NetworkState}
use Rattle.network_model.specs.Window.{is_row_of_service}
use Rattle.address_laws.specs.Points.{Points}
use Rattle.address_laws.specs.Sites.{Sites}

-- a packet of the service is under way, and no ping or answer
abbrev pub is_packet_of : Plan → ServiceId → Packet → Bool
is_packet_of plan service packet = not (packet.origin == 0) && is_row_of_service service (wire_row plan packet.wire)

-- such a packet is under way
abbrev pub has_packets_of : Plan → NetworkState → ServiceId → Bool
has_packets_of plan network service = list_any (is_packet_of plan service) network.under_way

-- the state in which a stretch begins: the service is calm, each learned address points to its site, and no packet of the
-- service is under way
pub record StartsRight (plan : Plan) (network : NetworkState) (service : ServiceId) (site : Sites) : Type 0 where
  pub calm : is_calm plan network service ≡ true
  pub points : Points plan network service site
  pub free : has_packets_of plan network service ≡ false

-- a frame enters, or a packet arrives, is lost or is repeated
abbrev pub is_of_stretch : Event → Bool
is_of_stretch (Frame circuit octets) = true
is_of_stretch (Arrive number) = true
is_of_stretch (Discard number) = true
is_of_stretch (Again number) = true
is_of_stretch (Connect from to) = false
is_of_stretch (Deliver from to count) = false
is_of_stretch (Lose me peer) = false
is_of_stretch (Restart me) = false
is_of_stretch Tick = false
is_of_stretch (Wire me wire on) = false
is_of_stretch (Circuit circuit on) = false
is_of_stretch (Status me wire bits) = false
is_of_stretch (Priority me wire priority) = false
is_of_stretch (Ping me wire) = false
