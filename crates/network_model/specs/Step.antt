-- One event of the network.
use Rattle.std.specs.Prelude.{◌∷◌}
use Rattle.net_base.specs.declared.plan.Plan.{Plan}
use Rattle.net_base.specs.declared.trace.event.Event.{Event}
use Rattle.net_base.specs.declared.trace.event.Event.TheVariants.{Connect, Deliver, Lose, Restart, Tick, Frame, Arrive, Discard, Again, Wire, Circuit, Status, Priority, Ping}
use Rattle.net_base.specs.declared.trace.entry.Entry.TheVariants.{Did}
use Rattle.net_base.specs.plan.Places.{circuit_row}
use Rattle.network_model.specs.Absorb.{Stepped}
use Rattle.network_model.specs.Circuit.{circuit_event}
use Rattle.network_model.specs.Connection.{connect_event, deliver_event, lose_event, restart_event}
use Rattle.network_model.specs.Frame.{frame_event}
use Rattle.network_model.specs.Packet.{again_event, arrive_event, discard_event, packet_at}
use Rattle.network_model.specs.Ping.{ping_event}
use Rattle.network_model.specs.State.{NetworkState}
use Rattle.network_model.specs.Tick.{tick_event}
use Rattle.network_model.specs.Wire.{priority_event, status_event, wire_event}

-- A row for each event, and none for the rest
abbrev pub brings : Plan → Event → NetworkState → Stepped
brings plan (Connect from to) network = connect_event plan from to network
brings plan (Deliver from to count) network = deliver_event plan from to count network
brings plan (Lose me peer) network = lose_event plan me peer network
brings plan (Restart me) network = restart_event me network
brings plan Tick network = tick_event plan network
brings plan (Frame circuit octets) network = frame_event plan circuit octets (circuit_row plan circuit) network
brings plan (Circuit circuit on) network = circuit_event plan circuit on (circuit_row plan circuit) network
brings plan (Wire me wire on) network = wire_event plan me wire on network
brings plan (Status me wire bits) network = status_event plan me wire bits network
brings plan (Priority me wire priority) network = priority_event plan me wire priority network
brings plan (Arrive number) network = arrive_event plan (packet_at network number) network
brings plan (Discard number) network = discard_event (packet_at network number) network
brings plan (Again number) network = again_event (packet_at network number) network
brings plan (Ping me wire) network = ping_event plan me wire network

-- an event is told first, and then what it brings about
abbrev pub step : Plan → NetworkState → Event → Stepped
step plan network event = record { state = (brings plan event network).state; entries = Did event ∷ (brings plan event network).entries }
