-- What an edge makes of one input, for any answers of its link.
use Rattle.net_base.specs.declared.plan.Plan.{Plan}
use Rattle.net_base.specs.plan.Places.{circuit_row}
use Rattle.pw_messages.specs.LinkAnswers.{Answers}
use Rattle.edge_model.specs.declared.input.Input.{Input}
use Rattle.edge_model.specs.declared.input.Input.TheVariants.{Connected, Octets, Lost, Restart, Tick, Frame, Packet, Wire, Circuit, Status, Priority, Ping}
use Rattle.edge_model.specs.Circuit.{circuit_input}
use Rattle.edge_model.specs.Connection.{connected_input, lost_input, restart_input}
use Rattle.edge_model.specs.Frame.{frame_input}
use Rattle.edge_model.specs.Hear.{octets_input}
use Rattle.edge_model.specs.Packet.{packet_input}
use Rattle.edge_model.specs.Ping.{ping_input}
use Rattle.edge_model.specs.Tick.{tick_input}
use Rattle.edge_model.specs.Wire.{priority_input, status_input, wire_input}
use Rattle.edge_model.specs.Work.{Work}

-- A row for each input, and none for the rest
abbrev pub edge_step : Plan → Answers → Input → Work → Work
edge_step plan told (Connected peer) work = connected_input plan told peer work
edge_step plan told (Octets peer bytes) work = octets_input plan told peer bytes.now (work.edge.peering peer.0) work
edge_step plan told (Lost peer) work = lost_input plan told peer work
edge_step plan told Restart work = restart_input work
edge_step plan told Tick work = tick_input plan told work
edge_step plan told (Frame circuit bytes) work = frame_input plan told circuit bytes.now (circuit_row plan circuit) work
edge_step plan told (Packet bytes) work = packet_input plan told bytes.now work
edge_step plan told (Circuit circuit on) work = circuit_input plan told circuit on (circuit_row plan circuit) work
edge_step plan told (Wire wire on) work = wire_input plan told wire on work
edge_step plan told (Status wire bits) work = status_input plan told wire bits work
edge_step plan told (Priority wire priority) work = priority_input plan told wire priority work
edge_step plan told (Ping wire) work = ping_input plan told wire work
