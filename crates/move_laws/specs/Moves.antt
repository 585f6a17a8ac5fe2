-- A spoke edge may move to another one of its spokes.
use Rattle.std.specs.Prelude.{Bool, false}
use Rattle.net_base.specs.declared.plan.Plan.{Plan}
use Rattle.net_base.specs.declared.plan.places.ServiceId.{ServiceId}
use Rattle.net_base.specs.declared.trace.event.Event.{Event}
use Rattle.net_base.specs.declared.trace.event.Event.TheVariants.{Connect, Deliver, Lose, Restart, Tick, Frame, Arrive, Discard, Again, Wire, Circuit, Status, Priority, Ping}
use Rattle.net_base.specs.plan.Places.{wire_row}
use Rattle.edge_model.specs.Spokes.{is_spoke_row}

-- the priority or the failure bits of a spoke of the service are set at its spoke edge
abbrev pub is_move : Plan → ServiceId → Event → Bool
is_move plan service (Priority edge wire priority) = is_spoke_row service edge (wire_row plan wire)
is_move plan service (Status edge wire bits) = is_spoke_row service edge (wire_row plan wire)
is_move plan service (Connect from to) = false
is_move plan service (Deliver from to count) = false
is_move plan service (Lose me peer) = false
is_move plan service (Restart me) = false
is_move plan service Tick = false
is_move plan service (Frame circuit octets) = false
is_move plan service (Arrive number) = false
is_move plan service (Discard number) = false
is_move plan service (Again number) = false
is_move plan service (Wire me wire on) = false
is_move plan service (Circuit circuit on) = false
is_move plan service (Ping me wire) = false
