-- Which events deliver octets of a connection.
use Rattle.std.specs.Prelude.{Bool, true, false}
use Rattle.net_base.specs.declared.trace.event.Event.{Event}
use Rattle.net_base.specs.declared.trace.event.Event.TheVariants.{Connect, Deliver, Lose, Restart, Tick, Frame, Arrive, Discard, Again, Wire, Circuit, Status, Priority, Ping}

-- octets of a connection are delivered
abbrev pub is_delivery : Event → Bool
is_delivery (Deliver from to count) = true
is_delivery (Connect from to) = false
is_delivery (Lose me peer) = false
is_delivery (Restart me) = false
is_delivery Tick = false
is_delivery (Frame circuit octets) = false
is_delivery (Arrive number) = false
is_delivery (Discard number) = false
is_delivery (Again number) = false
is_delivery (Wire me wire on) = false
is_delivery (Circuit circuit on) = false
is_delivery (Status me wire bits) = false
is_delivery (Priority me wire priority) = false
is_delivery (Ping me wire) = false
