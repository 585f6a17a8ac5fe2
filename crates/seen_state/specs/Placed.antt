-- Entries that speak of what is there.
use Rattle.std.specs.Prelude.{◌<◌}
use Rattle.net_base.specs.declared.plan.Plan.{Plan}
use Rattle.net_base.specs.declared.trace.entry.Entry.{Entry}
use Rattle.net_base.specs.declared.trace.entry.Entry.TheVariants as entry
use Rattle.net_base.specs.declared.trace.event.Event.{Event}
use Rattle.net_base.specs.declared.trace.event.Event.TheVariants as event
use Rattle.seen_state.specs.declared.sizes.Sizes.{Sizes}
use Rattle.seen_state.specs.SeenEdges.{sizes_of}

-- the edges whose ends an event changes, and the circuit that it puts on or off, are there
abbrev pub IsEventWithin : Sizes → Event → Type 0
IsEventWithin sizes (event.Connect from to) = (from.0 < sizes.edges) × (to.0 < sizes.edges)
IsEventWithin sizes (event.Deliver from to count) = (from.0 < sizes.edges) × (to.0 < sizes.edges)
IsEventWithin sizes (event.Lose edge peer) = (edge.0 < sizes.edges) × (peer.0 < sizes.edges)
IsEventWithin sizes (event.Restart edge) = edge.0 < sizes.edges
IsEventWithin sizes event.Tick = Unit {0}
IsEventWithin sizes (event.Frame circuit octets) = Unit {0}
IsEventWithin sizes (event.Arrive packet) = Unit {0}
IsEventWithin sizes (event.Discard packet) = Unit {0}
IsEventWithin sizes (event.Again packet) = Unit {0}
IsEventWithin sizes (event.Wire edge wire on) = Unit {0}
IsEventWithin sizes (event.Circuit circuit on) = circuit.0 < sizes.circuits
IsEventWithin sizes (event.Status edge wire bits) = Unit {0}
IsEventWithin sizes (event.Priority edge wire priority) = Unit {0}
IsEventWithin sizes (event.Ping edge wire) = Unit {0}

-- the edges and wires of which an entry tells something, and the circuit at which a frame leaves, are there
abbrev pub IsWithin : Sizes → Entry → Type 0
IsWithin sizes (entry.Did event) = IsEventWithin sizes event
IsWithin sizes (entry.Said from to octets) = (from.0 < sizes.edges) × (to.0 < sizes.edges)
IsWithin sizes (entry.Session edge peer state) = (edge.0 < sizes.edges) × (peer.0 < sizes.edges)
IsWithin sizes (entry.Wire edge wire down) = (edge.0 < sizes.edges) × (wire.0 < sizes.wires)
IsWithin sizes (entry.Left circuit origin hops octets) = circuit.0 < sizes.circuits
IsWithin sizes other = Unit {0}

-- in a plan
abbrev pub IsPlaced : Plan → Entry → Type 0
IsPlaced plan entry = IsWithin (sizes_of plan) entry
