-- Entries that speak of what is in a plan.
use Rattle.std.specs.Prelude.{◌≤◌}
use Rattle.net_base.specs.declared.plan.Plan.{Plan}
use Rattle.net_base.specs.declared.trace.entry.Entry.{Entry}
use Rattle.net_base.specs.declared.trace.entry.Entry.TheVariants as entry
use Rattle.net_base.specs.declared.trace.event.Event.{Event}
use Rattle.net_base.specs.declared.trace.event.Event.TheVariants as event
use Rattle.net_base.specs.plan.Planned.{IsEventOf}
use Rattle.command_text.specs.declared.command.Command.{Command}
use Rattle.command_text.specs.declared.command.Command.TheVariants as command
use Rattle.report_text.specs.Named.{IsArrival}
use Rattle.event_rows.specs.Rows.{IsCircuit, IsNamedEdge, IsWire}

-- the entry speaks of rows of the plan
abbrev pub IsEntryOf : Plan → Entry → Type 0
IsEntryOf plan (entry.Did done) = IsEventOf plan done
IsEntryOf plan entry.Idle = Unit {0}
IsEntryOf plan (entry.Said from to octets) = IsNamedEdge plan from × IsNamedEdge plan to
IsEntryOf plan (entry.In circuit number octets) = IsCircuit plan circuit
IsEntryOf plan (entry.Sent from to wire came packet origin hops octets) = IsNamedEdge plan from × (IsNamedEdge plan to × (IsWire plan wire × IsArrival plan came))
IsEntryOf plan (entry.Copied packet of) = Unit {0}
IsEntryOf plan (entry.Aged packet) = Unit {0}
IsEntryOf plan (entry.Left circuit origin hops octets) = IsCircuit plan circuit
IsEntryOf plan (entry.Dropped edge origin cause) = IsNamedEdge plan edge
IsEntryOf plan (entry.Session edge peer state) = IsNamedEdge plan edge × IsNamedEdge plan peer
IsEntryOf plan (entry.Wire edge wire down) = IsNamedEdge plan edge × IsWire plan wire
IsEntryOf plan (entry.Pong edge wire sequence) = IsNamedEdge plan edge × IsWire plan wire

-- an octet at least is to be delivered, and the number of a packet is one that is given: they begin at 1
abbrev pub CountsFromOne : Event → Type 0
CountsFromOne (event.Deliver from to count) = 1 ≤ count
CountsFromOne (event.Arrive packet) = 1 ≤ packet
CountsFromOne (event.Discard packet) = 1 ≤ packet
CountsFromOne (event.Again packet) = 1 ≤ packet
CountsFromOne done = Unit {0}

-- so is that of a command that is one event
abbrev pub CommandsFromOne : Command → Type 0
CommandsFromOne (command.One done) = CountsFromOne done
CommandsFromOne (command.Settle count) = Unit {0}
CommandsFromOne (command.Flow count) = Unit {0}
CommandsFromOne (command.Ticks count) = Unit {0}
CommandsFromOne (command.Play circuit file) = Unit {0}
