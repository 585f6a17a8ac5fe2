-- Entries that name places of a plan.
use Rattle.std.specs.Prelude.{◌≡◌, codes}
use Rattle.net_base.specs.declared.plan.Plan.{Plan}
use Rattle.net_base.specs.declared.plan.places.CircuitId.{CircuitId}
use Rattle.net_base.specs.declared.plan.places.WireId.{WireId}
use Rattle.net_base.specs.declared.trace.arrival.Arrival.{Arrival}
use Rattle.net_base.specs.declared.trace.arrival.Arrival.TheVariants as arrival
use Rattle.net_base.specs.declared.trace.entry.Entry.{Entry}
use Rattle.net_base.specs.declared.trace.entry.Entry.TheVariants as entry
use Rattle.line_shapes.specs.Words.{circuit_name, wire_name}
use Rattle.event_rows.specs.Rows.{AreOctetsTold, IsCircuit, IsFromTo, IsNamedEdge, IsNamedEvent, IsToldNumber, IsWire}

-- what came by a circuit or a wire of the plan, or by none
abbrev pub IsArrival : Plan → Arrival → Type 0
IsArrival plan (arrival.Circuit circuit) = IsCircuit plan circuit
IsArrival plan (arrival.Wire wire) = IsWire plan wire
IsArrival plan arrival.Own = Unit {0}

-- no circuit has the name of a wire, and neither is a dash
pub record HasNamesApart (plan : Plan) : Type 0 where
  pub apart : (circuit : CircuitId) (wire : WireId) → IsCircuit plan circuit → IsWire plan wire → circuit_name plan circuit ≡ wire_name plan wire → ⊥
  pub circuits : (circuit : CircuitId) → IsCircuit plan circuit → circuit_name plan circuit ≡ codes "-" → ⊥
  pub wires : (wire : WireId) → IsWire plan wire → wire_name plan wire ≡ codes "-" → ⊥

-- an entry names places of the plan, and numbers in their ranges
abbrev pub IsEntryNamed : Plan → Entry → Type 0
IsEntryNamed plan (entry.Did event) = IsNamedEvent plan event
IsEntryNamed plan entry.Idle = Unit {0}
IsEntryNamed plan (entry.Said from to octets) = IsNamedEdge plan from × (IsNamedEdge plan to × AreOctetsTold octets)
IsEntryNamed plan (entry.In circuit number octets) = IsCircuit plan circuit × (IsToldNumber number × AreOctetsTold octets)
IsEntryNamed plan (entry.Sent from to wire came packet origin hops octets) =
    IsNamedEdge plan from × (IsNamedEdge plan to × (IsWire plan wire × (IsArrival plan came × (IsToldNumber packet × (IsToldNumber origin × (IsToldNumber hops × AreOctetsTold octets))))))
IsEntryNamed plan (entry.Copied packet of) = IsToldNumber packet × IsToldNumber of
IsEntryNamed plan (entry.Aged packet) = IsToldNumber packet
IsEntryNamed plan (entry.Left circuit origin hops octets) = IsCircuit plan circuit × (IsToldNumber origin × (IsToldNumber hops × AreOctetsTold octets))
IsEntryNamed plan (entry.Dropped edge origin cause) = IsNamedEdge plan edge × IsToldNumber origin
IsEntryNamed plan (entry.Session edge peer state) = IsNamedEdge plan edge × IsNamedEdge plan peer
IsEntryNamed plan (entry.Wire edge wire down) = IsNamedEdge plan edge × IsWire plan wire
IsEntryNamed plan (entry.Pong edge wire sequence) = IsNamedEdge plan edge × (IsWire plan wire × IsFromTo 0 65535 sequence)
