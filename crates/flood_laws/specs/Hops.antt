-- How many segments a copy of a flooded frame has passed at most.
use Rattle.std.specs.Prelude.{◌≡◌, ◌≤◌, ◌+◌, ◌*◌, ℕ, Some, if◌then◌else◌}
use Rattle.net_base.specs.declared.plan.Plan.{Plan}
use Rattle.net_base.specs.declared.plan.wire_plan.WirePlan.{WirePlan}
use Rattle.net_base.specs.declared.plan.places.EdgeId.{EdgeId}
use Rattle.net_base.specs.plan.Paths.{is_first}
use Rattle.net_base.specs.plan.Places.{is_mesh_class, wire_row}
use Rattle.network_model.specs.declared.packet.Packet.{Packet}
use Rattle.network_model.specs.Goal.{goal, points_passed}

-- which wire of its way a copy is on, as it travels to this terminal edge of the wire: a spoke towards its core edge is the first one,
-- a mesh wire the second, and a spoke towards its spoke edge the third, each counted by those before it
abbrev pub stage : ℕ → WirePlan → ℕ
stage to row = if is_mesh_class row.class then 1 else if is_first to row.path then 2 else 0

-- four segments for each wire before, and on this one a segment more than it has passed switching points
abbrev pub most_hops : Plan → EdgeId → EdgeId → WirePlan → ℕ
most_hops plan from to row = 4 * stage (goal row.path from to).0 row + (points_passed plan row from.0 to.0 + 1)

-- a packet has passed so many at most
abbrev pub HasPassed : Plan → Packet → Type 0
HasPassed plan packet = (row : WirePlan) → wire_row plan packet.wire ≡ Some row → packet.hops ≤ most_hops plan packet.from packet.to row
