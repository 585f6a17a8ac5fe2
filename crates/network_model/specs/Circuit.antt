-- A circuit is turned on or off at its edge.
use Rattle.std.specs.Prelude.{Bool, Option, Some, None}
use Rattle.net_base.specs.declared.plan.Plan.{Plan}
use Rattle.net_base.specs.declared.plan.circuit_plan.CircuitPlan.{CircuitPlan}
use Rattle.net_base.specs.declared.plan.places.CircuitId.{CircuitId}
use Rattle.edge_model.specs.Circuit.{circuit_input}
use Rattle.network_model.specs.Absorb.{Stepped, answer, begin_at, idle, taken_all}
use Rattle.network_model.specs.State.{NetworkState}

-- the event `Circuit`: it is idle where the plan has no such circuit
abbrev pub circuit_event : Plan → CircuitId → Bool → Option CircuitPlan → NetworkState → Stepped
circuit_event plan circuit on None network = idle network
circuit_event plan circuit on (Some row) network = answer row.edge 0 0 (circuit_input plan taken_all circuit on (Some row) (begin_at network row.edge)) network
