-- The names of a plan's rows.
use Rattle.std.specs.List.{All}
use Rattle.std.specs.Prelude.{ℕ, List}
use Rattle.std.specs.Str.{bytes_eq}
use Rattle.net_values.specs.Name.{IsName}
use Rattle.net_base.specs.declared.plan.Plan.{Plan}
use Rattle.net_base.specs.plan.Accepted.{NonePair}
use Rattle.net_base.specs.plan.NameFaults.{edge_names, circuit_names, wire_names}
use Rattle.plan_names.specs.declared.plan_names.PlanNames.{PlanNames}

-- the names by which texts speak of a plan
abbrev pub names_of : Plan → PlanNames
names_of plan = record { edges = edge_names plan.edges; circuits = circuit_names plan.circuits; wires = wire_names plan.wires }

-- names, of which each stands once
pub record AreNames (names : List (List ℕ)) : Type 0 where
  pub each : All IsName names
  pub once : NonePair bytes_eq names

-- the names of the plan's rows
pub record HasNames (plan : Plan) : Type 0 where
  pub edges : AreNames (edge_names plan.edges)
  pub circuits : AreNames (circuit_names plan.circuits)
  pub wires : AreNames (wire_names plan.wires)
