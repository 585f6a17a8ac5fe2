-- What a checked plan says of the row of a circuit.
use Rattle.std.proofs.Common.{◌≡◌, ◌<◌, ◌+◌, ◌&&◌, ℕ, true, Option, Some, None, nat_le, arith}
use Rattle.std.proofs.lemmas.Bool.Decides.{nat_tests}
use Rattle.net_values.proofs.RowLemmas.{row_holds}
use Rattle.net_base.specs.declared.plan.Plan.{Plan}
use Rattle.net_base.specs.declared.plan.circuit_plan.CircuitPlan.{CircuitPlan}
use Rattle.net_base.specs.declared.plan.places.CircuitId.{CircuitId}
use Rattle.net_base.specs.plan.Accepted.{IsChecked, IsCircuitOf}
use Rattle.net_base.specs.plan.Faults.{is_told_within}
use Rattle.net_base.specs.plan.Places.{circuit_row}
use Rattle.net_base.proofs.FrameLemmas.{IsVlanId}

pub circuit_of : (plan : Plan) (circuit : CircuitId) (row : CircuitPlan) → IsChecked plan → circuit_row plan circuit ≡ Some row → IsCircuitOf plan row
circuit_of plan circuit row checked is = row_holds (IsCircuitOf plan) plan.circuits circuit.0 row is checked.circuits

-- a tag is a VLAN ID
pub vlan_of : (tag : Option ℕ) → is_told_within 1 4094 tag ≡ true → IsVlanId tag
vlan_of None within = tt
vlan_of (Some vlan) within = below vlan 4094 within where
  below : (n most : ℕ) → nat_le 1 n && nat_le n most ≡ true → n < most + 2
  below n most e = grind (arith, nat_tests)
