-- What holds of a plan that was read.
use Rattle.std.specs.Prelude.{◌≡◌, ◌<◌, ◌≤◌, ◌^◌, ℕ, List, [], ◌∷◌, length, Option, Some, None}
use Rattle.std.specs.List.{All}
use Rattle.std.specs.Str.{IsUtf8}
use Rattle.net_values.specs.Name.{IsName}
use Rattle.net_base.specs.declared.plan.Plan.{Plan}
use Rattle.net_base.specs.declared.plan.edge_plan.EdgePlan.{EdgePlan}
use Rattle.net_base.specs.declared.plan.wire_plan.WirePlan.{WirePlan}
use Rattle.net_base.specs.declared.plan.offer.Offer.{Offer}
use Rattle.net_base.specs.plan.Accepted.{IsChecked}
use Rattle.net_base.specs.plan.NameFaults.{edge_names, service_names, circuit_names, wire_names}
use Rattle.net_base.specs.plan.PlanFault.{plan_fault}

-- four octets
pub record IsQuad (octets : List ℕ) : Type 0 where
  pub a : ℕ
  pub b : ℕ
  pub c : ℕ
  pub d : ℕ
  pub is : octets ≡ a ∷ b ∷ c ∷ d ∷ []
  pub fit : (a < 256) × (b < 256) × (c < 256) × (d < 256)

-- a number that is told is not 0, which stands for one that is not
abbrev pub IsTold : ℕ → Option ℕ → Type 0
IsTold most None = Unit {0}
IsTold most (Some n) = (1 ≤ n) × (n ≤ most)

-- a description is UTF-8
abbrev pub IsDescription : List ℕ → Type 0
IsDescription text = (length text ≤ 80) × IsUtf8 text

-- an offer that a document can say
pub record IsSaid (offer : Offer) : Type 0 where
  pub mtu : IsTold 65535 offer.mtu
  pub vccv : IsTold 7 offer.vccv
  pub group : offer.group < 2 ^ 32
  pub description : IsDescription offer.description

-- what holds of the values of a plan by their types, and of a plan that was read
pub record IsReadPlan (plan : Plan) : Type 0 where
  pub checked : IsChecked plan
  pub sound : plan_fault plan ≡ None
  pub edges : All IsName (edge_names plan.edges)
  pub services : All IsName (service_names plan.services)
  pub circuits : All IsName (circuit_names plan.circuits)
  pub wires : All IsName (wire_names plan.wires)
  pub addresses : All (λ (edge : EdgePlan). IsQuad edge.address.0) plan.edges
  pub priorities : All (λ (wire : WirePlan). wire.priority ≤ 255) plan.wires
  pub near : All (λ (wire : WirePlan). IsSaid wire.near) plan.wires
  pub far : All (λ (wire : WirePlan). IsSaid wire.far) plan.wires
