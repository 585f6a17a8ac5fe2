-- When a service is quiet, full and calm, by which connections are settled and which wires carry frames.
use Rattle.std.specs.Prelude.{◌==◌, ◌&&◌, ◌||◌, not, ℕ, Bool, length}
use Rattle.net_base.specs.declared.plan.Plan.{Plan}
use Rattle.net_base.specs.declared.plan.wire_plan.WirePlan.{WirePlan}
use Rattle.net_base.specs.declared.plan.places.ServiceId.{ServiceId}
use Rattle.net_base.specs.plan.Paths.{is_first, is_last}
use Rattle.net_base.specs.plan.Roles.{all_below, any_wire, are_joined_by, count_wires, is_core_edge, is_mesh_of, is_spoke_edge, is_spoke_from}

-- it holds of each two numbers below n
abbrev pub all_pairs : ℕ → (ℕ → ℕ → Bool) → Bool
all_pairs n test = all_below n (λ a. all_below n (test a))

-- each two edges that the service joins are settled
abbrev pub is_quiet_where : Plan → (ℕ → ℕ → Bool) → ServiceId → Bool
is_quiet_where plan settled service = all_pairs (length plan.edges) (λ a b. not (are_joined_by plan service a b) || settled a b)

-- a mesh wire of the service between the two edges that carries frames
abbrev pub meshes_where : (ℕ → WirePlan → Bool) → ServiceId → ℕ → ℕ → ℕ → WirePlan → Bool
meshes_where carries service a b wire row =
    (is_mesh_of service row && ((is_first a row.path && is_last b row.path) || (is_first b row.path && is_last a row.path))) && carries wire row

-- each two core edges have a mesh wire that carries frames (RFC 4762 section 4.4)
abbrev pub is_full_where : Plan → (ℕ → WirePlan → Bool) → ServiceId → Bool
is_full_where plan carries service =
    all_pairs (length plan.edges) (λ a b. not (is_core_edge plan service a && is_core_edge plan service b) || (a == b || any_wire (meshes_where carries service a b) 0 plan.wires))

-- a spoke of the service from the edge that carries frames
abbrev pub is_spoke_where : (ℕ → WirePlan → Bool) → ServiceId → ℕ → ℕ → WirePlan → Bool
is_spoke_where carries service edge wire row = is_spoke_from service edge row && carries wire row

-- the edge has exactly one spoke that carries frames, where it is a spoke edge of the service
abbrev pub has_spoke_where : Plan → (ℕ → WirePlan → Bool) → ServiceId → ℕ → Bool
has_spoke_where plan carries service edge = not (is_spoke_edge plan service edge) || count_wires (is_spoke_where carries service edge) 0 plan.wires == 1

-- each spoke edge has exactly one spoke that carries frames (RFC 4762 section 10.2)
abbrev pub has_spokes_where : Plan → (ℕ → WirePlan → Bool) → ServiceId → Bool
has_spokes_where plan carries service = all_below (length plan.edges) (has_spoke_where plan carries service)

-- quiet, full, and each spoke edge with exactly one spoke that carries frames
abbrev pub is_calm_where : Plan → (ℕ → ℕ → Bool) → (ℕ → WirePlan → Bool) → ServiceId → Bool
is_calm_where plan settled carries service = (is_quiet_where plan settled service && is_full_where plan carries service) && has_spokes_where plan carries service
