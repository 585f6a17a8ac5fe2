-- The pairs of sites that a case changes, by their edges: a site reaches all others of its edge.
use Rattle.std.specs.Prelude.{◌+◌, ◌*◌, ◌==◌, ◌&&◌, ◌||◌, not, nat_lt, ℕ, Bool, false, List, [], ◌∷◌, Option, Some, None, if◌then◌else◌}
use Rattle.net_base.specs.declared.plan.Plan.{Plan}
use Rattle.net_base.specs.declared.plan.circuit_plan.CircuitPlan.{CircuitPlan}
use Rattle.net_base.specs.declared.plan.edge_plan.EdgePlan.{EdgePlan}
use Rattle.net_base.specs.declared.plan.places.ServiceId.{ServiceId}
use Rattle.net_base.specs.plan.Roles.{is_circuit_at}
use Rattle.network_model.specs.Reach.{is_row_on}
use Rattle.network_model.specs.State.{NetworkState}
use Rattle.survey_laws.specs.declared.fault.Fault.{Fault}
use Rattle.survey_laws.specs.Would.{would_reach}

-- a circuit with this row is a site of the service at the edge
abbrev pub is_site_at : NetworkState → ServiceId → ℕ → ℕ → CircuitPlan → Bool
is_site_at before service edge circuit row = is_circuit_at service edge row && is_row_on before (record { 0 = circuit }) (Some row)

-- so it is with the circuit at a place, where there is one
abbrev pub is_site_row : NetworkState → ServiceId → ℕ → ℕ → Option CircuitPlan → Bool
is_site_row before service edge circuit None = false
is_site_row before service edge circuit (Some row) = is_site_at before service edge circuit row

-- how many of the rows from a place on are such sites
abbrev pub sites_of : NetworkState → ServiceId → ℕ → ℕ → List CircuitPlan → ℕ
sites_of before service edge circuit [] = 0
sites_of before service edge circuit (row ∷ rows) = (if is_site_at before service edge circuit row then 1 else 0) + sites_of before service edge (circuit + 1) rows

abbrev pub count_sites : Plan → NetworkState → ServiceId → ℕ → ℕ
count_sites plan before service edge = sites_of before service edge 0 plan.circuits

-- an edge has a site
abbrev pub has_site : Plan → NetworkState → ServiceId → ℕ → Bool
has_site plan before service edge = nat_lt 0 (count_sites plan before service edge)

-- both edges have one
abbrev pub have_sites : Plan → NetworkState → ServiceId → ℕ → ℕ → Bool
have_sites plan before service a b = has_site plan before service a && has_site plan before service b

-- the sites of two edges lose each other by the faults, or find each other, or do not reach each other before them
abbrev pub lose : Plan → NetworkState → ServiceId → List Fault → ℕ → ℕ → Bool
lose plan before service faults a b = have_sites plan before service a b && (would_reach plan before [] service a b && not (would_reach plan before faults service a b))

abbrev pub find : Plan → NetworkState → ServiceId → List Fault → ℕ → ℕ → Bool
find plan before service faults a b = have_sites plan before service a b && (would_reach plan before faults service a b && not (would_reach plan before [] service a b))

abbrev pub are_apart : Plan → NetworkState → ServiceId → ℕ → ℕ → Bool
are_apart plan before service a b = have_sites plan before service a b && not (would_reach plan before [] service a b)

-- another edge with sites that an edge reaches before
abbrev pub is_reached : Plan → NetworkState → ServiceId → ℕ → ℕ → Bool
is_reached plan before service a b = (would_reach plan before [] service a b && has_site plan before service b) && not (b == a)

-- any other one
abbrev pub is_other : Plan → NetworkState → ServiceId → ℕ → ℕ → Bool
is_other plan before service a b = has_site plan before service b && not (b == a)

-- ---- over the edges of the rows from a place on

abbrev pub any_edge : (ℕ → Bool) → ℕ → List EdgePlan → Bool
any_edge test edge [] = false
any_edge test edge (row ∷ rows) = test edge || any_edge test (edge + 1) rows

-- how many sites stand at those that pass a test
abbrev pub sites_where : (ℕ → ℕ) → (ℕ → Bool) → ℕ → List EdgePlan → ℕ
sites_where count test edge [] = 0
sites_where count test edge (row ∷ rows) = (if test edge then count edge else 0) + sites_where count test (edge + 1) rows

-- how many pairs of sites stand at two edges that are a pair, each two edges counted once
abbrev pub pairs_where : (ℕ → ℕ) → (ℕ → ℕ → Bool) → ℕ → List EdgePlan → ℕ
pairs_where count pair edge [] = 0
pairs_where count pair edge (row ∷ rows) = count edge * sites_where count (pair edge) (edge + 1) rows + pairs_where count pair (edge + 1) rows

-- two edges are a pair
abbrev pub any_pair : List EdgePlan → (ℕ → ℕ → Bool) → Bool
any_pair rows pair = any_edge (λ a. any_edge (pair a) 0 rows) 0 rows

-- an edge is a pair with some, and with all with which it is by another relation
abbrev pub is_cut : List EdgePlan → (ℕ → ℕ → Bool) → (ℕ → ℕ → Bool) → ℕ → Bool
is_cut rows pair whole edge = any_edge (pair edge) 0 rows && not (any_edge (λ other. whole edge other && not (pair edge other)) 0 rows)
