-- Which faults may befall a network: each of them takes something from it.
use Rattle.std.specs.Prelude.{◌+◌, ◌-◌, ◌==◌, ◌&&◌, ◌||◌, not, min, nat_le, ℕ, Bool, false, List, [], ◌∷◌, ◌++◌, Option, Some, None, if◌then◌else◌}
use Rattle.net_base.specs.declared.plan.Plan.{Plan}
use Rattle.net_base.specs.declared.plan.edge_plan.EdgePlan.{EdgePlan}
use Rattle.net_base.specs.declared.plan.places.EdgeId.{EdgeId}
use Rattle.net_base.specs.declared.plan.wire_plan.WirePlan.{WirePlan}
use Rattle.net_base.specs.plan.Places.{is_mesh_class}
use Rattle.network_model.specs.State.{NetworkState}
use Rattle.survey_laws.specs.declared.fault.Fault.{Fault}
use Rattle.survey_laws.specs.declared.fault.Fault.TheVariants as fault
use Rattle.survey_laws.specs.Faults.{where_so, with_fault}
use Rattle.survey_reach.specs.Ground.{are_peers, number_of, sound_at}

-- the connections of an edge with those of the rows from a place on
abbrev pub sessions_with : (ℕ → ℕ → Bool) → ℕ → ℕ → List EdgePlan → List Fault
sessions_with connected a b [] = []
sessions_with connected a b (row ∷ rows) = with_fault (where_so (connected a b) (fault.Session (record { 0 = a }) (record { 0 = b }))) (sessions_with connected a (b + 1) rows)

-- those of the edges of the rows from a place on with later ones
abbrev pub sessions_from : (ℕ → ℕ → Bool) → ℕ → List EdgePlan → List Fault
sessions_from connected a [] = []
sessions_from connected a (row ∷ rows) = sessions_with connected a (a + 1) rows ++ sessions_from connected (a + 1) rows

-- each wire that is sound
abbrev pub wires_from : (ℕ → Bool) → ℕ → List WirePlan → List Fault
wires_from sound wire [] = []
wires_from sound wire (row ∷ rows) = with_fault (where_so (sound wire) (fault.Wire (record { 0 = wire }))) (wires_from sound (wire + 1) rows)

-- an edge is connected with one of the rows from a place on
abbrev pub has_peer : (ℕ → ℕ → Bool) → ℕ → ℕ → List EdgePlan → Bool
has_peer connected edge other [] = false
has_peer connected edge other (row ∷ rows) = connected edge other || has_peer connected edge (other + 1) rows

-- each edge of the rows from a place on that is connected with one
abbrev pub edges_from : (ℕ → ℕ → Bool) → List EdgePlan → ℕ → List EdgePlan → List Fault
edges_from connected all edge [] = []
edges_from connected all edge (row ∷ rows) = with_fault (where_so (has_peer connected edge 0 all) (fault.Edge (record { 0 = edge }))) (edges_from connected all (edge + 1) rows)

-- two spokes of a service start at one edge
abbrev pub start_together : List EdgeId → List EdgeId → Bool
start_together [] path = false
start_together (first ∷ rest) [] = false
start_together (first ∷ rest) (other ∷ others) = first.0 == other.0

abbrev pub are_rivals : WirePlan → WirePlan → Bool
are_rivals row other = (not (is_mesh_class row.class) && not (is_mesh_class other.class)) && (row.service.0 == other.service.0 && start_together row.path other.path)

-- the lesser one of a priority number, where there is one, and another
abbrev pub lesser : Option ℕ → ℕ → Option ℕ
lesser None number = Some number
lesser (Some least) number = Some (min least number)

-- the least number of the rivals of a spoke
abbrev pub least_rival : (ℕ → ℕ) → ℕ → WirePlan → Option ℕ → ℕ → List WirePlan → Option ℕ
least_rival number wire row least place [] = least
least_rival number wire row least place (other ∷ others) =
    least_rival number wire row (if not (place == wire) && are_rivals row other then lesser least (number place) else least) (place + 1) others

-- the number by which a spoke is chosen no more, or is chosen, where no other one fails
abbrev pub other_number : ℕ → ℕ → ℕ
other_number had least = if nat_le had least then 255 else least - 1

abbrev pub renumbered : ℕ → ℕ → Option ℕ → Option Fault
renumbered wire had None = None
renumbered wire had (Some least) = where_so (not (other_number had least == had)) (fault.Priority (record { 0 = wire }) (other_number had least))

-- each spoke that has a rival and another such number
abbrev pub priorities_from : Plan → (ℕ → ℕ) → ℕ → List WirePlan → List Fault
priorities_from plan number wire [] = []
priorities_from plan number wire (row ∷ rows) = with_fault (renumbered wire (number wire) (least_rival number wire row None 0 plan.wires)) (priorities_from plan number (wire + 1) rows)

-- the faults of a network: of connections, wires, edges and numbers
abbrev pub all_faults : Plan → NetworkState → List Fault
all_faults plan before =
    sessions_from (are_peers plan before) 0 plan.edges
    ++ (wires_from (sound_at plan before) 0 plan.wires
    ++ (edges_from (are_peers plan before) plan.edges 0 plan.edges
    ++ priorities_from plan (number_of plan before) 0 plan.wires))
