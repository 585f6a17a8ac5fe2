-- Which cases of faults there are, and which of them are told.
use Rattle.std.specs.Prelude.{◌+◌, ◌++◌, ◌&&◌, ◌||◌, not, nat_lt, ℕ, Bool, false, List, [], ◌∷◌, if◌then◌else◌}
use Rattle.std.specs.List.{list_any}
use Rattle.net_base.specs.declared.plan.Plan.{Plan}
use Rattle.net_base.specs.declared.plan.service_plan.ServicePlan.{ServicePlan}
use Rattle.network_model.specs.State.{NetworkState}
use Rattle.survey_laws.specs.declared.fault.Fault.{Fault}
use Rattle.survey_text.specs.Relations.{any_pair, count_sites, find, lose, pairs_where}

-- a case and one more of these faults; no two faults of a network are numbers of one spoke
abbrev pub with_one : List Fault → List Fault → List (List Fault)
with_one front [] = []
with_one front (next ∷ faults) = (front ++ next ∷ []) ∷ with_one front faults

-- the cases of two faults, and those of three, in the order of the faults
abbrev pub pairs : List Fault → List (List Fault)
pairs [] = []
pairs (one ∷ faults) = with_one (one ∷ []) faults ++ pairs faults

abbrev pub triples_with : Fault → List Fault → List (List Fault)
triples_with one [] = []
triples_with one (next ∷ faults) = with_one (one ∷ next ∷ []) faults ++ triples_with one faults

abbrev pub triples : List Fault → List (List Fault)
triples [] = []
triples (one ∷ faults) = triples_with one faults ++ triples faults

-- those of more than one fault, and of at most so many
abbrev pub more_cases : ℕ → List Fault → List (List Fault)
more_cases most faults = if nat_lt most 2 then [] else if nat_lt most 3 then pairs faults else pairs faults ++ triples faults

-- all of at most so many
abbrev pub cases_of : ℕ → List Fault → List (List Fault)
cases_of most faults = with_one [] faults ++ more_cases most faults

-- the smaller parts of a case
abbrev pub parts : List Fault → List (List Fault)
parts [] = []
parts (one ∷ []) = []
parts (one ∷ next ∷ []) = (next ∷ []) ∷ (one ∷ []) ∷ []
parts (one ∷ next ∷ last ∷ rest) = (one ∷ next ∷ []) ∷ (one ∷ last ∷ []) ∷ (next ∷ last ∷ []) ∷ (last ∷ []) ∷ (next ∷ []) ∷ (one ∷ []) ∷ []

-- the parts of one fault, those of later faults first
abbrev pub singles_of : List Fault → List (List Fault)
singles_of [] = []
singles_of (one ∷ faults) = singles_of faults ++ (one ∷ []) ∷ []

-- the parts of two faults, where the case has three
abbrev pub pairs_of : List Fault → List (List Fault)
pairs_of [] = []
pairs_of (one ∷ []) = []
pairs_of (one ∷ next ∷ []) = []
pairs_of (one ∷ next ∷ last ∷ rest) = (one ∷ next ∷ []) ∷ (one ∷ last ∷ []) ∷ (next ∷ last ∷ []) ∷ []

-- two edges change by the case and by none of some parts of it
abbrev pub changes_beside : (List Fault → ℕ → ℕ → Bool) → List Fault → List (List Fault) → ℕ → ℕ → Bool
changes_beside change faults parts a b = change faults a b && not (list_any (λ part. change part a b) parts)

-- so it is in a service
abbrev pub is_told_of : Plan → NetworkState → List Fault → List (List Fault) → ℕ → Bool
is_told_of plan before faults parts service =
    any_pair plan.edges (changes_beside (lose plan before (record { 0 = service })) faults parts) || any_pair plan.edges (changes_beside (find plan before (record { 0 = service })) faults parts)

-- in one of the rows from a place on
abbrev pub is_told_in : Plan → NetworkState → List Fault → List (List Fault) → ℕ → List ServicePlan → Bool
is_told_in plan before faults parts service [] = false
is_told_in plan before faults parts service (row ∷ rows) = is_told_of plan before faults parts service || is_told_in plan before faults parts (service + 1) rows

abbrev pub is_told_beside : Plan → NetworkState → List Fault → List (List Fault) → Bool
is_told_beside plan before faults parts = is_told_in plan before faults parts 0 plan.services

-- a case is told: it changes what no part of it changes
abbrev pub is_told : Plan → NetworkState → List Fault → Bool
is_told plan before faults = is_told_beside plan before faults (parts faults)

-- how many pairs of sites lose each other, and how many find each other
abbrev pub lost_at : Plan → NetworkState → List Fault → ℕ → ℕ
lost_at plan before faults service = pairs_where (count_sites plan before (record { 0 = service })) (lose plan before (record { 0 = service }) faults) 0 plan.edges

abbrev pub found_at : Plan → NetworkState → List Fault → ℕ → ℕ
found_at plan before faults service = pairs_where (count_sites plan before (record { 0 = service })) (find plan before (record { 0 = service }) faults) 0 plan.edges

-- the sum over the services of the rows from a place on
abbrev pub sum_over : (ℕ → ℕ) → ℕ → List ServicePlan → ℕ
sum_over count service [] = 0
sum_over count service (row ∷ rows) = count service + sum_over count (service + 1) rows

abbrev pub count_lost : Plan → NetworkState → List Fault → ℕ
count_lost plan before faults = sum_over (lost_at plan before faults) 0 plan.services

abbrev pub count_found : Plan → NetworkState → List Fault → ℕ
count_found plan before faults = sum_over (found_at plan before faults) 0 plan.services
