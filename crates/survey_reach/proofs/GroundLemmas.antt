-- What is read of a ground.
use Rattle.std.proofs.Common.{◌≡◌, ◌<◌, ◌&&◌, ◌∙◌, not, ℕ, Bool, true, false, List, [], ◌∷◌, Option, Some, None, cond, filter, length, map, slice_get, slice_index_or, refl, ap, arith, sym}
use Rattle.std.proofs.lemmas.Bool.{eqb-true}
use Rattle.net_values.proofs.BoolLemmas.{second_holds}
use Rattle.net_base.specs.declared.plan.Plan.{Plan}
use Rattle.net_base.specs.declared.plan.places.EdgeId.{EdgeId}
use Rattle.net_base.specs.declared.plan.places.ServiceId.{ServiceId}
use Rattle.net_base.specs.declared.plan.wire_plan.WirePlan.{WirePlan}
use Rattle.net_base.specs.plan.Paths.{is_first}
use Rattle.net_base.specs.plan.Places.{is_mesh_class, wire_row}
use Rattle.net_base.specs.plan.Roles.{is_wire_of}
use Rattle.spoke_redundancy.specs.declared.spoke.Spoke.{Spoke}
use Rattle.edge_model.specs.declared.end_place.EndPlace.{EndPlace}
use Rattle.edge_model.specs.EndPlaces.{end_places}
use Rattle.edge_model.specs.Spokes.{is_spoke_row}
use Rattle.network_model.specs.State.{NetworkState}
use Rattle.settle_laws.specs.Sound.{is_sound, is_sound_row}
use Rattle.survey_laws.specs.declared.fault.Fault.{Fault}
use Rattle.survey_laws.specs.Faults.{number_after}
use Rattle.survey_laws.specs.Would.{would_home, would_sound_row, would_spoke_at}
use Rattle.survey_reach.specs.declared.ground.Ground.{Ground}
use Rattle.survey_reach.specs.Ground.{IsGroundOf, number_at, number_of_row, sound_at}
use Rattle.survey_reach.specs.Reach.{home_among, spoke_by, spokes_at}

pub wires_counted : (plan : Plan) (network : NetworkState) (ground : Ground) (wire : ℕ) → IsGroundOf plan network ground → wire < length plan.wires → wire < length ground.sound.items
wires_counted plan network ground wire is below = omega (arith, is.sound.all, below)

pub was_sound : (plan : Plan) (network : NetworkState) (ground : Ground) (wire : ℕ) (row : WirePlan) → IsGroundOf plan network ground → wire < length plan.wires
    → slice_get plan.wires wire ≡ Some row → slice_index_or ground.sound.items wire false ≡ is_sound network wire row
was_sound plan network ground wire row is below got = is.sound.each wire below ∙ ap (is_sound_row network wire) got

pub ruleset sound_steps = (wires_counted, was_sound)

pub sound_had : (plan : Plan) (network : NetworkState) (ground : Ground) (wire : ℕ) → IsGroundOf plan network ground → wire < length plan.wires
    → slice_index_or ground.sound.items wire false ≡ sound_at plan network wire
sound_had plan network ground wire is below = is.sound.each wire below

pub numbers_counted : (plan : Plan) (network : NetworkState) (ground : Ground) (wire : ℕ) → IsGroundOf plan network ground → wire < length plan.wires → wire < length ground.numbers.items
numbers_counted plan network ground wire is below = omega (arith, is.numbers.all, below)

pub ruleset spoke_steps = (numbers_counted)

-- ---- the spokes of an edge, by their own numbers

-- the end is that of a spoke from the edge: its wire has the number that it has there
number_there : (plan : Plan) (before : NetworkState) (service : ServiceId) (edge wire : ℕ) (row : Option WirePlan) → is_spoke_row service (record { 0 = edge }) row ≡ true
    → number_of_row before wire row ≡ (before.edges edge).priority wire
number_there plan before service edge wire None starts = absurd (cc (starts))
number_there plan before service edge wire (Some row) starts = by row.path (second_holds (is_wire_of service row && not (is_mesh_class row.class)) (is_first edge row.path) starts) where
  by : (path : List EdgeId) → is_first edge path ≡ true → number_at before wire path ≡ (before.edges edge).priority wire
  by [] first = absurd (cc (first))
  by (start ∷ rest) first = ap (λ (e : ℕ). (before.edges e).priority wire) (sym (eqb-true edge start.0 first))

same_spokes : (plan : Plan) (before : NetworkState) (faults : List Fault) (service : ServiceId) (edge : ℕ) (places : List EndPlace)
    → map (spoke_by plan before faults) (filter (λ (place : EndPlace). is_spoke_row service (record { 0 = edge }) (wire_row plan place.wire)) places)
    ≡ map (would_spoke_at plan before faults edge) (filter (λ (place : EndPlace). is_spoke_row service (record { 0 = edge }) (wire_row plan place.wire)) places)
same_spokes plan before faults service edge [] = refl
same_spokes plan before faults service edge (place ∷ places) =
    by (same_spokes plan before faults service edge places) (is_spoke_row service (record { 0 = edge }) (wire_row plan place.wire)) refl where
      later : List EndPlace
      later = filter (λ (place : EndPlace). is_spoke_row service (record { 0 = edge }) (wire_row plan place.wire)) places

      same : is_spoke_row service (record { 0 = edge }) (wire_row plan place.wire) ≡ true → spoke_by plan before faults place ≡ would_spoke_at plan before faults edge place
      same starts = ap (λ (n : ℕ). record { priority = number_after place.wire.0 faults n; usable = would_sound_row before faults place.wire.0 (wire_row plan place.wire) })
          (number_there plan before service edge place.wire.0 (wire_row plan place.wire) starts)

      by : map (spoke_by plan before faults) later ≡ map (would_spoke_at plan before faults edge) later → (b : Bool) → is_spoke_row service (record { 0 = edge }) (wire_row plan place.wire) ≡ b
          → map (spoke_by plan before faults) (cond b (place ∷ later) later) ≡ map (would_spoke_at plan before faults edge) (cond b (place ∷ later) later)
      by rest true starts = λ i. same starts i ∷ rest i
      by rest false starts = rest

-- the home among them is the home
pub home_by : (plan : Plan) (before : NetworkState) (faults : List Fault) (service : ServiceId) (edge : ℕ) (spokes : List Spoke) (places : List EndPlace)
    → places ≡ spokes_at plan service edge → spokes ≡ map (spoke_by plan before faults) places → home_among plan spokes places ≡ would_home plan before faults service edge
home_by plan before faults service edge spokes places is made =
    ap (λ (s : List Spoke). home_among plan s places) (made ∙ ap (map (spoke_by plan before faults)) is)
    ∙ (ap (home_among plan (map (spoke_by plan before faults) (spokes_at plan service edge))) is
    ∙ ap (λ (s : List Spoke). home_among plan s (spokes_at plan service edge)) (same_spokes plan before faults service edge (end_places plan (record { 0 = edge }))))
