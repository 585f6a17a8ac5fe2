-- Faults that take the same decide the same.
use Rattle.std.proofs.Common.{◌≡◌, ◌==◌, ◌&&◌, ◌||◌, ◌+◌, ◌∙◌, ℕ, Bool, true, false, cond, not, map, List, [], ◌∷◌, Option, Some, None, option_map, option_and_then, slice_get, refl, sym, ap}
use Rattle.net_values.proofs.BoolLemmas.{and_false, and_true}
use Rattle.net_base.specs.declared.plan.Plan.{Plan}
use Rattle.net_base.specs.declared.plan.circuit_plan.CircuitPlan.{CircuitPlan}
use Rattle.net_base.specs.declared.plan.places.CircuitId.{CircuitId}
use Rattle.net_base.specs.declared.plan.places.ServiceId.{ServiceId}
use Rattle.net_base.specs.declared.plan.places.WireId.{WireId}
use Rattle.net_base.specs.declared.plan.wire_plan.WirePlan.{WirePlan}
use Rattle.net_base.specs.plan.Paths.{is_first, is_last}
use Rattle.net_base.specs.plan.Places.{circuit_row, wire_row}
use Rattle.net_base.specs.plan.Roles.{is_mesh_of, is_spoke_edge}
use Rattle.spoke_redundancy.specs.declared.spoke.Spoke.{Spoke}
use Rattle.spoke_redundancy.specs.Choice.{chosen}
use Rattle.edge_model.specs.declared.end_place.EndPlace.{EndPlace}
use Rattle.edge_model.specs.Spokes.{spoke_places}
use Rattle.network_model.specs.Reach.{is_site}
use Rattle.network_model.specs.State.{NetworkState}
use Rattle.settle_laws.specs.Sound.{is_sound}
use Rattle.settle_laws.proofs.CalmLemmas.{any_same}
use Rattle.survey_laws.specs.declared.fault.Fault.{Fault}
use Rattle.survey_laws.specs.Faults.{is_circuit_taken, number_after}
use Rattle.survey_laws.specs.Laws.{CircuitAlone, SameFaults, TakeTheSame}
use Rattle.survey_laws.specs.Would.{last_of, would_be_meshed, would_choose, would_core, would_meet, would_mesh, would_reach, would_reach_row, would_serve, would_sound, would_sound_row, would_spoke_at}

module _ (plan : Plan) (ground : NetworkState) (one other : List Fault) (same : TakeTheSame plan one other) where
  sound_same : (wire : ℕ) (row : WirePlan) → would_sound ground one wire row ≡ would_sound ground other wire row
  sound_same wire row = ap (λ (b : Bool). is_sound ground wire row && not b) (same.wires wire row)

  row_same : (wire : ℕ) (row : Option WirePlan) → would_sound_row ground one wire row ≡ would_sound_row ground other wire row
  row_same wire None = refl
  row_same wire (Some row) = sound_same wire row

  spoke_same : (edge : ℕ) (place : EndPlace) → would_spoke_at plan ground one edge place ≡ would_spoke_at plan ground other edge place
  spoke_same edge place =
      ap (λ (n : ℕ). record { priority = n; usable = would_sound_row ground one place.wire.0 (wire_row plan place.wire) }) (same.numbers place.wire.0 ((ground.edges edge).priority place.wire.0))
      ∙ ap (λ (b : Bool). record { priority = number_after place.wire.0 other ((ground.edges edge).priority place.wire.0); usable = b }) (row_same place.wire.0 (wire_row plan place.wire))

  spokes_same : (edge : ℕ) (places : List EndPlace) → map (would_spoke_at plan ground one edge) places ≡ map (would_spoke_at plan ground other edge) places
  spokes_same edge [] = refl
  spokes_same edge (place ∷ places) =
      ap (λ (x : Spoke). x ∷ map (would_spoke_at plan ground one edge) places) (spoke_same edge place)
      ∙ ap (λ (l : List Spoke). would_spoke_at plan ground other edge place ∷ l) (spokes_same edge places)

  choice_same : (service : ServiceId) (edge : ℕ) → would_choose plan ground one service edge ≡ would_choose plan ground other service edge
  choice_same service edge =
      ap (λ (spokes : List Spoke). option_map (λ (place : EndPlace). place.wire) (option_and_then (slice_get (spoke_places plan (record { 0 = edge }) service)) (chosen spokes)))
      (spokes_same edge (spoke_places plan (record { 0 = edge }) service))

  core_same : (service : ServiceId) (edge : ℕ) → would_core plan ground one service edge ≡ would_core plan ground other service edge
  core_same service edge =
      ap (λ (choice : Option WireId). cond (is_spoke_edge plan service edge) (option_and_then (λ wire. last_of (wire_row plan wire)) choice) (Some edge)) (choice_same service edge)

  meshed_same : (service : ServiceId) (a b : ℕ) → would_be_meshed plan ground one service a b ≡ would_be_meshed plan ground other service a b
  meshed_same service a b = ap (λ (some : Bool). a == b || some)
      (any_same (would_mesh ground one service a b) (would_mesh ground other service a b) 0 plan.wires (λ k row is. mesh_same (0 + k) row))
    where
      mesh_same : (wire : ℕ) (row : WirePlan) → would_mesh ground one service a b wire row ≡ would_mesh ground other service a b wire row
      mesh_same wire row =
          ap (λ (sound : Bool). (is_mesh_of service row && ((is_first a row.path && is_last b row.path) || (is_first b row.path && is_last a row.path))) && sound) (sound_same wire row)

  meet_same : (service : ServiceId) (from to : Option ℕ) → would_meet plan ground one service from to ≡ would_meet plan ground other service from to
  meet_same service None to = refl
  meet_same service (Some a) None = refl
  meet_same service (Some a) (Some b) = meshed_same service a b

  reach_same : (service : ServiceId) (from to : ℕ) → would_reach plan ground one service from to ≡ would_reach plan ground other service from to
  reach_same service from to = ap (λ (met : Bool). from == to || met) (
      ap (λ (core : Option ℕ). would_meet plan ground one service core (would_core plan ground one service to)) (core_same service from)
      ∙ (ap (λ (core : Option ℕ). would_meet plan ground one service (would_core plan ground other service from) core) (core_same service to)
      ∙ meet_same service (would_core plan ground other service from) (would_core plan ground other service to))
      )

  rows_same : (service : ServiceId) (from to : Option CircuitPlan) → would_reach_row plan ground one service from to ≡ would_reach_row plan ground other service from to
  rows_same service None to = refl
  rows_same service (Some from) None = refl
  rows_same service (Some from) (Some to) = reach_same service from.edge.0 to.edge.0

  serve_same : (service : ServiceId) (sender circuit : CircuitId) → would_serve plan ground one service sender circuit ≡ would_serve plan ground other service sender circuit
  serve_same service sender circuit =
      ap (λ (taken : Bool). ((is_site plan ground service circuit && not taken) && would_reach_row plan ground one service (circuit_row plan sender) (circuit_row plan circuit)) && not
      (circuit.0 == sender.0))
      (same.circuits circuit.0)
      ∙ ap (λ (reached : Bool). ((is_site plan ground service circuit && not (is_circuit_taken other circuit.0)) && reached) && not (circuit.0 == sender.0))
      (rows_same service (circuit_row plan sender) (circuit_row plan circuit))

pub same_faults : SameFaults
same_faults plan ground one other same service sender circuit = serve_same plan ground one other same service sender circuit

-- a site that is lost, and one that stays
alone : (site lost taken reached other : Bool) → ((site && not (lost || taken)) && reached) && other ≡ (((site && not taken) && reached) && other) && not lost
alone true true taken reached other = sym (and_false ((not taken && reached) && other))
alone true false taken reached other = sym (and_true ((not taken && reached) && other))
alone false lost taken reached other = refl

pub circuit_alone : CircuitAlone
circuit_alone plan ground faults lost service sender circuit =
    alone (is_site plan ground service circuit) (circuit.0 == lost.0) (is_circuit_taken faults circuit.0)
    (would_reach_row plan ground faults service (circuit_row plan sender) (circuit_row plan circuit)) (not (circuit.0 == sender.0))
