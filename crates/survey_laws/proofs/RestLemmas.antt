-- Whom a frame reaches once all has settled is decided by the ground and the faults.
use Rattle.std.proofs.Common.{◌≡◌, ◌++◌, ◌==◌, ◌&&◌, ◌||◌, ◌∙◌, ℕ, Bool, true, false, cond, not, map, filter, List, [], ◌∷◌, Option, Some, None, option_and_then, option_map, slice_get, zero-add, refl, sym, ap}
use Rattle.net_values.proofs.BoolLemmas.{clash, first_holds, second_holds}
use Rattle.net_base.specs.declared.plan.Plan.{Plan}
use Rattle.net_base.specs.declared.plan.circuit_plan.CircuitPlan.{CircuitPlan}
use Rattle.net_base.specs.declared.plan.places.CircuitId.{CircuitId}
use Rattle.net_base.specs.declared.plan.places.ServiceId.{ServiceId}
use Rattle.net_base.specs.declared.plan.places.WireId.{WireId}
use Rattle.net_base.specs.declared.plan.wire_plan.WirePlan.{WirePlan}
use Rattle.net_base.specs.plan.Paths.{is_first, is_last}
use Rattle.net_base.specs.plan.Places.{circuit_row, is_mesh_class, wire_row}
use Rattle.net_base.specs.plan.Roles.{is_mesh_of, is_spoke_edge, is_wire_of}
use Rattle.spoke_redundancy.specs.declared.spoke.Spoke.{Spoke}
use Rattle.spoke_redundancy.specs.Choice.{chosen}
use Rattle.edge_model.specs.declared.end_place.EndPlace.{EndPlace}
use Rattle.edge_model.specs.EndPlaces.{end_places}
use Rattle.edge_model.specs.Spokes.{is_spoke_row, spoke_places}
use Rattle.network_model.specs.Calm.{carries, meshes}
use Rattle.network_model.specs.Reach.{home_of, is_circuit_of, is_circuit_on, is_site}
use Rattle.network_model.specs.State.{NetworkState}
use Rattle.flight_laws.specs.Laws.{network_after}
use Rattle.flood_laws.specs.Reached.{are_meshed, core_of, have_mesh, is_reached, reaches, sender_reaches}
use Rattle.settle_laws.specs.Sound.{is_first_choice, is_sound, is_sound_row, is_used, sound_choice, sound_spoke_at}
use Rattle.settle_laws.proofs.CalmLemmas.{any_same}
use Rattle.settle_laws.proofs.RunLemmas.{runs_carry_sound, runs_rest_quiet}
use Rattle.survey_laws.specs.declared.fault.Fault.{Fault}
use Rattle.survey_laws.specs.Faults.{faults_by, is_circuit_taken, is_spoke_end_of}
use Rattle.survey_laws.specs.Laws.{AreExact, RestsAsSurveyed}
use Rattle.survey_laws.specs.Would.{last_of, would_be_meshed, would_choose, would_core, would_home, would_meet, would_mesh, would_reach, would_reach_row, would_serve, would_sound_row, would_spoke_at}
use Rattle.survey_laws.proofs.FaultLemmas.{faults_are_exact}
use Rattle.survey_laws.proofs.HomeLemmas.{home_is}

-- two maps that agree on the items that pass a test
mapped_same : {A B : Type 0} (f g : A → B) (test : A → Bool) (xs : List A) → ((x : A) → test x ≡ true → f x ≡ g x) → map f (filter test xs) ≡ map g (filter test xs)
mapped_same f g test [] same = refl
mapped_same f g test (x ∷ xs) same = by (test x) refl (mapped_same f g test xs same) where
  by : (b : Bool) → test x ≡ b → map f (filter test xs) ≡ map g (filter test xs) → map f (cond b (x ∷ filter test xs) (filter test xs)) ≡ map g (cond b (x ∷ filter test xs) (filter test xs))
  by true passes rest = λ i. same x passes i ∷ rest i
  by false fails rest = rest

-- a mesh wire of the service, used whatever is chosen
meshes_used : (of carried sound used : Bool) → (of ≡ true → carried ≡ sound && used) → (of ≡ true → used ≡ true) → of && carried ≡ of && sound
meshes_used true carried true used is always = is refl ∙ always refl
meshes_used true carried false used is always = is refl
meshes_used false carried sound used is always = refl

-- a site, and one that is taken
site_left : (of now ground taken : Bool) → now ≡ ground && not taken → of && now ≡ (of && ground) && not taken
site_left true now ground taken is = is
site_left false now ground taken is = refl

module _ (plan : Plan) (ground now : NetworkState) (faults : List Fault) (service : ServiceId) (exact : AreExact plan ground now faults)
    (carried : (wire : WireId) (row : WirePlan) → wire_row plan wire ≡ Some row → is_wire_of service row ≡ true
    → carries plan now wire.0 row ≡ (is_sound now wire.0 row && is_used plan now wire row)) where
  -- ---- the core edge of an edge

  row_exact : (wire : WireId) → is_sound_row now wire.0 (wire_row plan wire) ≡ would_sound_row ground faults wire.0 (wire_row plan wire)
  row_exact wire = by (wire_row plan wire) refl where
    by : (row : Option WirePlan) → wire_row plan wire ≡ row → is_sound_row now wire.0 row ≡ would_sound_row ground faults wire.0 row
    by None is = refl
    by (Some row) is = exact.sound wire row is

  spoke_end : (edge : ℕ) (row : Option WirePlan) → is_spoke_row service (record { 0 = edge }) row ≡ true → is_spoke_end_of edge row ≡ true
  spoke_end edge None spoke = spoke
  spoke_end edge (Some row) spoke = by (is_wire_of service row) spoke where
    by : (ours : Bool) → (ours && not (is_mesh_class row.class)) && is_first edge row.path ≡ true → not (is_mesh_class row.class) && is_first edge row.path ≡ true
    by true is = is
    by false is = clash is

  spoke_exact : (edge : ℕ) (place : EndPlace) → is_spoke_row service (record { 0 = edge }) (wire_row plan place.wire) ≡ true
      → sound_spoke_at plan now edge place ≡ would_spoke_at plan ground faults edge place
  spoke_exact edge place spoke = λ i. record {
    priority = exact.numbers edge place.wire (spoke_end edge (wire_row plan place.wire) spoke) i;
    usable = row_exact place.wire i;
  }

  choice_exact : (edge : ℕ) → sound_choice plan now service edge ≡ would_choose plan ground faults service edge
  choice_exact edge =
      ap (λ (spokes : List Spoke). option_map (λ (place : EndPlace). place.wire) (option_and_then (slice_get (spoke_places plan (record { 0 = edge }) service)) (chosen spokes)))
      (mapped_same (sound_spoke_at plan now edge) (would_spoke_at plan ground faults edge) (λ (p : EndPlace). is_spoke_row service (record { 0 = edge }) (wire_row plan p.wire))
      (end_places plan (record { 0 = edge })) (spoke_exact edge))

  home_exact : (edge : ℕ) → home_of plan now service edge ≡ would_home plan ground faults service edge
  home_exact edge = home_is plan now service edge carried ∙ ap (option_and_then (λ (wire : WireId). last_of (wire_row plan wire))) (choice_exact edge)

  core_exact : (edge : ℕ) → core_of plan now service edge ≡ would_core plan ground faults service edge
  core_exact edge = ap (λ (home : Option ℕ). cond (is_spoke_edge plan service edge) home (Some edge)) (home_exact edge)

  -- ---- two core edges

  mesh_exact : (a b : ℕ) (k : ℕ) (row : WirePlan) → slice_get plan.wires k ≡ Some row → meshes plan now service a b k row ≡ would_mesh ground faults service a b k row
  mesh_exact a b k row is =
      meshes_used (is_mesh_of service row && between) (carries plan now k row) (is_sound now k row) (is_used plan now wire row)
      (λ of. carried wire row is (first_holds (is_wire_of service row) (is_mesh_class row.class) (first_holds (is_mesh_of service row) between of)))
      (λ of. ap (λ (mesh : Bool). mesh || is_first_choice plan now wire row row.path)
      (second_holds (is_wire_of service row) (is_mesh_class row.class) (first_holds (is_mesh_of service row) between of)))
      ∙ ap (λ (sound : Bool). (is_mesh_of service row && between) && sound) (exact.sound wire row is)
    where
      between : Bool
      between = (is_first a row.path && is_last b row.path) || (is_first b row.path && is_last a row.path)

      wire : WireId
      wire = record { 0 = k }

  meshed_exact : (a b : ℕ) → are_meshed plan now service a b ≡ would_be_meshed plan ground faults service a b
  meshed_exact a b = ap (λ (some : Bool). a == b || some)
      (any_same (meshes plan now service a b) (would_mesh ground faults service a b) 0 plan.wires (λ k row is. ap (λ (n : ℕ). meshes plan now service a b n row) (zero-add k)
      ∙ (mesh_exact a b k row is ∙ ap (λ (n : ℕ). would_mesh ground faults service a b n row) (sym (zero-add k)))))

  meet_exact : (from to : Option ℕ) → have_mesh plan now service from to ≡ would_meet plan ground faults service from to
  meet_exact None to = refl
  meet_exact (Some a) None = refl
  meet_exact (Some a) (Some b) = meshed_exact a b

  -- ---- and two circuits

  reach_exact : (from to : ℕ) → reaches plan now service from to ≡ would_reach plan ground faults service from to
  reach_exact from to = ap (λ (met : Bool). from == to || met) (
      ap (λ (core : Option ℕ). have_mesh plan now service core (core_of plan now service to)) (core_exact from)
      ∙ (ap (λ (core : Option ℕ). have_mesh plan now service (would_core plan ground faults service from) core) (core_exact to)
      ∙ meet_exact (would_core plan ground faults service from) (would_core plan ground faults service to))
      )

  rows_exact : (from to : Option CircuitPlan) → sender_reaches plan now service from to ≡ would_reach_row plan ground faults service from to
  rows_exact None to = refl
  rows_exact (Some from) None = refl
  rows_exact (Some from) (Some to) = reach_exact from.edge.0 to.edge.0

  site_exact : (circuit : CircuitId) → is_site plan now service circuit ≡ is_site plan ground service circuit && not (is_circuit_taken faults circuit.0)
  site_exact circuit = site_left (is_circuit_of plan service circuit) (is_circuit_on plan now circuit) (is_circuit_on plan ground circuit) (is_circuit_taken faults circuit.0) (exact.circuits circuit)

  pub reached_same : (sender circuit : CircuitId) → is_reached plan now service sender circuit ≡ would_serve plan ground faults service sender circuit
  reached_same sender circuit =
      ap (λ (site : Bool). (site && sender_reaches plan now service (circuit_row plan sender) (circuit_row plan circuit)) && not (circuit.0 == sender.0)) (site_exact circuit)
      ∙ ap (λ (reached : Bool). ((is_site plan ground service circuit && not (is_circuit_taken faults circuit.0)) && reached) && not (circuit.0 == sender.0))
      (rows_exact (circuit_row plan sender) (circuit_row plan circuit))

pub rests_as_surveyed : RestsAsSurveyed
rests_as_surveyed plan base after service rested sender circuit =
    reached_same plan (network_after plan base) (network_after plan (base ++ after)) (faults_by plan after) service (faults_are_exact plan base after rested.run rested.plain)
    (runs_carry_sound plan (base ++ after) rested.run service rested.labels (runs_rest_quiet plan (base ++ after) rested.run rested.rest service))
    sender circuit
