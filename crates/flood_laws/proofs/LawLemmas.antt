-- The law of one copy: what it has still to serve is what its edge serves at once and what the copies that the edge sends have still
-- to serve.
use Rattle.std.proofs.Common.{◌≡◌, ◌<◌, ◌⊎◌, ◌==◌, ◌&&◌, ◌||◌, ◌+◌, ◌*◌, ◌∙◌, not, ℕ, Bool, true, false, Option, Some, None, cond, length, slice_get, nat_eq, refl, ap, sym, subst, zero-add, arith, inl, inr}
use Rattle.std.proofs.lemmas.Bool.{cases_Bool, eq-eqb, eqb-true, or_left, and_from}
use Rattle.std.proofs.lemmas.Map.Keys.{any_passes_from_place}
use Rattle.std.specs.List.{list_any}
use Rattle.net_values.proofs.BoolLemmas.{first_holds, second_holds, fails_within}
use Rattle.net_values.proofs.NumberLemmas.{equal_turned}
use Rattle.net_values.proofs.RowLemmas.{row_holds}
use Rattle.net_base.specs.declared.plan.Plan.{Plan}
use Rattle.net_base.specs.declared.plan.circuit_plan.CircuitPlan.{CircuitPlan}
use Rattle.net_base.specs.declared.plan.wire_plan.WirePlan.{WirePlan}
use Rattle.net_base.specs.declared.plan.places.CircuitId.{CircuitId}
use Rattle.net_base.specs.declared.plan.places.ServiceId.{ServiceId}
use Rattle.net_base.specs.declared.plan.places.WireId.{WireId}
use Rattle.net_base.specs.plan.Accepted.{IsChecked, IsCircuitOf}
use Rattle.net_base.specs.plan.Paths.{is_first, is_last}
use Rattle.net_base.specs.plan.Places.{circuit_row, is_mesh_class, wire_row}
use Rattle.net_base.specs.plan.Roles.{all_below, any_wire, count_wires, has_port, is_circuit_at, is_core_edge, is_spoke_edge, is_spoke_from, is_wire_of, wire_ends_at}
use Rattle.edge_model.specs.Ends.{end_forwards}
use Rattle.network_model.specs.Calm.{carries, has_live_spokes, is_calm, is_full, is_live_spoke, is_quiet, meshes}
use Rattle.network_model.specs.Reach.{far_of, home_of, is_home}
use Rattle.network_model.specs.State.{NetworkState}
use Rattle.network_model.proofs.CalmLemmas.{below_holds}
use Rattle.flood_laws.specs.Due.{awaits, due_by, wires_due}
use Rattle.flood_laws.specs.Reached.{core_of, have_mesh, is_meshed_with, reaches}
use Rattle.flood_laws.proofs.DueLemmas.{awaits_far, awaits_mesh, awaits_near, carries_by, core_due, due_after_mesh, due_after_spoke, due_far, far_forwards, no_mesh, no_spoke, one, spoke_due, stitches}
use Rattle.flood_laws.proofs.HomeLemmas.{HasCore, HasHome, HasLoneSpokes, by_spoke, has_core, has_home, lone_calm, none_home}
use Rattle.flood_laws.proofs.LinkLemmas.{IsLink, link_at}
use Rattle.flood_laws.proofs.MeshLemmas.{by_mesh, far_core, mesh_near, mesh_none, mesh_sum, some_mesh}
use Rattle.flood_laws.proofs.SumLemmas.{few_count, sum-add, sum-at, sum-same, sum-times}

-- an edge with a circuit of the service has a port of it
pub circuit_port : (plan : Plan) (service : ServiceId) (at : CircuitId) (row : CircuitPlan) → circuit_row plan at ≡ Some row → nat_eq row.service.0 service.0 ≡ true
    → has_port plan service row.edge.0 ≡ true
circuit_port plan service at row is of_service =
    or_left (list_any (is_circuit_at service row.edge.0) plan.circuits) (list_any (wire_ends_at service row.edge.0) plan.wires)
    (any_passes_from_place (is_circuit_at service row.edge.0) plan.circuits at.0 row is (rw (of_service, eq-eqb row.edge.0 row.edge.0 refl) refl))

pub circuit_within : (plan : Plan) (at : CircuitId) (row : CircuitPlan) → IsChecked plan → circuit_row plan at ≡ Some row → row.edge.0 < length plan.edges
circuit_within plan at row checked is = (row_holds (IsCircuitOf plan) plan.circuits at.0 row is checked.circuits).edge

-- ---- what is due where a frame is flooded at an edge

module _ (plan : Plan) (calm : NetworkState) (service : ServiceId) (circuit : CircuitId) (site : CircuitPlan) (checked : IsChecked plan) (lone : HasLoneSpokes plan calm service)
    (site_is : circuit_row plan circuit ≡ Some site) (of_service : nat_eq site.service.0 service.0 ≡ true) where
  -- the core edge of the circuit
  abbrev core : Option ℕ
  core = core_of plan calm service site.edge.0

  home : HasHome plan calm service site.edge.0
  home = has_home plan calm service site.edge.0 checked lone

  -- at a spoke edge: by the one spoke that carries frames, or by none
  by_count : (e : ℕ) → is_spoke_edge plan service e ≡ true
      → (count_wires (is_live_spoke plan calm service e) 0 plan.wires ≡ 0) ⊎ (count_wires (is_live_spoke plan calm service e) 0 plan.wires ≡ 1)
      → count_wires (is_live_spoke plan calm service e) 0 plan.wires * one (not (nat_eq site.edge.0 e) && have_mesh plan calm service (core_of plan calm service e) core)
      ≡ one (not (nat_eq site.edge.0 e) && have_mesh plan calm service (core_of plan calm service e) core)
  by_count e spoke (inl none) =
      let nowhere : core_of plan calm service e ≡ None = ap (λ (b : Bool). cond b (home_of plan calm service e) (Some e)) spoke ∙ none_home plan calm service e 0 plan.wires none in
      let nothing : one (not (nat_eq site.edge.0 e) && have_mesh plan calm service (core_of plan calm service e) core) ≡ 0 =
      ap (λ (o : Option ℕ). one (not (nat_eq site.edge.0 e) && have_mesh plan calm service o core)) nowhere ∙ no_one (not (nat_eq site.edge.0 e)) in
      times_zero _ _ none nothing
    where
      no_one : (b : Bool) → one (b && false) ≡ 0
      no_one true = refl
      no_one false = refl

      times_zero : (count n : ℕ) → count ≡ 0 → n ≡ 0 → count * n ≡ n
      times_zero count n none nothing = rw (none, nothing) refl
  by_count e spoke (inr some) = once _ _ some where
    once : (count n : ℕ) → count ≡ 1 → count * n ≡ n
    once count n one_is = rw one_is (grind arith)

  -- at a core edge: by the circuit's spoke, or by a mesh wire to its core edge
  joins : (e : ℕ) (spokes mesh : ℕ) → cond (nat_eq site.edge.0 e) 1 0 + spokes ≡ cond (is_home e core) 1 0 → mesh ≡ cond (some_mesh plan calm service e core) 1 0
      → spokes + mesh ≡ one (not (nat_eq site.edge.0 e) && is_meshed_with plan calm service e core)
  joins e spokes mesh beside also = by core refl (nat_eq site.edge.0 e) beside also where
    at_other : (here same some : Bool) → (same ≡ true → some ≡ false) → cond here 1 0 + spokes ≡ cond same 1 0 → mesh ≡ cond some 1 0 → spokes + mesh ≡ one (not here && (same || some))
    at_other true true true apart beside also = absurd (cc (apart refl))
    at_other true true false apart beside also = omega arith
    at_other true false some apart beside also = absurd (omega arith)
    at_other false true true apart beside also = absurd (cc (apart refl))
    at_other false true false apart beside also = omega arith
    at_other false false true apart beside also = omega arith
    at_other false false false apart beside also = omega arith

    none_other : (here : Bool) → cond here 1 0 + spokes ≡ 0 → mesh ≡ 0 → spokes + mesh ≡ one (not here && false)
    none_other true beside also = absurd (omega arith)
    none_other false beside also = omega arith

    by : (o : Option ℕ) → core ≡ o → (here : Bool) → cond here 1 0 + spokes ≡ cond (is_home e o) 1 0 → mesh ≡ cond (some_mesh plan calm service e o) 1 0
        → spokes + mesh ≡ one (not here && is_meshed_with plan calm service e o)
    by None is here beside also = none_other here beside also
    by (Some h) is here beside also =
        at_other here (nat_eq e h) (any_wire (meshes plan calm service e h) 0 plan.wires) (λ same. mesh_none plan calm service e h checked same)
        (beside ∙ ap (λ (b : Bool). cond {A = ℕ} b 1 0) (equal_turned h e)) also

  pub entry_reach : (e : ℕ) → wires_due plan calm service circuit e None
      ≡ one (not (nat_eq site.edge.0 e) && have_mesh plan calm service (core_of plan calm service e) core)
  entry_reach e = elim (cases_Bool (is_spoke_edge plan service e)) [
    | inl spoke ↦
        sum-same (due_by plan calm service circuit e None)
        (λ k w. cond (is_live_spoke plan calm service e k w) (one (not (nat_eq site.edge.0 e) && have_mesh plan calm service (core_of plan calm service e) core)) 0) plan.wires
        (λ k w is. spoke_due plan calm service circuit site site_is of_service checked lone e k w spoke is)
        ∙ (sum-times (is_live_spoke plan calm service e) (one (not (nat_eq site.edge.0 e) && have_mesh plan calm service (core_of plan calm service e) core)) 0 plan.wires
        ∙ by_count e spoke (few_count (is_live_spoke plan calm service e) 0 plan.wires (λ i j w v is live other also. lone e i j w v is (from_none e i w live) other (from_none e j v also))))
    | inr none ↦
        sum-same (due_by plan calm service circuit e None) (λ k w. by_spoke plan calm service site.edge.0 e k w + by_mesh plan calm service e core k w) plan.wires
        (λ k w is. core_due plan calm service circuit site site_is of_service home checked e k w none is)
        ∙ (sum-add (by_spoke plan calm service site.edge.0 e) (by_mesh plan calm service e core) 0 plan.wires
        ∙ (joins e _ _ (home.spokes e none) (mesh_sum plan calm service e core checked)
        ∙ ap (λ (o : Option ℕ). one (not (nat_eq site.edge.0 e) && have_mesh plan calm service o core)) (sym (ap (λ (b : Bool). cond b (home_of plan calm service e) (Some e)) none))))
  ]
    where
      from_none : (e k : ℕ) (x : WirePlan) → is_live_spoke plan calm service e (0 + k) x ≡ true → is_live_spoke plan calm service e k x ≡ true
      from_none e k x passes = subst (λ n. is_live_spoke plan calm service e n x ≡ true) (zero-add k) passes

  -- as a frame enters, its copies have still to serve what is at the other edges that the edge reaches
  pub entry_reaches : (e : ℕ) → wires_due plan calm service circuit e None ≡ one (not (nat_eq site.edge.0 e) && reaches plan calm service e site.edge.0)
  entry_reaches e = entry_reach e ∙ same (nat_eq site.edge.0 e) (nat_eq e site.edge.0) (have_mesh plan calm service (core_of plan calm service e) core) (equal_turned site.edge.0 e) where
    same : (a b c : Bool) → a ≡ b → one (not a && c) ≡ one (not a && (b || c))
    same true b c is = refl
    same false true c is = absurd (cc (is))
    same false false c is = refl

-- ---- in a calm service each edge with a port of it reaches each other one

pub calm_meshed : (plan : Plan) (calm : NetworkState) (service : ServiceId) (a b : ℕ) → IsChecked plan → is_calm plan calm service ≡ true
    → a < length plan.edges → has_port plan service a ≡ true → b < length plan.edges → has_port plan service b ≡ true
    → have_mesh plan calm service (core_of plan calm service a) (core_of plan calm service b) ≡ true
calm_meshed plan calm service a b checked calmed within port within_too port_too =
    ap (λ (o : Option ℕ). have_mesh plan calm service o (core_of plan calm service b)) one_core.is
    ∙ (ap (is_meshed_with plan calm service one_core.home) other_core.is
    ∙ meets (is_core_edge plan service one_core.home) (is_core_edge plan service other_core.home) _ one_core.core other_core.core both)
  where
    one_core : HasCore plan calm service a
    one_core = has_core plan calm service a checked calmed within port

    other_core : HasCore plan calm service b
    other_core = has_core plan calm service b checked calmed within_too port_too

    full : is_full plan calm service ≡ true
    full = second_holds (is_quiet plan calm service) (is_full plan calm service)
        (first_holds (is_quiet plan calm service && is_full plan calm service) (has_live_spokes plan calm service) calmed)

    met : ℕ → ℕ → Bool
    met c d = not (is_core_edge plan service c && is_core_edge plan service d) || (c == d || any_wire (meshes plan calm service c d) 0 plan.wires)

    both : met one_core.home other_core.home ≡ true
    both = below_holds (length plan.edges) other_core.home (met one_core.home)
        (below_holds (length plan.edges) one_core.home (λ c. all_below (length plan.edges) (met c)) full one_core.within) other_core.within

    meets : (x y mesh : Bool) → x ≡ true → y ≡ true → not (x && y) || mesh ≡ true → mesh ≡ true
    meets true true mesh one other holds = holds
    meets true false mesh one other holds = absurd (cc (other))
    meets false y mesh one other holds = absurd (cc (one))

-- a frame that is flooded to all wires of an edge with a port of a calm service
pub entry_at : (plan : Plan) (calm : NetworkState) (service : ServiceId) (circuit : CircuitId) (site : CircuitPlan) (e : ℕ) → IsChecked plan → is_calm plan calm service ≡ true
    → circuit_row plan circuit ≡ Some site → nat_eq site.service.0 service.0 ≡ true → e < length plan.edges → has_port plan service e ≡ true
    → wires_due plan calm service circuit e None ≡ cond (nat_eq site.edge.0 e) 0 1
entry_at plan calm service circuit site e checked calmed site_is of_service within port =
    entry_reach plan calm service circuit site checked (lone_calm plan calm service checked calmed) site_is of_service e
    ∙ all (nat_eq site.edge.0 e) _ (calm_meshed plan calm service e site.edge.0 checked calmed within port
    (circuit_within plan circuit site checked site_is) (circuit_port plan service circuit site site_is of_service))
  where
    all : (here meshed : Bool) → meshed ≡ true → one (not here && meshed) ≡ cond here 0 1
    all true meshed is = refl
    all false meshed is = ap one is

-- a frame that enters at a circuit of the service at an edge: its copies have still to serve what is at the other edges
pub entry_law : (plan : Plan) (calm : NetworkState) (service : ServiceId) (circuit at : CircuitId) (row sender : CircuitPlan)
    → IsChecked plan → is_calm plan calm service ≡ true
    → circuit_row plan circuit ≡ Some row → nat_eq row.service.0 service.0 ≡ true
    → circuit_row plan at ≡ Some sender → nat_eq sender.service.0 service.0 ≡ true
    → wires_due plan calm service circuit sender.edge.0 None ≡ cond (nat_eq row.edge.0 sender.edge.0) 0 1
entry_law plan calm service circuit at row sender checked calmed is of_service sender_is sender_of =
    entry_at plan calm service circuit row sender.edge.0 checked calmed is of_service (circuit_within plan at sender checked sender_is) (circuit_port plan service at sender sender_is sender_of)

-- a copy that arrives by a mesh wire that carries frames has to serve what is beside the edge: there, or at a spoke edge whose core edge it is
mesh_arrives : (plan : Plan) (calm : NetworkState) (service : ServiceId) (circuit : CircuitId) (site : CircuitPlan) (came : ℕ) (v : WirePlan) (to : ℕ)
    → IsChecked plan → HasLoneSpokes plan calm service → circuit_row plan circuit ≡ Some site → nat_eq site.service.0 service.0 ≡ true
    → slice_get plan.wires came ≡ Some v → is_mesh_class v.class ≡ true → is_spoke_edge plan service to ≡ false → carries plan calm came v ≡ true
    → one (awaits plan calm service circuit (record { 0 = to }) (record { 0 = came })) ≡ cond (nat_eq site.edge.0 to) 1 0 + wires_due plan calm service circuit to (Some came)
mesh_arrives plan calm service circuit site came v to checked lone site_is of_service came_is mesh none live =
    ap one (awaits_mesh plan calm service circuit site site_is of_service to came v came_is mesh ∙ (opened (carries plan calm came v) _ live ∙ home.beside to none))
    ∙ (sym (home.spokes to none)
    ∙ ap (λ n. cond (nat_eq site.edge.0 to) 1 0 + n) (sym (sum-same (due_by plan calm service circuit to (Some came)) (by_spoke plan calm service site.edge.0 to) plan.wires (λ k w is.
    due_after_mesh plan calm service circuit to came k w v came_is mesh is
    ∙ only k w (is_mesh_class w.class) refl (core_due plan calm service circuit site site_is of_service home checked to k w none is)))))
  where
    home : HasHome plan calm service site.edge.0
    home = has_home plan calm service site.edge.0 checked lone

    opened : (live x : Bool) → live ≡ true → live && x ≡ x
    opened live x is = rw is refl

    only : (k : ℕ) (w : WirePlan) (m : Bool) → is_mesh_class w.class ≡ m → due_by plan calm service circuit to None k w
        ≡ by_spoke plan calm service site.edge.0 to k w + by_mesh plan calm service to (core_of plan calm service site.edge.0) k w
        → cond (is_mesh_class w.class) 0 (due_by plan calm service circuit to None k w) ≡ by_spoke plan calm service site.edge.0 to k w
    only k w true is due =
        ap (λ (t : Bool). cond t 0 (due_by plan calm service circuit to None k w)) is
        ∙ sym (no_spoke plan calm service site.edge.0 to k w is)
    only k w false is due = ap (λ (t : Bool). cond t 0 (due_by plan calm service circuit to None k w)) is
        ∙ omega (arith, due, no_mesh plan calm service to k w (core_of plan calm service site.edge.0) is)

-- what goes out where a copy came by a spoke is what goes out where a frame enters, without that spoke
spoke_rest : (plan : Plan) (calm : NetworkState) (service : ServiceId) (circuit : CircuitId) (came : ℕ) (v : WirePlan) (to : ℕ)
    → slice_get plan.wires came ≡ Some v → is_mesh_class v.class ≡ false
    → wires_due plan calm service circuit to (Some came) + due_by plan calm service circuit to None came v ≡ wires_due plan calm service circuit to None
spoke_rest plan calm service circuit came v to came_is spoke =
    let two = sum-add (due_by plan calm service circuit to (Some came)) (λ k w. cond (nat_eq k came) (due_by plan calm service circuit to None k w) 0) 0 plan.wires in
    let there = sum-at (due_by plan calm service circuit to None) came v plan.wires came_is in
    let each = sum-same (λ k w. due_by plan calm service circuit to (Some came) k w + cond (nat_eq k came) (due_by plan calm service circuit to None k w) 0)
    (due_by plan calm service circuit to None) plan.wires
    (λ k w is. due_after_spoke plan calm service circuit to came k w (rw (came_is, spoke) refl)) in
    ap (λ n. wires_due plan calm service circuit to (Some came) + n) (sym there) ∙ (sym two ∙ each)

-- the edge that it came from is the other terminal edge
pub sides : (plan : Plan) (service : ServiceId) (w : WirePlan) (to from : ℕ) (link : IsLink plan w) → wire_ends_at service to w ≡ true → far_of to w.path ≡ Some from
    → ((to ≡ link.near.0) × (from ≡ link.far.0)) ⊎ ((to ≡ link.far.0) × (from ≡ link.near.0))
sides plan service w to from link ends far = elim (cases_Bool (nat_eq to link.near.0)) [
  | inl near ↦
      (let other : Some link.far.0 ≡ Some from = rw (link.path, near, link.ends) at far in
      let from_is : link.far.0 ≡ from = cc (other) in
      inl (eqb-true to link.near.0 near, sym from_is))
  | inr away ↦
      (let other : Some link.near.0 ≡ Some from = rw (link.path, away) at far in
      let from_is : link.near.0 ≡ from = cc (other) in
      let last : nat_eq to link.far.0 ≡ true = second_holds (is_wire_of service w) (nat_eq to link.far.0) (rw (link.path, away, link.last to) at ends) in
      inr (eqb-true to link.far.0 last, sym from_is))
]

-- a spoke that carries frames, at either end
module _ (plan : Plan) (calm : NetworkState) (service : ServiceId) (circuit : CircuitId) (site : CircuitPlan) (came : ℕ) (v : WirePlan) (link : IsLink plan v)
    (checked : IsChecked plan) (lone : HasLoneSpokes plan calm service) (site_is : circuit_row plan circuit ≡ Some site) (of_service : nat_eq site.service.0 service.0 ≡ true)
    (came_is : slice_get plan.wires came ≡ Some v) (spoke : is_mesh_class v.class ≡ false) (ours : is_wire_of service v ≡ true)
    (live : carries plan calm came v ≡ true) where
  from_near : is_spoke_from service link.near.0 v ≡ true
  from_near = rw (ours, spoke, link.path, eq-eqb link.near.0 link.near.0 refl) refl

  live_spoke : is_live_spoke plan calm service link.near.0 came v ≡ true
  live_spoke = and_from (is_spoke_from service link.near.0 v) (carries plan calm came v) from_near live

  gated : (a b x y : Bool) → a ≡ true → b ≡ true → x ≡ y → cond (a && b) (one x) 0 ≡ one y
  gated a b x y one_is other same = rw (one_is, other, same) refl

  opened : (live x : Bool) → live ≡ true → live && x ≡ x
  opened live x is = rw is refl

  near_arrives : one (awaits plan calm service circuit link.near (record { 0 = came })) ≡ cond (nat_eq site.edge.0 link.near.0) 1 0 + wires_due plan calm service circuit link.near.0 (Some came)
  near_arrives =
      ap one (awaits_near plan calm service circuit site site_is of_service came v link came_is spoke ∙ opened _ (nat_eq site.edge.0 link.near.0) live_spoke)
      ∙ all_gone _ _ _ _ _ (spoke_rest plan calm service circuit came v link.near.0 came_is spoke) sent (entry_reach plan calm service circuit site checked lone site_is of_service link.near.0)
    where
      all_gone : (a rest here all n : ℕ) → rest + here ≡ all → here ≡ n → all ≡ n → a ≡ a + rest
      all_gone a rest here all n sum sends total = omega (arith, sum, sends, total)

      sent : due_by plan calm service circuit link.near.0 None came v
          ≡ one (not (nat_eq site.edge.0 link.near.0) && have_mesh plan calm service (core_of plan calm service link.near.0) (core_of plan calm service site.edge.0))
      sent =
          spoke_due plan calm service circuit site site_is of_service checked lone link.near.0 came v (any_passes_from_place (is_spoke_from service link.near.0) plan.wires came v came_is from_near) came_is
          ∙ ap (λ (b : Bool). cond b (one (not (nat_eq site.edge.0 link.near.0) && have_mesh plan calm service (core_of plan calm service link.near.0) (core_of plan calm service site.edge.0))) 0) live_spoke

  far_arrives : one (awaits plan calm service circuit link.far (record { 0 = came })) ≡ cond (nat_eq site.edge.0 link.far.0) 1 0 + wires_due plan calm service circuit link.far.0 (Some came)
  far_arrives =
      ap one (awaits_far plan calm service circuit site site_is of_service came v link came_is spoke ∙ opened _ (not (nat_eq site.edge.0 link.near.0) && reaches plan calm service link.far.0 site.edge.0) live_spoke)
      ∙ joins (nat_eq site.edge.0 link.near.0) (nat_eq site.edge.0 link.far.0) (reaches plan calm service link.far.0 site.edge.0) _ _ _
      (spoke_rest plan calm service circuit came v link.far.0 came_is spoke)
      (due_far plan calm service circuit came v link ∙ gated _ _ _ _ ours (far_forwards plan calm came v link live)
      (awaits_near plan calm service circuit site site_is of_service came v link came_is spoke ∙ opened _ _ live_spoke))
      (entry_reaches plan calm service circuit site checked lone site_is of_service link.far.0) there
    where
      joins : (p here r : Bool) (rest sent all : ℕ) → rest + sent ≡ all → sent ≡ one p → all ≡ one (not here && r) → (here ≡ true → r ≡ true) → one (not p && r) ≡ cond here 1 0 + rest
      joins true true r rest sent all sum sends total reached = absurd (omega (arith, sum, sends, total))
      joins true false true rest sent all sum sends total reached = omega (arith, sum, sends, total)
      joins true false false rest sent all sum sends total reached = absurd (omega (arith, sum, sends, total))
      joins false true true rest sent all sum sends total reached = omega (arith, sum, sends, total)
      joins false true false rest sent all sum sends total reached = absurd (cc (reached refl))
      joins false false true rest sent all sum sends total reached = omega (arith, sum, sends, total)
      joins false false false rest sent all sum sends total reached = omega (arith, sum, sends, total)

      there : nat_eq site.edge.0 link.far.0 ≡ true → reaches plan calm service link.far.0 site.edge.0 ≡ true
      there same = or_left (nat_eq link.far.0 site.edge.0) (have_mesh plan calm service (core_of plan calm service link.far.0) (core_of plan calm service site.edge.0)) (equal_turned link.far.0 site.edge.0 ∙ same)

-- a copy that arrives at an edge by a wire that carries frames
pub arrival_at : (plan : Plan) (calm : NetworkState) (service : ServiceId) (circuit : CircuitId) (row : CircuitPlan) (wire : WireId) (w : WirePlan) (to from : ℕ)
    → IsChecked plan → HasLoneSpokes plan calm service
    → circuit_row plan circuit ≡ Some row → nat_eq row.service.0 service.0 ≡ true
    → wire_row plan wire ≡ Some w → wire_ends_at service to w ≡ true → far_of to w.path ≡ Some from
    → carries plan calm wire.0 w ≡ true
    → cond {A = ℕ} (awaits plan calm service circuit (record { 0 = to }) wire) 1 0 ≡ cond (nat_eq row.edge.0 to) 1 0 + wires_due plan calm service circuit to (Some wire.0)
arrival_at plan calm service circuit row wire w to from checked lone is of_service wire_is ends far live =
    at (link_at plan wire.0 w checked wire_is)
  where
    ours : is_wire_of service w ≡ true
    ours = first_holds (is_wire_of service w) (is_first to w.path || is_last to w.path) ends

    at : (link : IsLink plan w) → cond {A = ℕ} (awaits plan calm service circuit (record { 0 = to }) wire) 1 0 ≡ cond (nat_eq row.edge.0 to) 1 0 + wires_due plan calm service circuit to (Some wire.0)
    at link = elim (cases_Bool (is_mesh_class w.class)) [
      | inl mesh ↦ mesh_arrives plan calm service circuit row wire.0 w to checked lone is of_service wire_is mesh (elim (sides plan service w to from link ends far) [
        | inl near ↦ ap (is_spoke_edge plan service) near.0 ∙ mesh_near plan service wire.0 w link checked wire_is (and_from (is_wire_of service w) (is_mesh_class w.class) ours mesh)
        | inr last ↦ ap (is_spoke_edge plan service) last.0 ∙ far_core plan service wire.0 w link checked wire_is ours
      ]) live
      | inr spoke ↦ elim (sides plan service w to from link ends far) [
        | inl near ↦ subst (λ n. cond {A = ℕ} (awaits plan calm service circuit (record { 0 = n }) wire) 1 0
            ≡ cond (nat_eq row.edge.0 n) 1 0 + wires_due plan calm service circuit n (Some wire.0)) (sym near.0)
            (near_arrives plan calm service circuit row wire.0 w link checked lone is of_service wire_is spoke ours live)
        | inr last ↦ subst (λ n. cond {A = ℕ} (awaits plan calm service circuit (record { 0 = n }) wire) 1 0
            ≡ cond (nat_eq row.edge.0 n) 1 0 + wires_due plan calm service circuit n (Some wire.0)) (sym last.0)
            (far_arrives plan calm service circuit row wire.0 w link checked lone is of_service wire_is spoke ours live)
      ]
    ]

-- in a calm service
pub arrival_law : (plan : Plan) (calm : NetworkState) (service : ServiceId) (circuit : CircuitId) (row : CircuitPlan) (wire : WireId) (w : WirePlan) (to from : ℕ)
    → IsChecked plan → is_calm plan calm service ≡ true
    → circuit_row plan circuit ≡ Some row → nat_eq row.service.0 service.0 ≡ true
    → wire_row plan wire ≡ Some w → wire_ends_at service to w ≡ true → far_of to w.path ≡ Some from
    → carries plan calm wire.0 w ≡ true
    → cond {A = ℕ} (awaits plan calm service circuit (record { 0 = to }) wire) 1 0 ≡ cond (nat_eq row.edge.0 to) 1 0 + wires_due plan calm service circuit to (Some wire.0)
arrival_law plan calm service circuit row wire w to from checked calmed is of_service wire_is ends far live =
    arrival_at plan calm service circuit row wire w to from checked (lone_calm plan calm service checked calmed) is of_service wire_is ends far live

-- a copy that arrives by a wire whose end there does not forward has nothing to serve
pub down_law : (plan : Plan) (calm : NetworkState) (service : ServiceId) (circuit : CircuitId) (wire : WireId) (w : WirePlan) (to from : ℕ)
    → IsChecked plan
    → wire_row plan wire ≡ Some w → wire_ends_at service to w ≡ true → far_of to w.path ≡ Some from
    → end_forwards plan (calm.edges to) wire ≡ false → end_forwards plan (calm.edges from) wire ≡ true
    → awaits plan calm service circuit (record { 0 = to }) wire ≡ false
down_law plan calm service circuit wire w to from checked wire_is ends far there here =
    at (link_at plan wire.0 w checked wire_is)
  where
    ours : is_wire_of service w ≡ true
    ours = first_holds (is_wire_of service w) (is_first to w.path || is_last to w.path) ends

    down_near : (a b j : Bool) → a ≡ false → (a && b) && j ≡ false
    down_near a b j down = rw down refl

    down_at : (m n : ℕ) → m ≡ n → end_forwards plan (calm.edges m) wire ≡ false → end_forwards plan (calm.edges n) wire ≡ false
    down_at m n same down = ap (λ k. end_forwards plan (calm.edges k) wire) (sym same) ∙ down

    dead : (link : IsLink plan w) → carries plan calm wire.0 w ≡ false
    dead link = carries_by plan calm wire.0 w link ∙ (elim (sides plan service w to from link ends far) [
      | inl near ↦ down_near _ (end_forwards plan (calm.edges link.far.0) wire) (stitches calm wire.0 link) (down_at to link.near.0 near.0 there)
      | inr last ↦ fails_within (end_forwards plan (calm.edges link.near.0) wire) _ (stitches calm wire.0 link) (down_at to link.far.0 last.0 there)
    ])

    stops : (a b : Bool) → a ≡ false → a && b ≡ false
    stops a b down = rw down refl

    at : IsLink plan w → awaits plan calm service circuit (record { 0 = to }) wire ≡ false
    at link = elim (cases_Bool (is_mesh_class w.class)) [
      | inl mesh ↦ rw (wire_is, mesh) (stops (carries plan calm wire.0 w) _ (dead link))
      | inr spoke ↦ rw (wire_is, spoke) (fails_within _ (carries plan calm wire.0 w) _ (dead link))
    ]

-- a spoke edge has one spoke that carries frames
pub one_live_spoke : (plan : Plan) (calm : NetworkState) (service : ServiceId) (edge : ℕ) (wire other : WireId) (w v : WirePlan)
    → IsChecked plan → is_calm plan calm service ≡ true
    → wire_row plan wire ≡ Some w → is_spoke_from service edge w ≡ true → carries plan calm wire.0 w ≡ true
    → wire_row plan other ≡ Some v → is_spoke_from service edge v ≡ true → carries plan calm other.0 v ≡ true
    → wire.0 ≡ other.0
one_live_spoke plan calm service edge wire other w v checked calmed wire_is spoke live other_is other_spoke other_live =
    lone_calm plan calm service checked calmed edge wire.0 other.0 w v
    wire_is (and_from (is_spoke_from service edge w) (carries plan calm wire.0 w) spoke live)
    other_is (and_from (is_spoke_from service edge v) (carries plan calm other.0 v) other_spoke other_live)
