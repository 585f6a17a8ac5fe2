-- What is due to a circuit by one wire of a bridge that floods, at a core edge and at a spoke edge.
use Rattle.std.proofs.Common.{◌≡◌, ◌+◌, ◌&&◌, ◌||◌, ◌∙◌, not, ℕ, Bool, true, false, List, [], ◌∷◌, Option, Some, None, cond, slice_get, nat_eq, refl, ap, sym, subst, arith, inl, inr}
use Rattle.std.proofs.lemmas.Bool.{cases_Bool, eq-eqb, eqb-true}
use Rattle.net_values.proofs.BoolLemmas.{first_holds, second_holds}
use Rattle.net_values.proofs.NumberLemmas.{apart_back}
use Rattle.net_base.specs.declared.plan.Plan.{Plan}
use Rattle.net_base.specs.declared.plan.circuit_plan.CircuitPlan.{CircuitPlan}
use Rattle.net_base.specs.declared.plan.wire_plan.WirePlan.{WirePlan}
use Rattle.net_base.specs.declared.plan.places.CircuitId.{CircuitId}
use Rattle.net_base.specs.declared.plan.places.EdgeId.{EdgeId}
use Rattle.net_base.specs.plan.Paths.{is_first, is_last, last_edge}
use Rattle.net_base.specs.declared.plan.places.ServiceId.{ServiceId}
use Rattle.net_base.specs.plan.Accepted.{IsChecked}
use Rattle.net_base.specs.plan.Places.{circuit_row, is_mesh_class, is_mesh_wire}
use Rattle.net_base.specs.plan.Roles.{any_wire, is_mesh_of, is_spoke_edge, is_spoke_from, is_wire_of}
use Rattle.edge_model.specs.Ends.{end_forwards}
use Rattle.network_model.specs.Calm.{carries, inner_stitched, is_live_spoke, last_forwards, meshes}
use Rattle.network_model.specs.Reach.{home_of, is_home}
use Rattle.network_model.specs.State.{NetworkState}
use Rattle.flood_laws.specs.Due.{awaits, due_by}
use Rattle.flood_laws.specs.Reached.{core_of, have_mesh, is_meshed_with, reaches}
use Rattle.flood_laws.proofs.HomeLemmas.{HasHome, HasLoneSpokes, by_spoke, live_core}
use Rattle.flood_laws.proofs.LinkLemmas.{IsLink, is_between, link_at, none_at}
use Rattle.flood_laws.proofs.MeshLemmas.{by_mesh, far_core, mesh_near}

-- one where the test holds
abbrev pub one : Bool → ℕ
one test = cond test 1 0

-- the edge's end of the wire forwards, by their places
abbrev pub forwards : Plan → NetworkState → ℕ → ℕ → Bool
forwards plan calm e k = end_forwards plan (calm.edges e) (record { 0 = k })

-- the last edge of a path forwards
abbrev pub end_sends : Plan → NetworkState → ℕ → Option EdgeId → Bool
end_sends plan calm k None = false
end_sends plan calm k (Some e) = forwards plan calm e.0 k

last_sends_is : (plan : Plan) (calm : NetworkState) (k : ℕ) (path : List EdgeId) → last_forwards plan calm k path ≡ end_sends plan calm k (last_edge path)
last_sends_is plan calm k [] = refl
last_sends_is plan calm k (last ∷ []) = refl
last_sends_is plan calm k (first ∷ next ∷ rest) = last_sends_is plan calm k (next ∷ rest)

pub last_sends : (plan : Plan) (calm : NetworkState) (k : ℕ) (w : WirePlan) (link : IsLink plan w) → last_forwards plan calm k (link.near ∷ link.rest) ≡ forwards plan calm link.far.0 k
last_sends plan calm k w link = last_sends_is plan calm k (link.near ∷ link.rest) ∙ ap (end_sends plan calm k) link.ends

-- the switching points of a wire, if it has any, have both sides advertised and bound
abbrev pub stitches : {plan : Plan} {w : WirePlan} → NetworkState → ℕ → IsLink plan w → Bool
stitches {plan} calm k link = inner_stitched plan calm k link.rest

-- a wire carries frames where both ends forward, and it is stitched between them
pub carries_by : (plan : Plan) (calm : NetworkState) (k : ℕ) (w : WirePlan) (link : IsLink plan w)
    → carries plan calm k w ≡ (forwards plan calm link.near.0 k && forwards plan calm link.far.0 k) && stitches calm k link
carries_by plan calm k w link = rw (link.path, last_sends plan calm k w link) refl

-- what has a copy still to serve that arrives at an edge by a wire
module _ (plan : Plan) (calm : NetworkState) (service : ServiceId) (circuit : CircuitId) (site : CircuitPlan) (site_is : circuit_row plan circuit ≡ Some site) (of_service : nat_eq site.service.0 service.0 ≡ true) where
  -- by a mesh wire that carries frames: what is beside its core edge
  pub awaits_mesh : (to k : ℕ) (w : WirePlan) → slice_get plan.wires k ≡ Some w → is_mesh_class w.class ≡ true
      → awaits plan calm service circuit (record { 0 = to }) (record { 0 = k })
      ≡ carries plan calm k w && (nat_eq site.edge.0 to || (is_spoke_edge plan service site.edge.0 && is_home to (home_of plan calm service site.edge.0)))
  awaits_mesh to k w is mesh = rw (is, mesh, site_is, of_service) refl

  -- by a spoke, at its spoke edge: what is there
  pub awaits_near : (k : ℕ) (w : WirePlan) (link : IsLink plan w) → slice_get plan.wires k ≡ Some w → is_mesh_class w.class ≡ false
      → awaits plan calm service circuit link.near (record { 0 = k }) ≡ is_live_spoke plan calm service link.near.0 k w && nat_eq site.edge.0 link.near.0
  awaits_near k w link is spoke = rw (is, spoke, link.path, eq-eqb link.near.0 link.near.0 refl, site_is, of_service) (rw spoke refl)

  -- and at its core edge: what is not at its spoke edge, where the core edge reaches it
  pub awaits_far : (k : ℕ) (w : WirePlan) (link : IsLink plan w) → slice_get plan.wires k ≡ Some w → is_mesh_class w.class ≡ false
      → awaits plan calm service circuit link.far (record { 0 = k })
      ≡ is_live_spoke plan calm service link.near.0 k w && (not (nat_eq site.edge.0 link.near.0) && reaches plan calm service link.far.0 site.edge.0)
  awaits_far k w link is spoke = rw (is, spoke, link.path, apart_back link.near.0 link.far.0 link.apart, eq-eqb link.near.0 link.near.0 refl, site_is, of_service) (rw spoke refl)

-- what is due by a wire at one of its ends, or at another edge
module _ (plan : Plan) (calm : NetworkState) (service : ServiceId) (circuit : CircuitId) (k : ℕ) (w : WirePlan) (link : IsLink plan w) where
  trims : (a b : Bool) → (a && true) && (b && true) ≡ a && b
  trims true true = refl
  trims true false = refl
  trims false b = refl

  pub due_near : due_by plan calm service circuit link.near.0 None k w
      ≡ cond (is_wire_of service w && forwards plan calm link.near.0 k) (one (awaits plan calm service circuit link.far (record { 0 = k }))) 0
  due_near = rw (link.path, link.ends, eq-eqb link.near.0 link.near.0 refl)
      (ap (λ (t : Bool). cond t (one (awaits plan calm service circuit link.far (record { 0 = k }))) 0) (trims (is_wire_of service w) (forwards plan calm link.near.0 k)))

  pub due_far : due_by plan calm service circuit link.far.0 None k w
      ≡ cond (is_wire_of service w && forwards plan calm link.far.0 k) (one (awaits plan calm service circuit link.near (record { 0 = k }))) 0
  due_far =
      rw (link.path, link.last link.far.0, apart_back link.near.0 link.far.0 link.apart, eq-eqb link.far.0 link.far.0 refl)
      (ap (λ (t : Bool). cond t (one (awaits plan calm service circuit link.near (record { 0 = k }))) 0) (trims (is_wire_of service w) (forwards plan calm link.far.0 k)))

  due_away : (e : ℕ) → nat_eq e link.near.0 ≡ false → nat_eq e link.far.0 ≡ false → due_by plan calm service circuit e None k w ≡ 0
  due_away e near far = rw (link.path, link.last e, near, far) (none (is_wire_of service w) _ _) where
    none : (ours sends : Bool) (n : ℕ) → cond ((ours && false) && sends) n 0 ≡ 0
    none true sends n = refl
    none false sends n = refl

-- a copy is sent on a wire that carries frames, as its end forwards
gate : (ours sends live : Bool) (serves : Bool) → ours ≡ true → (live ≡ true → sends ≡ true) → cond (ours && sends) (one (live && serves)) 0 ≡ one (live && serves)
gate true sends true serves of forward = ap (λ (t : Bool). cond t (one serves) 0) (forward refl)
gate true true false serves of forward = refl
gate true false false serves of forward = refl
gate false sends live serves of forward = absurd (cc (of))

-- what its ends do
module _ (plan : Plan) (calm : NetworkState) (k : ℕ) (w : WirePlan) (link : IsLink plan w) where
  pub near_forwards : carries plan calm k w ≡ true → forwards plan calm link.near.0 k ≡ true
  near_forwards live = first_holds (forwards plan calm link.near.0 k) (forwards plan calm link.far.0 k)
      (first_holds (forwards plan calm link.near.0 k && forwards plan calm link.far.0 k) (stitches calm k link) (sym (carries_by plan calm k w link) ∙ live))

  pub far_forwards : carries plan calm k w ≡ true → forwards plan calm link.far.0 k ≡ true
  far_forwards live = second_holds (forwards plan calm link.near.0 k) (forwards plan calm link.far.0 k)
      (first_holds (forwards plan calm link.near.0 k && forwards plan calm link.far.0 k) (stitches calm k link) (sym (carries_by plan calm k w link) ∙ live))

-- what a core edge reaches is what has a core edge that is meshed with it
pub reaches_core : (plan : Plan) (calm : NetworkState) (service : ServiceId) (e s : ℕ) → is_spoke_edge plan service e ≡ false
    → reaches plan calm service e s ≡ is_meshed_with plan calm service e (core_of plan calm service s)
reaches_core plan calm service e s core =
    ap (λ (o : Option ℕ). nat_eq e s || have_mesh plan calm service o (core_of plan calm service s)) (own e core)
    ∙ elim (cases_Bool (nat_eq e s)) [
      | inl same ↦
          ap (λ (b : Bool). b || is_meshed_with plan calm service e (core_of plan calm service s)) same
          ∙ sym (ap (is_meshed_with plan calm service e) (ap (core_of plan calm service) (sym (eqb-true e s same)) ∙ own e core)
          ∙ ap (λ (b : Bool). b || any_wire (meshes plan calm service e e) 0 plan.wires) (eq-eqb e e refl))
      | inr apart ↦ ap (λ (b : Bool). b || is_meshed_with plan calm service e (core_of plan calm service s)) apart
    ]
  where
    own : (e : ℕ) → is_spoke_edge plan service e ≡ false → core_of plan calm service e ≡ Some e
    own e none = ap (λ (b : Bool). cond b (home_of plan calm service e) (Some e)) none

-- a mesh wire counts for no spoke, and a spoke for no mesh wire
pub no_spoke : (plan : Plan) (calm : NetworkState) (service : ServiceId) (x e k : ℕ) (w : WirePlan) → is_mesh_class w.class ≡ true → by_spoke plan calm service x e k w ≡ 0
no_spoke plan calm service x e k w mesh = none (is_wire_of service w) (is_mesh_class w.class) (is_first x w.path) (carries plan calm k w) (is_last e w.path) mesh where
  none : (a m first live last : Bool) → m ≡ true → one ((((a && not m) && first) && live) && last) ≡ 0
  none true true first live last e = refl
  none true false first live last e = absurd (cc (e))
  none false m first live last e = refl

pub no_mesh : (plan : Plan) (calm : NetworkState) (service : ServiceId) (e k : ℕ) (w : WirePlan) (other : Option ℕ) → is_mesh_class w.class ≡ false → by_mesh plan calm service e other k w ≡ 0
no_mesh plan calm service e k w None spoke = refl
no_mesh plan calm service e k w (Some h) spoke = none (is_wire_of service w) (is_mesh_class w.class) _ (carries plan calm k w) spoke where
  none : (a m between live : Bool) → m ≡ false → one (((a && m) && between) && live) ≡ 0
  none true true between live e = absurd (cc (e))
  none true false between live e = refl
  none false m between live e = refl

-- at a core edge
module _ (plan : Plan) (calm : NetworkState) (service : ServiceId) (circuit : CircuitId) (site : CircuitPlan) (site_is : circuit_row plan circuit ≡ Some site) (of_service : nat_eq site.service.0 service.0 ≡ true)
    (home : HasHome plan calm service site.edge.0) (checked : IsChecked plan) where
  abbrev core : Option ℕ
  core = core_of plan calm service site.edge.0

  -- one for the circuit's spoke to the edge, or for the mesh wire to its core edge
  abbrev counts : ℕ → ℕ → WirePlan → ℕ
  counts e k w = by_spoke plan calm service site.edge.0 e k w + by_mesh plan calm service e core k w

  module _ (k : ℕ) (w : WirePlan) (is : slice_get plan.wires k ≡ Some w) (link : IsLink plan w) (ours : is_wire_of service w ≡ true) where
    swap : (a b c : Bool) → a ≡ c → one (a && b) ≡ one (b && c)
    swap true true c e = ap one e
    swap true false c e = refl
    swap false true c e = ap one e
    swap false false c e = refl

    none_left : (b : Bool) → 0 ≡ one (b && false)
    none_left true = refl
    none_left false = refl

    -- by a mesh wire, towards the core edge of the circuit
    mesh_from_near : is_mesh_class w.class ≡ true → (other : Option ℕ) → by_mesh plan calm service link.near.0 other k w ≡ one (carries plan calm k w && is_home link.far.0 other)
    mesh_from_near mesh None = none_left (carries plan calm k w)
    mesh_from_near mesh (Some h) = swap (is_between service link.near.0 h w) (carries plan calm k w) (nat_eq h link.far.0) between where
      only : (a b : Bool) → (true && a) || (b && false) ≡ a
      only true b = refl
      only false true = refl
      only false false = refl

      between : is_between service link.near.0 h w ≡ nat_eq h link.far.0
      between = rw (ours, mesh, link.path, link.last h, link.last link.near.0, eq-eqb link.near.0 link.near.0 refl, link.apart) (only (nat_eq h link.far.0) (nat_eq h link.near.0))

    mesh_from_far : is_mesh_class w.class ≡ true → (other : Option ℕ) → by_mesh plan calm service link.far.0 other k w ≡ one (carries plan calm k w && is_home link.near.0 other)
    mesh_from_far mesh None = none_left (carries plan calm k w)
    mesh_from_far mesh (Some h) = swap (is_between service link.far.0 h w) (carries plan calm k w) (nat_eq h link.near.0) between where
      only : (a : Bool) → a && true ≡ a
      only true = refl
      only false = refl

      between : is_between service link.far.0 h w ≡ nat_eq h link.near.0
      between = rw (ours, mesh, link.path, link.last h, link.last link.far.0, eq-eqb link.far.0 link.far.0 refl, apart_back link.near.0 link.far.0 link.apart) (only (nat_eq h link.near.0))

    by_near_mesh : is_mesh_class w.class ≡ true → due_by plan calm service circuit link.near.0 None k w ≡ counts link.near.0 k w
    by_near_mesh mesh =
        let serves = awaits_mesh plan calm service circuit site site_is of_service link.far.0 k w is mesh
        ∙ ap (λ (b : Bool). carries plan calm k w && b) (home.beside link.far.0 (far_core plan service k w link checked is ours)) in
        let sent = ap (λ (b : Bool). cond (is_wire_of service w && forwards plan calm link.near.0 k) (one b) 0) serves
        ∙ gate (is_wire_of service w) (forwards plan calm link.near.0 k) (carries plan calm k w) (is_home link.far.0 core) ours (near_forwards plan calm k w link) in
        due_near plan calm service circuit k w link ∙ (sent ∙ omega (arith, no_spoke plan calm service site.edge.0 link.near.0 k w mesh, mesh_from_near mesh core))

    by_far_mesh : is_mesh_class w.class ≡ true → due_by plan calm service circuit link.far.0 None k w ≡ counts link.far.0 k w
    by_far_mesh mesh =
        let serves = awaits_mesh plan calm service circuit site site_is of_service link.near.0 k w is mesh
        ∙ ap (λ (b : Bool). carries plan calm k w && b) (home.beside link.near.0 (mesh_near plan service k w link checked is (rw (ours, mesh) refl))) in
        let sent = ap (λ (b : Bool). cond (is_wire_of service w && forwards plan calm link.far.0 k) (one b) 0) serves
        ∙ gate (is_wire_of service w) (forwards plan calm link.far.0 k) (carries plan calm k w) (is_home link.near.0 core) ours (far_forwards plan calm k w link) in
        due_far plan calm service circuit k w link ∙ (sent ∙ omega (arith, no_spoke plan calm service site.edge.0 link.far.0 k w mesh, mesh_from_far mesh core))

    -- by a spoke, to its spoke edge
    by_near_spoke : is_mesh_class w.class ≡ false → is_spoke_edge plan service link.near.0 ≡ false
        → due_by plan calm service circuit link.near.0 None k w ≡ counts link.near.0 k w
    by_near_spoke spoke core =
        let none : is_spoke_from service link.near.0 w ≡ false = none_at (is_spoke_from service link.near.0) plan.wires k w core is in
        let some : is_spoke_from service link.near.0 w ≡ true = rw (ours, spoke, link.path, eq-eqb link.near.0 link.near.0 refl) refl in
        let wrong : true ≡ false = sym some ∙ none in
        absurd (cc (wrong))

    spoke_from_far : is_mesh_class w.class ≡ false → due_by plan calm service circuit link.far.0 None k w ≡ by_spoke plan calm service site.edge.0 link.far.0 k w
    spoke_from_far spoke =
        due_far plan calm service circuit k w link
        ∙ (rw (ours, awaits_near plan calm service circuit site site_is of_service k w link is spoke)
        (rw (ours, spoke, link.path, last_sends plan calm k w link, link.last link.far.0, eq-eqb link.near.0 link.near.0 refl, eq-eqb link.far.0 link.far.0 refl)
        (only (forwards plan calm link.near.0 k) (forwards plan calm link.far.0 k) (stitches calm k link) (nat_eq site.edge.0 link.near.0))))
      where
        only : (a b j p : Bool) → cond b (one (((a && b) && j) && p)) 0 ≡ one ((p && ((a && b) && j)) && true)
        only true true true true = refl
        only true true true false = refl
        only true true false true = refl
        only true true false false = refl
        only true false j true = refl
        only true false j false = refl
        only false true j true = refl
        only false true j false = refl
        only false false j true = refl
        only false false j false = refl

    by_far_spoke : is_mesh_class w.class ≡ false → due_by plan calm service circuit link.far.0 None k w ≡ counts link.far.0 k w
    by_far_spoke spoke = omega (arith, spoke_from_far spoke, no_mesh plan calm service link.far.0 k w core spoke)

    -- and by no wire that does not end there
    by_away : (e : ℕ) → nat_eq e link.near.0 ≡ false → nat_eq e link.far.0 ≡ false → due_by plan calm service circuit e None k w ≡ counts e k w
    by_away e near far = omega (arith, due_away plan calm service circuit k w link e near far, no_end, no_mesh_end core) where
      none : (live : Bool) → one (live && false) ≡ 0
      none true = refl
      none false = refl

      no_end : by_spoke plan calm service site.edge.0 e k w ≡ 0
      no_end = ap (λ (b : Bool). one (is_live_spoke plan calm service site.edge.0 k w && b)) (ap (is_last e) link.path ∙ (link.last e ∙ far)) ∙ none (is_live_spoke plan calm service site.edge.0 k w)

      no_between : (mesh first : Bool) (first_here last_here last : Bool) → first_here ≡ false → last_here ≡ false → mesh && ((first_here && last) || (first && last_here)) ≡ false
      no_between true true first_here last_here last e f = rw (e, f) refl
      no_between true false first_here last_here last e f = rw e refl
      no_between false first first_here last_here last e f = refl

      no_mesh_end : (other : Option ℕ) → by_mesh plan calm service e other k w ≡ 0
      no_mesh_end None = refl
      no_mesh_end (Some h) = ap (λ (b : Bool). one (b && carries plan calm k w)) (no_between (is_mesh_of service w) (is_first h w.path) (is_first e w.path) (is_last e w.path) (is_last h w.path)
          (ap (is_first e) link.path ∙ near) (ap (is_last e) link.path ∙ (link.last e ∙ far)))

  -- by any wire
  pub core_due : (e k : ℕ) (w : WirePlan) → is_spoke_edge plan service e ≡ false → slice_get plan.wires k ≡ Some w → due_by plan calm service circuit e None k w ≡ counts e k w
  core_due e k w core is = elim (cases_Bool (is_wire_of service w)) [
    | inl ours ↦ at ours (link_at plan k w checked is)
    | inr other ↦ other_service other
  ]
    where
      other_service : is_wire_of service w ≡ false → due_by plan calm service circuit e None k w ≡ counts e k w
      other_service other = omega (arith, no_due, no_live, none_between (core_of plan calm service site.edge.0)) where
        no_due : due_by plan calm service circuit e None k w ≡ 0
        no_due = rw other refl

        no_live : by_spoke plan calm service site.edge.0 e k w ≡ 0
        no_live = rw other refl

        none_between : (o : Option ℕ) → by_mesh plan calm service e o k w ≡ 0
        none_between None = refl
        none_between (Some h) = rw other refl

      at : is_wire_of service w ≡ true → IsLink plan w → due_by plan calm service circuit e None k w ≡ counts e k w
      at ours link = elim (cases_Bool (nat_eq e link.near.0)) [
        | inl near ↦ subst (λ n. due_by plan calm service circuit n None k w ≡ counts n k w)
            (sym (eqb-true e link.near.0 near)) (elim (cases_Bool (is_mesh_class w.class)) [
              | inl mesh ↦ by_near_mesh k w is link ours mesh
              | inr spoke ↦ by_near_spoke k w is link ours spoke (ap (is_spoke_edge plan service) (sym (eqb-true e link.near.0 near)) ∙ core)
            ])
        | inr away ↦ elim (cases_Bool (nat_eq e link.far.0)) [
          | inl far ↦ subst (λ n. due_by plan calm service circuit n None k w ≡ counts n k w)
              (sym (eqb-true e link.far.0 far)) (elim (cases_Bool (is_mesh_class w.class)) [
                | inl mesh ↦ by_far_mesh k w is link ours mesh
                | inr spoke ↦ by_far_spoke k w is link ours spoke
              ])
          | inr apart ↦ by_away k w is link ours e away apart
        ]
      ]

-- at a spoke edge, by its spoke that carries frames: what is elsewhere and has a core edge that is meshed with its own
pub spoke_due : (plan : Plan) (calm : NetworkState) (service : ServiceId) (circuit : CircuitId) (site : CircuitPlan) → circuit_row plan circuit ≡ Some site → nat_eq site.service.0 service.0 ≡ true
    → IsChecked plan → HasLoneSpokes plan calm service → (e k : ℕ) (w : WirePlan) → is_spoke_edge plan service e ≡ true → slice_get plan.wires k ≡ Some w
    → due_by plan calm service circuit e None k w
    ≡ cond (is_live_spoke plan calm service e k w) (one (not (nat_eq site.edge.0 e) && have_mesh plan calm service (core_of plan calm service e) (core_of plan calm service site.edge.0))) 0
spoke_due plan calm service circuit site site_is of_service checked lone e k w spoke_edge is = elim (cases_Bool (is_wire_of service w)) [
  | inl ours ↦ at ours (link_at plan k w checked is)
  | inr other ↦ rw other refl
]
  where
    core : {P : Type 0} (n : ℕ) → nat_eq e n ≡ true → is_spoke_edge plan service n ≡ false → P
    core n same none =
        let wrong : true ≡ false = sym spoke_edge ∙ (ap (is_spoke_edge plan service) (eqb-true e n same) ∙ none) in
        absurd (cc (wrong))

    away_from : (spoke live : Bool) (n : ℕ) → 0 ≡ cond ((spoke && false) && live) n 0
    away_from true live n = refl
    away_from false live n = refl

    -- what is due by it
    Due : ℕ → Type 0
    Due n = due_by plan calm service circuit n None k w
        ≡ cond (is_live_spoke plan calm service n k w) (one (not (nat_eq site.edge.0 n) && have_mesh plan calm service (core_of plan calm service n) (core_of plan calm service site.edge.0))) 0

    at_near : is_wire_of service w ≡ true → is_mesh_class w.class ≡ false → (link : IsLink plan w) → Due link.near.0
    at_near ours spoke link = by (is_live_spoke plan calm service link.near.0 k w) refl where
      sent : due_by plan calm service circuit link.near.0 None k w
          ≡ one (is_live_spoke plan calm service link.near.0 k w && (not (nat_eq site.edge.0 link.near.0) && reaches plan calm service link.far.0 site.edge.0))
      sent =
          due_near plan calm service circuit k w link
          ∙ (ap (λ (b : Bool). cond (is_wire_of service w && forwards plan calm link.near.0 k) (one b) 0) (awaits_far plan calm service circuit site site_is of_service k w link is spoke)
          ∙ gate (is_wire_of service w) (forwards plan calm link.near.0 k) (is_live_spoke plan calm service link.near.0 k w) _ ours
          (λ live. near_forwards plan calm k w link (second_holds (is_spoke_from service link.near.0 w) (carries plan calm k w) live)))

      by : (live : Bool) → is_live_spoke plan calm service link.near.0 k w ≡ live → Due link.near.0
      by true live =
          sent
          ∙ (ap (λ (b : Bool). one (b && (not (nat_eq site.edge.0 link.near.0) && reaches plan calm service link.far.0 site.edge.0))) live
          ∙ (ap (λ (b : Bool). one (not (nat_eq site.edge.0 link.near.0) && b)) (reaches_core plan calm service link.far.0 site.edge.0 (far_core plan service k w link checked is ours)
          ∙ ap (λ (o : Option ℕ). have_mesh plan calm service o (core_of plan calm service site.edge.0)) (sym (live_core plan calm service link.near.0 k w link checked lone is live)))
          ∙ ap (λ (b : Bool). cond b (one (not (nat_eq site.edge.0 link.near.0) && have_mesh plan calm service (core_of plan calm service link.near.0) (core_of plan calm service site.edge.0))) 0) (sym live)))
      by false dead =
          sent
          ∙ (ap (λ (b : Bool). one (b && (not (nat_eq site.edge.0 link.near.0) && reaches plan calm service link.far.0 site.edge.0))) dead
          ∙ ap (λ (b : Bool). cond b (one (not (nat_eq site.edge.0 link.near.0) && have_mesh plan calm service (core_of plan calm service link.near.0) (core_of plan calm service site.edge.0))) 0) (sym dead))

    at : is_wire_of service w ≡ true → IsLink plan w → Due e
    at ours link = elim (cases_Bool (nat_eq e link.far.0)) [
      | inl far ↦ core link.far.0 far (far_core plan service k w link checked is ours)
      | inr apart ↦ elim (cases_Bool (nat_eq e link.near.0)) [
        | inl near ↦ elim (cases_Bool (is_mesh_class w.class)) [
          | inl mesh ↦ core link.near.0 near (mesh_near plan service k w link checked is (rw (ours, mesh) refl))
          | inr spoke ↦ subst Due (sym (eqb-true e link.near.0 near)) (at_near ours spoke link)
        ]
        | inr away ↦ due_away plan calm service circuit k w link e away apart ∙ (rw (link.path, away) (away_from (is_wire_of service w && not (is_mesh_class w.class)) _ _))
      ]
    ]

-- a frame that came by a mesh wire goes to no mesh wire
pub due_after_mesh : (plan : Plan) (calm : NetworkState) (service : ServiceId) (circuit : CircuitId) (e came k : ℕ) (w v : WirePlan)
    → slice_get plan.wires came ≡ Some v → is_mesh_class v.class ≡ true → slice_get plan.wires k ≡ Some w
    → due_by plan calm service circuit e (Some came) k w ≡ cond (is_mesh_class w.class) 0 (due_by plan calm service circuit e None k w)
due_after_mesh plan calm service circuit e came k w v came_is mesh is = elim (cases_Bool (is_mesh_class w.class)) [
  | inl too ↦ rw (came_is, mesh, too) (none _ _ (nat_eq k came) _)
  | inr spoke ↦ rw (came_is, mesh, spoke, apart spoke) refl
]
  where
    none : (ends sends same : Bool) (n : ℕ) → cond (ends && (sends && (not same && false))) n 0 ≡ 0
    none true true true n = refl
    none true true false n = refl
    none true false same n = refl
    none false sends same n = refl

    apart : is_mesh_class w.class ≡ false → nat_eq k came ≡ false
    apart spoke = elim (cases_Bool (nat_eq k came)) [
      | inl same ↦
          (let rows : Some w ≡ Some v = sym is ∙ (ap (slice_get plan.wires) (eqb-true k came same) ∙ came_is) in
          let row : w ≡ v = cc (rows) in
          let wrong : true ≡ false = sym mesh ∙ (ap (λ (x : WirePlan). is_mesh_class x.class) (sym row) ∙ spoke) in
          absurd (cc (wrong)))
      | inr other ↦ other
    ]

-- one that came by a spoke goes to all wires but that one
pub due_after_spoke : (plan : Plan) (calm : NetworkState) (service : ServiceId) (circuit : CircuitId) (e came k : ℕ) (w : WirePlan) → is_mesh_wire plan (record { 0 = came }) ≡ false
    → due_by plan calm service circuit e (Some came) k w + cond (nat_eq k came) (due_by plan calm service circuit e None k w) 0 ≡ due_by plan calm service circuit e None k w
due_after_spoke plan calm service circuit e came k w spoke = rw spoke (parts _ _ (nat_eq k came) _) where
  parts : (ends sends same : Bool) (n : ℕ) → cond (ends && (sends && (not same && true))) n 0 + cond same (cond (ends && (sends && true)) n 0) 0 ≡ cond (ends && (sends && true)) n 0
  parts true true true n = omega arith
  parts true true false n = omega arith
  parts true false true n = refl
  parts true false false n = refl
  parts false sends true n = refl
  parts false sends false n = refl
