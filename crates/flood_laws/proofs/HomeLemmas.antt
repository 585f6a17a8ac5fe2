-- The core edge of an edge: that of its spoke that carries frames, if one does, or the edge itself; in a calm service each has one.
use Rattle.std.proofs.Common.{◌≡◌, ◌<◌, ◌+◌, ◌==◌, ◌&&◌, ◌||◌, ◌∙◌, ◌⊎◌, not, ℕ, suc, Bool, true, false, List, [], ◌∷◌, Option, Some, None, cond, option_map, length, slice_get, nat_eq, refl, ap, sym, subst, zero-add, add-zero, arith, inl, inr}
use Rattle.std.proofs.lemmas.Bool.{cases_Bool, eqb-true, not-true}
use Rattle.std.proofs.lemmas.Map.Keys.{any_passes_from_place}
use Rattle.net_values.proofs.BoolLemmas.{first_holds, second_holds, or_false, implied}
use Rattle.net_values.proofs.NumberLemmas.{equal_turned, next_place, add_none}
use Rattle.net_base.specs.declared.plan.Plan.{Plan}
use Rattle.net_base.specs.declared.plan.wire_plan.WirePlan.{WirePlan}
use Rattle.net_base.specs.declared.plan.places.EdgeId.{EdgeId}
use Rattle.net_base.specs.declared.plan.places.ServiceId.{ServiceId}
use Rattle.net_base.specs.plan.Accepted.{IsChecked}
use Rattle.net_base.specs.plan.Paths.{is_first, is_last}
use Rattle.net_base.specs.plan.Places.{is_mesh_class}
use Rattle.net_base.specs.plan.Roles.{count_wires, has_port, is_core_edge, is_spoke_edge, is_spoke_from, is_wire_of}
use Rattle.edge_model.specs.Ends.{end_forwards}
use Rattle.network_model.specs.Calm.{carries, first_forwards, has_live_spokes, is_calm, is_full, is_joined_up, is_live_spoke, is_quiet, last_forwards}
use Rattle.network_model.specs.Reach.{home_among, home_of, is_home, last_place}
use Rattle.network_model.specs.State.{NetworkState}
use Rattle.network_model.proofs.CalmLemmas.{below_holds}
use Rattle.flood_laws.specs.Due.{sum_wires}
use Rattle.flood_laws.specs.Reached.{core_of}
use Rattle.flood_laws.proofs.ChosenLemmas.{one_chosen}
use Rattle.flood_laws.proofs.LinkLemmas.{IsLink, link_at, none_at}
use Rattle.flood_laws.proofs.MeshLemmas.{core_edge, far_core, far_port}
use Rattle.flood_laws.proofs.SumLemmas.{few_count, one_of_count, past_count, sum-none}

-- one where the wire is a spoke that carries frames, from the first edge to the second
abbrev pub by_spoke : Plan → NetworkState → ServiceId → ℕ → ℕ → ℕ → WirePlan → ℕ
by_spoke plan calm service from to k row = cond (is_live_spoke plan calm service from k row && is_last to row.path) 1 0

-- the one spoke of an edge that carries frames
pub record LiveSpoke (plan : Plan) (calm : NetworkState) (service : ServiceId) (edge place : ℕ) (rows : List WirePlan) : Type 0 where
  pub k : ℕ
  pub row : WirePlan
  pub is : slice_get rows k ≡ Some row
  pub live : is_live_spoke plan calm service edge (place + k) row ≡ true
  pub home : home_among plan calm service edge place rows ≡ last_place row.path
  pub sum : (to : ℕ) → sum_wires (by_spoke plan calm service edge to) place rows ≡ cond (is_last to row.path) 1 0

module _ (plan : Plan) (calm : NetworkState) (service : ServiceId) (edge : ℕ) where
  none_live : (to place : ℕ) (rows : List WirePlan) → count_wires (is_live_spoke plan calm service edge) place rows ≡ 0 → sum_wires (by_spoke plan calm service edge to) place rows ≡ 0
  none_live to place [] none = refl
  none_live to place (row ∷ rows) none =
      by (is_live_spoke plan calm service edge place row) (is_last to row.path) (count_wires (is_live_spoke plan calm service edge) (place + 1) rows) none (none_live to (place + 1) rows)
    where
      by : (live last : Bool) (count : ℕ) {sum : ℕ} → cond live 1 0 + count ≡ 0 → (count ≡ 0 → sum ≡ 0) → cond (live && last) 1 0 + sum ≡ 0
      by true last count none rest = absurd (omega arith)
      by false last count {sum} none rest =
          let gone : count ≡ 0 = omega arith in
          let sum_none : sum ≡ 0 = rest gone in
          omega arith

  pub live_found : (place : ℕ) (rows : List WirePlan) → count_wires (is_live_spoke plan calm service edge) place rows ≡ 1 → LiveSpoke plan calm service edge place rows
  live_found place [] one = absurd (omega arith)
  live_found place (row ∷ rows) one = elim (cases_Bool (is_live_spoke plan calm service edge place row)) [
    | inl here ↦
        record {
          k = 0;
          row = row;
          is = refl;
          live = subst (λ n. is_live_spoke plan calm service edge n row ≡ true) (sym (add-zero place)) here;
          home = rw here refl;
          sum = λ to. rw here (add_none (is_last to row.path) (none_live to (place + 1) rows (after (rw here at one))));
        }
    | inr away ↦
        (let later = live_found (place + 1) rows (same (rw away at one)) in
        record {
          k = suc later.k;
          row = later.row;
          is = later.is;
          live = subst (λ n. is_live_spoke plan calm service edge n later.row ≡ true) (next_place place later.k) later.live;
          home = rw away later.home;
          sum = λ to. rw away (rest (later.sum to));
        })
  ]
    where
      after : {count : ℕ} → 1 + count ≡ 1 → count ≡ 0
      after e = omega arith

      same : {count : ℕ} → 0 + count ≡ 1 → count ≡ 1
      same e = omega arith

      rest : {m n : ℕ} → m ≡ n → 0 + m ≡ n
      rest e = omega arith

-- a spoke edge of a calm service has one
pub live_count : (plan : Plan) (calm : NetworkState) (service : ServiceId) (edge : ℕ) → is_calm plan calm service ≡ true → edge < length plan.edges → is_spoke_edge plan service edge ≡ true
    → count_wires (is_live_spoke plan calm service edge) 0 plan.wires ≡ 1
live_count plan calm service edge calmed within spoke =
    let live = second_holds (is_quiet plan calm service && is_full plan calm service) (has_live_spokes plan calm service) calmed in
    let here = below_holds (length plan.edges) edge (λ e. not (is_spoke_edge plan service e) || count_wires (is_live_spoke plan calm service e) 0 plan.wires == 1) live within in
    eqb-true _ 1 (implied (is_spoke_edge plan service edge) spoke here)

-- ---- no spoke edge has two spokes that carry frames

abbrev pub HasLoneSpokes : Plan → NetworkState → ServiceId → Type 0
HasLoneSpokes plan calm service = (edge i j : ℕ) (w v : WirePlan) → slice_get plan.wires i ≡ Some w → is_live_spoke plan calm service edge i w ≡ true
    → slice_get plan.wires j ≡ Some v → is_live_spoke plan calm service edge j v ≡ true → i ≡ j

-- a spoke that carries frames, at its spoke edge
record IsLiveHere (plan : Plan) (calm : NetworkState) (service : ServiceId) (edge k : ℕ) (w : WirePlan) : Type 0 where
  of_service : is_wire_of service w ≡ true
  spoke : is_mesh_class w.class ≡ false
  not_last : is_last edge w.path ≡ false
  sends : end_forwards plan (calm.edges edge) (record { 0 = k }) ≡ true
  within : edge < length plan.edges
  starts : is_spoke_edge plan service edge ≡ true

live_here : (plan : Plan) (calm : NetworkState) (service : ServiceId) (edge k : ℕ) (w : WirePlan) → IsChecked plan → slice_get plan.wires k ≡ Some w → is_live_spoke plan calm service edge k w ≡ true
    → IsLiveHere plan calm service edge k w
live_here plan calm service edge k w checked is live = record {
  of_service = first_holds (is_wire_of service w) (not (is_mesh_class w.class)) two;
  spoke = not-true (is_mesh_class w.class) (second_holds (is_wire_of service w) (not (is_mesh_class w.class)) two);
  not_last = ap (is_last edge) link.path ∙ (link.last edge ∙ (ap (λ (n : ℕ). nat_eq n link.far.0) near ∙ link.apart));
  sends = ap (λ (n : ℕ). end_forwards plan (calm.edges n) (record { 0 = k })) near ∙ (sym (ap (first_forwards plan calm k) link.path) ∙ sent);
  within = subst (λ (n : ℕ). n < length plan.edges) (sym near) link.near_within;
  starts = any_passes_from_place (is_spoke_from service edge) plan.wires k w is from;
}
  where
    from : is_spoke_from service edge w ≡ true
    from = first_holds (is_spoke_from service edge w) (carries plan calm k w) live

    two : is_wire_of service w && not (is_mesh_class w.class) ≡ true
    two = first_holds (is_wire_of service w && not (is_mesh_class w.class)) (is_first edge w.path) from

    link : IsLink plan w
    link = link_at plan k w checked is

    near : edge ≡ link.near.0
    near = eqb-true edge link.near.0 (sym (ap (is_first edge) link.path) ∙ second_holds (is_wire_of service w && not (is_mesh_class w.class)) (is_first edge w.path) from)

    sent : first_forwards plan calm k w.path ≡ true
    sent = first_holds (first_forwards plan calm k w.path) (last_forwards plan calm k w.path)
        (first_holds (first_forwards plan calm k w.path && last_forwards plan calm k w.path) (is_joined_up plan calm k w.path) (second_holds (is_spoke_from service edge w) (carries plan calm k w) live))

-- in a state in which each edge is at its place, a spoke edge forwards by the spoke alone that it has chosen
pub lone_placed : (plan : Plan) (calm : NetworkState) (service : ServiceId) → IsChecked plan → ((k : ℕ) → (calm.edges k).me ≡ record { 0 = k }) → HasLoneSpokes plan calm service
lone_placed plan calm service checked placed edge i j w v is live other also =
    let one = live_here plan calm service edge i w checked is live in
    let two = live_here plan calm service edge j v checked other also in
    one_chosen plan (calm.edges edge) edge service (record { 0 = j }) (record { 0 = i }) v w (placed edge)
    other two.of_service two.spoke two.not_last two.sends is one.of_service one.spoke one.not_last one.sends

-- and in a calm one there is one
pub lone_calm : (plan : Plan) (calm : NetworkState) (service : ServiceId) → IsChecked plan → is_calm plan calm service ≡ true → HasLoneSpokes plan calm service
lone_calm plan calm service checked calmed edge i j w v is live other also =
    let one = live_here plan calm service edge i w checked is live in
    one_of_count (is_live_spoke plan calm service edge) 0 i j w v plan.wires (live_count plan calm service edge calmed one.within one.starts) is (from_none i w live) other (from_none j v also)
  where
    from_none : (k : ℕ) (x : WirePlan) → is_live_spoke plan calm service edge k x ≡ true → is_live_spoke plan calm service edge (0 + k) x ≡ true
    from_none k x passes = subst (λ n. is_live_spoke plan calm service edge n x ≡ true) (sym (zero-add k)) passes

-- ---- the core edge of an edge

-- an edge and its core edge, if it has one
pub record HasHome (plan : Plan) (calm : NetworkState) (service : ServiceId) (edge : ℕ) : Type 0 where
  -- what is beside a core edge is what has it as its own
  pub beside : (d : ℕ) → is_spoke_edge plan service d ≡ false
      → nat_eq edge d || (is_spoke_edge plan service edge && is_home d (home_of plan calm service edge)) ≡ is_home d (core_of plan calm service edge)
  -- it is at a core edge, or its spoke leads there, where that is its own
  pub spokes : (d : ℕ) → is_spoke_edge plan service d ≡ false
      → cond (nat_eq edge d) 1 0 + sum_wires (by_spoke plan calm service edge d) 0 plan.wires ≡ cond (is_home d (core_of plan calm service edge)) 1 0

-- a spoke edge is none that starts no spoke
spoke_apart : (plan : Plan) (service : ServiceId) (edge d : ℕ) → is_spoke_edge plan service edge ≡ true → is_spoke_edge plan service d ≡ false → nat_eq edge d ≡ false
spoke_apart plan service edge d spoke none = elim (cases_Bool (nat_eq edge d)) [
  | inl same ↦
      (let wrong : true ≡ false = sym spoke ∙ (ap (is_spoke_edge plan service) (eqb-true edge d same) ∙ none) in
      absurd (cc (wrong)))
  | inr apart ↦ apart
]

-- the core edge of a spoke edge whose spoke carries frames is that to which the spoke leads
far_home : (plan : Plan) (calm : NetworkState) (service : ServiceId) (edge k : ℕ) (row : WirePlan) (link : IsLink plan row) → is_spoke_edge plan service edge ≡ true
    → home_of plan calm service edge ≡ last_place row.path → core_of plan calm service edge ≡ Some link.far.0
far_home plan calm service edge k row link spoke home =
    ap (λ (b : Bool). cond b (home_of plan calm service edge) (Some edge)) spoke
    ∙ (home ∙ (ap last_place link.path ∙ ap (option_map (λ (edge : EdgeId). edge.0)) link.ends))

pub none_home : (plan : Plan) (calm : NetworkState) (service : ServiceId) (edge place : ℕ) (rows : List WirePlan) → count_wires (is_live_spoke plan calm service edge) place rows ≡ 0
    → home_among plan calm service edge place rows ≡ None
none_home plan calm service edge place [] none = refl
none_home plan calm service edge place (row ∷ rows) none =
    by (is_live_spoke plan calm service edge place row) (count_wires (is_live_spoke plan calm service edge) (place + 1) rows) none (none_home plan calm service edge (place + 1) rows)
  where
    by : (live : Bool) (count : ℕ) {home : Option ℕ} → cond live 1 0 + count ≡ 0 → (count ≡ 0 → home ≡ None) → cond live (last_place row.path) home ≡ None
    by true count none rest = absurd (omega arith)
    by false count none rest = rest (omega arith)

-- each edge has such a one
pub has_home : (plan : Plan) (calm : NetworkState) (service : ServiceId) (edge : ℕ) → IsChecked plan → HasLoneSpokes plan calm service → HasHome plan calm service edge
has_home plan calm service edge checked lone = elim (cases_Bool (is_spoke_edge plan service edge)) [
  | inl spoke ↦ record {
    beside = λ d core. rw (spoke, spoke_apart plan service edge d spoke core) refl;
    spokes = λ d core. rw (spoke_apart plan service edge d spoke core) (led spoke d (few_count (is_live_spoke plan calm service edge) 0 plan.wires
        (λ i j w v is live other also. lone edge i j w v is (from_none i w live) other (from_none j v also))));
  }
  | inr none ↦ record {
    beside = λ d core. rw none (or_false (nat_eq edge d));
    spokes = λ d core. rw none (add_none (nat_eq edge d) (sum-none (by_spoke plan calm service edge d) plan.wires
        (λ k row is. not_live (carries plan calm k row) (is_last d row.path) (none_at (is_spoke_from service edge) plan.wires k row none is))));
  }
]
  where
    from_none : (k : ℕ) (x : WirePlan) → is_live_spoke plan calm service edge (0 + k) x ≡ true → is_live_spoke plan calm service edge k x ≡ true
    from_none k x passes = subst (λ n. is_live_spoke plan calm service edge n x ≡ true) (zero-add k) passes

    not_live : {from : Bool} (live last : Bool) → from ≡ false → cond {A = ℕ} ((from && live) && last) 1 0 ≡ 0
    not_live live last e = rw e refl

    count : {sum : ℕ} (p q r : Bool) → sum ≡ cond p 1 0 → p ≡ q → q ≡ r → 0 + sum ≡ cond r 1 0
    count p q r e same also = zero-add _ ∙ (e ∙ ap (λ (t : Bool). cond {A = ℕ} t 1 0) (same ∙ also))

    led : is_spoke_edge plan service edge ≡ true → (d : ℕ) → (count_wires (is_live_spoke plan calm service edge) 0 plan.wires ≡ 0) ⊎ (count_wires (is_live_spoke plan calm service edge) 0 plan.wires ≡ 1)
        → 0 + sum_wires (by_spoke plan calm service edge d) 0 plan.wires ≡ cond (is_home d (core_of plan calm service edge)) 1 0
    led spoke d (inl none) =
        count false false (is_home d (core_of plan calm service edge)) (none_live plan calm service edge d 0 plan.wires none) refl
        (sym (ap (is_home d) (ap (λ (b : Bool). cond b (home_of plan calm service edge) (Some edge)) spoke ∙ none_home plan calm service edge 0 plan.wires none)))
    led spoke d (inr one) =
        let wire = live_found plan calm service edge 0 plan.wires one in
        let link = link_at plan wire.k wire.row checked wire.is in
        count (is_last d wire.row.path) (nat_eq d link.far.0) (is_home d (core_of plan calm service edge)) (wire.sum d) (ap (is_last d) link.path ∙ link.last d)
        (equal_turned d link.far.0 ∙ sym (ap (is_home d) (far_home plan calm service edge wire.k wire.row link spoke wire.home)))

-- a spoke that carries frames leads to the core edge of its spoke edge
pub live_core : (plan : Plan) (calm : NetworkState) (service : ServiceId) (edge k : ℕ) (row : WirePlan) (link : IsLink plan row) → IsChecked plan → HasLoneSpokes plan calm service
    → slice_get plan.wires k ≡ Some row → is_live_spoke plan calm service edge k row ≡ true → core_of plan calm service edge ≡ Some link.far.0
live_core plan calm service edge k row link checked lone is live =
    by (few_count (is_live_spoke plan calm service edge) 0 plan.wires (λ i j w v is live other also. lone edge i j w v is (from_none i w live) other (from_none j v also)))
  where
    from_none : (k : ℕ) (x : WirePlan) → is_live_spoke plan calm service edge (0 + k) x ≡ true → is_live_spoke plan calm service edge k x ≡ true
    from_none k x passes = subst (λ n. is_live_spoke plan calm service edge n x ≡ true) (zero-add k) passes

    at : is_live_spoke plan calm service edge (0 + k) row ≡ true
    at = subst (λ n. is_live_spoke plan calm service edge n row ≡ true) (sym (zero-add k)) live

    by : (count_wires (is_live_spoke plan calm service edge) 0 plan.wires ≡ 0) ⊎ (count_wires (is_live_spoke plan calm service edge) 0 plan.wires ≡ 1) → core_of plan calm service edge ≡ Some link.far.0
    by (inl none) =
        let wrong : true ≡ false = sym at ∙ past_count (is_live_spoke plan calm service edge) 0 k row plan.wires none is in
        absurd (cc (wrong))
    by (inr one) =
        let wire = live_found plan calm service edge 0 plan.wires one in
        let place : wire.k ≡ k = lone edge wire.k k wire.row row wire.is (from_none wire.k wire.row wire.live) is live in
        let rows : Some wire.row ≡ Some row = sym wire.is ∙ (ap (slice_get plan.wires) place ∙ is) in
        let same : wire.row ≡ row = cc (rows) in
        far_home plan calm service edge k row link (live_here plan calm service edge k row checked is live).starts
        (wire.home ∙ ap (λ (r : WirePlan). last_place r.path) same)

-- ---- in a calm service

-- each edge with a port of it has a core edge
pub record HasCore (plan : Plan) (calm : NetworkState) (service : ServiceId) (edge : ℕ) : Type 0 where
  pub home : ℕ
  pub is : core_of plan calm service edge ≡ Some home
  pub within : home < length plan.edges
  pub core : is_core_edge plan service home ≡ true

pub has_core : (plan : Plan) (calm : NetworkState) (service : ServiceId) (edge : ℕ) → IsChecked plan → is_calm plan calm service ≡ true
    → edge < length plan.edges → has_port plan service edge ≡ true → HasCore plan calm service edge
has_core plan calm service edge checked calmed within port = elim (cases_Bool (is_spoke_edge plan service edge)) [
  | inl spoke ↦ led spoke (live_found plan calm service edge 0 plan.wires (live_count plan calm service edge calmed within spoke))
  | inr none ↦ record {
    home = edge;
    is = ap (λ (b : Bool). cond b (home_of plan calm service edge) (Some edge)) none;
    within = within;
    core = core_edge plan service edge port none;
  }
]
  where
    led : is_spoke_edge plan service edge ≡ true → LiveSpoke plan calm service edge 0 plan.wires → HasCore plan calm service edge
    led spoke wire = record {
      home = link.far.0;
      is = far_home plan calm service edge wire.k wire.row link spoke wire.home;
      within = link.far_within;
      core = core_edge plan service link.far.0 (far_port plan service wire.k wire.row link wire.is ours) (far_core plan service wire.k wire.row link checked wire.is ours);
    }
      where
        link : IsLink plan wire.row
        link = link_at plan wire.k wire.row checked wire.is

        from : is_spoke_from service edge wire.row ≡ true
        from = first_holds (is_spoke_from service edge wire.row) (carries plan calm (0 + wire.k) wire.row) wire.live

        ours : is_wire_of service wire.row ≡ true
        ours = first_holds (is_wire_of service wire.row) (not (is_mesh_class wire.row.class))
            (first_holds (is_wire_of service wire.row && not (is_mesh_class wire.row.class)) (is_first edge wire.row.path) from)
