-- The spoke that carries frames in a calm state is the one that its spoke edge has chosen, and leads to its home.
use Rattle.edge_model.specs.Ends.{end_forwards, forwards_at, wire_end}
use Rattle.edge_model.specs.Role.{down_at, end_role_of, is_chosen, role_at, role_in}
use Rattle.edge_model.specs.State.{EdgeState, end_at}
use Rattle.edge_model.proofs.CopyLemmas.{up_is_none}
use Rattle.flight_laws.proofs.RuledMendLemmas.{wire_fits}
use Rattle.flight_laws.specs.Ends.{IsOrdered}
use Rattle.flight_laws.specs.Facts.{flight}
use Rattle.flight_laws.proofs.BoundRunLemmas.{drained_flight}
use Rattle.flood_laws.proofs.HomeLemmas.{LiveSpoke, live_count, live_found}
use Rattle.flood_laws.proofs.HopLemmas.{sent_far}
use Rattle.flood_laws.proofs.LinkLemmas.{IsLink, link_at}
use Rattle.flood_laws.proofs.MeshLemmas.{MeshWire, mesh_wire}
use Rattle.flood_laws.proofs.WireEdgeLemmas.{AreSides, IsFar, IsNear, far_of_far, far_of_near}
use Rattle.flood_laws.proofs.ChosenLemmas.{not_chosen_down}
use Rattle.move_laws.proofs.HearHealLemmas.{MeshesTo}
use Rattle.move_laws.proofs.WireLemmas.{HasNext, IsLinkEnd, IsSpokeOf, link_end, next_of, spoke_of}
use Rattle.move_laws.specs.Healing.{IsSpokeTo}
use Rattle.net_base.specs.declared.plan.Plan.{Plan}
use Rattle.net_base.specs.declared.plan.places.EdgeId.{EdgeId}
use Rattle.net_base.specs.declared.plan.places.ServiceId.{ServiceId}
use Rattle.net_base.specs.declared.plan.places.WireId.{WireId}
use Rattle.net_base.specs.declared.plan.wire_plan.WirePlan.{WirePlan}
use Rattle.net_base.specs.plan.Accepted.{IsChecked}
use Rattle.net_base.specs.plan.Paths.{is_first, is_last, last_edge}
use Rattle.net_base.specs.plan.Places.{is_mesh_class, wire_row}
use Rattle.net_base.specs.plan.Roles.{is_core_edge, is_mesh_of, is_spoke_edge, is_spoke_from, is_wire_of, wire_ends_at}
use Rattle.net_base.proofs.CommonLemmas.{same_row}
use Rattle.network_model.specs.Calm.{carries, first_forwards, is_calm, is_drained, is_joined_up, is_live_spoke, is_settled, last_forwards}
use Rattle.network_model.specs.Reach.{far_of, home_of, last_place}
use Rattle.network_model.specs.State.{NetworkState, stands}
use Rattle.pw_signalling.specs.Down.{down}
use Rattle.pw_signalling.specs.declared.end_role.EndRole.TheVariants as role
use Rattle.pw_signalling.specs.declared.end_role.EndRole.{EndRole}
use Rattle.std.proofs.Common.{Bool, List, None, Option, Some, [], ap, cond, false, inl, inr, length, nat_eq, not, option_map, refl, slice_get, subst, sym, true, ℕ, ◌&&◌, ◌<◌, ◌==◌, ◌||◌, ◌∙◌, ◌∷◌, ◌≡◌}
use Rattle.std.proofs.lemmas.Bool.{and_from, and_parts, cases_Bool, eqb-true}
use Rattle.net_values.proofs.BoolLemmas.{first_holds, clash, second_holds, second_of_two}
use Rattle.net_values.proofs.NumberLemmas.{same_number, apart_back, from_none}
use Rattle.net_values.proofs.OptionLemmas.{some_same}

-- ---- an end that forwards

-- the end of an edge at a wire that forwards there
pub forwards_end : (plan : Plan) (edge : EdgeState) (me peer : EdgeId) (wire : WireId) (row : WirePlan) (end : IsLinkEnd plan me peer wire row) → edge.me ≡ me
    → end_forwards plan edge wire ≡ true → down_at plan edge end.place ≡ None
forwards_end plan edge me peer wire row end placed up =
    up_is_none (down_at plan edge end.place) (ap (forwards_at plan edge) (sym (ap (λ (e : EdgeId). wire_end plan e wire) placed ∙ end.found)) ∙ up)

-- a spoke edge forwards only by the spoke that it has chosen
pub chosen_forwards : (plan : Plan) (service : ServiceId) (edge : EdgeState) (x : ℕ) (wire : WireId) (home : ℕ) → IsChecked plan → edge.me
    ≡ record { 0 = x } → (spoke : IsSpokeTo plan service x wire home)
    → end_forwards plan edge wire ≡ true → edge.chosen service.0 ≡ Some wire
chosen_forwards plan service edge x wire home checked placed spoke up = by (is_chosen edge.chosen wire spoke.row) refl where
  of : IsSpokeOf plan service x home spoke.row
  of = spoke_of plan service x wire home checked spoke

  next : HasNext spoke.row.path x
  next = next_of plan service spoke.row x of.link of.ends

  end : IsLinkEnd plan (record { 0 = x }) next.peer wire spoke.row
  end = link_end plan service (record { 0 = x }) next.peer wire spoke.row checked of.ends spoke.is next.joined

  down_is : down_at plan edge end.place ≡ None
  down_is = forwards_end plan edge (record { 0 = x }) next.peer wire spoke.row end placed up

  not_last : is_last x spoke.row.path ≡ false
  not_last = ap (is_last x) of.link.path ∙ (of.link.last x ∙ (ap (λ (n : ℕ). n == of.link.far.0) of.first ∙ of.link.apart))

  role_is : (b : Bool) → is_chosen edge.chosen wire spoke.row ≡ b → role_at plan edge end.place ≡ cond b role.Chosen role.NotChosen
  role_is b is =
      ap (λ (w : WireId). role_in (wire_row plan w) edge.me edge.chosen w) end.wire_is
      ∙ (ap (λ (o : Option WirePlan). role_in o edge.me edge.chosen wire) spoke.is
      ∙ (ap (λ (e : EdgeId). end_role_of spoke.row e (is_chosen edge.chosen wire spoke.row)) placed
      ∙ (ap (λ (m : Bool). cond m role.Mesh (cond (is_last x spoke.row.path) role.Core (cond (is_chosen edge.chosen wire spoke.row) role.Chosen role.NotChosen))) of.class
      ∙ (ap (λ (l : Bool). cond l role.Core (cond (is_chosen edge.chosen wire spoke.row) role.Chosen role.NotChosen)) not_last
      ∙ ap (λ (c : Bool). cond c role.Chosen role.NotChosen) is))))

  some_wire : (o : Option WireId) → Rattle.edge_model.specs.Role.is_chosen_wire wire o ≡ true → o ≡ Some wire
  some_wire None is = clash is
  some_wire (Some other) is = ap (λ (n : ℕ). Some (record { 0 = n })) (eqb-true other.0 wire.0 is)

  by : (b : Bool) → is_chosen edge.chosen wire spoke.row ≡ b → edge.chosen service.0 ≡ Some wire
  by true is = some_wire (edge.chosen service.0) (subst (λ (s : ServiceId). Rattle.edge_model.specs.Role.is_chosen_wire wire (edge.chosen s.0) ≡ true) of.of_service is)
  by false is = not_chosen_down (edge.bits end.place.wire.0) (end_at edge end.place)
      (ap (λ (r : EndRole). down r (edge.bits end.place.wire.0) (end_at edge end.place)) (sym (role_is false is)) ∙ down_is)

-- ---- the spoke that carries frames

last_at : (plan : Plan) (network : NetworkState) (k : ℕ) (path : List EdgeId) (far : EdgeId) → last_edge path ≡ Some far
    → last_forwards plan network k path ≡ end_forwards plan (network.edges far.0) (record { 0 = k })
last_at plan network k [] far is = absurd (cc (is))
last_at plan network k (last ∷ []) far is =
    let same : last ≡ far = cc (is) in
    ap (λ (e : EdgeId). end_forwards plan (network.edges e.0) (record { 0 = k })) same
last_at plan network k (first ∷ next ∷ rest) far is = last_at plan network k (next ∷ rest) far is

-- a wire that carries frames forwards at both its terminal edges
pub carries_ends : (plan : Plan) (network : NetworkState) (k : ℕ) (row : WirePlan) (link : IsLink plan row) → carries plan network k row ≡ true
    → (end_forwards plan (network.edges link.near.0) (record { 0 = k }) ≡ true) × (end_forwards plan (network.edges link.far.0) (record { 0 = k }) ≡ true)
carries_ends plan network k row link live =
    let both = first_holds (first_forwards plan network k row.path && last_forwards plan network k row.path) (is_joined_up plan network k row.path) live in (
      sym (ap (first_forwards plan network k) link.path) ∙ first_holds (first_forwards plan network k row.path) (last_forwards plan network k row.path) both,
      sym (ap (last_forwards plan network k) link.path ∙ last_at plan network k (link.near ∷ link.rest) link.far link.ends)
          ∙ second_holds (first_forwards plan network k row.path) (last_forwards plan network k row.path) both,
    )

-- a spoke of the service, by its place
pub record IsLiveAt (plan : Plan) (service : ServiceId) (network : NetworkState) (x : ℕ) : Type 0 where
  pub wire : WireId
  pub home : ℕ
  pub spoke : IsSpokeTo plan service x wire home
  pub live : carries plan network wire.0 spoke.row ≡ true
  pub home_is : home_of plan network service x ≡ Some home
  pub chosen : (network.edges x).chosen service.0 ≡ Some wire

-- a spoke from an edge leads to the far edge of its path
pub spoke_at_link : (plan : Plan) (service : ServiceId) (x k : ℕ) (row : WirePlan) (link : IsLink plan row) → slice_get plan.wires k ≡ Some row → is_spoke_from service x row
    ≡ true → IsSpokeTo plan service x (record { 0 = k }) link.far.0
spoke_at_link plan service x k row link is from = record { row = row; is = is; from = from; to = ap (is_last link.far.0) link.path ∙ (link.last link.far.0 ∙ same_number link.far.0) }

pub near_of : (plan : Plan) (service : ServiceId) (x : ℕ) (row : WirePlan) (link : IsLink plan row) → is_spoke_from service x row ≡ true → x ≡ link.near.0
near_of plan service x row link from = eqb-true x link.near.0 (ap (is_first x) (sym link.path) ∙ second_holds (is_wire_of service row && not (is_mesh_class row.class)) (is_first x row.path) from)

pub live_at : (plan : Plan) (service : ServiceId) (network : NetworkState) (x : ℕ) → IsChecked plan → IsOrdered plan network
    → is_calm plan network service ≡ true → x < length plan.edges → is_spoke_edge plan service x ≡ true
    → IsLiveAt plan service network x
unfolding spoke_at_link
live_at plan service network x checked ordered calm within starts = from (live_found plan network service x 0 plan.wires (live_count plan network service x calm within starts)) where
  from : LiveSpoke plan network service x 0 plan.wires → IsLiveAt plan service network x
  from found =
      let live : is_live_spoke plan network service x found.k found.row ≡ true = subst (λ (n : ℕ). is_live_spoke plan network service x n found.row ≡ true) (from_none found.k) found.live in
      let starts_here : is_spoke_from service x found.row ≡ true = first_holds (is_spoke_from service x found.row) (carries plan network found.k found.row) live in
      let link : IsLink plan found.row = link_at plan found.k found.row checked found.is in
      let carried : carries plan network found.k found.row ≡ true = second_holds (is_spoke_from service x found.row) (carries plan network found.k found.row) live in
      let spoke : IsSpokeTo plan service x (record { 0 = found.k }) link.far.0 = spoke_at_link plan service x found.k found.row link found.is starts_here in
      let up : end_forwards plan (network.edges x) (record { 0 = found.k }) ≡ true =
      subst (λ (n : ℕ). end_forwards plan (network.edges n) (record { 0 = found.k }) ≡ true) (sym (near_of plan service x found.row link starts_here))
      (carries_ends plan network found.k found.row link carried).0 in
      record {
        wire = record { 0 = found.k };
        home = link.far.0;
        spoke = spoke;
        live = carried;
        home_is = found.home ∙ (ap last_place link.path ∙ ap (option_map (λ (e : EdgeId). e.0)) link.ends);
        chosen = chosen_forwards plan service (network.edges x) x (record { 0 = found.k }) link.far.0 checked (ordered.placed x) spoke up;
      }

-- where the edge forwards by a spoke, that one is it
pub live_same : (plan : Plan) (service : ServiceId) (network : NetworkState) (x : ℕ) (wire : WireId) (home : ℕ) → IsChecked plan
    → IsOrdered plan network → (at : IsLiveAt plan service network x) → (spoke : IsSpokeTo plan service x wire home)
    → end_forwards plan (network.edges x) wire ≡ true → wire ≡ at.wire
live_same plan service network x wire home checked ordered at spoke up =
    one (sym (chosen_forwards plan service (network.edges x) x wire home checked (ordered.placed x) spoke up) ∙ at.chosen)
  where
    one : {a b : WireId} → Some a ≡ Some b → a ≡ b
    one e = cc

-- one wire leads to one home
pub home_same : (plan : Plan) (service : ServiceId) (x : ℕ) (wire : WireId) (a b : ℕ) → IsChecked plan → IsSpokeTo plan service x wire a → IsSpokeTo plan service x wire b → a ≡ b
home_same plan service x wire a b checked one other =
    let rows : one.row ≡ other.row = same_row (sym one.is ∙ other.is) in
    let of : IsSpokeOf plan service x a one.row = spoke_of plan service x wire a checked one in
    of.last ∙ sym (eqb-true b of.link.far.0 (sym (of.link.last b) ∙ (ap (is_last b) (sym of.link.path) ∙ (ap (λ (r : WirePlan). is_last b r.path) rows ∙ other.to))))

-- ---- quiet states

-- both ends of a wire of a quiet service stand or neither does, and nothing is on its way
pub record IsQuietWay (network : NetworkState) (a b : ℕ) : Type 0 where
  pub back : stands network b a ≡ true
  pub out : flight network a b ≡ []
  pub home : flight network b a ≡ []

pub quiet_way : (network : NetworkState) (a b : ℕ) → is_settled network a b ≡ true → stands network a b ≡ true → IsQuietWay network a b
quiet_way network a b settled there = by (stands network a b) (stands network b a) refl refl there settled where
  by : (p q : Bool) → stands network a b ≡ p → stands network b a ≡ q → p ≡ true → (not p && not q) || ((p && q) && (is_drained network a b && is_drained network b a)) ≡ true → IsQuietWay network a b
  by true true one other there settled = record {
    back = other;
    out = drained_flight network a b (first_holds (is_drained network a b) (is_drained network b a) settled);
    home = drained_flight network b a (second_holds (is_drained network a b) (is_drained network b a) settled);
  }
  by true false one other there settled = clash settled
  by false q one other there settled = clash there

-- ---- each two core edges have a mesh wire

both_ends : (a b n f : ℕ) → (a == n && b == f) || (b == n && a == f) ≡ true → AreSides n f a b
both_ends a b n f is = elim (cases_Bool (a == n && b == f)) [
  | inl here ↦ (let both = and_parts (a == n) (b == f) here in IsNear (eqb-true a n both.0) (eqb-true b f both.1))
  | inr away ↦ (let both = and_parts (b == n) (a == f) (second_of_two (a == n && b == f) away is) in IsFar (eqb-true a f both.1) (eqb-true b n both.0))
]

pub has_meshes : (plan : Plan) (network : NetworkState) (service : ServiceId) → IsChecked plan → is_calm plan network service ≡ true → (a b : ℕ)
    → a < length plan.edges → b < length plan.edges
    → is_core_edge plan service a ≡ true → is_core_edge plan service b ≡ true → nat_eq b a ≡ false → MeshesTo plan service a b
has_meshes plan network service checked calm a b within also one other apart = record {
  wire = record { 0 = found.k };
  row = found.row;
  is = found.is;
  of_mesh = of_mesh;
  ends = ends;
  back = far.1;
  next = next.peer;
  joined = next.joined;
  goal_is = some_same (sym (sent_far found.row.path (record { 0 = a }) next.peer (wire_fits plan (record { 0 = found.k }) found.row checked found.is).once next.joined terminal) ∙ far.0);
}
  where
    found : MeshWire plan network service a b
    found = mesh_wire plan network service a b calm within also one other (apart_back b a apart)

    of_mesh : is_mesh_of service found.row ≡ true
    of_mesh = first_holds (is_mesh_of service found.row) _ found.between

    link : IsLink plan found.row
    link = link_at plan found.k found.row checked found.is

    sides : AreSides link.near.0 link.far.0 a b
    sides = both_ends a b link.near.0 link.far.0 (rw (link.path, link.last a, link.last b) at (second_holds (is_mesh_of service found.row) _ found.between))

    far : (far_of a found.row.path ≡ Some b) × (far_of b found.row.path ≡ Some a)
    far = by sides where
      by : AreSides link.near.0 link.far.0 a b → (far_of a found.row.path ≡ Some b) × (far_of b found.row.path ≡ Some a)
      by (IsNear here there) = (
        ap (λ (n : ℕ). far_of n found.row.path) here ∙ (far_of_near plan found.row link ∙ ap Some (sym there)),
        ap (λ (n : ℕ). far_of n found.row.path) there ∙ (far_of_far plan found.row link ∙ ap Some (sym here)),
      )
      by (IsFar here there) = (
        ap (λ (n : ℕ). far_of n found.row.path) here ∙ (far_of_far plan found.row link ∙ ap Some (sym there)),
        ap (λ (n : ℕ). far_of n found.row.path) there ∙ (far_of_near plan found.row link ∙ ap Some (sym here)),
      )

    terminal : is_first a found.row.path || is_last a found.row.path ≡ true
    terminal = by (is_first a found.row.path) (is_last b found.row.path) (is_first b found.row.path) (is_last a found.row.path) (second_holds (is_mesh_of service found.row) _ found.between) where
      by : (p q r s : Bool) → (p && q) || (r && s) ≡ true → p || s ≡ true
      by true q r s is = refl
      by false q true s is = is
      by false q false s is = clash is

    ends : wire_ends_at service a found.row ≡ true
    ends = and_from (is_wire_of service found.row) (is_first a found.row.path || is_last a found.row.path) (first_holds (is_wire_of service found.row) (is_mesh_class found.row.class) of_mesh) terminal

    next : HasNext found.row.path a
    next = next_of plan service found.row a link ends
