-- Wires of a service at their terminal edges: spokes of two edges, mesh wires, their ends there, and their ports.
use Rattle.edge_model.proofs.OneEndLemmas.{one_neighbour}
use Rattle.edge_model.specs.EndPlaces.{end_named, end_places, is_end_of_wire, is_named, is_of_wire, is_terminal}
use Rattle.edge_model.specs.Ends.{wire_end}
use Rattle.edge_model.specs.declared.end_place.EndPlace.{EndPlace}
use Rattle.flight_laws.proofs.PlaceLemmas.{Finds, IsEndOf, IsFound, IsNamed, NamedEnd, end_of, find_holds, find_some, named_is, places_are, places_named, same_row}
use Rattle.flood_laws.proofs.LinkLemmas.{IsLink, link_at}
use Rattle.flood_laws.proofs.MeshLemmas.{core_edge, far_core, far_port, mesh_near, near_port}
use Rattle.flood_laws.proofs.WireEdgeLemmas.{far_of_far, far_of_near, sides_ended}
use Rattle.hvpls_spokes.proofs.WirePortLemmas.{finds_wire_port, found_wire_port, has_wire_port, wire_port_is}
use Rattle.hvpls_spokes.specs.Port.{is_wire_port, ports_of, wire_port}
use Rattle.move_laws.specs.Healing.{IsSpokeTo}
use Rattle.net_base.specs.declared.plan.Plan.{Plan}
use Rattle.net_base.specs.declared.plan.places.EdgeId.{EdgeId}
use Rattle.net_base.specs.declared.plan.places.ServiceId.{ServiceId}
use Rattle.net_base.specs.declared.plan.places.WireId.{WireId}
use Rattle.net_base.specs.declared.plan.wire_plan.WirePlan.{WirePlan}
use Rattle.net_base.specs.plan.Accepted.{IsChecked, IsWireOf}
use Rattle.net_base.specs.plan.Paths.{is_first, is_last, joins, last_edge}
use Rattle.net_base.specs.plan.Places.{is_mesh_class, wire_row}
use Rattle.net_base.specs.plan.Roles.{are_joined_by, is_core_edge, is_mesh_of, is_spoke_edge, is_spoke_from, is_wire_of, wire_ends_at}
use Rattle.network_model.specs.Reach.{far_of}
use Rattle.std.proofs.Common.{Bool, List, Some, [], ap, false, not, position, refl, slice_get, subst, sym, true, ℕ, ⊎_elim, ◌&&◌, ◌==◌, ◌||◌, ◌∙◌, ◌∷◌, ◌≡◌}
use Rattle.std.proofs.lemmas.Bool.{eq-eqb, eqb-true, and_from, not-true, or_left, or_right}
use Rattle.std.proofs.lemmas.Map.Keys.{any_passes_from_place}
use Rattle.std.specs.List.{AllByRecursion}
use Rattle.net_values.proofs.BoolLemmas.{clash, first_holds, or_later, second_holds}
use Rattle.net_values.proofs.NumberLemmas.{same_number}
use Rattle.net_values.proofs.RowLemmas.{row_holds, found_is_any}

-- ---- spokes and mesh wires

pub service_is : (row : WirePlan) (service : ServiceId) → is_wire_of service row ≡ true → row.service ≡ service
service_is row service is = ap (λ (n : ℕ). record { 0 = n }) (eqb-true row.service.0 service.0 is)

-- a spoke leads from its spoke edge to its home, which is a core edge
pub record IsSpokeOf (plan : Plan) (service : ServiceId) (edge home : ℕ) (row : WirePlan) : Type 0 where
  pub of_service : row.service ≡ service
  pub ours : is_wire_of service row ≡ true
  pub class : is_mesh_class row.class ≡ false
  pub link : IsLink plan row
  pub first : edge ≡ link.near.0
  pub last : home ≡ link.far.0
  pub ends : wire_ends_at service edge row ≡ true
  pub ends_there : wire_ends_at service home row ≡ true
  pub starts : is_spoke_edge plan service edge ≡ true
  pub core : is_core_edge plan service home ≡ true

either_end : (first last : Bool) → last ≡ true → first || last ≡ true
either_end true last is = refl
either_end false last is = is

one_end : (first last : Bool) → first ≡ true → first || last ≡ true
one_end true last is = refl
one_end false last is = clash is

pub spoke_of : (plan : Plan) (service : ServiceId) (edge : ℕ) (wire : WireId) (home : ℕ) → IsChecked plan → (spoke : IsSpokeTo plan service edge wire home)
    → IsSpokeOf plan service edge home spoke.row
spoke_of plan service edge wire home checked spoke = record {
  of_service = service_is row service ours;
  ours = ours;
  class = not-true (is_mesh_class row.class) (second_holds (is_wire_of service row) (not (is_mesh_class row.class))
      (first_holds (is_wire_of service row && not (is_mesh_class row.class)) (is_first edge row.path) spoke.from));
  link = link;
  first = eqb-true edge link.near.0 (ap (is_first edge) (sym link.path) ∙ begins);
  last = last;
  ends = and_from (is_wire_of service row) (is_first edge row.path || is_last edge row.path) ours (one_end (is_first edge row.path) (is_last edge row.path) begins);
  ends_there = and_from (is_wire_of service row) (is_first home row.path || is_last home row.path) ours (either_end (is_first home row.path) (is_last home row.path) spoke.to);
  starts = any_passes_from_place (is_spoke_from service edge) plan.wires wire.0 row spoke.is spoke.from;
  core = subst (λ (n : ℕ). is_core_edge plan service n ≡ true) (sym last)
      (core_edge plan service link.far.0 (far_port plan service wire.0 row link spoke.is ours) (far_core plan service wire.0 row link checked spoke.is ours));
}
  where
    row : WirePlan
    row = spoke.row

    ours : is_wire_of service row ≡ true
    ours = first_holds (is_wire_of service row) (not (is_mesh_class row.class)) (first_holds (is_wire_of service row && not (is_mesh_class row.class)) (is_first edge row.path) spoke.from)

    begins : is_first edge row.path ≡ true
    begins = second_holds (is_wire_of service row && not (is_mesh_class row.class)) (is_first edge row.path) spoke.from

    link : IsLink plan row
    link = link_at plan wire.0 row checked spoke.is

    last : home ≡ link.far.0
    last = eqb-true home link.far.0 (sym (link.last home) ∙ (ap (is_last home) (sym link.path) ∙ spoke.to))

-- neighbours on a mesh wire of the service
pub record IsMeshLink (plan : Plan) (service : ServiceId) (a b : ℕ) (row : WirePlan) : Type 0 where
  pub of_service : row.service ≡ service
  pub ours : is_wire_of service row ≡ true
  pub class : is_mesh_class row.class ≡ true
  pub by_service : are_joined_by plan service a b ≡ true

pub mesh_link : (plan : Plan) (service : ServiceId) (a b : ℕ) (wire : WireId) (row : WirePlan) → wire_row plan wire ≡ Some row → is_mesh_of service row ≡ true → joins a b row.path ≡ true
    → IsMeshLink plan service a b row
mesh_link plan service a b wire row is mesh joined =
    let ours : is_wire_of service row ≡ true = first_holds (is_wire_of service row) (is_mesh_class row.class) mesh in
    record {
      of_service = service_is row service ours;
      ours = ours;
      class = second_holds (is_wire_of service row) (is_mesh_class row.class) mesh;
      by_service = any_passes_from_place (λ (r : WirePlan). is_wire_of service r && joins a b r.path) plan.wires wire.0 row is (and_from (is_wire_of service row) (joins a b row.path) ours joined);
    }

-- a mesh wire leads from each of its terminal edges to the other one, and both are core edges
pub record HasFar (plan : Plan) (service : ServiceId) (row : WirePlan) (a : ℕ) : Type 0 where
  pub other : ℕ
  pub far : far_of a row.path ≡ Some other
  pub back : far_of other row.path ≡ Some a
  pub core : is_core_edge plan service a ≡ true
  pub core_there : is_core_edge plan service other ≡ true

pub mesh_far : (plan : Plan) (service : ServiceId) (a : ℕ) (wire : WireId) (row : WirePlan) → IsChecked plan → wire_row plan wire ≡ Some row → is_mesh_of service row ≡ true
    → wire_ends_at service a row ≡ true → HasFar plan service row a
mesh_far plan service a wire row checked is mesh ends = ⊎_elim
    (λ (near : a ≡ link.near.0). subst (HasFar plan service row) (sym near)
    (record { other = link.far.0; far = far_of_near plan row link; back = far_of_far plan row link; core = near_is; core_there = far_is }))
    (λ (last : a ≡ link.far.0). subst (HasFar plan service row) (sym last)
    (record { other = link.near.0; far = far_of_far plan row link; back = far_of_near plan row link; core = far_is; core_there = near_is }))
    (sides_ended plan service row link a ends)
  where
    link : IsLink plan row
    link = link_at plan wire.0 row checked is

    ours : is_wire_of service row ≡ true
    ours = first_holds (is_wire_of service row) (is_mesh_class row.class) mesh

    near_is : is_core_edge plan service link.near.0 ≡ true
    near_is = core_edge plan service link.near.0 (near_port plan service wire.0 row link is ours) (mesh_near plan service wire.0 row link checked is mesh)

    far_is : is_core_edge plan service link.far.0 ≡ true
    far_is = core_edge plan service link.far.0 (far_port plan service wire.0 row link is ours) (far_core plan service wire.0 row link checked is ours)

-- the neighbour of a terminal edge of a path
pub record HasNext (path : List EdgeId) (me : ℕ) : Type 0 where
  pub peer : EdgeId
  pub joined : joins me peer.0 path ≡ true

first_next : (first next : EdgeId) (rest : List EdgeId) → HasNext (first ∷ next ∷ rest) first.0
first_next first next rest = record { peer = next; joined = rw (same_number first.0, same_number next.0) refl }

last_next : (first next : EdgeId) (rest : List EdgeId) (last : EdgeId) → last_edge (next ∷ rest) ≡ Some last → HasNext (first ∷ next ∷ rest) last.0
last_next first next [] last ends =
    let same : next ≡ last = cc (ends) in
    subst (λ (e : EdgeId). HasNext (first ∷ next ∷ []) e.0) same
    (record {
      peer = first;
      joined = or_left (_ || (first.0 == first.0 && next.0 == next.0)) false (or_right (next.0 == first.0 && first.0 == next.0) (first.0 == first.0 && next.0 == next.0)
          (rw (same_number first.0, same_number next.0) refl));
    })
last_next first next (more ∷ rest) last ends =
    let found : HasNext (next ∷ more ∷ rest) last.0 = last_next next more rest last ends in
    record { peer = found.peer; joined = or_later ((last.0 == first.0 && found.peer.0 == next.0) || (found.peer.0 == first.0 && last.0 == next.0)) found.joined }

-- each terminal edge of a wire has one
pub next_of : (plan : Plan) (service : ServiceId) (row : WirePlan) (me : ℕ) → IsLink plan row → wire_ends_at service me row ≡ true → HasNext row.path me
next_of plan service row me link ends = subst (λ (path : List EdgeId). HasNext path me) (sym link.path) (by link.rest link.ends) where
  by : (rest : List EdgeId) → last_edge (link.near ∷ rest) ≡ Some link.far → HasNext (link.near ∷ rest) me
  by [] last =
      let same : link.near ≡ link.far = cc (last) in
      clash (sym link.apart ∙ (ap (λ (e : EdgeId). link.near.0 == e.0) (sym same) ∙ same_number link.near.0))
  by (next ∷ rest) last = ⊎_elim
      (λ (near : me ≡ link.near.0). subst (HasNext (link.near ∷ next ∷ rest)) (sym near) (first_next link.near next rest))
      (λ (far : me ≡ link.far.0). subst (HasNext (link.near ∷ next ∷ rest)) (sym far) (last_next link.near next rest link.far last))
      (sides_ended plan service row link me ends)

-- ---- the end of an edge at a wire that ends there

pub record IsLinkEnd (plan : Plan) (me peer : EdgeId) (wire : WireId) (row : WirePlan) : Type 0 where
  pub place : EndPlace
  pub found : wire_end plan me wire ≡ Some place
  pub named : end_named plan me peer row.pw_id ≡ Some place
  pub wire_is : place.wire ≡ wire
  pub peer_is : place.peer ≡ peer
  pub pw_id_is : place.pw_id ≡ row.pw_id
  pub terminal : place.terminal ≡ true

-- an end of an edge that its peer and PW ID name
pub record IsKnownEnd (plan : Plan) (me : EdgeId) (place : EndPlace) : Type 0 where
  pub end : IsEndOf plan me place
  pub named : end_named plan me place.peer place.pw_id ≡ Some place

both_all : (P Q R : EndPlace → Type 0) (xs : List EndPlace) → ((x : EndPlace) → P x → Q x → R x) → AllByRecursion P xs → AllByRecursion Q xs → AllByRecursion R xs
both_all P Q R [] join one other = tt
both_all P Q R (x ∷ xs) join one other = (join x one.0 other.0, both_all P Q R xs join one.1 other.1)

pub known_ends : (plan : Plan) (me : EdgeId) → IsChecked plan → AllByRecursion (IsKnownEnd plan me) (end_places plan me)
known_ends plan me checked = both_all (IsEndOf plan me) (λ (place : EndPlace). end_named plan me place.peer place.pw_id ≡ Some place) (IsKnownEnd plan me) (end_places plan me)
    (λ place end named. record { end = end; named = named }) (places_are plan me) (places_named plan me checked)

pub link_end : (plan : Plan) (service : ServiceId) (me peer : EdgeId) (wire : WireId) (row : WirePlan) → IsChecked plan → wire_ends_at service me.0 row ≡ true
    → wire_row plan wire ≡ Some row → joins me.0 peer.0 row.path ≡ true → IsLinkEnd plan me peer wire row
link_end plan service me peer wire row checked ends_here is joined = record {
  place = place;
  found = found.is;
  named = subst (λ (n : ℕ). end_named plan me peer n ≡ Some place) (at.holds.end.pw_id ∙ ap (λ (r : WirePlan). r.pw_id) rows)
      (subst (λ (k : EdgeId). end_named plan me k place.pw_id ≡ Some place) peer_is at.holds.named);
  wire_is = of_wire;
  peer_is = peer_is;
  pw_id_is = at.holds.end.pw_id ∙ ap (λ (r : WirePlan). r.pw_id) rows;
  terminal = second_holds (is_of_wire wire place) place.terminal at.passes;
}
  where
    near : NamedEnd plan me peer wire row
    near = end_of plan me peer wire row checked is joined

    there : IsNamed plan me peer row.pw_id near.place
    there = named_is plan me peer row.pw_id near.place near.named

    ends : is_first me.0 row.path || is_last me.0 row.path ≡ true
    ends = second_holds (is_wire_of service row) (is_first me.0 row.path || is_last me.0 row.path) ends_here

    first_passes : is_end_of_wire wire near.place ≡ true
    first_passes = and_from (is_of_wire wire near.place) near.place.terminal (ap (λ (w : WireId). w.0 == wire.0) near.wire_is ∙ eq-eqb wire.0 wire.0 refl)
        (there.holds.terminal ∙ (ap (λ (r : WirePlan). is_terminal r me) (same_row there.holds.row row (sym there.holds.is ∙ (ap (wire_row plan) near.wire_is ∙ is))) ∙ ends))

    found : Finds (is_end_of_wire wire) (end_places plan me)
    found = find_some (is_end_of_wire wire) (end_places plan me) (found_is_any (is_named peer row.pw_id) (is_end_of_wire wire) (end_places plan me) near.place near.named first_passes)

    place : EndPlace
    place = found.place

    at : IsFound (IsKnownEnd plan me) (is_end_of_wire wire) place
    at = find_holds (IsKnownEnd plan me) (is_end_of_wire wire) (end_places plan me) place (known_ends plan me checked) found.is

    of_wire : place.wire ≡ wire
    of_wire = ap (λ (n : ℕ). record { 0 = n }) (eqb-true place.wire.0 wire.0 (first_holds (is_of_wire wire place) place.terminal at.passes))

    rows : at.holds.end.row ≡ row
    rows = same_row at.holds.end.row row (sym at.holds.end.is ∙ (ap (wire_row plan) of_wire ∙ is))

    peer_is : place.peer ≡ peer
    peer_is = ap (λ (n : ℕ). record { 0 = n })
        (one_neighbour row.path me.0 place.peer.0 peer.0 (row_holds (IsWireOf plan) plan.wires wire.0 row is checked.wires).once ends
        (ap (λ (r : WirePlan). joins me.0 place.peer.0 r.path) (sym rows) ∙ at.holds.end.joined) joined)

-- ---- the port of a wire at a terminal edge of it

pub record HasPortAt (plan : Plan) (service : ServiceId) (me : EdgeId) (wire : WireId) (row : WirePlan) : Type 0 where
  pub p : ℕ
  pub found : position (is_wire_port wire) (ports_of plan service me) ≡ Some p
  pub leads : slice_get (ports_of plan service me) p ≡ Some (wire_port wire.0 row)

pub port_found : (plan : Plan) (service : ServiceId) (me : EdgeId) (wire : WireId) (row : WirePlan) → wire_row plan wire ≡ Some row → wire_ends_at service me.0 row ≡ true
    → HasPortAt plan service me wire row
port_found plan service me wire row is ends =
    let has = has_wire_port plan service me wire.0 row is ends in
    let (p, at) = finds_wire_port wire (ports_of plan service me) has in
    record { p = p; found = at; leads = wire_port_is plan service me p wire.0 row (found_wire_port wire (ports_of plan service me) p at) is }
