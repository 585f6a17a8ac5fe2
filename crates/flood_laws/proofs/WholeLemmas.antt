-- In a calm service a wire that forwards at the terminal edge from which a copy is sent carries frames: each mesh wire does, and a
-- spoke edge forwards by no other spoke than the one that it has chosen, of which there is one alone.
use Rattle.std.proofs.Common.{◌≡◌, ◌&&◌, ◌+◌, ◌∙◌, not, ℕ, Bool, true, false, Some, slice_get, nat_eq, refl, ap, sym, subst, zero-add}
use Rattle.std.proofs.lemmas.Bool.{eq-eqb, eqb-true, not-true}
use Rattle.std.proofs.lemmas.Map.Keys.{any_passes_from_place}
use Rattle.net_values.proofs.BoolLemmas.{first_holds, second_holds}
use Rattle.net_base.specs.declared.plan.Plan.{Plan}
use Rattle.net_base.specs.declared.plan.wire_plan.WirePlan.{WirePlan}
use Rattle.net_base.specs.declared.plan.places.ServiceId.{ServiceId}
use Rattle.net_base.specs.declared.plan.places.WireId.{WireId}
use Rattle.net_base.specs.plan.Accepted.{IsChecked}
use Rattle.net_base.specs.plan.Paths.{is_first, is_last}
use Rattle.net_base.specs.plan.Places.{is_mesh_class, wire_row}
use Rattle.net_base.specs.plan.Roles.{is_spoke_edge, is_spoke_from, is_wire_of}
use Rattle.edge_model.specs.Ends.{end_forwards}
use Rattle.network_model.specs.Calm.{carries, is_calm}
use Rattle.network_model.specs.State.{NetworkState}
use Rattle.flight_laws.specs.Laws.{network_after}
use Rattle.flight_laws.proofs.RunLemmas.{run_ordered}
use Rattle.flood_laws.specs.Laws.{RunsKeepWiresWhole}
use Rattle.flood_laws.proofs.ChosenLemmas.{one_chosen}
use Rattle.flood_laws.proofs.DueLemmas.{carries_by, forwards, stitches}
use Rattle.flood_laws.proofs.HomeLemmas.{LiveSpoke, live_count, live_found}
use Rattle.flood_laws.proofs.LinkLemmas.{IsLink, link_at}
use Rattle.flood_laws.proofs.MeshLemmas.{mesh_carries}

-- a spoke of a calm service that forwards at its spoke edge carries frames
pub spoke_whole : (plan : Plan) (calm : NetworkState) (service : ServiceId) (wire : WireId) (w : WirePlan) (link : IsLink plan w) → IsChecked plan → is_calm plan calm service ≡ true
    → ((k : ℕ) → (calm.edges k).me ≡ record { 0 = k })
    → wire_row plan wire ≡ Some w → is_wire_of service w ≡ true → is_mesh_class w.class ≡ false → end_forwards plan (calm.edges link.near.0) wire ≡ true → carries plan calm wire.0 w ≡ true
spoke_whole plan calm service wire w link checked calmed placed is ours spoke up = same (live_found plan calm service link.near.0 0 plan.wires (live_count plan calm service link.near.0 calmed link.near_within starts)) where
  from : is_spoke_from service link.near.0 w ≡ true
  from = rw (ours, spoke, link.path, eq-eqb link.near.0 link.near.0 refl) refl

  starts : is_spoke_edge plan service link.near.0 ≡ true
  starts = any_passes_from_place (is_spoke_from service link.near.0) plan.wires wire.0 w is from

  -- the first edge of a spoke is not its last one
  not_last : (v : WirePlan) → IsLink plan v → is_first link.near.0 v.path ≡ true → is_last link.near.0 v.path ≡ false
  not_last v l first =
      ap (is_last link.near.0) l.path ∙ (l.last link.near.0
      ∙ (ap (λ (n : ℕ). nat_eq n l.far.0) (eqb-true link.near.0 l.near.0 (sym (ap (is_first link.near.0) l.path) ∙ first)) ∙ l.apart))

  same : LiveSpoke plan calm service link.near.0 0 plan.wires → carries plan calm wire.0 w ≡ true
  same live =
      let kind = first_holds (is_spoke_from service link.near.0 live.row) (carries plan calm (0 + live.k) live.row) live.live in
      let carried : carries plan calm live.k live.row ≡ true =
      subst (λ (n : ℕ). carries plan calm n live.row ≡ true) (zero-add live.k) (second_holds (is_spoke_from service link.near.0 live.row) (carries plan calm (0 + live.k) live.row) live.live) in
      let two = first_holds (is_wire_of service live.row && not (is_mesh_class live.row.class)) (is_first link.near.0 live.row.path) kind in
      let first = second_holds (is_wire_of service live.row && not (is_mesh_class live.row.class)) (is_first link.near.0 live.row.path) kind in
      let of = first_holds (is_wire_of service live.row) (not (is_mesh_class live.row.class)) two in
      let class = not-true (is_mesh_class live.row.class) (second_holds (is_wire_of service live.row) (not (is_mesh_class live.row.class)) two) in
      let l : IsLink plan live.row = link_at plan live.k live.row checked live.is in
      let near : link.near.0 ≡ l.near.0 = eqb-true link.near.0 l.near.0 (sym (ap (is_first link.near.0) l.path) ∙ first) in
      let sends : forwards plan calm l.near.0 live.k ≡ true =
      first_holds (forwards plan calm l.near.0 live.k) (forwards plan calm l.far.0 live.k)
      (first_holds (forwards plan calm l.near.0 live.k && forwards plan calm l.far.0 live.k) (stitches calm live.k l) (sym (carries_by plan calm live.k live.row l) ∙ carried)) in
      let place : live.k ≡ wire.0 = one_chosen plan (calm.edges link.near.0) link.near.0 service wire (record { 0 = live.k }) w live.row (placed link.near.0)
      is ours spoke (not_last w link (rw (link.path, eq-eqb link.near.0 link.near.0 refl) refl)) up
      live.is of class (not_last live.row l first) (ap (λ (n : ℕ). end_forwards plan (calm.edges n) (record { 0 = live.k })) near ∙ sends) in
      let rows : Some live.row ≡ Some w = sym live.is ∙ (ap (slice_get plan.wires) place ∙ is) in
      let row_is : live.row ≡ w = cc (rows) in
      ap (carries plan calm wire.0) (sym row_is) ∙ (ap (λ (n : ℕ). carries plan calm n live.row) (sym place) ∙ carried)

-- and so does each wire of it on which a copy was sent by a terminal edge that forwards, where the other one forwards too
pub wire_whole : (plan : Plan) (calm : NetworkState) (service : ServiceId) (wire : WireId) (w : WirePlan) (link : IsLink plan w) → IsChecked plan → is_calm plan calm service ≡ true
    → ((k : ℕ) → (calm.edges k).me ≡ record { 0 = k })
    → wire_row plan wire ≡ Some w → is_wire_of service w ≡ true → end_forwards plan (calm.edges link.near.0) wire ≡ true → carries plan calm wire.0 w ≡ true
wire_whole plan calm service wire w link checked calmed placed is ours up = by (is_mesh_class w.class) refl where
  by : (b : Bool) → is_mesh_class w.class ≡ b → carries plan calm wire.0 w ≡ true
  by true mesh = mesh_carries plan calm service wire.0 w checked calmed is (rw (ours, mesh) refl)
  by false spoke = spoke_whole plan calm service wire w link checked calmed placed is ours spoke up

-- ---- the law

pub runs_keep_wires_whole : RunsKeepWiresWhole
runs_keep_wires_whole plan events run service calm wire row is ours near first up =
    wire_whole plan (network_after plan events) service wire row link run.checked calm (run_ordered plan events run).placed is ours
    (subst (λ (n : ℕ). end_forwards plan ((network_after plan events).edges n) wire ≡ true) (eqb-true near.0 link.near.0 (sym (ap (is_first near.0) link.path) ∙ first)) up)
  where
    link : IsLink plan row
    link = link_at plan wire.0 row run.checked is
