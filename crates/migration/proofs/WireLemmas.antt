-- Circuits and wires are read from their tables.
use Rattle.std.proofs.Common.{◌≡◌, ◌≤◌, ℕ, true, List, [], ◌∷◌, map, Some, None, Ok, codes, refl, arith}
use Rattle.std.specs.List.{AllByRecursion}
use Rattle.toml.specs.Data.{Items, no_members, string, array, table, get_member}
use Rattle.toml.specs.View.{items_of}
use Rattle.net_values.specs.Name.{IsName}
use Rattle.net_base.specs.declared.plan.Plan.{Plan}
use Rattle.net_base.specs.declared.plan.circuit_plan.CircuitPlan.{CircuitPlan}
use Rattle.net_base.specs.declared.plan.wire_plan.WirePlan.{WirePlan}
use Rattle.net_base.specs.declared.plan.places.EdgeId.{EdgeId}
use Rattle.net_base.specs.declared.plan.place.Place.{Place}
use Rattle.net_base.specs.declared.plan.table.Table.TheVariants as kind
use Rattle.net_base.specs.plan.Accepted.{IsOffer, IsWireOf}
use Rattle.net_base.specs.plan.Faults.{is_told_within}
use Rattle.command_text.specs.declared.row_place.RowPlace.{RowPlace}
use Rattle.scenario_text.specs.declared.document_version.DocumentVersion.TheVariants.{Two}
use Rattle.scenario_text.specs.declared.circuit_row.CircuitRow.{CircuitRow}
use Rattle.scenario_text.specs.declared.wire_row.WireRow.{WireRow}
use Rattle.scenario_text.specs.Keys.{is_known_key}
use Rattle.scenario_text.specs.Values.{a_name, a_number, a_class, a_path, all_items, is_string, names_in}
use Rattle.scenario_text.specs.Rows.{a_table, circuit_row_in, ends_by_tables, wire_row_in}
use Rattle.migration.proofs.KeyLemmas.{put_same, put_keys, told_keys, all_keys}
use Rattle.line_shapes.specs.Words.{edge_name}
use Rattle.migration.specs.Rows.{number, name_of_service, class_name, offer_table, circuit_table, ends_table, wire_table}
use Rattle.migration.specs.ReadPlan.{IsSaid}
use Rattle.migration.proofs.ReadLemmas.{skip, needed_is, defaulted_is, optional_is, name_is, number_is, class_is, known}
use Rattle.migration.proofs.OfferLemmas.{row_of, told_value, told_at_key, told_read, near_read, far_read}

-- what the row of a circuit says
abbrev pub circuit_of : Plan → CircuitPlan → CircuitRow
circuit_of plan circuit = record { name = circuit.name; edge = edge_name plan circuit.edge; service = name_of_service plan circuit.service; tag = circuit.tag }

module _ (plan : Plan) (circuit : CircuitPlan) where
  circuit_name_at : get_member (codes "name") (circuit_table plan circuit) ≡ Some (string circuit.name)
  unfolding circuit_table
  circuit_name_at = put_same (codes "name") _ _

  circuit_edge_at : get_member (codes "edge") (circuit_table plan circuit) ≡ Some (string (edge_name plan circuit.edge))
  unfolding circuit_table
  circuit_edge_at = skip (codes "edge") (codes "name") _ _ refl (put_same (codes "edge") _ _)

  circuit_service_at : get_member (codes "service") (circuit_table plan circuit) ≡ Some (string (name_of_service plan circuit.service))
  unfolding circuit_table
  circuit_service_at = skip (codes "service") (codes "name") _ _ refl (skip (codes "service") (codes "edge") _ _ refl (put_same (codes "service") _ _))

  circuit_tag_at : get_member (codes "tag") (circuit_table plan circuit) ≡ told_value circuit.tag
  unfolding circuit_table
  circuit_tag_at =
      skip (codes "tag") (codes "name") _ _ refl (skip (codes "tag") (codes "edge") _ _ refl (skip (codes "tag") (codes "service") _ _ refl (told_at_key (codes "tag") circuit.tag no_members refl)))

  circuit_keys_known : all_keys (is_known_key Two kind.Circuit) (circuit_table plan circuit) ≡ true
  unfolding circuit_table
  circuit_keys_known = put_keys _ (codes "name") _ _ refl (put_keys _ (codes "edge") _ _ refl (put_keys _ (codes "service") _ _ refl (told_keys _ (codes "tag") circuit.tag no_members refl refl)))

  pub circuit_read : (row : RowPlace) → IsName circuit.name → IsName (edge_name plan circuit.edge) → IsName (name_of_service plan circuit.service) → is_told_within 1 4094 circuit.tag ≡ true
      → circuit_row_in Two row (circuit_table plan circuit) ≡ Ok (circuit_of plan circuit)
  unfolding circuit_row_in
  circuit_read row name edge service tag =
      rw (
        needed_is a_name row (codes "name") (circuit_table plan circuit) (string circuit.name) circuit.name circuit_name_at (name_is _ circuit.name name),
        needed_is a_name row (codes "edge") (circuit_table plan circuit) (string (edge_name plan circuit.edge)) (edge_name plan circuit.edge) circuit_edge_at (name_is _ (edge_name plan circuit.edge) edge),
        needed_is a_name row (codes "service") (circuit_table plan circuit) (string (name_of_service plan circuit.service)) (name_of_service plan circuit.service) circuit_service_at (name_is _ (name_of_service plan circuit.service) service),
        told_read (codes "tag") circuit.tag (circuit_table plan circuit) row 1 4094 circuit_tag_at tag,
        known Two kind.Circuit row (circuit_table plan circuit) circuit_keys_known,
      ) refl

-- the names of a path
abbrev pub path_names : Plan → List EdgeId → List (List ℕ)
path_names plan path = map (λ edge. edge_name plan edge) path

abbrev path_items : Plan → List EdgeId → Items
path_items plan path = items_of (map (λ edge. string (edge_name plan edge)) path)

are_strings : (plan : Plan) (path : List EdgeId) → all_items is_string (path_items plan path) ≡ true
are_strings plan [] = refl
are_strings plan (edge ∷ path) = are_strings plan path

-- each edge of the path has a name
abbrev pub AreNamed : Plan → List EdgeId → Type 0
AreNamed plan path = AllByRecursion (λ edge. IsName (edge_name plan edge)) path

names_read : (plan : Plan) (place : Place) (path : List EdgeId) → AreNamed plan path → names_in place (path_items plan path) ≡ Ok (path_names plan path)
names_read plan place [] names = refl
names_read plan place (edge ∷ path) names = rw (name_is place (edge_name plan edge) names.0, names_read plan place path names.1) refl

path_is : (plan : Plan) (place : Place) (path : List EdgeId) → AreNamed plan path → a_path place (array (path_items plan path)) ≡ Ok (path_names plan path)
path_is plan place path names = rw (are_strings plan path) (names_read plan place path names)

-- what the row of a wire says
abbrev pub wire_of : Plan → WirePlan → WireRow
wire_of plan wire =
    record {
      name = wire.name;
      service = name_of_service plan wire.service;
      class = wire.class;
      path = path_names plan wire.path;
      pw_id = wire.pw_id;
      priority = wire.priority;
      near = row_of wire.near;
      far = row_of wire.far;
    }

module _ (plan : Plan) (wire : WirePlan) where
  wire_name_at : get_member (codes "name") (wire_table plan wire) ≡ Some (string wire.name)
  unfolding wire_table
  wire_name_at = put_same (codes "name") _ _

  wire_service_at : get_member (codes "service") (wire_table plan wire) ≡ Some (string (name_of_service plan wire.service))
  unfolding wire_table
  wire_service_at = skip (codes "service") (codes "name") _ _ refl (put_same (codes "service") _ _)

  wire_class_at : get_member (codes "class") (wire_table plan wire) ≡ Some (string (class_name wire.class))
  unfolding wire_table
  wire_class_at = skip (codes "class") (codes "name") _ _ refl (skip (codes "class") (codes "service") _ _ refl (put_same (codes "class") _ _))

  wire_path_at : get_member (codes "path") (wire_table plan wire) ≡ Some (array (path_items plan wire.path))
  unfolding wire_table
  wire_path_at = skip (codes "path") (codes "name") _ _ refl (skip (codes "path") (codes "service") _ _ refl (skip (codes "path") (codes "class") _ _ refl (put_same (codes "path") _ _)))

  wire_id_at : get_member (codes "pw_id") (wire_table plan wire) ≡ Some (number wire.pw_id)
  unfolding wire_table ends_table
  wire_id_at =
      skip (codes "pw_id") (codes "name") _ _ refl (skip (codes "pw_id") (codes "service") _ _ refl (skip (codes "pw_id") (codes "class") _ _ refl (skip (codes "pw_id") (codes "path") _ _ refl
      (put_same (codes "pw_id") _ _))))

  wire_priority_at : get_member (codes "priority") (wire_table plan wire) ≡ Some (number wire.priority)
  unfolding wire_table ends_table
  wire_priority_at =
      skip (codes "priority") (codes "name") _ _ refl (skip (codes "priority") (codes "service") _ _ refl (skip (codes "priority") (codes "class") _ _ refl (skip (codes "priority") (codes "path") _ _ refl
      (skip (codes "priority") (codes "pw_id") _ _ refl (put_same (codes "priority") _ _)))))

  wire_near_at : get_member (codes "near") (wire_table plan wire) ≡ Some (table (offer_table wire.near))
  unfolding wire_table ends_table
  wire_near_at =
      skip (codes "near") (codes "name") _ _ refl (skip (codes "near") (codes "service") _ _ refl (skip (codes "near") (codes "class") _ _ refl (skip (codes "near") (codes "path") _ _ refl
      (skip (codes "near") (codes "pw_id") _ _ refl (skip (codes "near") (codes "priority") _ _ refl (put_same (codes "near") _ _))))))

  wire_far_at : get_member (codes "far") (wire_table plan wire) ≡ Some (table (offer_table wire.far))
  unfolding wire_table ends_table
  wire_far_at =
      skip (codes "far") (codes "name") _ _ refl (skip (codes "far") (codes "service") _ _ refl (skip (codes "far") (codes "class") _ _ refl (skip (codes "far") (codes "path") _ _ refl
      (skip (codes "far") (codes "pw_id") _ _ refl (skip (codes "far") (codes "priority") _ _ refl (skip (codes "far") (codes "near") _ _ refl (put_same (codes "far") _ _)))))))

  wire_keys_known : all_keys (is_known_key Two kind.Wire) (wire_table plan wire) ≡ true
  unfolding wire_table ends_table
  wire_keys_known =
      put_keys _ (codes "name") _ _ refl (put_keys _ (codes "service") _ _ refl (put_keys _ (codes "class") _ _ refl (put_keys _ (codes "path") _ _ refl
      (put_keys _ (codes "pw_id") _ _ refl (put_keys _ (codes "priority") _ _ refl (put_keys _ (codes "near") _ _ refl (put_keys _ (codes "far") _ _ refl refl)))))))

  -- the ends of a wire
  ends_read : (row : RowPlace) → IsOffer wire.near → IsOffer wire.far → IsSaid wire.near → IsSaid wire.far
      → ends_by_tables row (wire_table plan wire) ≡ Ok (record { near = row_of wire.near; far = row_of wire.far })
  unfolding ends_by_tables
  ends_read row near far said_near said_far =
      rw (
        optional_is a_table row (codes "near") (wire_table plan wire) None (table (offer_table wire.near)) (offer_table wire.near) wire_near_at refl,
        optional_is a_table row (codes "far") (wire_table plan wire) None (table (offer_table wire.far)) (offer_table wire.far) wire_far_at refl,
        known Two kind.Wire row (wire_table plan wire) wire_keys_known,
        near_read wire.near row.index near said_near,
        far_read wire.far row.index far said_far,
      ) refl

  pub wire_read : (row : RowPlace) → IsName wire.name → IsName (name_of_service plan wire.service) → AreNamed plan wire.path → IsWireOf plan wire → wire.priority ≤ 255 → IsSaid wire.near
      → IsSaid wire.far
      → wire_row_in Two row (wire_table plan wire) ≡ Ok (wire_of plan wire)
  unfolding wire_row_in
  wire_read row name service path is priority near far =
      rw (
        needed_is a_name row (codes "name") (wire_table plan wire) (string wire.name) wire.name wire_name_at (name_is _ wire.name name),
        needed_is a_name row (codes "service") (wire_table plan wire) (string (name_of_service plan wire.service)) (name_of_service plan wire.service) wire_service_at (name_is _ (name_of_service plan wire.service) service),
        needed_is a_class row (codes "class") (wire_table plan wire) (string (class_name wire.class)) wire.class wire_class_at (class_is _ wire.class),
        needed_is a_path row (codes "path") (wire_table plan wire) (array (path_items plan wire.path)) (path_names plan wire.path) wire_path_at (path_is plan _ wire.path path),
        needed_is (a_number 1 4294967295) row (codes "pw_id") (wire_table plan wire) (number wire.pw_id) wire.pw_id wire_id_at (number_is 1 4294967295 wire.pw_id _ is.pw_id.0 is.pw_id.1),
        defaulted_is (a_number 0 255) row (codes "priority") (wire_table plan wire) 100 (number wire.priority) wire.priority wire_priority_at (number_is 0 255 wire.priority _ (omega arith) priority),
        ends_read row is.near is.far near far,
      ) refl
