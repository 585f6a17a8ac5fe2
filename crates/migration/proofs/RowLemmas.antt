-- Each row is read from its table.
use Rattle.std.proofs.Common.{◌≡◌, ◌≤◌, ℕ, true, Some, Ok, codes, refl, if◌then◌else◌}
use Rattle.std.specs.Net.Text.{ipv4_text}
use Rattle.toml.specs.Data.{string, get_member}
use Rattle.net_values.specs.Name.{IsName}
use Rattle.net_base.specs.declared.plan.edge_plan.EdgePlan.{EdgePlan}
use Rattle.net_base.specs.declared.plan.service_plan.ServicePlan.{ServicePlan}
use Rattle.net_base.specs.declared.plan.table.Table.TheVariants as kind
use Rattle.net_base.specs.plan.Accepted.{IsEdgePlan, IsService}
use Rattle.command_text.specs.declared.row_place.RowPlace.{RowPlace}
use Rattle.scenario_text.specs.declared.document_version.DocumentVersion.TheVariants.{Two}
use Rattle.scenario_text.specs.declared.group_row.GroupRow.{GroupRow}
use Rattle.scenario_text.specs.Keys.{is_known_key}
use Rattle.scenario_text.specs.Values.{a_name, an_address, a_number}
use Rattle.scenario_text.specs.Rows.{edge_in, service_in, group_row_in}
use Rattle.migration.proofs.KeyLemmas.{put_same, put_keys, all_keys}
use Rattle.migration.specs.Groups.{group_name}
use Rattle.migration.specs.Rows.{number, edge_table, service_table, group_table}
use Rattle.migration.specs.ReadPlan.{IsQuad}
use Rattle.migration.proofs.ReadLemmas.{skip, needed_is, defaulted_is, name_is, number_is, address_is, known}

module _ (edge : EdgePlan) where
  edge_name_at : get_member (codes "name") (edge_table edge) ≡ Some (string edge.name)
  unfolding edge_table
  edge_name_at = put_same (codes "name") _ _

  edge_address_at : get_member (codes "address") (edge_table edge) ≡ Some (string (ipv4_text edge.address.0))
  unfolding edge_table
  edge_address_at = skip (codes "address") (codes "name") _ _ refl (put_same (codes "address") _ _)

  edge_label_at : get_member (codes "first_label") (edge_table edge) ≡ Some (number edge.first_label)
  unfolding edge_table
  edge_label_at = skip (codes "first_label") (codes "name") _ _ refl (skip (codes "first_label") (codes "address") _ _ refl (put_same (codes "first_label") _ _))

  edge_keepalive_at : get_member (codes "keepalive") (edge_table edge) ≡ Some (number edge.keepalive)
  unfolding edge_table
  edge_keepalive_at =
      skip (codes "keepalive") (codes "name") _ _ refl (skip (codes "keepalive") (codes "address") _ _ refl (skip (codes "keepalive") (codes "first_label") _ _ refl (put_same (codes "keepalive") _ _)))

  edge_pdu_at : get_member (codes "max_pdu") (edge_table edge) ≡ Some (number edge.max_pdu)
  unfolding edge_table
  edge_pdu_at =
      skip (codes "max_pdu") (codes "name") _ _ refl (skip (codes "max_pdu") (codes "address") _ _ refl (skip (codes "max_pdu") (codes "first_label") _ _ refl
      (skip (codes "max_pdu") (codes "keepalive") _ _ refl (put_same (codes "max_pdu") _ _))))

  edge_keys_known : all_keys (is_known_key Two kind.Edge) (edge_table edge) ≡ true
  unfolding edge_table
  edge_keys_known =
      put_keys _ (codes "name") _ _ refl (put_keys _ (codes "address") _ _ refl (put_keys _ (codes "first_label") _ _ refl (put_keys _ (codes "keepalive") _ _ refl (put_keys _ (codes "max_pdu") _ _ refl refl))))

  -- an edge
  pub edge_read : (row : RowPlace) → IsName edge.name → IsEdgePlan edge → IsQuad edge.address.0 → edge_in Two row (edge_table edge) ≡ Ok edge
  unfolding edge_in
  edge_read row name is quad =
      rw (
        needed_is a_name row (codes "name") (edge_table edge) (string edge.name) edge.name edge_name_at (name_is _ edge.name name),
        needed_is an_address row (codes "address") (edge_table edge) (string (ipv4_text edge.address.0)) edge.address edge_address_at (address_is _ edge.address quad is.address),
        defaulted_is (a_number 16 1048575) row (codes "first_label") (edge_table edge) 16 (number edge.first_label) edge.first_label edge_label_at (number_is 16 1048575 edge.first_label _ is.first_label.0 is.first_label.1),
        defaulted_is (a_number 3 65535) row (codes "keepalive") (edge_table edge) 180 (number edge.keepalive) edge.keepalive edge_keepalive_at (number_is 3 65535 edge.keepalive _ is.keepalive.0 is.keepalive.1),
        defaulted_is (a_number 256 4096) row (codes "max_pdu") (edge_table edge) 4096 (number edge.max_pdu) edge.max_pdu edge_pdu_at (number_is 256 4096 edge.max_pdu _ is.max_pdu.0 is.max_pdu.1),
        known Two kind.Edge row (edge_table edge) edge_keys_known,
      ) refl

module _ (service : ServicePlan) where
  service_name_at : get_member (codes "name") (service_table service) ≡ Some (string service.name)
  unfolding service_table
  service_name_at = put_same (codes "name") _ _

  service_mtu_at : get_member (codes "mtu") (service_table service) ≡ Some (number service.mtu)
  unfolding service_table
  service_mtu_at = skip (codes "mtu") (codes "name") _ _ refl (put_same (codes "mtu") _ _)

  service_age_at : get_member (codes "age") (service_table service) ≡ Some (number service.age)
  unfolding service_table
  service_age_at = skip (codes "age") (codes "name") _ _ refl (skip (codes "age") (codes "mtu") _ _ refl (put_same (codes "age") _ _))

  service_keys_known : all_keys (is_known_key Two kind.Service) (service_table service) ≡ true
  unfolding service_table
  service_keys_known = put_keys _ (codes "name") _ _ refl (put_keys _ (codes "mtu") _ _ refl (put_keys _ (codes "age") _ _ refl refl))

  -- a service
  pub service_read : (row : RowPlace) → IsName service.name → IsService service → service_in Two row (service_table service) ≡ Ok service
  unfolding service_in
  service_read row name is =
      rw (
        needed_is a_name row (codes "name") (service_table service) (string service.name) service.name service_name_at (name_is _ service.name name),
        defaulted_is (a_number 64 9198) row (codes "mtu") (service_table service) 1500 (number service.mtu) service.mtu service_mtu_at (number_is 64 9198 service.mtu _ is.mtu.0 is.mtu.1),
        defaulted_is (a_number 1 1000000) row (codes "age") (service_table service) 300 (number service.age) service.age service_age_at (number_is 1 1000000 service.age _ is.age.0 is.age.1),
        known Two kind.Service row (service_table service) service_keys_known,
      ) refl

-- the row of a group
abbrev pub group_of : ℕ → GroupRow
group_of group = record { name = group_name group; number = group }

module _ (group : ℕ) where
  group_name_at : get_member (codes "name") (group_table group) ≡ Some (string (group_name group))
  unfolding group_table
  group_name_at = put_same (codes "name") _ _

  group_number_at : get_member (codes "number") (group_table group) ≡ Some (number group)
  unfolding group_table
  group_number_at = skip (codes "number") (codes "name") _ _ refl (put_same (codes "number") _ _)

  group_keys_known : all_keys (is_known_key Two kind.Group) (group_table group) ≡ true
  unfolding group_table
  group_keys_known = put_keys _ (codes "name") _ _ refl (put_keys _ (codes "number") _ _ refl refl)

  -- a group
  pub group_read : (row : RowPlace) → IsName (group_name group) → 1 ≤ group → group ≤ 4294967295 → group_row_in Two row (group_table group) ≡ Ok (group_of group)
  unfolding group_row_in
  group_read row name least most =
      rw (
        needed_is a_name row (codes "name") (group_table group) (string (group_name group)) (group_name group) group_name_at (name_is _ (group_name group) name),
        needed_is (a_number 1 4294967295) row (codes "number") (group_table group) (number group) group group_number_at (number_is 1 4294967295 group _ least most),
        known Two kind.Group row (group_table group) group_keys_known,
      ) refl
