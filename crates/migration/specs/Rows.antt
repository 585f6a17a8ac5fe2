-- The rows of a scenario as tables, with every key written out but for an absent tag, VLAN ID or group.
use Rattle.std.specs.Prelude.{◌==◌, ℕ, codes, Bool, false, true, List, [], ◌∷◌, map, pos, Option, Some, None, unwrap_or, option_map, slice_get, if◌then◌else◌}
use Rattle.std.specs.Net.Text.{ipv4_text}
use Rattle.toml.specs.Data.{Data, Members, no_members, string, integer, boolean, array, table}
use Rattle.toml.specs.View.{items_of}
use Rattle.net_base.specs.declared.plan.Plan.{Plan}
use Rattle.net_base.specs.declared.plan.edge_plan.EdgePlan.{EdgePlan}
use Rattle.net_base.specs.declared.plan.service_plan.ServicePlan.{ServicePlan}
use Rattle.net_base.specs.declared.plan.circuit_plan.CircuitPlan.{CircuitPlan}
use Rattle.net_base.specs.declared.plan.wire_plan.WirePlan.{WirePlan}
use Rattle.net_base.specs.declared.plan.wire_plan.Class.{Class}
use Rattle.net_base.specs.declared.plan.wire_plan.Class.TheVariants.{Mesh, Spoke}
use Rattle.net_base.specs.declared.plan.offer.Offer.{Offer}
use Rattle.net_base.specs.declared.plan.places.ServiceId.{ServiceId}
use Rattle.line_shapes.specs.Words.{name_or_empty, edge_name}
use Rattle.migration.specs.Tables.{put, put_told}
use Rattle.migration.specs.Groups.{group_name}

-- a number
abbrev pub number : ℕ → Data
number n = integer (pos n)

-- the name of a service; a place outside the plan has the empty text
abbrev pub name_of_service : Plan → ServiceId → List ℕ
name_of_service plan service = name_or_empty (option_map (λ row. row.name) (slice_get plan.services service.0))

abbrev pub class_name : Class → List ℕ
class_name Mesh = codes "mesh"
class_name Spoke = codes "spoke"

abbrev pub mode_name : Bool → List ℕ
mode_name false = codes "raw"
mode_name true = codes "tagged"

-- the group of an end, whose key is absent where it has none
abbrev pub put_group : ℕ → Members → Members
put_group group ms = if group == 0 then ms else put (codes "group") (string (group_name group)) ms

-- the table `near` or `far` of a wire
unfoldable pub offer_table : Offer → Members
offer_table offer =
    put (codes "mode") (string (mode_name offer.tagged))
    (put (codes "control_word") (boolean offer.cword)
    (put (codes "mtu") (number (unwrap_or offer.mtu 0))
    (put_told (codes "vlan") offer.vlan
    (put (codes "vccv") (number (unwrap_or offer.vccv 0))
    (put (codes "status") (boolean offer.status)
    (put_group offer.group
    (put (codes "description") (string offer.description) no_members)))))))

unfoldable pub edge_table : EdgePlan → Members
edge_table edge =
    put (codes "name") (string edge.name)
    (put (codes "address") (string (ipv4_text edge.address.0))
    (put (codes "first_label") (number edge.first_label)
    (put (codes "keepalive") (number edge.keepalive)
    (put (codes "max_pdu") (number edge.max_pdu) no_members))))

unfoldable pub service_table : ServicePlan → Members
service_table service =
    put (codes "name") (string service.name)
    (put (codes "mtu") (number service.mtu)
    (put (codes "age") (number service.age) no_members))

unfoldable pub group_table : ℕ → Members
group_table group =
    put (codes "name") (string (group_name group))
    (put (codes "number") (number group) no_members)

unfoldable pub circuit_table : Plan → CircuitPlan → Members
circuit_table plan circuit =
    put (codes "name") (string circuit.name)
    (put (codes "edge") (string (edge_name plan circuit.edge))
    (put (codes "service") (string (name_of_service plan circuit.service))
    (put_told (codes "tag") circuit.tag no_members)))

-- what the table of a wire says of its ends and its numbers
unfoldable pub ends_table : WirePlan → Members
ends_table wire =
    put (codes "pw_id") (number wire.pw_id)
    (put (codes "priority") (number wire.priority)
    (put (codes "near") (table (offer_table wire.near))
    (put (codes "far") (table (offer_table wire.far)) no_members)))

unfoldable pub wire_table : Plan → WirePlan → Members
wire_table plan wire =
    put (codes "name") (string wire.name)
    (put (codes "service") (string (name_of_service plan wire.service))
    (put (codes "class") (string (class_name wire.class))
    (put (codes "path") (array (items_of (map (λ edge. string (edge_name plan edge)) wire.path)))
    (ends_table wire))))
