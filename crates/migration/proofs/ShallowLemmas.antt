-- A migrated document is not deep.
use Rattle.std.proofs.Common.{◌≤◌, ℕ, Bool, true, false, List, codes, map, arith, if◌then◌else◌}
use Rattle.std.specs.Prelude.{◌==◌}
use Rattle.toml.specs.Data.{Members, string, array, table, members_depth}
use Rattle.toml.specs.View.{items_of}
use Rattle.net_base.specs.declared.plan.Plan.{Plan}
use Rattle.net_base.specs.declared.plan.edge_plan.EdgePlan.{EdgePlan}
use Rattle.net_base.specs.declared.plan.service_plan.ServicePlan.{ServicePlan}
use Rattle.net_base.specs.declared.plan.circuit_plan.CircuitPlan.{CircuitPlan}
use Rattle.net_base.specs.declared.plan.wire_plan.WirePlan.{WirePlan}
use Rattle.net_base.specs.declared.plan.offer.Offer.{Offer}
use Rattle.command_text.specs.declared.command.Command.{Command}
use Rattle.line_shapes.specs.Words.{edge_name}
use Rattle.migration.specs.Tables.{put}
use Rattle.migration.proofs.DepthLemmas.{put_depth, told_depth, some_depth, rows_depth, texts_depth}
use Rattle.migration.specs.Commands.{command_text, event_items}
use Rattle.migration.specs.Groups.{group_name, used_groups}
use Rattle.migration.specs.Rows.{put_group, offer_table, edge_table, service_table, group_table, circuit_table, ends_table, wire_table}
use Rattle.migration.specs.Migrated.{plan_table, top_table, migrated}

group_depth : (group : ℕ) (ms : Members) → members_depth ms ≤ 0 → members_depth (put_group group ms) ≤ 0
group_depth group ms all = of_test (group == 0) all
  where
    of_test : (test : Bool) → members_depth ms ≤ 0 → members_depth (if test then ms else put (codes "group") (string (group_name group)) ms) ≤ 0
    of_test true all = all
    of_test false all = put_depth 0 (codes "group") (string (group_name group)) ms (omega arith) all

offer_depth : (offer : Offer) → members_depth (offer_table offer) ≤ 0
unfolding offer_table
offer_depth offer =
    put_depth 0 _ _ _ (omega arith) (put_depth 0 _ _ _ (omega arith) (put_depth 0 _ _ _ (omega arith) (told_depth 0 _ offer.vlan _
    (put_depth 0 _ _ _ (omega arith) (put_depth 0 _ _ _ (omega arith) (group_depth offer.group _ (put_depth 0 _ _ _ (omega arith) (omega arith))))))))

edge_depth : (edge : EdgePlan) → members_depth (edge_table edge) ≤ 0
unfolding edge_table
edge_depth edge =
    put_depth 0 _ _ _ (omega arith) (put_depth 0 _ _ _ (omega arith) (put_depth 0 _ _ _ (omega arith) (put_depth 0 _ _ _ (omega arith) (put_depth 0 _ _ _ (omega arith) (omega arith)))))

service_depth : (service : ServicePlan) → members_depth (service_table service) ≤ 0
unfolding service_table
service_depth service = put_depth 0 _ _ _ (omega arith) (put_depth 0 _ _ _ (omega arith) (put_depth 0 _ _ _ (omega arith) (omega arith)))

table_depth : (group : ℕ) → members_depth (group_table group) ≤ 0
unfolding group_table
table_depth group = put_depth 0 _ _ _ (omega arith) (put_depth 0 _ _ _ (omega arith) (omega arith))

circuit_depth : (plan : Plan) (circuit : CircuitPlan) → members_depth (circuit_table plan circuit) ≤ 0
unfolding circuit_table
circuit_depth plan circuit =
    put_depth 0 _ _ _ (omega arith) (put_depth 0 _ _ _ (omega arith) (put_depth 0 _ _ _ (omega arith) (told_depth 0 _ circuit.tag _ (omega arith))))

ends_depth : (wire : WirePlan) → members_depth (ends_table wire) ≤ 1
unfolding ends_table
ends_depth wire =
    put_depth 1 _ _ _ (omega arith) (put_depth 1 _ _ _ (omega arith) (put_depth 1 _ (table (offer_table wire.near)) _ (omega (arith, offer_depth wire.near))
    (put_depth 1 _ (table (offer_table wire.far)) _ (omega (arith, offer_depth wire.far)) (omega arith))))

wire_depth : (plan : Plan) (wire : WirePlan) → members_depth (wire_table plan wire) ≤ 1
unfolding wire_table
wire_depth plan wire =
    put_depth 1 _ _ _ (omega arith) (put_depth 1 _ _ _ (omega arith) (put_depth 1 _ _ _ (omega arith)
    (put_depth 1 _ (array (items_of (map (λ edge. string (edge_name plan edge)) wire.path))) _ (omega (arith, texts_depth (λ edge. edge_name plan edge) wire.path)) (ends_depth wire))))

plan_depth : (plan : Plan) → members_depth (plan_table plan) ≤ 3
unfolding plan_table
plan_depth plan =
    some_depth 2 _ (map (λ edge. table (edge_table edge)) plan.edges) _ (omega (arith, rows_depth edge_table 0 edge_depth plan.edges))
    (some_depth 2 _ (map (λ service. table (service_table service)) plan.services) _ (omega (arith, rows_depth service_table 0 service_depth plan.services))
    (some_depth 2 _ (map (λ group. table (group_table group)) (used_groups plan.wires)) _ (omega (arith, rows_depth group_table 0 table_depth (used_groups plan.wires)))
    (some_depth 2 _ (map (λ circuit. table (circuit_table plan circuit)) plan.circuits) _ (omega (arith, rows_depth (circuit_table plan) 0 (circuit_depth plan) plan.circuits))
    (some_depth 2 _ (map (λ wire. table (wire_table plan wire)) plan.wires) _ (rows_depth (wire_table plan) 1 (wire_depth plan) plan.wires) (omega arith)))))

pub is_shallow : (plan : Plan) (commands : List Command) → members_depth (migrated plan commands) ≤ 80
unfolding top_table
is_shallow plan commands =
    put_depth 80 _ _ _ (omega arith) (put_depth 80 _ (array (items_of (event_items plan commands))) _ (omega (arith, texts_depth (λ command. command_text plan command) commands))
    (omega (arith, plan_depth plan)))
