use Rattle.std.proofs.Common.{◌∙◌, [], Some, codes, option_map, sym, ap}
use Rattle.std.specs.List.{list_any}
use Rattle.net_base.specs.declared.plan.plan_fault.PlanFault.TheVariants.{RepeatedName}
use Rattle.net_base.specs.declared.plan.table.Table.TheVariants.{Edge}
use Rattle.net_base.specs.plan.NameFaults.{have_same_address, repeated_name}
use Rattle.net_base.proofs.ClashLemmas.{clash_found, clash_passed}
use Rattle.net_base.proofs.plan.name_faults.fault_of_addresses.Goals as goal

pub returns-then-has_address : goal.returns-then-has_address
returns-then-has_address c =
    let found = ap (λ edges. list_any (λ old. have_same_address old c.index-edges-row.result) edges) (sym c.split_at.ensures.front) ∙ (sym c.has_address.ensures ∙ c.if-has_address.true) in
    let place = sym (clash_found have_same_address [] c.args.edges.now c.loop-row.row c.index-edges-row.result c.index-edges-row.is c.loop-row-test.true found) ∙ c.loop-row.invariant in
    ap (λ at. Some (RepeatedName at)) c.place_at.ensures ∙ ap (option_map (repeated_name Edge (codes "address"))) place

pub loop-row-preserved : goal.loop-row-preserved
loop-row-preserved c =
    let none = ap (λ edges. list_any (λ old. have_same_address old c.index-edges-row.result) edges) (sym c.split_at.ensures.front) ∙ (sym c.has_address.ensures ∙ c.if-has_address.false) in
    clash_passed have_same_address [] c.args.edges.now c.loop-row.row c.index-edges-row.result c.index-edges-row.is c.loop-row-test.true none ∙ c.loop-row.invariant
