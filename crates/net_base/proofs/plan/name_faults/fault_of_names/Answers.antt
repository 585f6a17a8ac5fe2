use Rattle.std.proofs.Common.{◌∙◌, Some, codes, option_map, ap, sym}
use Rattle.net_base.specs.declared.plan.plan_fault.PlanFault.TheVariants.{RepeatedName}
use Rattle.net_base.specs.plan.Earlier.{names_before}
use Rattle.net_base.specs.plan.NameFaults.{repeated_name}
use Rattle.net_base.proofs.NameLemmas.{name_found, name_passed}
use Rattle.net_base.proofs.plan.name_faults.fault_of_names.Goals as goal

pub returns-then-is_taken : goal.returns-then-is_taken
returns-then-is_taken g c =
    let place = sym (name_found g.T.Named.name_of (names_before c.args.earlier) c.args.rows.now c.split_at.result.0.now c.loop-row.row c.index-rows-row.result c.as_slice.result.now
    c.index-rows-row.is c.loop-row-test.true (c.as_slice.ensures.same ∙ c.name.ensures) c.split_at.ensures.front (sym c.is_taken.ensures ∙ c.if-is_taken.true)) ∙ c.loop-row.invariant in
    ap (λ at. Some (RepeatedName at)) c.place_at.ensures ∙ ap (option_map (repeated_name c.args.table (codes "name"))) place

pub loop-row-preserved : goal.loop-row-preserved
loop-row-preserved g c =
    name_passed g.T.Named.name_of (names_before c.args.earlier) c.args.rows.now c.split_at.result.0.now c.loop-row.row c.index-rows-row.result c.as_slice.result.now
    c.index-rows-row.is c.loop-row-test.true (c.as_slice.ensures.same ∙ c.name.ensures) c.split_at.ensures.front (sym c.is_taken.ensures ∙ c.if-is_taken.false) ∙ c.loop-row.invariant
