-- The addresses of one more service are put.
use Rattle.std.proofs.Common.{refl, arith, ap, length}
use Rattle.std.proofs.lemmas.Result.{err_from_is_err_and}
use Rattle.net_base.specs.declared.plan.Plan.{Plan}
use Rattle.provider_edge.specs.Lists.{seen}
use Rattle.text_lines.proofs.WrittenLemmas.{putting_all, putting_cut, putting_more, putting_none}
use Rattle.tables_text.proofs.TableLemmas.{services_at, services_end}
use Rattle.tables_text.proofs.addresses.put_addresses.Goals as goal

pub loop-place-init : goal.loop-place-init
loop-place-init g c = putting_none _ _

pub returns-in_err-put_service : goal.returns-in_err-put_service
returns-in_err-put_service g c =
    let p = err_from_is_err_and c.from_residual.result c.from_residual.ensures.1 in
    let edge = c.args.edge.now in
    let split = services_at edge.plan edge.me (seen edge) edge.plan.services c.loop-place.place refl
    (omega (arith, c.loop-place-test.true, c.len-place-end.ensures, ap (λ (p : Plan). length p.services) c.plan.ensures)) in
    rw p.1 (putting_cut _ _ _ _ _ _ _ split c.loop-place.invariant c.in_err-put_service.ensures)

pub loop-place-preserved : goal.loop-place-preserved
loop-place-preserved g c =
    let edge = c.args.edge.now in
    let split = services_at edge.plan edge.me (seen edge) edge.plan.services c.loop-place.place refl
    (omega (arith, c.loop-place-test.true, c.len-place-end.ensures, ap (λ (p : Plan). length p.services) c.plan.ensures)) in
    putting_more _ _ _ _ _ _ _ split c.loop-place.invariant c.in_ok-put_service.ensures

pub returns : goal.returns
returns g c =
    let edge = c.args.edge.now in
    let none = services_end edge.plan edge.me (seen edge) edge.plan.services c.loop-place.place
    (omega (arith, c.loop-place-test.false, c.len-place-end.ensures, ap (λ (p : Plan). length p.services) c.plan.ensures)) in
    putting_all _ _ _ _ none c.loop-place.invariant
