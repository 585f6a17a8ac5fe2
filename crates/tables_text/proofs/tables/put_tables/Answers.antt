-- What is told of one more edge is put.
use Rattle.std.proofs.Common.{arith}
use Rattle.std.proofs.lemmas.Result.{err_from_is_err_and}
use Rattle.psn_net.specs.Lists.{network_seen}
use Rattle.tables_text.specs.Tables.{tables}
use Rattle.text_lines.proofs.WrittenLemmas.{putting_all, putting_cut, putting_more, putting_none}
use Rattle.tables_text.proofs.TableLemmas.{edges_at, edges_end}
use Rattle.tables_text.proofs.tables.put_tables.Goals as goal

pub loop-place-init : goal.loop-place-init
loop-place-init g c = putting_none _ _

pub returns-in_err-put_place : goal.returns-in_err-put_place
unfolding tables
returns-in_err-put_place g c =
    let p = err_from_is_err_and c.from_residual.result c.from_residual.ensures.1 in
    let network = c.args.network.now in
    let split = edges_at network.plan (network_seen network) network.plan.edges c.loop-place.place (omega (arith, c.loop-place-test.true, c.count-place-end.ensures.count)) in
    rw p.1 (putting_cut _ _ _ _ _ _ _ split c.loop-place.invariant c.in_err-put_place.ensures)

pub loop-place-preserved : goal.loop-place-preserved
loop-place-preserved g c =
    let network = c.args.network.now in
    let split = edges_at network.plan (network_seen network) network.plan.edges c.loop-place.place (omega (arith, c.loop-place-test.true, c.count-place-end.ensures.count)) in
    putting_more _ _ _ _ _ _ _ split c.loop-place.invariant c.in_ok-put_place.ensures

pub returns : goal.returns
unfolding tables
returns g c =
    let network = c.args.network.now in
    let none = edges_end network.plan (network_seen network) network.plan.edges c.loop-place.place (omega (arith, c.loop-place-test.false, c.count-place-end.ensures.count)) in
    putting_all _ _ _ _ none c.loop-place.invariant
