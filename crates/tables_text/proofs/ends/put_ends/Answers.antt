-- The line of one more end is put.
use Rattle.std.proofs.Common.{arith}
use Rattle.std.proofs.lemmas.Result.{err_from_is_err_and}
use Rattle.edge_model.specs.EndPlaces.{end_places}
use Rattle.provider_edge.specs.Lists.{seen}
use Rattle.text_lines.proofs.WrittenLemmas.{putting_all, putting_cut, putting_more, putting_none}
use Rattle.tables_text.proofs.TableLemmas.{ends_at, ends_past}
use Rattle.tables_text.proofs.ends.put_ends.Goals as goal

pub loop-slot-init : goal.loop-slot-init
loop-slot-init g c = putting_none _ _

pub returns-in_err-put_end : goal.returns-in_err-put_end
returns-in_err-put_end g c =
    let p = err_from_is_err_and c.from_residual.result c.from_residual.ensures.1 in
    let edge = c.args.edge.now in
    let split = ends_at edge.plan (seen edge) (end_places edge.plan edge.me) edge.ends.places c.loop-slot.slot c.end_count-slot-end.ensures.places
    (omega (arith, c.loop-slot-test.true, c.end_count-slot-end.ensures.count)) in
    rw p.1 (putting_cut _ _ _ _ _ _ _ split c.loop-slot.invariant c.in_err-put_end.ensures)

pub loop-slot-preserved : goal.loop-slot-preserved
loop-slot-preserved g c =
    let edge = c.args.edge.now in
    let split = ends_at edge.plan (seen edge) (end_places edge.plan edge.me) edge.ends.places c.loop-slot.slot c.end_count-slot-end.ensures.places
    (omega (arith, c.loop-slot-test.true, c.end_count-slot-end.ensures.count)) in
    putting_more _ _ _ _ _ _ _ split c.loop-slot.invariant c.in_ok-put_end.ensures

pub returns : goal.returns
returns g c =
    let edge = c.args.edge.now in
    let none = ends_past edge.plan (seen edge) (end_places edge.plan edge.me) edge.ends.places c.loop-slot.slot c.end_count-slot-end.ensures.places
    (omega (arith, c.loop-slot-test.false, c.end_count-slot-end.ensures.count)) in
    putting_all _ _ _ _ none c.loop-slot.invariant
