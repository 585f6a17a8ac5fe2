-- The line of one more address is put.
use Rattle.std.proofs.lemmas.Result.{err_from_is_err_and}
use Rattle.text_lines.proofs.WrittenLemmas.{putting_cut, putting_more, putting_none}
use Rattle.tables_text.proofs.TableLemmas.{addresses_at}
use Rattle.tables_text.proofs.addresses.put_entries.Goals as goal

pub loop-entry-init : goal.loop-entry-init
loop-entry-init g c = putting_none _ _

pub returns-in_err-put_entry : goal.returns-in_err-put_entry
returns-in_err-put_entry g c =
    let p = err_from_is_err_and c.from_residual.result c.from_residual.ensures.1 in
    let service = c.args.service.now in
    let split = addresses_at service.plan.now service.name.now service.ports.now c.args.entries.now c.loop-entry.entry-index c.loop-entry-test.true in
    rw p.1 (putting_cut _ _ _ _ _ _ _ split c.loop-entry.invariant c.in_err-put_entry.ensures)

pub loop-entry-preserved : goal.loop-entry-preserved
loop-entry-preserved g c =
    let service = c.args.service.now in
    let split = addresses_at service.plan.now service.name.now service.ports.now c.args.entries.now c.loop-entry.entry-index c.loop-entry-test.true in
    putting_more _ _ _ _ _ _ _ split c.loop-entry.invariant c.in_ok-put_entry.ensures
