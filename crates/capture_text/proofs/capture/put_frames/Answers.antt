-- The record of one more frame is put.
use Rattle.std.proofs.Common.{arith, flat_map, refl, List}
use Rattle.std.proofs.lemmas.List.{at_drop_all}
use Rattle.std.proofs.lemmas.Result.{err_from_is_err_and}
use Rattle.net_base.specs.declared.trace.entry.Entry.{Entry}
use Rattle.pcap_file.specs.Written.{written_frame}
use Rattle.capture_text.specs.Capture.{frames_left, ticks_after}
use Rattle.capture_text.proofs.RecordLemmas.{frames_from}
use Rattle.text_lines.proofs.WrittenLemmas.{putting_all, putting_cut, putting_more}
use Rattle.capture_text.proofs.capture.put_frames.Goals as goal

pub returns-in_err-put_entry : goal.returns-in_err-put_entry
returns-in_err-put_entry g c =
    let p = err_from_is_err_and c.from_residual.result c.from_residual.ensures.1 in
    let entry = c.entry-item.result in
    let ticks = c.loop-entry.ticks in
    let split = frames_from c.args.circuit ticks (ticks_after entry ticks) c.args.trace.now c.loop-entry.entry-index entry c.loop-entry-test.true c.entry-item.is refl in
    rw p.1 (putting_cut _ _ _ _ _ _ _ split c.loop-entry.invariant.putting c.in_err-put_entry.ensures)

pub loop-entry-preserved : goal.loop-entry-preserved
loop-entry-preserved g c =
    let split = frames_from c.args.circuit c.loop-entry.ticks c.later-ticks.result c.args.trace.now c.loop-entry.entry-index c.entry-item.result c.loop-entry-test.true c.entry-item.is c.later-ticks.ensures.is in
    record {
      few = omega (arith, c.later-ticks.ensures.most, c.loop-entry.invariant.few);
      putting = putting_more _ _ _ _ _ _ _ split c.loop-entry.invariant.putting c.in_ok-put_entry.ensures;
    }

pub returns : goal.returns
returns g c =
    let none = at_drop_all (λ (l : List Entry). flat_map written_frame (frames_left c.args.circuit c.loop-entry.ticks l)) c.args.trace.now c.loop-entry.entry-index c.loop-entry-test.false in
    putting_all _ _ _ _ none c.loop-entry.invariant.putting
