-- One end more is as it was opened.
use Rattle.std.proofs.Common.{◌∙◌, arith}
use Rattle.std.proofs.lemmas.List.{length-set}
use Rattle.pw_signalling.specs.declared.pw_end.PwEnd.TheVariants.{Idle}
use Rattle.pw_ends.proofs.IdleLemmas.{idle_more}
use Rattle.pw_ends.proofs.end_slots.make_idle.Goals as goal

pub loop-end-preserved : goal.loop-end-preserved
loop-end-preserved c = record {
  count = length-set c.loop-end.end-items c.loop-end.end-index (Idle c.new.result) ∙ c.loop-end.invariant.count;
  idle = idle_more c.loop-end.end-items c.loop-end.end-index (Idle c.new.result) (omega (arith, c.loop-end-test.true, c.loop-end.auto.end-items)) c.new.ensures.state c.loop-end.invariant.idle;
}
