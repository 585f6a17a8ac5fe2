use Rattle.rehearsal.proofs.RowLemmas.{frames_more}
use Rattle.rehearsal.proofs.commands.add_frames.Goals as goal

pub loop-frame-preserved : goal.loop-frame-preserved
loop-frame-preserved c = frames_more _ _ _ _ c.loop-frame._frame _ _ c.loop-frame-test.true c.in_ok-add_frame.ensures.draws c.in_ok-add_frame.ensures.frame c.loop-frame.invariant
