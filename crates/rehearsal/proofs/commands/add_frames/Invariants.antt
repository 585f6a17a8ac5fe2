use Rattle.std.proofs.Common.{◌≡◌, ◌-◌, ◌++◌}
use Rattle.rehearsal.specs.Commands.{frames_from}
use Rattle.rehearsal.proofs.commands.add_frames.Given as goal

abbrev pub invariant-loop-frame : goal.invariant-loop-frame
invariant-loop-frame l = l.commands ++ frames_from (l.count - l._frame) l.draws.number ≡ l.fn.commands ++ frames_from l.count l.seed
