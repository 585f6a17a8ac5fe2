-- The ends so far are as they were opened.
use Rattle.std.proofs.Common.{◌≡◌, length, map, replicate, take}
use Rattle.pw_signalling.specs.AnyEnd.{end_of}
use Rattle.pw_signalling.specs.End.{fresh}
use Rattle.pw_ends.proofs.end_slots.make_idle.Given as goal

abbrev pub invariant-loop-end : goal.invariant-loop-end
invariant-loop-end l = record {
  count : length l.end-items ≡ length l.fn.ends.items;
  idle : take l.end-index (map end_of l.end-items) ≡ replicate l.end-index fresh;
}
