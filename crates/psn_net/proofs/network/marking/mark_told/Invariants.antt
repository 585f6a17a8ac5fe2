use Rattle.std.proofs.Common.{◌≡◌, drop, length}
use Rattle.psn_net.specs.DeliveryIndex.{IsIndexedBeside, is_told_between}
use Rattle.psn_net.proofs.network.marking.mark_told.Given as goal

abbrev pub invariant-loop-place : goal.invariant-loop-place
invariant-loop-place l = record {
  size : length l.index.rows ≡ length l.fn.index.rows;
  beside : IsIndexedBeside l.parts l.index (is_told_between (drop l.place l.entries));
}
