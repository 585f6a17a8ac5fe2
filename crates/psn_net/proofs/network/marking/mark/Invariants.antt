use Rattle.std.proofs.Common.{◌≡◌, length}
use Rattle.psn_net.specs.DeliveryIndex.{IsMarkedTo}
use Rattle.psn_net.proofs.network.marking.mark.Given as goal

abbrev pub invariant-loop-place : goal.invariant-loop-place
invariant-loop-place l = record {
  size : length l.index.rows ≡ length l.fn.index.rows;
  marked : IsMarkedTo l.parts l.me.0 l.place l.fn.index l.index;
}
