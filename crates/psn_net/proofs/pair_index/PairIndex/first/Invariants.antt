use Rattle.std.proofs.Common.{◌≡◌, ◌-◌, length}
use Rattle.network_model.specs.Delivery.{first_pair}
use Rattle.psn_net.specs.PairIndex.{has_mark}
use Rattle.psn_net.proofs.pair_index.PairIndex.first.Given as goal

abbrev pub invariant-loop-from : goal.invariant-loop-from
invariant-loop-from l = first_pair (has_mark l.self) (length l.self.rows) l.from (length l.self.rows - l.from) ≡ first_pair (has_mark l.self) (length l.self.rows) 0 (length l.self.rows)
