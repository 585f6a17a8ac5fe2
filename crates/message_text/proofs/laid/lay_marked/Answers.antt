-- One more number is laid down, and at the end all.
use Rattle.std.proofs.Common.{◌-◌, arith, drop}
use Rattle.message_text.proofs.LaidLemmas.{more_marked, none_marked}
use Rattle.message_text.proofs.laid.lay_marked.Goals as goal

pub laying-init : goal.laying-init
laying-init c = record {
  within = omega arith;
  before = omega arith;
  space = omega arith;
  most = omega arith;
  laid = none_marked c.args.mark c.args.numbers.now (drop c.args.end c.args.room.now) _ (omega arith);
}

pub laying-preserved : goal.laying-preserved
laying-preserved c = record {
  within = omega arith;
  before = omega arith;
  space = omega arith;
  most = omega arith;
  laid = more_marked c.args.mark c.args.numbers.now _ _ (drop c.args.end c.args.room.now) (c.laying.left - 1) c.laying.left (omega arith) (omega arith)
      c.lay_marked_number-begin.ensures.laid c.laying.invariant.laid;
}
