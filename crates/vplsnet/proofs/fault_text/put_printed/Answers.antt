use Rattle.std.proofs.Common.{◌∙◌}
use Rattle.vplsnet.proofs.FaultLemmas.{printed_more}
use Rattle.vplsnet.proofs.fault_text.put_printed.Goals as goal

pub loop-octet-preserved : goal.loop-octet-preserved
loop-octet-preserved c = printed_more _ _ _ _ _ _ c.loop-octet-test.true c.mask.ensures c.in_ok-push.ensures.items ∙ c.loop-octet.invariant
