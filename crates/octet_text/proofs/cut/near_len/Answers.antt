-- The lowest lane that is a mark is the first one.
use Rattle.octet_text.proofs.MarkLaneLemmas.{lane_before, lane_is}
use Rattle.octet_text.proofs.cut.near_len.Goals as goal

pub returns-clause-before : goal.returns-clause-before
returns-clause-before c = lane_before c.args.mark c.args.text.now c.lowest_bit.result c.requires c.lowest_bit.ensures

pub returns-clause-is : goal.returns-clause-is
returns-clause-is c = lane_is c.args.mark c.args.text.now c.lowest_bit.result c.requires c.lowest_bit.ensures
