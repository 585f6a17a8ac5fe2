-- One more word is added.
use Rattle.std.proofs.Common.{arith}
use Rattle.vccv_channel.proofs.WordLemmas.{sum_starts, sum_more, sum_whole}
use Rattle.vccv_channel.proofs.checksum.ones_sum.Goals as goal

pub words-init : goal.words-init
words-init c = sum_starts c.args.octets.now

pub words-preserved : goal.words-preserved
words-preserved c =
    sum_more c.args.octets.now c.words.sum c.word_at.result c.words.at c.add-sum.result c.words.invariant (omega arith) c.word_at.ensures c.add-sum.ensures

pub returns : goal.returns
returns c = sum_whole c.args.octets.now c.words.sum c.words.at c.words.invariant (omega arith)
