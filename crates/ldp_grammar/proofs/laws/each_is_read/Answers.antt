use Rattle.ldp_grammar.proofs.PduReading.{each_is_read}
use Rattle.ldp_grammar.proofs.laws.each_is_read.Goals as goal

pub returns : goal.returns
returns c = each_is_read
