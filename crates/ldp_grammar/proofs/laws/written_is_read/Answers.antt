use Rattle.ldp_grammar.proofs.RoundTripLemmas.{written_is_read}
use Rattle.ldp_grammar.proofs.laws.written_is_read.Goals as goal

pub returns : goal.returns
returns c = written_is_read
