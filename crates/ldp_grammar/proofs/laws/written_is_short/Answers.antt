use Rattle.ldp_grammar.proofs.ShortLemmas.{written_is_short}
use Rattle.ldp_grammar.proofs.laws.written_is_short.Goals as goal

pub returns : goal.returns
returns c = written_is_short
