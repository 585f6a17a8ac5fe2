use Rattle.ldp_grammar.proofs.MeaningLemmas.{one_reading}
use Rattle.ldp_grammar.proofs.laws.one_reading.Goals as goal

pub returns : goal.returns
returns c = one_reading
