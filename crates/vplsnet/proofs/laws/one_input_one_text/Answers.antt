use Rattle.vplsnet.proofs.OneTextLemmas.{one_text}
use Rattle.vplsnet.proofs.laws.one_input_one_text.Goals as goal

pub returns : goal.returns
returns c = one_text
