use Rattle.independent_model.proofs.ParsedLemmas.{hears_parsed}
use Rattle.independent_model.proofs.laws.hears_parsed.Goals as goal

pub returns : goal.returns
returns c = hears_parsed
