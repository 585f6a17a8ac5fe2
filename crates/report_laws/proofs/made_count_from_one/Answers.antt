use Rattle.report_laws.proofs.MadeLemmas.{made_count}
use Rattle.report_laws.proofs.made_count_from_one.Goals as goal

pub returns : goal.returns
returns c = made_count
