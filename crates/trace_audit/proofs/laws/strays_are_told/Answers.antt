use Rattle.trace_audit.proofs.PathLemmas.{strays_told}
use Rattle.trace_audit.proofs.laws.strays_are_told.Goals as goal

pub returns : goal.returns
returns c = strays_told
