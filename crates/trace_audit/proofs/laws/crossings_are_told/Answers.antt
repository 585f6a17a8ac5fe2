use Rattle.trace_audit.proofs.PathLemmas.{crossings_told}
use Rattle.trace_audit.proofs.laws.crossings_are_told.Goals as goal

pub returns : goal.returns
returns c = crossings_told
