use Rattle.report_laws.specs.Types.{IsTypedEntry}
use Rattle.vplsnet.proofs.SeenLemmas.{AreSeen}
use Rattle.vplsnet.proofs.types.see_trace.Given as goal

abbrev pub invariant-loop-place : goal.invariant-loop-place
invariant-loop-place l = AreSeen IsTypedEntry l.entries l.place
