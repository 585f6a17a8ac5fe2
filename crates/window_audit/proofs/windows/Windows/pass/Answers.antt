use Rattle.std.proofs.lemmas.Result.{on_ok_weaker}
use Rattle.window_audit.proofs.WindowLemmas.{passed}
use Rattle.window_audit.proofs.windows.Windows.pass.Goals as goal

pub returns-clause-passed : goal.returns-clause-passed
returns-clause-passed c = on_ok_weaker c.pass.result
    (λ windows. λ trace heard. passed c.args.plan.now trace c.args.self.now c.pass.new.self c.pass.ensures.place windows heard)
    c.pass.ensures.windows
