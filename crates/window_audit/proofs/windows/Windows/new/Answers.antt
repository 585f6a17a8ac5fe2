use Rattle.window_audit.proofs.WindowLemmas.{begun, begun_of}
use Rattle.window_audit.proofs.windows.Windows.new.Goals as goal

pub returns-in-Ok-clause-ready : goal.returns-in-Ok-clause-ready
returns-in-Ok-clause-ready c = begun_of c.args.plan.now _ c.in-Ok.ensures.place c.new-in-Ok.ensures.count c.in-Ok.ensures.of (c.new-in-Ok.ensures.kept c.args.plan.now)

pub returns-in-Ok-clause-heard : goal.returns-in-Ok-clause-heard
returns-in-Ok-clause-heard c = begun c.args.plan.now _ c.in-Ok.ensures.place c.new-in-Ok.ensures.event c.in-Ok.ensures.windows c.new-in-Ok.ensures.told
    (c.new-in-Ok-2.ensures c.args.plan.now) c.new-in-Ok-3.ensures
