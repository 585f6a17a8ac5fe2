use Rattle.std.proofs.lemmas.Result.{on_ok_weaker}
use Rattle.window_audit.proofs.WindowLemmas.{entry_heard, entry_of}
use Rattle.window_audit.proofs.windows.Windows.add.Goals as goal

pub returns-clause-heard : goal.returns-clause-heard
returns-clause-heard c = on_ok_weaker c.tell-3.result
    (λ told. λ trace heard. entry_heard c.args.plan.now trace c.args.entry c.args.self.now c.tell-3.new.self c.tell.new.self c.tell-2.new.self c.tell-3.ensures.event told
    c.in_ok-tell.ensures c.in_ok-tell-2.ensures heard)
    c.tell-3.ensures.told

pub returns-clause-ready : goal.returns-clause-ready
returns-clause-ready c = on_ok_weaker c.tell-3.result
    (λ kept. entry_of c.args.plan.now c.args.self.now c.tell-3.new.self c.tell.new.self c.tell-2.new.self c.tell-3.ensures.count (kept c.args.plan.now c.requires.ready.kept c.requires.placed)
    c.requires.ready c.requires.few)
    c.tell-3.ensures.kept
