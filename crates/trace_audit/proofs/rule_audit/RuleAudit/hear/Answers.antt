use Rattle.std.proofs.lemmas.Result.{on_ok_weaker}
use Rattle.trace_audit.proofs.RuleAuditLemmas.{one_heard}
use Rattle.trace_audit.proofs.rule_audit.RuleAudit.hear.Goals as goal

pub returns-in-Ok-clause-heard : goal.returns-in-Ok-clause-heard
returns-in-Ok-clause-heard c = on_ok_weaker c.hear-in-Ok.result
    (λ heard. one_heard c.args.plan.now c.args.entry c.args.self.now c.hear.new.self c.hear-in-Ok.new.self c.in-Ok.ensures.judged heard) c.hear-in-Ok.ensures.heard
