-- The rules of paths are asked first, and the first that fails is answered, at its line.
use Rattle.std.proofs.Common.{◌∙◌, sym}
use Rattle.trace_audit.proofs.RuleAuditLemmas.{answered_path}
use Rattle.trace_audit.proofs.rule_audit.RuleAudit.answer.Goals as goal

pub returns-in-Some : goal.returns-in-Some
returns-in-Some c = λ trace heard. answered_path c.args.plan.now trace c.args.self c.in-Some.stop heard (sym c.first_broken.ensures ∙ c.in-Some.is)
