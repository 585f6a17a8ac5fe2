-- Where the rules of paths hold, what the windows tell is answered. The line is a number of 64 bits.
use Rattle.std.proofs.Common.{◌∙◌, ap, arith, Some, None, Ok}
use Rattle.trace_audit.proofs.RuleAuditLemmas.{answered_good, answered_once, none_crossed, none_stray, place_counts, verdict_is}
use Rattle.trace_audit.proofs.rule_audit.RuleAudit.answer_once.Goals as goal

pub returns-in-Ok-None : goal.returns-in-Ok-None
returns-in-Ok-None c = λ trace heard. answered_good c.args.plan.now trace c.args.self heard (none_stray _ _ c.requires.kept) (none_crossed _ _ c.requires.kept)
    (verdict_is c.args.plan.now trace c.args.self.windows c.verdict.result None c.verdict.ensures (c.in-Ok-None.is ∙ ap Ok c.in-Ok-None.field-0-is) heard.windows)

pub overflow_add-result : goal.overflow_add-result
overflow_add-result c = omega (
  arith,
  place_counts c.args.plan.now c.requires.told.trace c.args.self c.in-Ok-Some.place c.requires.ready c.requires.told.heard
      (verdict_is c.args.plan.now c.requires.told.trace c.args.self.windows c.verdict.result (Some c.in-Ok-Some.place) c.verdict.ensures
      (c.in-Ok-Some.is ∙ ap Ok c.in-Ok-Some.field-0-is) c.requires.told.heard.windows),
)

pub returns-in-Ok-Some : goal.returns-in-Ok-Some
returns-in-Ok-Some c = λ trace heard. answered_once c.args.plan.now trace c.args.self c.in-Ok-Some.place heard (none_stray _ _ c.requires.kept) (none_crossed _ _ c.requires.kept)
    (verdict_is c.args.plan.now trace c.args.self.windows c.verdict.result (Some c.in-Ok-Some.place) c.verdict.ensures (c.in-Ok-Some.is ∙ ap Ok c.in-Ok-Some.field-0-is) heard.windows)
