-- What was heard of the line answers for the report.
use Rattle.std.proofs.Common.{◌∙◌, ◌+◌, ℕ, Ok, Err, ap, arith, sym}
use Rattle.trace_audit.proofs.HeardLemmas.{heard_err, heard_last, heard_on, no_line}
use Rattle.trace_audit.proofs.report_audit.hear_lines.Goals as goal

pub returns-in-Ok-false : goal.returns-in-Ok-false
returns-in-Ok-false g c = (
  c.in-Ok-false.ensures.begun,
  heard_last c.args.plan.now g.report c.reading.left c.reading.reader c.reading.rule_audit c.hear_next.new.reader c.hear_next.new.rule_audit c.hear_next.result c.hear_next.ensures.hears
      (c.in-Ok-false.is ∙ ap Ok c.in-Ok-false.field-0-test) (omega (arith, c.reading-test.true)) c.reading.invariant.1.1.1.1,
)

pub returns-in-Err : goal.returns-in-Err
returns-in-Err g c = heard_err c.args.plan.now g.report c.reading.left c.reading.reader c.reading.rule_audit c.hear_next.new.reader c.hear_next.new.rule_audit c.hear_next.result c.in-Err.stop c.hear_next.ensures.hears c.in-Err.is (omega (arith, c.reading-test.true)) c.reading.invariant.1.1.1.1

-- the line told an entry
pub reading-preserved : goal.reading-preserved
reading-preserved g c = (
  c.in-Ok-true.ensures.ready,
  (
    omega (arith, c.in-Ok-true.ensures.lines, c.reading.invariant.1.0, c.reading-test.true),
    (
      omega (arith, c.in-Ok-true.ensures.line, c.reading.invariant.1.1.0, c.reading-test.true),
      (
        c.in-Ok-true.ensures.begun,
        heard_on c.args.plan.now g.report c.reading.left c.reading.reader c.reading.rule_audit c.hear_next.new.reader c.hear_next.new.rule_audit c.hear_next.result c.hear_next.ensures.hears
            (c.in-Ok-true.is ∙ ap Ok c.in-Ok-true.field-0-test) (omega (arith, c.reading-test.true)) c.reading.invariant.1.1.1.1,
      ),
    ),
  ),
)

-- no line is left
pub returns : goal.returns
returns g c = no_line c.args.plan.now g.report c.reading.left c.reading.reader c.reading.rule_audit (omega (arith, c.reading-test.false)) c.reading.invariant.1.1.1.1
    ∙ ap (λ (n : ℕ). Err (n + 1)) (sym c.lines.ensures)
