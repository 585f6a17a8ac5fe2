-- The entries of the lines read so far were heard, and the rest tells those behind them.
use Rattle.std.proofs.Common.{◌≡◌, ◌≤◌, ◌+◌, [], length}
use Rattle.trace_audit.specs.Heard.{IsAuditOf, IsBehind}
use Rattle.trace_audit.proofs.report_audit.hear_lines.Given as goal

abbrev pub invariant-reading : goal.invariant-reading
invariant-reading g l = (l.reader.waits ≡ []) × ((l.reader.tally.lines + l.left ≤ length g.report + 1)
    × ((l.rule_audit.path_audit.line + l.left ≤ length g.report + 1) × ((IsAuditOf l.plan l.rule_audit) × (IsBehind l.plan g.report l.left l.reader l.rule_audit))))

abbrev pub decreases-reading : goal.decreases-reading
decreases-reading g l = l.left
