use Rattle.trace_audit.proofs.report_audit.audit_lines.Given as goal

abbrev pub ghost-hear_lines : goal.ghost-hear_lines
ghost-hear_lines g a = g.report
