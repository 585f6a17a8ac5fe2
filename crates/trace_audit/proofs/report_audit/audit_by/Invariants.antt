use Rattle.trace_audit.proofs.report_audit.audit_by.Given as goal

abbrev pub ghost-audit_lines : goal.ghost-audit_lines
ghost-audit_lines g a = g.report
