use Rattle.trace_audit.proofs.report_audit.audit.Given as goal

abbrev pub ghost-audit_by : goal.ghost-audit_by
ghost-audit_by a = a.text.now
