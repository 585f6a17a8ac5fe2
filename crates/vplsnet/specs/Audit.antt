-- What `audit` answers of a report.
use Rattle.std.specs.Prelude.{◌≡◌, codes, ℕ, List, Option, None}
use Rattle.net_base.specs.declared.plan.Plan.{Plan}
use Rattle.psn_net.specs.Lists.{NetLists}
use Rattle.trace_audit.specs.declared.audit_stop.AuditStop.{AuditStop}
use Rattle.trace_audit.specs.declared.audit_stop.AuditStop.TheVariants as stop
use Rattle.trace_audit.specs.Audited.{IsGoodReport}
use Rattle.vplsnet.specs.declared.audit_rule.AuditRule.{AuditRule}
use Rattle.vplsnet.specs.declared.audit_rule.AuditRule.TheVariants as rule
use Rattle.vplsnet.specs.declared.outcome.Outcome.{Outcome}
use Rattle.vplsnet.specs.declared.outcome.Outcome.TheVariants.{Done, AuditRefused, NoMemory}

-- where this rule fails, first in this line
abbrev pub stop_of : AuditRule → ℕ → AuditStop
stop_of rule.Form line = stop.Form line
stop_of rule.Isolated line = stop.Isolated line
stop_of rule.Split line = stop.Split line
stop_of rule.Once line = stop.Once line

-- the outcome of a report that breaks a rule; want of memory breaks none
abbrev pub outcome_of_stop : AuditStop → Outcome
outcome_of_stop (stop.Form line) = AuditRefused line rule.Form
outcome_of_stop (stop.Isolated line) = AuditRefused line rule.Isolated
outcome_of_stop (stop.Split line) = AuditRefused line rule.Split
outcome_of_stop (stop.Once line) = AuditRefused line rule.Once
outcome_of_stop stop.NoMemory = NoMemory

-- the text of a report that keeps all rules
abbrev pub yes : List ℕ
yes = codes "audit yes\n"

-- the text that is written of a report which meets all rules; no run begins
pub record IsReportPassed (plan : Plan) (octets text : List ℕ) (network : Option NetLists) (outcome : Outcome) : Type 0 where
  pub good : IsGoodReport plan octets
  pub text_is : text ≡ yes
  pub ends : outcome ≡ Done
  pub no_run : network ≡ None
