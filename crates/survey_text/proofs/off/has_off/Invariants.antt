use Rattle.std.proofs.Common.{◌≡◌, drop}
use Rattle.survey_text.specs.Text.{any_off}
use Rattle.survey_text.proofs.off.has_off.Given as goal

abbrev pub ghost-is_off : goal.ghost-is_off
ghost-is_off g a = g.before

abbrev pub invariant-loop-circuit : goal.invariant-loop-circuit
invariant-loop-circuit g l = any_off g.before l.of.service l.circuit (drop l.circuit l.of.over.plan.now.circuits) ≡ any_off g.before l.of.service 0 l.of.over.plan.now.circuits
