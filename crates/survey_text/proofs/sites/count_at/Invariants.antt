use Rattle.std.proofs.Common.{◌≡◌, ◌≤◌, ◌+◌, drop}
use Rattle.survey_text.specs.Relations.{sites_of}
use Rattle.survey_text.proofs.sites.count_at.Given as goal

abbrev pub ghost-is_site : goal.ghost-is_site
ghost-is_site g a = g.before

abbrev pub invariant-loop-circuit : goal.invariant-loop-circuit
invariant-loop-circuit g l = record {
  so_far : l.count + sites_of g.before l.service l.edge l.circuit (drop l.circuit l.over.plan.now.circuits) ≡ sites_of g.before l.service l.edge 0 l.over.plan.now.circuits;
  few : l.count ≤ l.circuit;
}
