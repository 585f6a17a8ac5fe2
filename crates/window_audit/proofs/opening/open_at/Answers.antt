-- A frame at a circuit that is on, in a service that is calm.
use Rattle.std.proofs.Common.{rules, ◌∙◌, sym}
use Rattle.window_audit.specs.Opening.{MayOpen}
use Rattle.window_audit.proofs.OpeningLemmas.{inner_goes}
use Rattle.window_audit.proofs.opening.open_at.Goals as goal

pub returns-clause-opens : goal.returns-clause-opens
returns-clause-opens c = λ seen knows known.
    let may : MayOpen c.args.plan.now seen c.args.circuit c.args.octets.now c.in-Some.row.now.service = record {
      sender = search rules;
      on = sym (c.is_on.ensures seen knows) ∙ c.if-not-is_on.false;
      formed = search rules;
      calm = sym (c.is_calm.ensures.is seen knows known) ∙ c.if-not-is_calm.false;
    } in
    (may, inner_goes c.args.plan.now c.args.circuit c.args.octets.now c.destination.result c.destination.ensures, c.sites.ensures seen knows)
