use Rattle.std.proofs.Common.{arith}
use Rattle.std.proofs.lemmas.Grind.{common_steps}
use Rattle.survey_text.proofs.KnownLemmas.{made_end, made_more}
use Rattle.survey_text.proofs.known.services_of.Goals as goal

pub loop-shape-preserved : goal.loop-shape-preserved
loop-shape-preserved g c = (
  tt,
  tt,
  record {
    made = made_more c.args.over.plan.now g.before c.loop-shape.services.items c.push.new.self.items c.loop-shape.shape-iterator.rest.items c.next.new.self.rest.items c.in-Some.shape c.in_ok-new.field-0
        c.loop-shape.invariant.2.made c.in-Some.ensures.steps.0 c.in_ok-new.ensures.is c.in_ok-push.ensures.items;
    befallen = c.in_ok-new.ensures.befallen;
  },
)

pub returns : goal.returns
returns g c = made_end c.args.over.plan.now g.before c.loop-shape.services.items c.loop-shape.shape-iterator.rest.items c.loop-shape.invariant.2.made (grind (arith, common_steps))
