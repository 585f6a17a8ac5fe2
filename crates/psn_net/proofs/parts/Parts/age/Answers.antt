use Rattle.std.proofs.Common.{◌∙◌}
use Rattle.psn_net.proofs.AgeLemmas.{age_goes_on}
use Rattle.psn_net.proofs.parts.Parts.age.Goals as goal

pub ageing-preserved : goal.ageing-preserved
ageing-preserved c =
    let gone = age_goes_on c.args.self.now c.ageing.self c.take_packet.new.self c.tell.new.self c.in-Some.packet c.in-Some.ensures.number c.in-Some.ensures.left c.take_packet.ensures.state
    c.take_packet.ensures.trace c.tell.ensures.state c.in_ok-tell.ensures.ok c.ageing.invariant.older c.ageing.invariant.told in
    record {
      keeps = record {
        plan = c.tell.ensures.keeps.plan ∙ (c.take_packet.ensures.keeps.plan ∙ c.ageing.invariant.keeps.plan);
        failed = c.tell.ensures.keeps.failed ∙ (c.take_packet.ensures.keeps.failed ∙ c.ageing.invariant.keeps.failed);
      };
      room = c.in_ok-tell.ensures.made;
      time = c.in_ok-tell.ensures.time;
      older = gone.0;
      told = gone.1;
    }
