use Rattle.std.proofs.Common.{◌∙◌}
use Rattle.psn_net.proofs.TickLemmas.{tick_done}
use Rattle.psn_net.proofs.parts.Parts.tick_edges.Goals as goal

pub loop-place-preserved : goal.loop-place-preserved
loop-place-preserved c =
    let done = tick_done _ _ _ _ _ c.loop-place.invariant.keeps.plan c.loop-place-test.true c.in_ok-absorb_input.ensures.step in
    record {
      keeps = record {
        plan = c.in_ok-absorb_input.ensures.keeps.plan ∙ c.loop-place.invariant.keeps.plan;
        failed = c.in_ok-absorb_input.ensures.keeps.failed ∙ c.loop-place.invariant.keeps.failed;
      };
      room = c.in_ok-absorb_input.ensures.room;
      state = done.0 ∙ c.loop-place.invariant.state;
      told = done.1 ∙ c.loop-place.invariant.told;
    }
