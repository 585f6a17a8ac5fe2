-- An event that was told has brought about what its row says, by the clause of its own call.
use Rattle.std.proofs.Common.{refl}
use Rattle.psn_net.proofs.BroughtLemmas.{brought}
use Rattle.psn_net.proofs.parts.Parts.work.Goals as goal

pub returns-in-Connect-clause-step : goal.returns-in-Connect-clause-step
returns-in-Connect-clause-step c = brought _ _ _ _ _ _ _ c.in_ok-copy.ensures c.in-Connect.is c.tell.ensures.keeps.plan c.tell.ensures.state c.in_ok-tell.ensures.ok c.connect.ensures.step

pub returns-in-Deliver-clause-step : goal.returns-in-Deliver-clause-step
returns-in-Deliver-clause-step c = brought _ _ _ _ _ _ _ c.in_ok-copy.ensures c.in-Deliver.is c.tell.ensures.keeps.plan c.tell.ensures.state c.in_ok-tell.ensures.ok c.deliver.ensures.step

pub returns-in-Lose-clause-step : goal.returns-in-Lose-clause-step
returns-in-Lose-clause-step c = brought _ _ _ _ _ _ _ c.in_ok-copy.ensures c.in-Lose.is c.tell.ensures.keeps.plan c.tell.ensures.state c.in_ok-tell.ensures.ok c.lose.ensures.step

pub returns-in-Restart-clause-step : goal.returns-in-Restart-clause-step
returns-in-Restart-clause-step c = brought _ _ _ _ _ _ _ c.in_ok-copy.ensures c.in-Restart.is c.tell.ensures.keeps.plan c.tell.ensures.state c.in_ok-tell.ensures.ok c.restart.ensures.step

pub returns-in-Tick-clause-step : goal.returns-in-Tick-clause-step
returns-in-Tick-clause-step c = brought _ _ _ _ _ _ _ c.in_ok-copy.ensures c.in-Tick.is c.tell.ensures.keeps.plan c.tell.ensures.state c.in_ok-tell.ensures.ok c.tick.ensures.step

pub returns-in-Arrive-clause-step : goal.returns-in-Arrive-clause-step
returns-in-Arrive-clause-step c = brought _ _ _ _ _ _ _ c.in_ok-copy.ensures c.in-Arrive.is c.tell.ensures.keeps.plan c.tell.ensures.state c.in_ok-tell.ensures.ok c.arrive.ensures.step

pub returns-in-Discard-clause-step : goal.returns-in-Discard-clause-step
returns-in-Discard-clause-step c = brought _ _ _ _ _ _ _ c.in_ok-copy.ensures c.in-Discard.is c.tell.ensures.keeps.plan c.tell.ensures.state c.in_ok-tell.ensures.ok c.discard.ensures.step

pub returns-in-Again-clause-step : goal.returns-in-Again-clause-step
returns-in-Again-clause-step c = brought _ _ _ _ _ _ _ c.in_ok-copy.ensures c.in-Again.is c.tell.ensures.keeps.plan c.tell.ensures.state c.in_ok-tell.ensures.ok c.again.ensures.step

pub returns-in_default-clause-step : goal.returns-in_default-clause-step
returns-in_default-clause-step c = brought _ _ _ _ _ _ _ c.in_ok-copy.ensures refl c.tell.ensures.keeps.plan c.tell.ensures.state c.in_ok-tell.ensures.ok c.answer.ensures.step
