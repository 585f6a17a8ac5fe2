-- An event has brought about what its row says, by the clause of the input that it is.
use Rattle.std.proofs.lemmas.Result.{on_ok_weaker}
use Rattle.psn_net.proofs.AnswerLemmas.{circuit_stepped, ping_stepped, priority_stepped, status_stepped, wire_stepped}
use Rattle.psn_net.proofs.BroughtLemmas.{brought_by}
use Rattle.psn_net.proofs.parts.Parts.answer.Goals as goal

pub returns-in-Circuit-clause-step : goal.returns-in-Circuit-clause-step
returns-in-Circuit-clause-step c = brought_by _ _ _ _ _ c.in-Circuit.is (on_ok_weaker c.answer_input.result (circuit_stepped _ _ _ _ _ c.edge_of-me.ensures.edge) c.answer_input.ensures.step)

pub returns-in-Wire-clause-step : goal.returns-in-Wire-clause-step
returns-in-Wire-clause-step c = brought_by _ _ _ _ _ c.in-Wire.is (on_ok_weaker c.answer_input-in-Wire.result (wire_stepped _ _ _ _ _) c.answer_input-in-Wire.ensures.step)

pub returns-in-Status-clause-step : goal.returns-in-Status-clause-step
returns-in-Status-clause-step c = brought_by _ _ _ _ _ c.in-Status.is (on_ok_weaker c.answer_input-in-Status.result (status_stepped _ _ _ _ _) c.answer_input-in-Status.ensures.step)

pub returns-in-Priority-clause-step : goal.returns-in-Priority-clause-step
returns-in-Priority-clause-step c = brought_by _ _ _ _ _ c.in-Priority.is (on_ok_weaker c.answer_input-in-Priority.result (priority_stepped _ _ _ _ _) c.answer_input-in-Priority.ensures.step)

pub returns-in-Ping-clause-step : goal.returns-in-Ping-clause-step
returns-in-Ping-clause-step c = brought_by _ _ _ _ _ c.in-Ping.is (on_ok_weaker c.answer_input-in-Ping.result (ping_stepped _ _ _ _) c.answer_input-in-Ping.ensures.step)
