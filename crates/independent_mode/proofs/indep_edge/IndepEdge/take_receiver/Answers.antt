use Rattle.std.proofs.Common.{◌∙◌, sym}
use Rattle.independent_mode.specs.Lists.{independent_seen}
use Rattle.independent_mode.proofs.TellLemmas.{none_taken, out_taken}
use Rattle.independent_mode.proofs.indep_edge.IndepEdge.take_receiver.Goals as goal

pub returns-in_default-clause-step : goal.returns-in_default-clause-step
returns-in_default-clause-step c = none_taken c.args.peer.0 c.take_connection.result (independent_seen c.args.self.now)
    (independent_seen c.take_connection.new.self) c.in_default.is c.take_connection.ensures.taken c.take_connection.ensures.step

pub returns-clause-step : goal.returns-clause-step
returns-clause-step c = out_taken c.args.peer.0 c.in-Some.connection c.take_receiver-receiver.result.1 c.take_receiver-receiver.result.0 (independent_seen c.args.self.now)
    (independent_seen c.take_connection.new.self) (independent_seen c.put_connection.new.self)
    (sym c.in-Some.is ∙ c.take_connection.ensures.taken) c.take_receiver-receiver.ensures.receiver c.take_receiver-receiver.ensures.rest c.take_connection.ensures.step c.put_connection.ensures.step
