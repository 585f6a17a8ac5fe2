use Rattle.std.proofs.Common.{◌∙◌, sym}
use Rattle.independent_mode.specs.Receiver.{receiver_of}
use Rattle.independent_mode.specs.Lists.{independent_seen}
use Rattle.independent_mode.proofs.TellLemmas.{put_receiver}
use Rattle.independent_mode.proofs.indep_edge.IndepEdge.put_receiver.Goals as goal

pub returns-in-Some-clause-step : goal.returns-in-Some-clause-step
returns-in-Some-clause-step c = put_receiver c.args.peer.0 c.in-Some.connection c.with_receiver.result (receiver_of c.args.receiver) (independent_seen c.args.self.now)
    (independent_seen c.take_connection.new.self) (independent_seen c.put_connection.new.self)
    (sym c.in-Some.is ∙ c.take_connection.ensures.taken) c.take_connection.ensures.step c.with_receiver.ensures c.put_connection.ensures.step
