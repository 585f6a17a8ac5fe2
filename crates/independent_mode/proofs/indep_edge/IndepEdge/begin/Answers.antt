use Rattle.std.proofs.Common.{◌∙◌, Some, ap}
use Rattle.independent_model.specs.State.{ConnectionState, with_connection}
use Rattle.independent_mode.specs.Lists.{independent_seen}
use Rattle.independent_mode.proofs.ChangedLemmas.{begins_same, begins_twice}
use Rattle.independent_mode.proofs.indep_edge.IndepEdge.begin.Goals as goal

pub returns-in-Ok-clause-step : goal.returns-in-Ok-clause-step
returns-in-Ok-clause-step c =
    begins_twice c.args.peer.0 c.unheard.result (independent_seen c.args.self.now) (independent_seen c.put_connection.new.self) (independent_seen c.put_connection-in-Ok.new.self)
    c.put_connection.ensures.step
    (c.put_connection-in-Ok.ensures.step ∙ ap (λ (k : ConnectionState). with_connection c.args.peer.0 (Some k) (independent_seen c.put_connection.new.self)) c.in-Ok.ensures)

pub returns-in-Ok-clause-changed : goal.returns-in-Ok-clause-changed
returns-in-Ok-clause-changed c =
    begins_same c.args.peer.0 (independent_seen c.args.self.now) (independent_seen c.put_connection-in-Ok.new.self)
    (begins_twice c.args.peer.0 c.unheard.result (independent_seen c.args.self.now) (independent_seen c.put_connection.new.self) (independent_seen c.put_connection-in-Ok.new.self)
    c.put_connection.ensures.step
    (c.put_connection-in-Ok.ensures.step ∙ ap (λ (k : ConnectionState). with_connection c.args.peer.0 (Some k) (independent_seen c.put_connection.new.self)) c.in-Ok.ensures))
