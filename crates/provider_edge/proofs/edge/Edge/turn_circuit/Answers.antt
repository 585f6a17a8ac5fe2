use Rattle.provider_edge.proofs.WorkLemmas.{still_own, turned_off}
use Rattle.provider_edge.proofs.edge.Edge.turn_circuit.Goals as goal

pub forget_circuit-requires-clause-own : goal.forget_circuit-requires-clause-own
forget_circuit-requires-clause-own c = still_own c.args.self.now c.set_circuit.new.self c.args.circuit c.args.service c.requires.own c.set_circuit.ensures.keeps

pub returns-then-not-on-clause-step : goal.returns-then-not-on-clause-step
returns-then-not-on-clause-step c = λ row at. turned_off c.args.self.now c.set_circuit.new.self c.forget_circuit.new.self c.args.circuit c.args.on row c.args.service c.requires.own at c.if-not-on.true c.set_circuit.ensures.keeps c.set_circuit.ensures.step c.forget_circuit.ensures.step
