-- Both ends of the grammar of dotted quads.
use Rattle.scenario_text.proofs.QuadLemmas.{quad_read, quad_refused}
use Rattle.scenario_text.proofs.values.quad.Goals as goal

pub returns-in-Ok : goal.returns-in-Ok
returns-in-Ok c = quad_read c.args.text.now c.octets.result (rw c.octets.ensures c.in-Ok.ensures.value)

pub returns-in-Err : goal.returns-in-Err
returns-in-Err c = quad_refused c.args.text.now c.in-Err.ensures.value
