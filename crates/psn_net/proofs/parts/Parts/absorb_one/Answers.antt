-- What was said is told and put into its pipe; a frame that left, a drop, a session, a wire and a pong are each told by one entry.
use Rattle.std.proofs.Common.{refl}
use Rattle.psn_net.proofs.BroughtLemmas.{absorbed, told}
use Rattle.psn_net.proofs.parts.Parts.absorb_one.Goals as goal

pub returns-in-Said-clause-step : goal.returns-in-Said-clause-step
returns-in-Said-clause-step c = absorbed _ _ _ _ _ _ _ _ c.in-Said.is c.say.ensures.step

pub returns-in-Left-clause-step : goal.returns-in-Left-clause-step
returns-in-Left-clause-step c = told _ _ _ _ _ _ _ _ _ c.in-Left.is refl refl c.tell.ensures.state c.tell.ensures.ok

pub returns-in-Dropped-clause-step : goal.returns-in-Dropped-clause-step
returns-in-Dropped-clause-step c = told _ _ _ _ _ _ _ _ _ c.in-Dropped.is refl refl c.tell-in-Dropped.ensures.state c.tell-in-Dropped.ensures.ok

pub returns-in-Session-clause-step : goal.returns-in-Session-clause-step
returns-in-Session-clause-step c = told _ _ _ _ _ _ _ _ _ c.in-Session.is refl refl c.tell-in-Session.ensures.state c.tell-in-Session.ensures.ok

pub returns-in-Wire-clause-step : goal.returns-in-Wire-clause-step
returns-in-Wire-clause-step c = told _ _ _ _ _ _ _ _ _ c.in-Wire.is refl refl c.tell-in-Wire.ensures.state c.tell-in-Wire.ensures.ok

pub returns-in-Pong-clause-step : goal.returns-in-Pong-clause-step
returns-in-Pong-clause-step c = told _ _ _ _ _ _ _ _ _ c.in-Pong.is refl refl c.tell-in-Pong.ensures.state c.tell-in-Pong.ensures.ok
