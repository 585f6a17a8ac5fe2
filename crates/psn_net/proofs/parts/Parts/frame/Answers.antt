use Rattle.std.proofs.Common.{ℕ, List, OnOk, subst}
use Rattle.std.proofs.lemmas.Result.{on_ok_weaker}
use Rattle.net_base.specs.plan.Places.{circuit_row}
use Rattle.network_model.specs.Frame.{frame_event}
use Rattle.psn_net.specs.Lists.{HasStepped, network_seen}
use Rattle.psn_net.proofs.NetworkLemmas.{frame_idle_stepped}
use Rattle.psn_net.proofs.parts.Parts.frame.Goals as goal

pub returns-then-effects-clause-step : goal.returns-then-effects-clause-step
returns-then-effects-clause-step c =
    subst (λ (octets : List ℕ). OnOk c.tell.result
    (HasStepped c.args.self.now c.tell.new.self (frame_event c.args.self.now.plan c.args.circuit octets (circuit_row c.args.self.now.plan c.args.circuit) (network_seen c.args.self.now)))) c.as_slice.ensures
    (on_ok_weaker c.tell.result
    (λ told. frame_idle_stepped c.args.self.now c.drive.new.self c.tell.new.self c.args.circuit c.as_slice.result.now c.edge_of-me.result c.in-Ok.effects
    c.edge_of-me.ensures.edge c.in-Ok.ensures.driven c.if-effects.true c.tell.ensures.state told) c.tell.ensures.ok)
