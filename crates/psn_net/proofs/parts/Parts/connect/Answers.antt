-- Both edges have their ends, and then what they gave out is absorbed: that is the connection of two different edges that can connect.
use Rattle.std.proofs.Common.{◌≡◌, Bool, OnOk, cond, false, nat_eq, refl, rules, subst, sym, true}
use Rattle.std.proofs.lemmas.Result.{on_ok_weaker}
use Rattle.network_model.specs.Absorb.{idle}
use Rattle.network_model.specs.Connection.{can_connect, connected_work, connecting}
use Rattle.network_model.specs.State.{NetworkState}
use Rattle.net_base.specs.declared.plan.Plan.{Plan}
use Rattle.psn_net.specs.Lists.{HasStepped, network_seen}
use Rattle.psn_net.proofs.ConnectionLemmas.{connect_stepped}
use Rattle.psn_net.proofs.parts.Parts.connect.Goals as goal

pub returns-clause-step : goal.returns-clause-step
returns-clause-step c =
    let plan : Plan = c.args.self.now.plan in
    let network : NetworkState = network_seen c.args.self.now in
    let can : can_connect plan network c.args.from.0 c.args.to.0 ≡ true = search rules in
    let apart : nat_eq c.args.to.0 c.args.from.0 ≡ false = search rules in
    subst (λ (b : Bool). OnOk c.absorb-2.result (HasStepped c.args.self.now c.absorb-2.new.self
    (cond b (connecting c.args.from (connected_work plan network c.args.from c.args.to) c.args.to (connected_work plan network c.args.to c.args.from) network) (idle network)))) (sym can)
    (on_ok_weaker c.absorb-2.result
    (λ stepped. connect_stepped c.args.self.now c.drive.new.self c.drive-2.new.self c.absorb.new.self c.absorb-2.new.self c.args.from c.args.to
    c.in_ok-first.first c.in_ok-second.second c.in_ok-first.first.list c.in_ok-second.second.list apart c.in_ok-first.ensures.keeps.plan
    c.in_ok-first.ensures.driven c.in_ok-second.ensures.driven refl c.in_ok-absorb.ensures.step refl stepped) c.absorb-2.ensures.step)
