-- What the edge put is on its way to the peer, and is told with the wires that it began or ceased to use.
use Rattle.std.proofs.Common.{◌++◌, ◌∙◌, OnOk, ap, subst}
use Rattle.net_base.specs.declared.plan.Plan.{Plan}
use Rattle.switchover_model.specs.Network.{connects_one}
use Rattle.switchover_model.specs.Text.{connect_entries, said_entries, turned_all, used}
use Rattle.switchover_net.specs.contracts.switch_net.SwitchNet.{the_view}
use Rattle.switchover_net.specs.Net.{Makes, SwitchLists}
use Rattle.switchover_net.specs.Rows.{seen_row}
use Rattle.switchover_net.proofs.NetLemmas.{connected, ok_both}
use Rattle.switchover_net.proofs.switch_net.SwitchNet.connect_one.Goals as goal

pub returns-clause-step : goal.returns-clause-step
returns-clause-step c =
    subst (λ (n : SwitchLists). OnOk c.tell.result (Makes n c.tell.new.self c.args.work.now.out c.tell.new.work.out (connects_one n.row.plan c.args.me.0 c.args.peer.0)
    (connect_entries n.row.plan c.args.me.0 c.args.peer.0))) c.self.view_is
    (ok_both c.tell.result
    (λ put told. connected (the_view c.self.inside).row.plan c.args.me.0 c.args.peer
    (the_view c.self.inside) c.tell.new.self c.connect.new.self c.in-Ok.calls c.as_slice.result.now c.args.work.now.out c.tell.new.work.out
    c.in-Ok.ensures.step c.tell.ensures.row (c.as_slice.ensures.value ∙ c.in_ok-before.ensures.used) put
    (told ∙ ap (λ (p : Plan). (c.args.work.now.out ++ said_entries c.args.me.0 c.in-Ok.calls) ++ turned_all c.args.me.0 0 c.as_slice.result.now
    (used p c.args.me.0 (seen_row c.connect.new.self c.args.me.0))) c.in-Ok.ensures.plan))
    c.tell.ensures.pipes c.tell.ensures.out)
