-- What the edge put is on its way to the other end of the wire, and is told with the wires that it began or ceased to use.
use Rattle.std.proofs.Common.{◌≡◌, ◌++◌, ◌∙◌, Some, OnOk, ap, sym, subst}
use Rattle.net_base.specs.declared.plan.Plan.{Plan}
use Rattle.independent_model.specs.Wires.{other_end}
use Rattle.switchover_model.specs.Network.{setting}
use Rattle.switchover_model.specs.Text.{said_entries, set_entries, turned_all, used}
use Rattle.switchover_net.specs.contracts.switch_net.SwitchNet.{the_view}
use Rattle.switchover_net.specs.Net.{Makes, SwitchLists}
use Rattle.switchover_net.specs.Rows.{seen_row}
use Rattle.switchover_net.proofs.NetLemmas.{ok_both, was_set}
use Rattle.switchover_net.proofs.switch_net.SwitchNet.set.Goals as goal

pub returns-clause-step : goal.returns-clause-step
returns-clause-step c =
    subst (λ (n : SwitchLists). OnOk c.tell.result (Makes n c.tell.new.self c.args.work.now.out c.tell.new.work.out (setting n.row.plan c.args.to.edge.0 c.args.to.wire.0 c.args.to.wish)
    (set_entries n.row.plan c.args.to.edge.0 c.args.to.wire.0 c.args.to.wish))) c.self.view_is
    (ok_both c.tell.result
    (λ put told. was_set (the_view c.self.inside).row.plan c.args.to.edge.0 c.args.to.wire.0 c.args.peer c.args.to.wish
    (the_view c.self.inside) c.tell.new.self c.set.new.self c.in-Ok.calls c.as_slice.result.now c.args.work.now.out c.tell.new.work.out
    (subst (λ (n : SwitchLists). other_end n.row.plan c.args.to.edge.0 c.args.to.wire.0 ≡ Some c.args.peer) (sym c.self.view_is) c.requires.ends)
    c.in-Ok.ensures.step c.tell.ensures.row (c.as_slice.ensures.value ∙ c.in_ok-before.ensures.used) put
    (told ∙ ap (λ (p : Plan). (c.args.work.now.out ++ said_entries c.args.to.edge.0 c.in-Ok.calls) ++ turned_all c.args.to.edge.0 0 c.as_slice.result.now
    (used p c.args.to.edge.0 (seen_row c.set.new.self c.args.to.edge.0))) c.in-Ok.ensures.plan))
    c.tell.ensures.pipes c.tell.ensures.out)
