use Rattle.std.proofs.Common.{◌∙◌, rules, subst, sym}
use Rattle.switchover_net.specs.Rows.{AreFresh}
use Rattle.switchover_net.proofs.FreshLemmas.{fresh_next, fresh_none}
use Rattle.switchover_net.proofs.edge_row.open_edges.Goals as goal

pub loop-place-init : goal.loop-place-init
loop-place-init c = subst (AreFresh c.args.plan.now.value 0) (sym c.new-edges.ensures.items) (fresh_none c.args.plan.now.value)

pub loop-place-preserved : goal.loop-place-preserved
loop-place-preserved c =
    fresh_next c.args.plan.now.value c.loop-place.place c.loop-place.edges.items c.push.new.self.items c.in_ok-share.field-0 c.loop-place.invariant c.in_ok-push.ensures.items
    (c.in_ok-share.ensures.plan ∙ search rules) c.in_ok-share.ensures.me c.in_ok-share.ensures.first
