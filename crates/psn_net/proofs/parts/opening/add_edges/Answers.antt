use Rattle.std.proofs.Common.{◌∙◌, rules, subst, sym}
use Rattle.psn_net.specs.Lists.{AreOpen}
use Rattle.psn_net.proofs.NetworkLemmas.{open_next, open_none}
use Rattle.psn_net.proofs.parts.opening.add_edges.Goals as goal

pub loop-place-init : goal.loop-place-init
loop-place-init c = subst (AreOpen c.args.plan.now.value 0) (sym c.requires.none) (open_none c.args.plan.now.value)

pub loop-place-preserved : goal.loop-place-preserved
loop-place-preserved c =
    open_next c.args.plan.now.value c.loop-place.place c.loop-place.edges.items c.push.new.self.items c.in_ok-share.field-0 c.loop-place.invariant c.in_ok-push.ensures.items
    (c.in_ok-share.ensures.plan ∙ search rules) c.in_ok-share.ensures.empty
