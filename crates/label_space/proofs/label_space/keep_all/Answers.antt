-- One owner more is kept.
use Rattle.label_space.proofs.HeldLemmas.{each_step}
use Rattle.label_space.proofs.label_space.keep_all.Goals as goal

pub loop-owner-preserved : goal.loop-owner-preserved
loop-owner-preserved c = each_step c.args.owners.now c.loop-owner.owner-index c.owner-item.result c.args.kept.now c.loop-owner.kept c.keep.new.self c.loop-owner-test.true c.owner-item.is c.loop-owner.invariant c.keep.ensures
