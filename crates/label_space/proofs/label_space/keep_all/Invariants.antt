use Rattle.std.proofs.Common.{◌≡◌, drop}
use Rattle.label_space.specs.Labels.{AreDistinctLabels, AreUnkept, keeps_each}
use Rattle.label_space.proofs.label_space.keep_all.Given as goal

abbrev pub invariant-loop-owner : goal.invariant-loop-owner
invariant-loop-owner l =
    (keeps_each (drop l.owner-index l.owners) l.kept ≡ keeps_each l.owners l.fn.kept) × AreDistinctLabels (drop l.owner-index l.owners) × AreUnkept l.kept (drop l.owner-index l.owners)
