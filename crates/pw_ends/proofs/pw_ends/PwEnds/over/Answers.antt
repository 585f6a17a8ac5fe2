-- No end owns a label yet, and of none anything was told.
use Rattle.std.proofs.Common.{length}
use Rattle.pw_ends.specs.Marks.{is_marked}
use Rattle.pw_ends.proofs.KeptLemmas.{kept_opened}
use Rattle.pw_ends.proofs.MarkLemmas.{untold_opened}
use Rattle.pw_ends.proofs.pw_ends.PwEnds.over.Goals as goal

pub invariant_of-result : goal.invariant_of-result
invariant_of-result c =
    rw (c.in-Ok.ensures.ends, c.in-Ok.ensures.labels, c.in-Ok.ensures.owned, c.len.ensures)
    (record { kept = kept_opened c.args.places c.args.first c.requires.below c.requires.apart; untold = untold_opened (is_marked c.new.result) c.args.places (length c.args.places) })
