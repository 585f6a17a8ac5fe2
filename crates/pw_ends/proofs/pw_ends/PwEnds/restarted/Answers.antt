-- No end owns a label any more, and of none anything was told.
use Rattle.std.proofs.Common.{rules}
use Rattle.pw_ends.specs.Marks.{is_marked}
use Rattle.pw_ends.proofs.RestartLemmas.{marked_idle}
use Rattle.pw_ends.proofs.pw_ends.PwEnds.restarted.Goals as goal

pub invariant_of-self : goal.invariant_of-self
invariant_of-self c = marked_idle (is_marked c.self.inside.marks) _ c.self.inside.places c.self.inside.ends.items _ c.self.inside.labels _ c.self.inside.owned _ c.self.invariant
    (search rules) (search rules) (search rules)
