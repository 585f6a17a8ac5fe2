-- The kept numbers are the same ones.
use Rattle.label_space.proofs.HeldLemmas.{held_meeting}
use Rattle.label_space.proofs.label_space.LabelSpace.met.Goals as goal

pub invariant_of-self : goal.invariant_of-self
invariant_of-self c = (held_meeting c.args.peer _ _ _ _ _ _ c.self.invariant.0 c.met.ensures, c.self.invariant.1)
