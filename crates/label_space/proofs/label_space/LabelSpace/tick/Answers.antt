-- The kept numbers are the same ones.
use Rattle.label_space.proofs.HeldLemmas.{held_ticking}
use Rattle.label_space.proofs.label_space.LabelSpace.tick.Goals as goal

pub invariant_of-self : goal.invariant_of-self
invariant_of-self c = (held_ticking _ _ _ _ _ _ c.self.invariant.0 c.tick.ensures, c.self.invariant.1)
