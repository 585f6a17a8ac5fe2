-- Nothing is owned, and what was is kept.
use Rattle.std.proofs.Common.{rules, ◌∙◌, ap}
use Rattle.label_space.specs.Labels.{keeps_each}
use Rattle.label_space.proofs.HeldLemmas.{held_emptied}
use Rattle.label_space.proofs.label_space.LabelSpace.restarted.Goals as goal

pub invariant_of-self : goal.invariant_of-self
invariant_of-self c = (
  held_emptied _ _ _ _ _ _ _ _ c.self.invariant.0 c.clear.ensures.items (c.keep_all.ensures ∙ ap (λ l. keeps_each l c.self.inside.kept) c.as_slice.ensures.value) c.clear.ensures.capacity,
  search rules,
)
