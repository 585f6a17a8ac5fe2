-- What is left is a filter of the labels.
use Rattle.std.proofs.Common.{not}
use Rattle.pw_ends.specs.Owned.{has_label}
use Rattle.pw_ends.proofs.OwnedLemmas.{held_filtered}
use Rattle.pw_ends.proofs.owned_labels.OwnedLabels.remove.Goals as goal

pub invariant_of-self : goal.invariant_of-self
invariant_of-self c = held_filtered (λ o. not (has_label c.args.label o)) _ _ _ _ _ c.self.invariant c.forget.ensures.items c.forget.ensures.room
