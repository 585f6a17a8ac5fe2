-- The label stands at its place.
use Rattle.std.proofs.Common.{rules, ◌≡◌, ◌∙◌, None, ap}
use Rattle.label_space.specs.Kept.{put_by}
use Rattle.pw_ends.specs.declared.owned_labels.OwnedLabel.{OwnedLabel}
use Rattle.pw_ends.specs.Owned.{OwnedList, label_in, slot_of}
use Rattle.pw_ends.proofs.OwnedLemmas.{held_put}
use Rattle.pw_ends.proofs.owned_labels.OwnedLabels.add.Goals as goal

pub invariant_of-self : goal.invariant_of-self
invariant_of-self c =
    let new : OwnedLabel = record { label = c.args.label; slot = c.args.slot } in
    let items : c.insert.new.self.items ≡ put_by label_in new c.self.inside.labels.items = search rules in
    let none : slot_of c.args.label c.self.inside.labels.items ≡ None = ap (λ (o : OwnedList). slot_of c.args.label o.labels) c.self.view_is ∙ c.requires.unowned in
    held_put new _ _ _ c.self.inside.labels.items c.insert.new.self.items c.self.invariant (search rules) none items (search rules)
