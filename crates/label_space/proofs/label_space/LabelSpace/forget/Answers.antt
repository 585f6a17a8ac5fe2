-- What was owned is not kept yet.
use Rattle.std.proofs.Common.{rules, ◌∙◌, ap}
use Rattle.std.specs.List.{find}
use Rattle.label_space.specs.Labels.{LabelNumbers, owns}
use Rattle.label_space.proofs.HeldLemmas.{held_freed, unkept_found}
use Rattle.label_space.proofs.label_space.LabelSpace.forget.Goals as goal

pub keep-requires : goal.keep-requires
keep-requires c = unkept_found c.args.label _ _ _ c.args.owner c.self.inside.owners.items c.self.inside.kept c.self.invariant.0
    (ap (λ (s : LabelNumbers). find (owns c.args.label) s.owners) c.self.view_is ∙ c.requires)

pub invariant_of-self : goal.invariant_of-self
invariant_of-self c = (
  held_freed c.args.label c.args.owner _ _ _ _ c.self.inside.owners.items c.forget.new.owners.items c.self.inside.kept c.keep.new.self c.self.invariant.0
      (ap (λ (s : LabelNumbers). find (owns c.args.label) s.owners) c.self.view_is ∙ c.requires) c.forget.ensures.items c.keep.ensures c.forget.ensures.room,
  search rules,
)
