-- The owner stands at its place.
use Rattle.std.proofs.Common.{rules, ◌≡◌, ◌++◌, ◌∙◌, [], ◌∷◌, List, None, ap, sym, subst}
use Rattle.label_space.specs.declared.owner.Owner.{Owner}
use Rattle.label_space.specs.Kept.{kept_at, put_by}
use Rattle.label_space.specs.Labels.{LabelNumbers, owned_label, owner_of}
use Rattle.label_space.specs.Slots.{IsLabelIndex}
use Rattle.label_space.proofs.HeldLemmas.{held_owned}
use Rattle.label_space.proofs.SlotLemmas.{index_put}
use Rattle.label_space.proofs.label_space.LabelSpace.own.Goals as goal

pub invariant_of-self : goal.invariant_of-self
invariant_of-self c =
    let o : Owner = record { label = c.args.label; key = c.args.key; side = c.args.side; peer = c.args.peer } in
    let xs : List Owner = c.self.inside.owners.items in
    let items : c.insert.new.self.items ≡ put_by owned_label o c.self.inside.owners.items = search rules in
    let none : owner_of c.args.label c.self.inside.owners.items ≡ None = ap (λ (s : LabelNumbers). owner_of c.args.label s.owners) c.self.view_is ∙ c.requires.unowned in
    let unkept : kept_at c.args.label c.self.inside.kept ≡ None = ap (λ (s : LabelNumbers). kept_at c.args.label s.kept) c.self.view_is ∙ c.requires.unkept in (
      held_owned o _ _ _ _ c.self.inside.owners.items c.insert.new.self.items c.self.inside.kept c.self.invariant.0 (search rules) none unkept (search rules) items (search rules),
      subst (λ (l : List Owner). IsLabelIndex c.add-self-inside.result c.add-self-inside.new.self.slab c.add-self-inside.new.self.index l) (sym items)
          (index_put c.add-self-inside.result c.add-self-inside.new.self.slab c.add-self-inside.new.self.index c.self.inside.owners.items o none
          (subst (λ (l : List Owner). IsLabelIndex c.add-self-inside.result c.add-self-inside.new.self.slab c.add-self-inside.new.self.index
          (l ++ o ∷ [])) c.as_slice.ensures.value c.add-self-inside.ensures)),
    )
