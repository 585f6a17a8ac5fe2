-- What has rested long enough is free.
use Rattle.std.proofs.Common.{rules, ◌≡◌, ◌++◌, ◌∙◌, not, map, ap, heap_items, IsPermutation}
use Rattle.std.specs.Prelude.{filter}
use Rattle.label_space.specs.Kept.{is_free, ticked}
use Rattle.label_space.specs.Stored.{freed_number, kept_of}
use Rattle.label_space.proofs.StoredLemmas.{held_ticked, ticked_kept}
use Rattle.label_space.proofs.kept_labels.KeptLabels.tick.Goals as goal

pub invariant_of-self : goal.invariant_of-self
invariant_of-self c =
    let rest : c.drop_free.new.kept.items ≡ filter (λ k. not (is_free k)) (ticked c.self.inside.resting.items) = search rules in
    let free : IsPermutation (map freed_number (heap_items c.self.inside.free) ++ filter is_free (ticked c.self.inside.resting.items))
    (map freed_number (heap_items c.add_free.new.free)) = search rules in
    held_ticked _ _ _ _ _ c.self.inside.waiting.items c.self.inside.resting.items c.drop_free.new.kept.items (heap_items c.self.inside.free)
    (heap_items c.add_free.new.free) c.self.invariant rest free c.add_free.ensures.labels c.add_free.ensures.heap (search rules) (search rules)

pub returns : goal.returns
returns c =
    let rest : c.drop_free.new.kept.items ≡ filter (λ k. not (is_free k)) (ticked c.self.inside.resting.items) = search rules in
    let free : IsPermutation (map freed_number (heap_items c.self.inside.free) ++ filter is_free (ticked c.self.inside.resting.items))
    (map freed_number (heap_items c.add_free.new.free)) = search rules in
    ap (λ l. kept_of c.self.inside.waiting.items l (heap_items c.add_free.new.free)) rest
    ∙ ticked_kept c.self.inside.waiting.items c.self.inside.resting.items (heap_items c.self.inside.free) (heap_items c.add_free.new.free) c.self.invariant.wait c.self.invariant.rising free
    ∙ ap ticked c.self.view_is
