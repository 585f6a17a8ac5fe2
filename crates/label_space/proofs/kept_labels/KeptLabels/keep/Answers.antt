-- One more waits.
use Rattle.std.proofs.Common.{rules, ◌≡◌, ◌<◌, ◌++◌, ◌∷◌, ◌∙◌, [], ap, refl, length, heap_items, vec_capacity, arith}
use Rattle.label_space.specs.Kept.{kept_at, waiting}
use Rattle.label_space.specs.Stored.{kept_of}
use Rattle.label_space.proofs.StoredLemmas.{held_more, kept_more, long_kept}
use Rattle.label_space.proofs.kept_labels.KeptLabels.keep.Goals as goal

pub push_reserved-requires : goal.push_reserved-requires
push_reserved-requires c =
    let held = c.self.invariant in
    let few : length (kept_of c.self.inside.waiting.items c.self.inside.resting.items (heap_items c.self.inside.free)) < 4096 = rw c.self.view_is (search rules) in
    let less : length c.self.inside.waiting.items < vec_capacity c.self.inside.waiting =
    omega (arith, few, held.may_wait, long_kept c.self.inside.waiting.items c.self.inside.resting.items (heap_items c.self.inside.free)) in
    search rules

pub invariant_of-self : goal.invariant_of-self
invariant_of-self c =
    let few : length (kept_of c.self.inside.waiting.items c.self.inside.resting.items (heap_items c.self.inside.free)) < 4096 = rw c.self.view_is (search rules) in
    held_more (waiting c.args.label c.args.peer) (vec_capacity c.self.inside.waiting) (vec_capacity c.push_reserved.new.self)
    (vec_capacity c.self.inside.resting) _ c.self.inside.waiting.items c.push_reserved.new.self.items c.self.inside.resting.items (heap_items c.self.inside.free)
    c.self.invariant (ap (kept_at c.args.label) c.self.view_is ∙ c.requires) refl few (search rules) (search rules)

pub returns-then-len-lt-MOST_KEPT : goal.returns-then-len-lt-MOST_KEPT
returns-then-len-lt-MOST_KEPT c =
    let items : c.push_reserved.new.self.items ≡ c.self.inside.waiting.items ++ waiting c.args.label c.args.peer ∷ [] = search rules in
    let few : length c.args.self.now < 4096 = search rules in
    kept_more c.args.label c.args.peer c.self.inside.waiting.items c.push_reserved.new.self.items c.self.inside.resting.items
    (heap_items c.self.inside.free) c.args.self.now c.self.invariant.rising items c.self.view_is c.requires few
