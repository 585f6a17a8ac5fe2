-- The top of the heap is the least that is free.
use Rattle.std.proofs.Common.{rules, ◌≡◌, ◌∙◌, ◌∷◌, Some, ap, sym, length, heap_items, nat_cmp, IsPermutation, subst}
use Rattle.std.specs.Prelude.{IfSome}
use Rattle.std.specs.BinaryHeap.{IsHeap, IsUpperBound}
use Rattle.label_space.specs.Kept.{kept_at, least_free, without_one}
use Rattle.label_space.specs.declared.kept.KeptState.TheVariants as state
use Rattle.label_space.specs.Stored.{kept_of}
use Rattle.label_space.proofs.StoredLemmas.{held_popped, label_of_some, number_of, taken, unwaited}
use Rattle.label_space.proofs.kept_labels.KeptLabels.take_least.Goals as goal

pub returns-in_default-clause-label : goal.returns-in_default-clause-label
returns-in_default-clause-label c =
    let none : length (heap_items c.self.inside.free) ≡ 0 = search rules in
    sym (ap least_free (sym c.self.view_is) ∙ unwaited c.self.inside.waiting.items c.self.inside.resting.items (heap_items c.self.inside.free) c.self.invariant.wait c.self.invariant.rest none)

pub invariant_of-self-2 : goal.invariant_of-self-2
invariant_of-self-2 c =
    let popped : IsPermutation (heap_items c.self.inside.free) (c.in-Some.field-0 ∷ heap_items c.pop.new.self) = search rules in
    let heap : IsHeap (λ x y. nat_cmp y.0 x.0) (heap_items c.pop.new.self) = search rules in
    held_popped c.in-Some.field-0 _ _ _ _ c.self.inside.waiting.items c.self.inside.resting.items (heap_items c.self.inside.free)
    (heap_items c.pop.new.self) c.self.invariant popped heap (search rules)

pub returns-clause-label : goal.returns-clause-label
returns-clause-label c =
    let popped : IsPermutation (heap_items c.self.inside.free) (c.in-Some.field-0 ∷ heap_items c.pop.new.self) = search rules in
    let bound : IsUpperBound (λ x y. nat_cmp y.0 x.0) c.in-Some.field-0 (heap_items c.pop.new.self) = search rules in
    let label : c.new.result ≡ Some c.in-Some.field-0.0 =
    label_of_some c.in-Some.field-0.0 c.new.result (search rules) (search rules) (number_of c.in-Some.field-0 _ _ popped c.self.invariant.labels) in
    let taken = taken c.in-Some.field-0 _ _ _ c.self.inside.waiting.items c.self.inside.resting.items (heap_items c.self.inside.free) (heap_items c.pop.new.self) c.self.invariant popped bound in
    label ∙ sym taken.least ∙ ap least_free c.self.view_is

pub returns-clause-rest : goal.returns-clause-rest
returns-clause-rest c =
    let popped : IsPermutation (heap_items c.self.inside.free) (c.in-Some.field-0 ∷ heap_items c.pop.new.self) = search rules in
    let bound : IsUpperBound (λ x y. nat_cmp y.0 x.0) c.in-Some.field-0 (heap_items c.pop.new.self) = search rules in
    let label : c.new.result ≡ Some c.in-Some.field-0.0 =
    label_of_some c.in-Some.field-0.0 c.new.result (search rules) (search rules) (number_of c.in-Some.field-0 _ _ popped c.self.invariant.labels) in
    let taken = taken c.in-Some.field-0 _ _ _ c.self.inside.waiting.items c.self.inside.resting.items (heap_items c.self.inside.free) (heap_items c.pop.new.self) c.self.invariant popped bound in
    taken.rest ∙ ap (λ r. without_one r (kept_of c.self.inside.waiting.items c.self.inside.resting.items (heap_items c.self.inside.free))) (sym label) ∙ ap (without_one c.new.result) c.self.view_is

pub returns-clause-free : goal.returns-clause-free
returns-clause-free c =
    let popped : IsPermutation (heap_items c.self.inside.free) (c.in-Some.field-0 ∷ heap_items c.pop.new.self) = search rules in
    let bound : IsUpperBound (λ x y. nat_cmp y.0 x.0) c.in-Some.field-0 (heap_items c.pop.new.self) = search rules in
    let label : c.new.result ≡ Some c.in-Some.field-0.0 =
    label_of_some c.in-Some.field-0.0 c.new.result (search rules) (search rules) (number_of c.in-Some.field-0 _ _ popped c.self.invariant.labels) in
    let taken = taken c.in-Some.field-0 _ _ _ c.self.inside.waiting.items c.self.inside.resting.items (heap_items c.self.inside.free) (heap_items c.pop.new.self) c.self.invariant popped bound in
    subst (λ r. IfSome r (λ l. kept_at l c.args.self.now ≡ Some state.Free)) (sym label) (ap (kept_at c.in-Some.field-0.0) (sym c.self.view_is) ∙ taken.free)
