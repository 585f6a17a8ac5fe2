-- What waited for the neighbour rests.
use Rattle.std.proofs.Common.{rules, ◌≡◌, ◌++◌, ◌∙◌, not, ap, heap_items}
use Rattle.std.specs.Prelude.{filter}
use Rattle.label_space.specs.Kept.{met, rests}
use Rattle.label_space.specs.Stored.{kept_of}
use Rattle.label_space.proofs.StoredLemmas.{held_met, met_kept}
use Rattle.label_space.proofs.kept_labels.KeptLabels.met.Goals as goal

pub invariant_of-self : goal.invariant_of-self
invariant_of-self c =
    let wait : c.drop_resting.new.kept.items ≡ filter (λ k. not (rests k)) (met c.args.peer c.self.inside.waiting.items) = search rules in
    let rest : c.add_resting.new.resting.items ≡ c.self.inside.resting.items ++ filter rests (met c.args.peer c.self.inside.waiting.items) = search rules in
    held_met c.args.peer _ _ _ _ _ c.self.inside.waiting.items c.drop_resting.new.kept.items c.self.inside.resting.items c.add_resting.new.resting.items
    (heap_items c.self.inside.free) c.self.invariant wait rest (search rules) (search rules)

pub returns : goal.returns
returns c =
    let wait : c.drop_resting.new.kept.items ≡ filter (λ k. not (rests k)) (met c.args.peer c.self.inside.waiting.items) = search rules in
    let rest : c.add_resting.new.resting.items ≡ c.self.inside.resting.items ++ filter rests (met c.args.peer c.self.inside.waiting.items) = search rules in
    ap (λ l. kept_of l c.add_resting.new.resting.items (heap_items c.self.inside.free)) wait
    ∙ ap (λ l. kept_of (filter (λ k. not (rests k)) (met c.args.peer c.self.inside.waiting.items)) l (heap_items c.self.inside.free)) rest
    ∙ met_kept c.args.peer c.self.inside.waiting.items c.self.inside.resting.items (heap_items c.self.inside.free) c.self.invariant.rest c.self.invariant.rising
    ∙ ap (met c.args.peer) c.self.view_is
