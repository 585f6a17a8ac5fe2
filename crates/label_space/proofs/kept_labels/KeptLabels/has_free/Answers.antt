-- A number stands on the heap exactly where one is free.
use Rattle.std.proofs.Common.{rules, ◌≡◌, ◌==◌, ◌∙◌, not, ap, sym, length, heap_items}
use Rattle.std.specs.Prelude.{is_some}
use Rattle.label_space.specs.Kept.{least_free}
use Rattle.label_space.proofs.StoredLemmas.{free_here}
use Rattle.label_space.proofs.kept_labels.KeptLabels.has_free.Goals as goal

pub returns : goal.returns
returns c =
    let none : c.is_empty.result ≡ (length (heap_items c.self.inside.free) == 0) = search rules in
    ap not none ∙ sym (free_here c.self.inside.waiting.items c.self.inside.resting.items (heap_items c.self.inside.free) c.self.invariant.wait c.self.invariant.rest)
    ∙ ap (λ l. is_some (least_free l)) c.self.view_is
