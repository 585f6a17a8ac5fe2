-- Each that is stored is kept.
use Rattle.std.proofs.Common.{rules, ◌≡◌, ap, length, heap_items, arith}
use Rattle.label_space.proofs.StoredLemmas.{long_kept}
use Rattle.label_space.proofs.kept_labels.KeptLabels.len.Goals as goal

pub returns : goal.returns
returns c =
    let waiting : c.len.result ≡ length c.self.inside.waiting.items = search rules in
    let resting : c.len-2.result ≡ length c.self.inside.resting.items = search rules in
    let free : c.len-3.result ≡ length (heap_items c.self.inside.free) = search rules in
    omega (arith, waiting, resting, free, long_kept c.self.inside.waiting.items c.self.inside.resting.items (heap_items c.self.inside.free), ap length c.self.view_is)
