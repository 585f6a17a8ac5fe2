-- One number more was looked at.
use Rattle.std.proofs.Common.{rules, ◌≡◌, ◌≤◌, ◌+◌, ◌∷◌, ℕ, All, map, heap_items, heap_len, nat_cmp, IsPermutation, arith, true, false}
use Rattle.std.specs.BinaryHeap.{IsHeap, heap_capacity}
use Rattle.std.specs.declared.cmp.Reverse.{Reverse}
use Rattle.net_values.specs.Label.{IsLabel}
use Rattle.label_space.specs.Kept.{is_free}
use Rattle.label_space.specs.Stored.{freed_number}
use Rattle.std.proofs.lemmas.List.Elements.{All-cons}
use Rattle.std.proofs.lemmas.List.Sorted.{All-permutation}
use Rattle.label_space.proofs.StoredLemmas.{freed_more, freed_same}
use Rattle.label_space.proofs.kept_labels.add_free.Goals as goal
use Rattle.label_space.proofs.kept_labels.add_free.Goals.{then-is_free, else-is_free}

pub loop-one-preserved : goal.loop-one-preserved
loop-one-preserved c = elim c.if-is_free.branch [
  | then-is_free w ↦
      (let so_far = c.loop-one.invariant in
      let n : Reverse ℕ = record { 0 = w.number.result } in
      let pushed : IsPermutation (n ∷ heap_items c.loop-one.free) (heap_items w.push.new.self) = search rules in
      let heap : IsHeap (λ x y. nat_cmp y.0 x.0) (heap_items w.push.new.self) = search rules in
      let labels : All (λ m. IsLabel m.0) (heap_items w.push.new.self) =
      All-permutation (λ m. IsLabel m.0) _ _ pushed (All-cons (λ m. IsLabel m.0) n (heap_items c.loop-one.free) (search rules) so_far.1) in
      let free : is_free c.one-item.result ≡ true = search rules in
      let long : heap_len w.push.new.self ≡ heap_len c.loop-one.free + 1 = search rules in
      let room : heap_capacity c.loop-one.free ≤ heap_capacity w.push.new.self = search rules in
      rw w.free-is (
        heap,
        labels,
        freed_more (map freed_number (heap_items c.args.free.now)) c.args.kept.now c.loop-one.one-index c.one-item.result n (heap_items c.loop-one.free)
            (heap_items w.push.new.self) c.loop-one-test.true c.one-item.is free (search rules) so_far.2 pushed,
        omega (arith, long, room, so_far.3),
        omega (arith, room, so_far.4),
      ))
  | else-is_free w ↦
      (let so_far = c.loop-one.invariant in
      let other : is_free c.one-item.result ≡ false = search rules in
      rw w.free-is (
        so_far.0,
        so_far.1,
        freed_same (map freed_number (heap_items c.args.free.now)) c.args.kept.now c.loop-one.one-index c.one-item.result
            (heap_items c.loop-one.free) c.loop-one-test.true c.one-item.is other so_far.2,
        omega (arith, so_far.3),
        so_far.4,
      ))
]
