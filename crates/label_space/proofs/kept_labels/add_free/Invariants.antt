use Rattle.std.proofs.Common.{◌≤◌, ◌+◌, ◌++◌, All, IsPermutation, nat_cmp, heap_items, heap_len, length, map, take}
use Rattle.std.specs.Prelude.{filter}
use Rattle.std.specs.BinaryHeap.{IsHeap, heap_capacity}
use Rattle.net_values.specs.Label.{IsLabel}
use Rattle.label_space.specs.Kept.{is_free}
use Rattle.label_space.specs.Stored.{freed_number}
use Rattle.label_space.proofs.kept_labels.add_free.Given as goal

abbrev pub invariant-loop-one : goal.invariant-loop-one
invariant-loop-one l =
    IsHeap (λ x y. nat_cmp y.0 x.0) (heap_items l.free) × All (λ n. IsLabel n.0) (heap_items l.free)
    × IsPermutation (map freed_number (heap_items l.fn.free) ++ filter is_free (take l.one-index l.kept)) (map freed_number (heap_items l.free))
    × (heap_len l.free + length l.kept ≤ heap_capacity l.free + l.one-index) × (heap_capacity l.fn.free ≤ heap_capacity l.free)
