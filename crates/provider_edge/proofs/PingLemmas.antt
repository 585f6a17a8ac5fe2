-- The sequence numbers of an edge's next pings.
use Rattle.edge_forwarding.proofs.EachLemmas.{each_next}
use Rattle.provider_edge.specs.Pings.{unpinged}
use Rattle.std.proofs.Math.Seq.{take-append_seam}
use Rattle.std.proofs.Common.{List, ap, drop, length, map, refl, slice_index_or, slice_set, take, ℕ, ◌++◌, ◌+◌, ◌<◌, ◌∙◌, ◌≡◌}
use Rattle.net_values.proofs.RowLemmas.{same_read}

-- one more wire counts as not pinged
pub unpinged_next : (xs now : List ℕ) (i : ℕ) → now ≡ map unpinged (take i xs) ++ drop i xs → i < length now → slice_set now i 1 ≡ map unpinged (take (i + 1) xs) ++ drop (i + 1) xs
unpinged_next xs now i so_far within =
    each_next unpinged xs now i (slice_index_or now i 1) 1 so_far within (same_read now i 1 (slice_index_or now i 1) within) refl

-- what was written to the front of a buffer is cut from it
pub front_taken : (made base out : List ℕ) (count : ℕ) → out ≡ made ++ drop count base → count ≡ length made → take count out ≡ made
front_taken made base out count is long =
    ap (λ (l : List ℕ). take count l) is ∙ (ap (λ (n : ℕ). take n (made ++ drop count base)) long ∙ take-append_seam made (drop count base))
