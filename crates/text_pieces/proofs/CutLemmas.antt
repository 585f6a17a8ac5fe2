-- Octets that are added with what stands behind them in their room, and cut off from it again.
use Rattle.std.proofs.Common.{◌≡◌, ◌≤◌, ◌+◌, ◌++◌, ◌∙◌, ℕ, zero, suc, List, [], ◌∷◌, length, take, drop, refl, ap, arith}
use Rattle.std.proofs.Math.Seq.{take-append-add}

-- of a front that reaches over the first octets these are left
front_left : (octets rest : List ℕ) (span : ℕ) → length octets ≤ span → take (length octets) (take span (octets ++ rest)) ≡ octets
front_left [] rest span over = refl
front_left (octet ∷ octets) rest zero over = absurd (omega (arith, over))
front_left (octet ∷ octets) rest (suc span) over = ap (λ (l : List ℕ). octet ∷ l) (front_left octets rest span (omega (arith, over)))

pub cut_behind : (old made now room octets rest : List ℕ) (begin span end : ℕ) → drop begin room ≡ octets ++ rest → made ≡ old ++ take span (drop begin room)
    → now ≡ take end made → end ≡ length old + length octets → length octets ≤ span → now ≡ old ++ octets
cut_behind old made now room octets rest begin span end stands adds cut is over =
    let whole : made ≡ old ++ take span (octets ++ rest) = adds ∙ ap (λ (l : List ℕ). old ++ take span l) stands in
    (cut ∙ ((λ i. take (is i) (whole i)) ∙ take-append-add old (take span (octets ++ rest)) (length octets))) ∙ ap (λ (l : List ℕ). old ++ l) (front_left octets rest span over)
