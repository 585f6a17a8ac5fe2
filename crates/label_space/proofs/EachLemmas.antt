-- A list whose items are changed one by one.
use Rattle.std.proofs.Common.{◌≡◌, ◌<◌, ◌+◌, ◌++◌, ◌∙◌, ℕ, suc, List, length, set, get_or, take, drop, map, ap, arith}
use Rattle.net_values.proofs.RowLemmas.{edited_next, edited_length}

-- one item more
pub each_next : {X : Type 0} (f : X → X) (xs now : List X) (i : ℕ) (x y : X) → now ≡ map f (take i xs) ++ drop i xs → i < length now → x ≡ get_or now i x → y ≡ f x
    → set now i y ≡ map f (take (i + 1) xs) ++ drop (i + 1) xs
each_next {X = X} f xs now i x y so_far within read after =
    let parts : length (map f (take i xs) ++ drop i xs) ≡ length xs = edited_length f xs i in
    let below : i < length xs = omega (arith, ap length so_far) in
    let next : suc i ≡ i + 1 = omega arith in
    ap (λ (v : X). set now i v) (after ∙ ap f read)
    ∙ (ap (λ (l : List X). set l i (f (get_or l i x))) so_far
    ∙ (edited_next f xs i x below
    ∙ ap (λ (n : ℕ). map f (take n xs) ++ drop n xs) next))
