-- A list whose items are changed one by one.
use Rattle.std.proofs.Common.{◌≡◌, ◌<◌, ◌≤◌, ◌+◌, ◌++◌, ◌∙◌, ◌==◌, ℕ, zero, suc, Bool, true, false, cond, filter, not, List, [], ◌∷◌, Some, None, length, slice_get, slice_index_or, set, get_or, take, drop, map, replicate, refl, ap, subst, arith}
use Rattle.std.proofs.lemmas.Bool.{eq-eqb}
use Rattle.net_values.proofs.RowLemmas.{edited_next, edited_length}
use Rattle.mac_table.specs.declared.mac_entry.MacEntry.{MacEntry}

-- one item more
pub each_next : {X : Type 0} (f : X → X) (xs now : List X) (i : ℕ) (x y : X) → now ≡ map f (take i xs) ++ drop i xs → i < length now → x ≡ get_or now i x → y ≡ f x
    → set now i y ≡ map f (take (i + 1) xs) ++ drop (i + 1) xs
each_next {X = X} f xs now i x y so_far within read after =
    let parts : length (map f (take i xs) ++ drop i xs) ≡ length xs = edited_length f xs i in
    let below : i < length xs = omega (arith, ap length so_far) in
    let next : suc i ≡ i + 1 = omega arith in
    ap (λ (v : X). set now i v) (after ∙ ap f read)
    ∙ (ap (λ (l : List X). set l i (f (get_or l i x))) so_far
    ∙ (edited_next f xs i x below
    ∙ ap (λ (n : ℕ). map f (take n xs) ++ drop n xs) next))

pub before_push : {X : Type 0} (xs : List X) (x d : X) (k : ℕ) → k < length xs → slice_index_or (xs ++ x ∷ []) k d ≡ slice_index_or xs k d
before_push [] x d k within = absurd (omega arith)
before_push (y ∷ xs) x d zero within = refl
before_push (y ∷ xs) x d (suc k) within = before_push xs x d k (omega arith)

-- a port's addresses are dropped, the first one among them
filtered : (port : ℕ) (entries : List MacEntry) → length (filter (λ e. not (e.port == port)) entries) ≤ length entries
filtered port [] = omega arith
filtered port (x ∷ entries) = by (x.port == port) (filtered port entries) where
  by : (b : Bool) → length (filter (λ e. not (e.port == port)) entries) ≤ length entries
      → length (cond (not b) (x ∷ filter (λ e. not (e.port == port)) entries) (filter (λ e. not (e.port == port)) entries)) ≤ suc (length entries)
  by true few = omega (arith, few)
  by false few = omega (arith, few)

pub first_dropped : (entries : List MacEntry) (first : MacEntry) → slice_get entries 0 ≡ Some first → length (filter (λ e. not (e.port == first.port)) entries) < length entries
first_dropped [] first is = absurd (cc (is))
first_dropped (x ∷ entries) first is =
    let same : x ≡ first = cc (is) in
    subst (λ (e : MacEntry). length (filter (λ o. not (o.port == e.port)) (x ∷ entries)) < length (x ∷ entries)) same (by (x.port == x.port) (eq-eqb x.port x.port refl))
  where
    by : (b : Bool) → b ≡ true → length (cond (not b) (x ∷ filter (λ e. not (e.port == x.port)) entries) (filter (λ e. not (e.port == x.port)) entries)) < suc (length entries)
    by true here = omega (arith, filtered x.port entries)
    by false here = absurd (cc (here))

pub none_first : (entries : List MacEntry) → slice_get entries 0 ≡ None → entries ≡ []
none_first [] is = refl
none_first (x ∷ entries) is = absurd (cc (is))

-- so many of the same, and one more
pub one_more : {X : Type 0} (items now : List X) (n : ℕ) (x : X) → items ≡ replicate n x → now ≡ items ++ x ∷ [] → now ≡ replicate (n + 1) x
one_more items now n x so_far pushed = pushed ∙ (ap (λ l. l ++ x ∷ []) so_far ∙ more n) where
  more : (n : ℕ) → replicate n x ++ x ∷ [] ≡ replicate (n + 1) x
  more zero = refl
  more (suc n) = let next : suc n + 1 ≡ suc (n + 1) = omega arith in rw next (ap (λ l. x ∷ l) (more n))
