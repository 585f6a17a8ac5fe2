-- The kept numbers as they are stored: an order of them is no part of what is kept.
use Rattle.std.proofs.Common.{◌≡◌, ◌<◌, ◌≤◌, ◌+◌, ◌++◌, ◌∙◌, ◌==◌, ℕ, suc, Bool, true, false, not, nat_lt, ◌||◌, List, [], ◌∷◌, Option, Some, None, length, cond, get_or, map, take, refl, ap, sym, subst, inl, inr, arith, true≢false}
use Rattle.std.specs.Prelude.{◌↔◌, IfSome, IsSome, filter, option_map, is_some}
use Rattle.std.specs.List.{All, AllByRecursion, find, list_any, sum_by}
use Rattle.std.specs.List.Sorted.{IsPermutation}
use Rattle.std.specs.BinaryHeap.{IsHeap, IsUpperBound}
use Rattle.std.specs.Ordering.{nat_cmp, is_lt}
use Rattle.std.specs.declared.cmp.Reverse.{Reverse}
use Rattle.std.proofs.lemmas.Bool.{cases_Bool, lt-ltb}
use Rattle.std.proofs.lemmas.Bool.Decides.{nat_tests}
use Rattle.std.proofs.lemmas.List.{append_assoc, append-nil, length-append, map-append, take_more}
use Rattle.std.proofs.lemmas.List.Elements.{All-cons, All-head, All-nil, All-tail, All-weaker, filter-append}
use Rattle.std.proofs.lemmas.List.Sorted.{All-permutation, IsPermutation-append_comm, IsPermutation-append_left, IsPermutation-append_right, IsPermutation-cons, IsPermutation-filter_both, IsPermutation-map, IsPermutation-middle, IsPermutation-push_more, IsPermutation-refl, IsPermutation-sym, IsPermutation-trans, length_permutation, list_any-IsPermutation, sum_by-IsPermutation}
use Rattle.std.proofs.lemmas.List.Sums.{sum_by-cons}
use Rattle.net_base.specs.declared.plan.places.EdgeId.{EdgeId}
use Rattle.net_values.specs.Label.{IsLabel}
use Rattle.net_values.proofs.BoolLemmas.{not_not}
use Rattle.net_values.proofs.NumberLemmas.{same_number, less_apart, above_apart}
use Rattle.label_space.specs.declared.kept.Kept.{Kept}
use Rattle.label_space.specs.declared.kept.KeptState.{KeptState}
use Rattle.label_space.specs.declared.kept.KeptState.TheVariants.{Waits, Rests, Free}
use Rattle.label_space.specs.Kept.{AreRisingBy, is_free, is_free_state, kept_at, keeps, label_of, least_free, met, met_one, met_state, most_kept, put_by, put_in, rest_ticks, rests, rests_state, ticked, ticked_one, ticked_state, waiting, without}
use Rattle.label_space.specs.Stored.{IsHeldKept, freed_number, in_order, kept_of, stored, waits, waits_state}
use Rattle.label_space.proofs.KeptLemmas.{apart_all, long_map}
use Rattle.label_space.proofs.OrderLemmas.{all_put, long_put, map_put, rising_filtered, rising_map, rising_put, unlike_below}

-- ---- no number twice

-- 1 where it has the number
abbrev has : ℕ → Kept → ℕ
has label k = cond (k.label == label) 1 0

apart_none : (label : ℕ) (ks : List Kept) → sum_by (has label) ks ≡ 0 → AllByRecursion (λ k. (k.label == label) ≡ false) ks
apart_none label [] none = tt
apart_none label (k ∷ ks) none = elim (cases_Bool (k.label == label)) [
  | inl here ↦ (let one : has label k ≡ 1 = rw here refl in absurd (omega (arith, one, none, sum_by-cons (has label) k ks)))
  | inr other ↦ (other, apart_none label ks (omega (arith, none, sum_by-cons (has label) k ks)))
]

none_below : (label from : ℕ) (ks : List Kept) → label < from → AreRisingBy label_of from ks → sum_by (has label) ks ≡ 0
none_below label from [] less rising = refl
none_below label from (k ∷ ks) less rising =
    let other : has label k ≡ 0 = rw (above_apart label k.label (omega (arith, less, rising.0))) refl in
    omega (arith, other, sum_by-cons (has label) k ks, none_below label (k.label + 1) ks (omega (arith, less, rising.0)) rising.1)

once : (label from : ℕ) (ks : List Kept) → AreRisingBy label_of from ks → sum_by (has label) ks ≤ 1
once label from [] rising = omega arith
once label from (k ∷ ks) rising = elim (cases_Bool (k.label == label)) [
  | inl here ↦
      (let one : has label k ≡ 1 = rw here refl in
      omega (arith, one, sum_by-cons (has label) k ks, none_below label (k.label + 1) ks (less k.label label here) rising.1))
  | inr other ↦
      (let none : has label k ≡ 0 = rw other refl in
      omega (arith, none, sum_by-cons (has label) k ks, once label (k.label + 1) ks rising.1))
]
  where
    less : (a b : ℕ) → (a == b) ≡ true → b < a + 1
    less a b equal = grind (arith, nat_tests)

-- ---- each at its place

pub all_in_order : (P : Kept → Type 0) (ks : List Kept) → AllByRecursion P ks → AllByRecursion P (in_order ks)
all_in_order P [] all = tt
all_in_order P (k ∷ ks) all = all_put label_of P k (in_order ks) all.0 (all_in_order P ks all.1)

pub long_in_order : (ks : List Kept) → length (in_order ks) ≡ length ks
long_in_order [] = refl
long_in_order (k ∷ ks) = long_put label_of k (in_order ks) ∙ omega (arith, long_in_order ks)

pub map_in_order : (f : Kept → Kept) (keep : (k : Kept) → label_of (f k) ≡ label_of k) (ks : List Kept) → map f (in_order ks) ≡ in_order (map f ks)
map_in_order f keep [] = refl
map_in_order f keep (k ∷ ks) = map_put label_of f keep k (in_order ks) ∙ ap (λ (l : List Kept). put_in (f k) l) (map_in_order f keep ks)

rising_in_order : (ks : List Kept) → ((label : ℕ) → sum_by (has label) ks ≤ 1) → AreRisingBy label_of 0 (in_order ks)
rising_in_order [] one = tt
rising_in_order (k ∷ ks) one =
    let here : has k.label k ≡ 1 = rw (same_number k.label) refl in
    rising_put label_of k 0 (in_order ks)
    (all_in_order (λ o. (o.label == k.label) ≡ false) ks (apart_none k.label ks (omega (arith, here, one k.label, sum_by-cons (has k.label) k ks))))
    (omega arith)
    (rising_in_order ks (λ label. omega (arith, one label, sum_by-cons (has label) k ks)))

put_moves : (k : Kept) (ks : List Kept) → IsPermutation (k ∷ ks) (put_in k ks)
put_moves k [] = IsPermutation-refl (k ∷ [])
put_moves k (x ∷ xs) = elim (nat_lt x.label k.label) as (λ v. IsPermutation (k ∷ x ∷ xs) (cond v (x ∷ put_by label_of k xs) (k ∷ x ∷ xs))) [
  | true ↦ IsPermutation-trans (k ∷ x ∷ xs) (x ∷ k ∷ xs) (x ∷ put_by label_of k xs) (IsPermutation-middle (k ∷ []) x xs) (IsPermutation-cons x (k ∷ xs) (put_by label_of k xs) (put_moves k xs))
  | false ↦ IsPermutation-refl (k ∷ x ∷ xs)
]

order_moves : (ks : List Kept) → IsPermutation ks (in_order ks)
order_moves [] = IsPermutation-refl []
order_moves (k ∷ ks) = IsPermutation-trans (k ∷ ks) (k ∷ in_order ks) (put_in k (in_order ks)) (IsPermutation-cons k ks (in_order ks) (order_moves ks)) (put_moves k (in_order ks))

-- ---- two lists that rise, of the same numbers, are one

least_all : (from : ℕ) (ks : List Kept) → AreRisingBy label_of from ks → All (λ k. from ≤ k.label) ks
least_all from [] rising = All-nil (λ k. from ≤ k.label)
least_all from (x ∷ xs) rising =
    All-cons (λ k. from ≤ k.label) x xs rising.0
    (All-weaker (λ k. x.label + 1 ≤ k.label) (λ k. from ≤ k.label) (λ k more. omega (arith, more, rising.0)) xs (least_all (x.label + 1) xs rising.1))

rest_all : (x y : Kept) (xs ys : List Kept) → ((P : Kept → Type 0) → All P (x ∷ xs) → All P (y ∷ ys)) → x.label ≡ y.label → AreRisingBy label_of (y.label + 1) ys → (P : Kept → Type 0)
    → All P xs → All P ys
rest_all x y xs ys there is rising P all =
    let past : All (λ k. x.label < k.label → P k) ys =
    All-tail (λ k. x.label < k.label → P k) y ys
    (there (λ k. x.label < k.label → P k)
    (All-cons (λ k. x.label < k.label → P k) x xs (λ less. absurd (omega (arith, less))) (All-weaker P (λ k. x.label < k.label → P k) (λ k p less. p) xs all))) in
    let least : All (λ k. y.label + 1 ≤ k.label) ys = least_all (y.label + 1) ys rising in
    λ i d within. past i d within (omega (arith, least i d within, is))

rising_same : (from to : ℕ) (xs ys : List Kept) → ((P : Kept → Type 0) → All P xs → All P ys) → ((P : Kept → Type 0) → All P ys → All P xs) → AreRisingBy label_of from xs
    → AreRisingBy label_of to ys → xs ≡ ys
rising_same from to [] [] there back first second = refl
rising_same from to [] (y ∷ ys) there back first second = absurd (All-head (λ k. ⊥) y ys (there (λ k. ⊥) (All-nil (λ k. ⊥))))
rising_same from to (x ∷ xs) [] there back first second = absurd (All-head (λ k. ⊥) x xs (back (λ k. ⊥) (All-nil (λ k. ⊥))))
rising_same from to (x ∷ xs) (y ∷ ys) there back first second =
    let low : x.label ≤ y.label = All-head (λ k. x.label ≤ k.label) y ys (there (λ k. x.label ≤ k.label) (least_from x xs first.1)) in
    let high : y.label ≤ x.label = All-head (λ k. y.label ≤ k.label) x xs (back (λ k. y.label ≤ k.label) (least_from y ys second.1)) in
    let level : x.label ≡ y.label = omega (arith, low, high) in
    let head : y ≡ x =
    All-head (λ k. k.label ≡ x.label → k ≡ x) y ys
    (there (λ k. k.label ≡ x.label → k ≡ x)
    (All-cons (λ k. k.label ≡ x.label → k ≡ x) x xs (λ is. refl)
    (All-weaker (λ k. x.label + 1 ≤ k.label) (λ k. k.label ≡ x.label → k ≡ x) (λ k more is. absurd (omega (arith, more, is))) xs (least_all (x.label + 1) xs first.1)))) (sym level) in
    let rest : xs ≡ ys = rising_same (x.label + 1) (y.label + 1) xs ys (rest_all x y xs ys there level second.1) (rest_all y x ys xs back (sym level) first.1) first.1 second.1 in
    ap (λ (k : Kept). k ∷ xs) (sym head) ∙ ap (λ (l : List Kept). y ∷ l) rest
  where
    least_from : (x : Kept) (xs : List Kept) → AreRisingBy label_of (x.label + 1) xs → All (λ k. x.label ≤ k.label) (x ∷ xs)
    least_from x xs rising = All-cons (λ k. x.label ≤ k.label) x xs (omega arith)
        (All-weaker (λ k. x.label + 1 ≤ k.label) (λ k. x.label ≤ k.label) (λ k more. omega (arith, more)) xs (least_all (x.label + 1) xs rising))

-- in whatever order they are stored
pub same_kept : (ks ls : List Kept) → AreRisingBy label_of 0 (in_order ks) → IsPermutation ks ls → in_order ls ≡ in_order ks
same_kept ks ls rising moved =
    let back : IsPermutation (in_order ls) (in_order ks) =
    IsPermutation-trans (in_order ls) ls (in_order ks) (IsPermutation-sym ls (in_order ls) (order_moves ls))
    (IsPermutation-trans ls ks (in_order ks) (IsPermutation-sym ks ls moved) (order_moves ks)) in
    let rises : AreRisingBy label_of 0 (in_order ls) =
    rising_in_order ls (λ label. omega (arith, once label 0 (in_order ks) rising, sum_by-IsPermutation (has label) ks (in_order ks) (order_moves ks), sum_by-IsPermutation (has label) ks ls moved)) in
    rising_same 0 0 (in_order ls) (in_order ks) (λ P. All-permutation P (in_order ls) (in_order ks) back)
    (λ P. All-permutation P (in_order ks) (in_order ls) (IsPermutation-sym (in_order ls) (in_order ks) back)) rises rising

-- ---- one more waits

all_append : (P : Kept → Type 0) (xs ys : List Kept) → AllByRecursion P xs → AllByRecursion P ys → AllByRecursion P (xs ++ ys)
all_append P [] ys first second = second
all_append P (x ∷ xs) ys first second = (first.0, all_append P xs ys first.1 second)

rising_more : (new : Kept) (ks : List Kept) → kept_at new.label (in_order ks) ≡ None → AreRisingBy label_of 0 (in_order ks) → AreRisingBy label_of 0 (put_in new (in_order ks))
rising_more new ks none rising = rising_put label_of new 0 (in_order ks) (apart_all new.label (in_order ks) none) (omega arith) rising

one_moves : (new : Kept) (ws ks : List Kept) → IsPermutation (new ∷ (ws ++ ks)) ((ws ++ new ∷ []) ++ ks)
one_moves new ws ks = subst (λ (l : List Kept). IsPermutation (new ∷ (ws ++ ks)) l) (sym (append_assoc ws (new ∷ []) ks))
    (IsPermutation-sym (ws ++ new ∷ ks) (new ∷ (ws ++ ks)) (IsPermutation-middle ws new ks))

pub one_more : (new : Kept) (ws rs : List Kept) (fs : List (Reverse ℕ)) → kept_at new.label (kept_of ws rs fs) ≡ None → AreRisingBy label_of 0 (kept_of ws rs fs)
    → kept_of (ws ++ new ∷ []) rs fs ≡ put_in new (kept_of ws rs fs)
one_more new ws rs fs none rising =
    same_kept (new ∷ stored ws rs fs) (stored (ws ++ new ∷ []) rs fs) (rising_more new (stored ws rs fs) none rising) (one_moves new ws (rs ++ map freed_number fs))

-- ---- each changed, and some moved

both_ways : (p : Kept → Bool) (ks : List Kept) → IsPermutation ks (filter (λ k. not (p k)) ks ++ filter p ks)
both_ways p ks = IsPermutation-filter_both (λ k. not (p k)) p (λ k. not_not (p k)) ks

-- those that pass stand behind the others of another list
some_move : (p : Kept → Bool) (ws rs fs : List Kept) → IsPermutation (ws ++ (rs ++ fs)) (filter (λ k. not (p k)) ws ++ ((rs ++ filter p ws) ++ fs))
some_move p ws rs fs =
    let stay : List Kept = filter (λ k. not (p k)) ws in
    let go : List Kept = filter p ws in
    let parted : IsPermutation (ws ++ (rs ++ fs)) ((stay ++ go) ++ (rs ++ fs)) = IsPermutation-append_left (rs ++ fs) ws (stay ++ go) (both_ways p ws) in
    let behind : IsPermutation (go ++ (rs ++ fs)) ((rs ++ go) ++ fs) =
    subst (λ (l : List Kept). IsPermutation l ((rs ++ go) ++ fs)) (append_assoc go rs fs) (IsPermutation-append_left fs (go ++ rs) (rs ++ go) (IsPermutation-append_comm go rs)) in
    IsPermutation-trans (ws ++ (rs ++ fs)) ((stay ++ go) ++ (rs ++ fs)) (stay ++ ((rs ++ go) ++ fs)) parted
    (subst (λ (l : List Kept). IsPermutation l (stay ++ ((rs ++ go) ++ fs))) (sym (append_assoc stay go (rs ++ fs))) (IsPermutation-append_right stay (go ++ (rs ++ fs)) ((rs ++ go) ++ fs) behind))

-- a connection lets only what waits rest
met_rests : (peer : EdgeId) (ks : List Kept) → AllByRecursion (λ k. rests k ≡ true) ks → met peer ks ≡ ks
met_rests peer [] rest = refl
met_rests peer (k ∷ ks) rest = ap (λ (s : KeptState). record { label = k.label; state = s } ∷ met peer ks) (by k.state rest.0) ∙ ap (λ (l : List Kept). k ∷ l) (met_rests peer ks rest.1) where
  by : (s : KeptState) → rests_state s ≡ true → met_state peer s ≡ s
  by (Waits other) is = absurd (true≢false (sym is))
  by (Rests ticks) is = refl
  by Free is = refl

met_free : (peer : EdgeId) (fs : List (Reverse ℕ)) → met peer (map freed_number fs) ≡ map freed_number fs
met_free peer [] = refl
met_free peer (n ∷ ns) = ap (λ (l : List Kept). freed_number n ∷ l) (met_free peer ns)

pub met_kept : (peer : EdgeId) (ws rs : List Kept) (fs : List (Reverse ℕ)) → AllByRecursion (λ k. rests k ≡ true) rs → AreRisingBy label_of 0 (kept_of ws rs fs)
    → kept_of (filter (λ k. not (rests k)) (met peer ws)) (rs ++ filter rests (met peer ws)) fs ≡ met peer (kept_of ws rs fs)
met_kept peer ws rs fs rest rising =
    let each : met peer (stored ws rs fs) ≡ stored (met peer ws) rs fs =
    map-append (met_one peer) ws (rs ++ map freed_number fs)
    ∙ ap (λ (l : List Kept). met peer ws ++ l) (map-append (met_one peer) rs (map freed_number fs)
    ∙ ap (λ (l : List Kept). l ++ met peer (map freed_number fs)) (met_rests peer rs rest) ∙ ap (λ (l : List Kept). rs ++ l) (met_free peer fs)) in
    let whole : met peer (kept_of ws rs fs) ≡ kept_of (met peer ws) rs fs = map_in_order (met_one peer) (λ k. refl) (stored ws rs fs) ∙ ap in_order each in
    let rises : AreRisingBy label_of 0 (kept_of (met peer ws) rs fs) = subst (AreRisingBy label_of 0) whole (rising_map label_of (met_one peer) (λ k. refl) 0 (kept_of ws rs fs) rising) in
    same_kept (stored (met peer ws) rs fs) (stored (filter (λ k. not (rests k)) (met peer ws)) (rs ++ filter rests (met peer ws)) fs) rises
    (some_move rests (met peer ws) rs (map freed_number fs)) ∙ sym whole

pub still_wait : (peer : EdgeId) (ks : List Kept) → AllByRecursion (λ k. waits k ≡ true) ks → AllByRecursion (λ k. waits k ≡ true) (filter (λ k. not (rests k)) (met peer ks))
still_wait peer [] wait = tt
still_wait peer (k ∷ ks) wait = elim (cases_Bool (rests (met_one peer k))) [
  | inl here ↦ rw here (still_wait peer ks wait.1)
  | inr other ↦ rw other (by k.state wait.0 other, still_wait peer ks wait.1)
]
  where
    by : (s : KeptState) → waits_state s ≡ true → rests_state (met_state peer s) ≡ false → waits_state (met_state peer s) ≡ true
    by (Waits k) is other = elim (cases_Bool (k.0 == peer.0)) [
      | inl here ↦ absurd (true≢false (rw here at other))
      | inr unlike ↦ rw unlike refl
    ]
    by (Rests ticks) is other = absurd (true≢false (sym is))
    by Free is other = absurd (true≢false (sym is))

all_pass : (p : Kept → Bool) (ks : List Kept) → AllByRecursion (λ k. p k ≡ true) (filter p ks)
all_pass p [] = tt
all_pass p (k ∷ ks) = elim (cases_Bool (p k)) [
  | inl here ↦ rw here (here, all_pass p ks)
  | inr other ↦ rw other (all_pass p ks)
]

pub more_rest : (rs ks : List Kept) → AllByRecursion (λ k. rests k ≡ true) rs → AllByRecursion (λ k. rests k ≡ true) (rs ++ filter rests ks)
more_rest rs ks rest = all_append (λ k. rests k ≡ true) rs (filter rests ks) rest (all_pass rests ks)

-- a tick lets only what rests do something else
ticked_waits : (ks : List Kept) → AllByRecursion (λ k. waits k ≡ true) ks → ticked ks ≡ ks
ticked_waits [] wait = refl
ticked_waits (k ∷ ks) wait = ap (λ (s : KeptState). record { label = k.label; state = s } ∷ ticked ks) (by k.state wait.0) ∙ ap (λ (l : List Kept). k ∷ l) (ticked_waits ks wait.1) where
  by : (s : KeptState) → waits_state s ≡ true → ticked_state s ≡ s
  by (Waits other) is = refl
  by (Rests ticks) is = absurd (true≢false (sym is))
  by Free is = refl

ticked_free : (fs : List (Reverse ℕ)) → ticked (map freed_number fs) ≡ map freed_number fs
ticked_free [] = refl
ticked_free (n ∷ ns) = ap (λ (l : List Kept). freed_number n ∷ l) (ticked_free ns)

pub ticked_kept : (ws rs : List Kept) (fs gs : List (Reverse ℕ)) → AllByRecursion (λ k. waits k ≡ true) ws → AreRisingBy label_of 0 (kept_of ws rs fs)
    → IsPermutation (map freed_number fs ++ filter is_free (ticked rs)) (map freed_number gs)
    → kept_of ws (filter (λ k. not (is_free k)) (ticked rs)) gs ≡ ticked (kept_of ws rs fs)
ticked_kept ws rs fs gs wait rising freed =
    let each : ticked (stored ws rs fs) ≡ stored ws (ticked rs) fs =
    map-append ticked_one ws (rs ++ map freed_number fs)
    ∙ ap (λ (l : List Kept). l ++ ticked (rs ++ map freed_number fs)) (ticked_waits ws wait)
    ∙ ap (λ (l : List Kept). ws ++ l) (map-append ticked_one rs (map freed_number fs) ∙ ap (λ (l : List Kept). ticked rs ++ l) (ticked_free fs)) in
    let whole : ticked (kept_of ws rs fs) ≡ kept_of ws (ticked rs) fs = map_in_order ticked_one (λ k. refl) (stored ws rs fs) ∙ ap in_order each in
    let rises : AreRisingBy label_of 0 (kept_of ws (ticked rs) fs) = subst (AreRisingBy label_of 0) whole (rising_map label_of ticked_one (λ k. refl) 0 (kept_of ws rs fs) rising) in
    let stay : List Kept = filter (λ k. not (is_free k)) (ticked rs) in
    let go : List Kept = filter is_free (ticked rs) in
    let moved : IsPermutation (ticked rs ++ map freed_number fs) (stay ++ map freed_number gs) =
    IsPermutation-trans (ticked rs ++ map freed_number fs) (stay ++ (map freed_number fs ++ go)) (stay ++ map freed_number gs)
    (subst (λ (l : List Kept). IsPermutation (ticked rs ++ map freed_number fs) (stay ++ l)) (append-nil (map freed_number fs ++ go))
    (subst (λ (l : List Kept). IsPermutation (ticked rs ++ l) (stay ++ ((map freed_number fs ++ go) ++ []))) (append-nil (map freed_number fs))
    (some_move is_free (ticked rs) (map freed_number fs) [])))
    (IsPermutation-append_right stay (map freed_number fs ++ go) (map freed_number gs) freed) in
    same_kept (stored ws (ticked rs) fs) (stored ws stay gs) rises (IsPermutation-append_right ws (ticked rs ++ map freed_number fs) (stay ++ map freed_number gs) moved) ∙ sym whole

pub still_rest : (ks : List Kept) → AllByRecursion (λ k. rests k ≡ true) ks → AllByRecursion (λ k. rests k ≡ true) (filter (λ k. not (is_free k)) (ticked ks))
still_rest [] rest = tt
still_rest (k ∷ ks) rest = elim (cases_Bool (is_free (ticked_one k))) [
  | inl here ↦ rw here (still_rest ks rest.1)
  | inr other ↦ rw other (by k.state rest.0 other, still_rest ks rest.1)
]
  where
    by : (s : KeptState) → rests_state s ≡ true → is_free_state (ticked_state s) ≡ false → rests_state (ticked_state s) ≡ true
    by (Waits peer) is other = absurd (true≢false (sym is))
    by (Rests ticks) is other = elim (cases_Bool (nat_lt (ticks + 1) rest_ticks)) [
      | inl more ↦ rw more refl
      | inr over ↦ absurd (true≢false (rw over at other))
    ]
    by Free is other = absurd (true≢false (sym is))

-- ---- the least that is free

-- what waits or rests is not free
unfree_waits : (ks : List Kept) → AllByRecursion (λ k. waits k ≡ true) ks → AllByRecursion (λ k. is_free k ≡ false) ks
unfree_waits [] wait = tt
unfree_waits (k ∷ ks) wait = (by k.state wait.0, unfree_waits ks wait.1) where
  by : (s : KeptState) → waits_state s ≡ true → is_free_state s ≡ false
  by (Waits peer) is = refl
  by (Rests ticks) is = refl
  by Free is = absurd (true≢false (sym is))

unfree_rests : (ks : List Kept) → AllByRecursion (λ k. rests k ≡ true) ks → AllByRecursion (λ k. is_free k ≡ false) ks
unfree_rests [] rest = tt
unfree_rests (k ∷ ks) rest = (by k.state rest.0, unfree_rests ks rest.1) where
  by : (s : KeptState) → rests_state s ≡ true → is_free_state s ≡ false
  by (Waits peer) is = refl
  by (Rests ticks) is = refl
  by Free is = absurd (true≢false (sym is))

-- none is less than this one among those that are free
abbrev IsAbove : ℕ → Kept → Type 0
IsAbove label k = is_free k ≡ true → label ≤ k.label

unfree_above : (label : ℕ) (ks : List Kept) → AllByRecursion (λ k. is_free k ≡ false) ks → AllByRecursion (IsAbove label) ks
unfree_above label [] none = tt
unfree_above label (k ∷ ks) none = ((λ free. absurd (true≢false (sym free ∙ none.0))), unfree_above label ks none.1)

free_above : (n : Reverse ℕ) (ns : List (Reverse ℕ)) → IsUpperBound (λ x y. nat_cmp y.0 x.0) n ns → AllByRecursion (IsAbove n.0) (map freed_number ns)
free_above n [] bound = tt
free_above n (m ∷ ms) bound = ((λ free. least n.0 m.0 bound.0), free_above n ms bound.1) where
  least : (a b : ℕ) → is_lt (nat_cmp b a) ≡ false → a ≤ b
  least a b other = elim (cases_Bool (nat_lt b a)) [
    | inl less ↦ absurd (true≢false (rw less at other))
    | inr behind ↦ not_less a b behind
  ]
    where
      not_less : (a b : ℕ) → nat_lt b a ≡ false → a ≤ b
      not_less a b behind = grind (arith, nat_tests)

find_first : (n : Reverse ℕ) (ks : List Kept) → AllByRecursion (IsAbove n.0) ks → find is_free (put_in (freed_number n) ks) ≡ Some (freed_number n)
find_first n [] above = refl
find_first n (k ∷ ks) above = elim (cases_Bool (nat_lt k.label n.0)) [
  | inl less ↦ rw (less, unfree k.label n.0 (is_free k) less above.0) (find_first n ks above.1)
  | inr behind ↦ rw behind refl
]
  where
    unfree : (a b : ℕ) (free : Bool) → nat_lt a b ≡ true → (free ≡ true → b ≤ a) → free ≡ false
    unfree a b true less above = absurd (clash a b less (above refl)) where
      clash : (a b : ℕ) → nat_lt a b ≡ true → b ≤ a → ⊥
      clash a b less least = grind (arith, nat_tests)
    unfree a b false less above = refl

find_none : (ks : List Kept) → AllByRecursion (λ k. is_free k ≡ false) ks → find is_free ks ≡ None
find_none [] none = refl
find_none (k ∷ ks) none = rw none.0 (find_none ks none.1)

-- all of them once the top is taken
pub top_taken : (n : Reverse ℕ) (ws rs : List Kept) (fs gs : List (Reverse ℕ)) → AreRisingBy label_of 0 (kept_of ws rs fs) → IsPermutation fs (n ∷ gs)
    → put_in (freed_number n) (kept_of ws rs gs) ≡ kept_of ws rs fs
top_taken n ws rs fs gs rising popped =
    let freed : IsPermutation (map freed_number fs) (freed_number n ∷ map freed_number gs) = IsPermutation-map freed_number fs (n ∷ gs) popped in
    let behind : IsPermutation ((ws ++ rs) ++ map freed_number fs) ((ws ++ rs) ++ freed_number n ∷ map freed_number gs) =
    IsPermutation-append_right (ws ++ rs) (map freed_number fs) (freed_number n ∷ map freed_number gs) freed in
    let before : IsPermutation ((ws ++ rs) ++ map freed_number fs) (freed_number n ∷ ((ws ++ rs) ++ map freed_number gs)) =
    IsPermutation-trans ((ws ++ rs) ++ map freed_number fs) ((ws ++ rs) ++ freed_number n ∷ map freed_number gs) (freed_number n ∷ ((ws ++ rs) ++ map freed_number gs)) behind
    (IsPermutation-middle (ws ++ rs) (freed_number n) (map freed_number gs)) in
    same_kept (stored ws rs fs) (freed_number n ∷ stored ws rs gs) rising (rw (sym (append_assoc ws rs (map freed_number fs)), sym (append_assoc ws rs (map freed_number gs))) before)

pub least_top : (n : Reverse ℕ) (ws rs : List Kept) (gs : List (Reverse ℕ)) → AllByRecursion (λ k. waits k ≡ true) ws → AllByRecursion (λ k. rests k ≡ true) rs
    → IsUpperBound (λ x y. nat_cmp y.0 x.0) n gs
    → least_free (put_in (freed_number n) (kept_of ws rs gs)) ≡ Some n.0
least_top n ws rs gs wait rest bound =
    ap (option_map label_of) (find_first n (kept_of ws rs gs) (all_in_order (IsAbove n.0) (stored ws rs gs)
    (all_append (IsAbove n.0) ws (rs ++ map freed_number gs) (unfree_above n.0 ws (unfree_waits ws wait))
    (all_append (IsAbove n.0) rs (map freed_number gs) (unfree_above n.0 rs (unfree_rests rs rest)) (free_above n gs bound)))))

pub least_none : (ws rs : List Kept) → AllByRecursion (λ k. waits k ≡ true) ws → AllByRecursion (λ k. rests k ≡ true) rs → least_free (kept_of ws rs []) ≡ None
least_none ws rs wait rest =
    ap (option_map label_of) (find_none (kept_of ws rs []) (all_in_order (λ k. is_free k ≡ false) (stored ws rs [])
    (all_append (λ k. is_free k ≡ false) ws (rs ++ []) (unfree_waits ws wait) (all_append (λ k. is_free k ≡ false) rs [] (unfree_rests rs rest) tt))))

-- it stands for itself once, and is kept no longer
pub without_put : (k : Kept) (ks : List Kept) (from : ℕ) → AreRisingBy label_of from (put_in k ks) → without k.label (put_in k ks) ≡ ks
without_put k [] from rising = rw (same_number k.label) refl
without_put k (x ∷ xs) from rising = elim (cases_Bool (nat_lt x.label k.label)) [
  | inl less ↦
      (let both : AreRisingBy label_of from (x ∷ put_in k xs) = rw less at rising in
      rw (less, less_apart x.label k.label less) (ap (λ (l : List Kept). x ∷ l) (without_put k xs (x.label + 1) both.1)))
  | inr behind ↦
      (let both : AreRisingBy label_of from (k ∷ x ∷ xs) = rw behind at rising in
      rw (behind, same_number k.label) (unlike_below label_of (k.label + 1) k.label (x ∷ xs) (omega arith) both.1))
]

pub kept_here : (k : Kept) (ks : List Kept) → kept_at k.label (put_in k ks) ≡ Some k.state
kept_here k [] = rw (same_number k.label) refl
kept_here k (x ∷ xs) = elim (cases_Bool (nat_lt x.label k.label)) [
  | inl less ↦ rw (less, less_apart x.label k.label less) (kept_here k xs)
  | inr behind ↦ rw (behind, same_number k.label) refl
]

pub rising_before : (k : Kept) (ks : List Kept) → AreRisingBy label_of 0 (put_in k ks) → AreRisingBy label_of 0 ks
rising_before k ks rising = subst (AreRisingBy label_of 0) (without_put k ks 0 rising) (rising_filtered label_of (λ o. not (o.label == k.label)) 0 (put_in k ks) rising)

-- ---- what always holds, after the calls

long_numbers : (ns : List (Reverse ℕ)) → length (map freed_number ns) ≡ length ns
long_numbers [] = refl
long_numbers (n ∷ ns) = ap suc (long_numbers ns)

pub long_kept : (ws rs : List Kept) (fs : List (Reverse ℕ)) → length (kept_of ws rs fs) ≡ length ws + (length rs + length fs)
long_kept ws rs fs = omega (arith, long_in_order (stored ws rs fs), length-append ws (rs ++ map freed_number fs), length-append rs (map freed_number fs), long_numbers fs)

pub held_more : (new : Kept) (a now b c : ℕ) (ws vs rs : List Kept) (fs : List (Reverse ℕ)) → IsHeldKept a b c ws rs fs → kept_at new.label (kept_of ws rs fs) ≡ None → waits new ≡ true
    → length (kept_of ws rs fs) < most_kept → vs ≡ ws ++ new ∷ [] → now ≡ a
    → IsHeldKept now b c vs rs fs
held_more new a now b c ws vs rs fs held none wait more is room =
    let whole : kept_of vs rs fs ≡ put_in new (kept_of ws rs fs) = ap (λ (l : List Kept). kept_of l rs fs) is ∙ one_more new ws rs fs none held.rising in
    record {
      few = omega (arith, more, long_kept vs rs fs, ap length whole, long_put label_of new (kept_of ws rs fs));
      may_wait = omega (arith, held.may_wait, room);
      may_rest = held.may_rest;
      may_be_free = held.may_be_free;
      rising = subst (AreRisingBy label_of 0) (sym whole) (rising_more new (stored ws rs fs) none held.rising);
      wait = subst (AllByRecursion (λ k. waits k ≡ true)) (sym is) (all_append (λ k. waits k ≡ true) ws (new ∷ []) held.wait (wait, tt));
      rest = held.rest;
      labels = held.labels;
      least_on_top = held.least_on_top;
    }

pub held_met : (peer : EdgeId) (a now b more c : ℕ) (ws vs rs ss : List Kept) (fs : List (Reverse ℕ)) → IsHeldKept a b c ws rs fs → vs ≡ filter (λ k. not (rests k)) (met peer ws) → ss
    ≡ rs ++ filter rests (met peer ws) → now ≡ a → more ≡ b
    → IsHeldKept now more c vs ss fs
held_met peer a now b more c ws vs rs ss fs held is also same_room room =
    let whole : kept_of vs ss fs ≡ met peer (kept_of ws rs fs) = rw (is, also) (met_kept peer ws rs fs held.rest held.rising) in
    record {
      few = omega (arith, held.few, long_kept vs ss fs, long_kept ws rs fs, ap length whole, long_map (met_one peer) (kept_of ws rs fs));
      may_wait = omega (arith, held.may_wait, same_room);
      may_rest = omega (arith, held.may_rest, room);
      may_be_free = held.may_be_free;
      rising = subst (AreRisingBy label_of 0) (sym whole) (rising_map label_of (met_one peer) (λ k. refl) 0 (kept_of ws rs fs) held.rising);
      wait = subst (AllByRecursion (λ k. waits k ≡ true)) (sym is) (still_wait peer ws held.wait);
      rest = subst (AllByRecursion (λ k. rests k ≡ true)) (sym also) (more_rest rs (met peer ws) held.rest);
      labels = held.labels;
      least_on_top = held.least_on_top;
    }

pub held_ticked : (a b now c more : ℕ) (ws rs ss : List Kept) (fs gs : List (Reverse ℕ)) → IsHeldKept a b c ws rs fs → ss ≡ filter (λ k. not (is_free k)) (ticked rs)
    → IsPermutation (map freed_number fs ++ filter is_free (ticked rs)) (map freed_number gs)
    → All (λ n. IsLabel n.0) gs → IsHeap (λ x y. nat_cmp y.0 x.0) gs → now ≡ b → c ≤ more → IsHeldKept a now more ws ss gs
held_ticked a b now c more ws rs ss fs gs held is freed labels top same_room room =
    let whole : kept_of ws ss gs ≡ ticked (kept_of ws rs fs) = rw is (ticked_kept ws rs fs gs held.wait held.rising freed) in
    record {
      few = omega (arith, held.few, long_kept ws ss gs, long_kept ws rs fs, ap length whole, long_map ticked_one (kept_of ws rs fs));
      may_wait = held.may_wait;
      may_rest = omega (arith, held.may_rest, same_room);
      may_be_free = omega (arith, held.may_be_free, room);
      rising = subst (AreRisingBy label_of 0) (sym whole) (rising_map label_of ticked_one (λ k. refl) 0 (kept_of ws rs fs) held.rising);
      wait = held.wait;
      rest = subst (AllByRecursion (λ k. rests k ≡ true)) (sym is) (still_rest rs held.rest);
      labels = labels;
      least_on_top = top;
    }

pub held_popped : (n : Reverse ℕ) (a b c now : ℕ) (ws rs : List Kept) (fs gs : List (Reverse ℕ)) → IsHeldKept a b c ws rs fs → IsPermutation fs (n ∷ gs)
    → IsHeap (λ x y. nat_cmp y.0 x.0) gs → now ≡ c → IsHeldKept a b now ws rs gs
held_popped n a b c now ws rs fs gs held popped top same_room = record {
  few = omega (arith, held.few, length_permutation fs (n ∷ gs) popped);
  may_wait = held.may_wait;
  may_rest = held.may_rest;
  may_be_free = omega (arith, held.may_be_free, same_room);
  rising = rising_before (freed_number n) (kept_of ws rs gs) (subst (AreRisingBy label_of 0) (sym (top_taken n ws rs fs gs held.rising popped)) held.rising);
  wait = held.wait;
  rest = held.rest;
  labels = All-tail (λ m. IsLabel m.0) n gs (All-permutation (λ m. IsLabel m.0) fs (n ∷ gs) popped held.labels);
  least_on_top = top;
}

-- ---- the calls

-- the top is the least, it was free, and the others are kept
pub record IsTaken (label : ℕ) (kept now : List Kept) : Type 0 where
  pub least : least_free kept ≡ Some label
  pub rest : now ≡ without label kept
  pub free : kept_at label kept ≡ Some Free

pub taken : (n : Reverse ℕ) (a b c : ℕ) (ws rs : List Kept) (fs gs : List (Reverse ℕ)) → IsHeldKept a b c ws rs fs → IsPermutation fs (n ∷ gs)
    → IsUpperBound (λ x y. nat_cmp y.0 x.0) n gs → IsTaken n.0 (kept_of ws rs fs) (kept_of ws rs gs)
taken n a b c ws rs fs gs held popped bound =
    let whole : put_in (freed_number n) (kept_of ws rs gs) ≡ kept_of ws rs fs = top_taken n ws rs fs gs held.rising popped in
    let rising : AreRisingBy label_of 0 (put_in (freed_number n) (kept_of ws rs gs)) = subst (AreRisingBy label_of 0) (sym whole) held.rising in
    subst (λ (l : List Kept). IsTaken n.0 l (kept_of ws rs gs)) whole (record {
      least = least_top n ws rs gs held.wait held.rest bound;
      rest = sym (without_put (freed_number n) (kept_of ws rs gs) 0 rising);
      free = kept_here (freed_number n) (kept_of ws rs gs);
    })

pub unwaited : (ws rs : List Kept) (fs : List (Reverse ℕ)) → AllByRecursion (λ k. waits k ≡ true) ws → AllByRecursion (λ k. rests k ≡ true) rs → length fs ≡ 0 → least_free (kept_of ws rs fs) ≡ None
unwaited ws rs [] wait rest none = least_none ws rs wait rest
unwaited ws rs (f ∷ fs) wait rest none = absurd (omega (arith, none))

-- a number stands on the heap exactly where one is free
pub free_here : (ws rs : List Kept) (fs : List (Reverse ℕ)) → AllByRecursion (λ k. waits k ≡ true) ws → AllByRecursion (λ k. rests k ≡ true) rs
    → is_some (least_free (kept_of ws rs fs)) ≡ not (length fs == 0)
free_here ws rs fs wait rest = has_free (kept_of ws rs fs) ∙ any_order (stored ws rs fs) ∙ any_before ws (rs ++ map freed_number fs) (unfree_waits ws wait) ∙ any_before rs (map freed_number fs) (unfree_rests rs rest) ∙ any_number fs where
  has_free : (ks : List Kept) → is_some (least_free ks) ≡ list_any is_free ks
  has_free [] = refl
  has_free (k ∷ ks) = elim (is_free k) as (λ v. is_some (option_map label_of (cond v (Some k) (find is_free ks))) ≡ (v || list_any is_free ks)) [
    | true ↦ refl
    | false ↦ has_free ks
  ]

  any_order : (ks : List Kept) → list_any is_free (in_order ks) ≡ list_any is_free ks
  any_order ks = list_any-IsPermutation is_free (in_order ks) ks (IsPermutation-sym ks (in_order ks) (order_moves ks))

  any_before : (ks ls : List Kept) → AllByRecursion (λ k. is_free k ≡ false) ks → list_any is_free (ks ++ ls) ≡ list_any is_free ls
  any_before [] ls none = refl
  any_before (k ∷ ks) ls none = rw none.0 (any_before ks ls none.1)

  any_number : (ns : List (Reverse ℕ)) → list_any is_free (map freed_number ns) ≡ not (length ns == 0)
  any_number [] = refl
  any_number (n ∷ ns) = rw (above_apart 0 (suc (length ns)) (omega arith)) refl

-- ---- the numbers whose rest is over go to the heap, one by one

next_filtered : (ks : List Kept) (i : ℕ) (k : Kept) → i < length ks → k ≡ get_or ks i k → filter is_free (take (i + 1) ks) ≡ filter is_free (take i ks) ++ cond (is_free k) (k ∷ []) []
next_filtered ks i k within is = ap (filter is_free) (take_more ks i k within ∙ ap (λ (x : Kept). take i ks ++ x ∷ []) (sym is)) ∙ filter-append is_free (take i ks) (k ∷ [])

pub freed_more : (old : List Kept) (ks : List Kept) (i : ℕ) (k : Kept) (n : Reverse ℕ) (gs hs : List (Reverse ℕ)) → i < length ks → k ≡ get_or ks i k → is_free k ≡ true → n.0 ≡ k.label
    → IsPermutation (old ++ filter is_free (take i ks)) (map freed_number gs) → IsPermutation (n ∷ gs) hs → IsPermutation (old ++ filter is_free (take (i + 1) ks)) (map freed_number hs)
freed_more old ks i k n gs hs within is free number so_far pushed =
    let one : freed_number n ≡ k = ap (λ (l : ℕ). record { label = l; state = Free }) number ∙ ap (λ (s : KeptState). record { label = k.label; state = s }) (sym (state_free k.state free)) in
    let next : old ++ filter is_free (take (i + 1) ks) ≡ (old ++ filter is_free (take i ks)) ++ k ∷ [] =
    ap (λ (l : List Kept). old ++ l) (next_filtered ks i k within is ∙ rw free refl) ∙ sym (append_assoc old (filter is_free (take i ks)) (k ∷ [])) in
    subst (λ (l : List Kept). IsPermutation l (map freed_number hs)) (sym next)
    (IsPermutation-push_more (old ++ filter is_free (take i ks)) (map freed_number gs) (map freed_number hs) k so_far
    (subst (λ (x : Kept). IsPermutation (x ∷ map freed_number gs) (map freed_number hs)) one (IsPermutation-map freed_number (n ∷ gs) hs pushed)))
  where
    state_free : (s : KeptState) → is_free_state s ≡ true → s ≡ Free
    state_free (Waits peer) is = absurd (true≢false (sym is))
    state_free (Rests ticks) is = absurd (true≢false (sym is))
    state_free Free is = refl

pub freed_same : (old : List Kept) (ks : List Kept) (i : ℕ) (k : Kept) (gs : List (Reverse ℕ)) → i < length ks → k ≡ get_or ks i k → is_free k ≡ false
    → IsPermutation (old ++ filter is_free (take i ks)) (map freed_number gs) → IsPermutation (old ++ filter is_free (take (i + 1) ks)) (map freed_number gs)
freed_same old ks i k gs within is other so_far =
    let next : filter is_free (take (i + 1) ks) ≡ filter is_free (take i ks) = next_filtered ks i k within is ∙ rw other (append-nil (filter is_free (take i ks))) in
    subst (λ (l : List Kept). IsPermutation (old ++ l) (map freed_number gs)) (sym next) so_far

-- one more is kept, as there is room
pub kept_more : (label : ℕ) (peer : EdgeId) (ws vs rs : List Kept) (fs : List (Reverse ℕ)) (kept : List Kept) → AreRisingBy label_of 0 (kept_of ws rs fs) → vs
    ≡ ws ++ waiting label peer ∷ [] → kept_of ws rs fs ≡ kept → kept_at label kept ≡ None → length kept < most_kept
    → kept_of vs rs fs ≡ keeps label peer kept
kept_more label peer ws vs rs fs kept rising is view none few =
    let room : nat_lt (length kept) most_kept ≡ true = lt-ltb (length kept) most_kept few in
    ap (λ (l : List Kept). kept_of l rs fs) is ∙ one_more (waiting label peer) ws rs fs (ap (kept_at label) view ∙ none) rising
    ∙ ap (λ (l : List Kept). put_in (waiting label peer) l) view ∙ rw room refl

-- what the top is as a label
pub number_of : (n : Reverse ℕ) (fs gs : List (Reverse ℕ)) → IsPermutation fs (n ∷ gs) → All (λ m. IsLabel m.0) fs → IsLabel n.0
number_of n fs gs popped labels = All-head (λ m. IsLabel m.0) n gs (All-permutation (λ m. IsLabel m.0) fs (n ∷ gs) popped labels)

pub label_of_some : (number : ℕ) (r : Option ℕ) → (IsSome r ↔ IsLabel number) → IfSome r (λ label. label ≡ number) → IsLabel number → r ≡ Some number
label_of_some number None both same label = absurd (true≢false (sym (both.1 label)))
label_of_some number (Some l) both same label = ap Some same
