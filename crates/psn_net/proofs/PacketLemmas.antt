-- The packets of a map by number, and of a set by when they were sent.
use Rattle.std.proofs.Common.{◌≡◌, ◌==◌, ◌<◌, ◌≤◌, ◌+◌, ◌-◌, ◌++◌, ◌∷◌, ◌&&◌, ◌∙◌, [], ℕ, Bool, true, false, not, nat_lt, List, Option, Some, None, IfSome, cond, refl, ap, sym, subst, arith, length, option_map, slice_get}
use Rattle.std.proofs.lemmas.Bool.{eqb-true}
use Rattle.std.proofs.lemmas.Bool.Decides.{nat_tests}
use Rattle.std.specs.BTreeMap.{insert_entry, is_at}
use Rattle.std.specs.List.{AllByRecursion, find}
use Rattle.std.specs.List.Sorted.{IsStrictlySortedBy}
use Rattle.std.specs.Map.{keys_of, remove_entry}
use Rattle.std.specs.declared.cmp.Ordering.TheVariants.{Less, Equal, Greater}
use Rattle.std.specs.Ordering.{is_eq, is_gt, nat_cmp, ordering_then}
use Rattle.net_values.proofs.NumberLemmas.{equal_turned, less_apart, below_apart}
use Rattle.network_model.specs.declared.packet.Packet.{Packet}
use Rattle.network_model.specs.State.{all_older, older, without_number}
use Rattle.psn_net.specs.declared.carried.Carried.{Carried}
use Rattle.psn_net.specs.declared.sending.Sending.{Sending}
use Rattle.psn_net.specs.Packets.{ArePacketsKept, IsIndex, UnderWay, has_sending, is_aged, is_numbered, is_since, kept_under, number_of, kept_packet, packets_of, sending_order, with_copy_of, without_aged}

-- ---- by number

pub length_of : (t : ℕ) (es : List (ℕ × Carried)) → length (packets_of t es) ≡ length es
length_of t [] = refl
length_of t (e ∷ es) = omega (arith, length_of t es)

pub first_of : (t : ℕ) (es : List (ℕ × Carried)) → option_map number_of (slice_get (packets_of t es) 0) ≡ option_map (λ e. e.0) (slice_get es 0)
first_of t [] = refl
first_of t (e ∷ es) = refl

pub same_number : (a x : ℕ) → is_at (nat_cmp a) x ≡ (x == a)
same_number a x = grind (arith, nat_tests)

-- the packet that is kept under a number is the one with that number
pub found_kept : (t l n : ℕ) (es : List (ℕ × Carried)) → ArePacketsKept t l es → find (is_numbered n) (packets_of t es) ≡ option_map (λ c. kept_packet t (n, c)) (kept_under n es)
found_kept t l n [] k = refl
found_kept t l n (e ∷ es) k = rw (same_number n e.0) (by (e.0 == n) refl (found_kept t l n es k.3)) where
  by : (b : Bool) → (e.0 == n) ≡ b → find (is_numbered n) (packets_of t es) ≡ option_map (λ c. kept_packet t (n, c)) (kept_under n es)
      → cond b (Some (kept_packet t e)) (find (is_numbered n) (packets_of t es)) ≡ option_map (λ c. kept_packet t (n, c)) (cond b (Some e.1) (kept_under n es))
  by true here rest = ap (λ (m : ℕ). Some (kept_packet t (m, e.1))) (eqb-true e.0 n here)
  by false away rest = rest

-- without it the others are left
pub removed_kept : (t l n : ℕ) (es : List (ℕ × Carried)) → ArePacketsKept t l es → packets_of t (remove_entry (is_at (nat_cmp n)) es) ≡ without_number n (packets_of t es)
removed_kept t l n [] k = refl
removed_kept t l n (e ∷ es) k = grind (arith, nat_tests, removed_kept t l n es k.3)

-- and they are kept as before
pub still_kept : (t l n : ℕ) (es : List (ℕ × Carried)) → ArePacketsKept t l es → ArePacketsKept t l (remove_entry (is_at (nat_cmp n)) es)
still_kept t l n [] k = k
still_kept t l n (e ∷ es) k = grind (arith, nat_tests, k, still_kept t l n es k.3)

-- a packet with the next number stands at the end
pub values_added : (t l : ℕ) (c : Carried) (es : List (ℕ × Carried)) → ArePacketsKept t l es → packets_of t (insert_entry nat_cmp es (l + 1) c) ≡ packets_of t es ++ kept_packet t (l + 1, c) ∷ []
values_added t l c [] k = refl
values_added t l c (e ∷ es) k = grind (arith, nat_tests, k.0, values_added t l c es k.3)

-- and is kept under it
pub more_kept : (t l : ℕ) (c : Carried) (es : List (ℕ × Carried)) → c.since ≤ t → t < c.since + 64 → ArePacketsKept t l es → ArePacketsKept t (l + 1) (insert_entry nat_cmp es (l + 1) c)
more_kept t l c [] h g k = grind (arith, h, g)
more_kept t l c (e ∷ es) h g k = grind (arith, nat_tests, k, more_kept t l c es h g k.3)

-- no number is past the last one
pub next_free : (t l : ℕ) (es : List (ℕ × Carried)) → ArePacketsKept t l es → kept_under (l + 1) es ≡ None
next_free t l [] k = refl
next_free t l (e ∷ es) k = grind (arith, nat_tests, k.0, next_free t l es k.3)

-- one that is kept was sent, and fewer than 64 ticks ago
pub kept_young : (t l n : ℕ) (es : List (ℕ × Carried)) → ArePacketsKept t l es → IfSome (kept_under n es) (λ c. (c.since ≤ t) × (t < c.since + 64))
kept_young t l n [] k = tt
kept_young t l n (e ∷ es) k = by (is_at (nat_cmp n) e.0) (kept_young t l n es k.3) where
  by : (b : Bool) → IfSome (kept_under n es) (λ c. (c.since ≤ t) × (t < c.since + 64)) → IfSome (cond b (Some e.1) (kept_under n es)) (λ c. (c.since ≤ t) × (t < c.since + 64))
  by true rest = (k.1, k.2)
  by false rest = rest

pub ruleset kept_steps = (found_kept, removed_kept, still_kept, values_added, more_kept, next_free, kept_young)

-- ---- the set of when they were sent

pub sending_at : (a b : Sending) → is_at (sending_order a) b ≡ (a.since == b.since) && (a.number == b.number)
sending_at a b = by (nat_lt a.since b.since) (a.since == b.since) (nat_lt a.number b.number) (a.number == b.number) (less_apart a.since b.since) (less_apart a.number b.number) where
  by : (l e m f : Bool) → (l ≡ true → e ≡ false) → (m ≡ true → f ≡ false) → is_eq (ordering_then (cond l Less (cond e Equal Greater)) (cond m Less (cond f Equal Greater))) ≡ e && f
  by true e m f h g = rw (h refl) refl
  by false false m f h g = refl
  by false true true f h g = rw (g refl) refl
  by false true false true h g = refl
  by false true false false h g = refl

pub index_none : IsIndex [] []
index_none = record { each = λ s has. absurd (cc (has)); in_order = λ m n a b less first second none. absurd (cc (first)) }

-- no kept number is past the last one
pub kept_low : (t l n : ℕ) (es : List (ℕ × Carried)) → ArePacketsKept t l es → IfSome (kept_under n es) (λ c. n ≤ l)
kept_low t l n [] k = tt
kept_low t l n (e ∷ es) k = by (e.0 == n) refl (kept_low t l n es k.3) where
  by : (b : Bool) → (e.0 == n) ≡ b → IfSome (kept_under n es) (λ c. n ≤ l) → IfSome (kept_under n (e ∷ es)) (λ c. n ≤ l)
  by b is rest = subst (λ (o : Option Carried). IfSome o (λ c. n ≤ l)) (sym (ap (λ (x : Bool). cond x (Some e.1) (kept_under n es)) (same_number n e.0 ∙ is))) (at b is) where
    at : (x : Bool) → (e.0 == n) ≡ x → IfSome (cond x (Some e.1) (kept_under n es)) (λ c. n ≤ l)
    at true here = subst (λ (m : ℕ). m ≤ l) (eqb-true e.0 n here) k.0
    at false away = rest

some_of : (P : Carried → Type 0) (o : Option Carried) (c : Carried) → IfSome o P → o ≡ Some c → P c
some_of P o c holds is = subst (λ (x : Option Carried). IfSome x P) is holds

-- the packet that is kept under a number after an update at one
kept_after : (n m : ℕ) (to old : Option Carried) → cond (is_at (nat_cmp n) m) to old ≡ cond (m == n) to old
kept_after n m to old = ap (λ (b : Bool). cond b to old) (same_number n m)

-- the set has a packet under another number exactly where it had it
had_other : (x s : Sending) (to old : Bool) → (s.number == x.number) ≡ false → cond (is_at (sending_order x) s) to old ≡ old
had_other x s to old away = ap (λ (b : Bool). cond b to old) (sending_at x s) ∙ by (x.since == s.since) (x.number == s.number) (equal_turned x.number s.number ∙ away) where
  by : (a b : Bool) → b ≡ false → cond (a && b) to old ≡ old
  by true true is = absurd (cc (is))
  by true false is = refl
  by false b is = refl

-- one more packet, under the next number; the set has it where it is older than it might be
pub index_added : (t l : ℕ) (es es2 : List (ℕ × Carried)) (ss ss2 : List Sending) (c : Carried) → ArePacketsKept t l es → IsIndex es ss
    → ((m : ℕ) → kept_under m es2 ≡ cond (is_at (nat_cmp (l + 1)) m) (Some c) (kept_under m es))
    → ((s : Sending) → has_sending ss2 s ≡ cond (nat_lt c.since t && is_at (sending_order (record { since = c.since; number = l + 1 })) s) true (has_sending ss s))
    → IsIndex es2 ss2
index_added t l es es2 ss ss2 c old index kept has = record {
  each = λ s there. each s (s.number == l + 1) refl (sym (has s) ∙ there);
  in_order = λ m n a b less first second none. ordered m n a b less (n == l + 1) refl first second none;
} where
  own : Sending
  own = record { since = c.since; number = l + 1 }

  kept_at : (m : ℕ) (b : Bool) → (m == l + 1) ≡ b → kept_under m es2 ≡ cond b (Some c) (kept_under m es)
  kept_at m b is = kept m ∙ (kept_after (l + 1) m (Some c) (kept_under m es) ∙ ap (λ (x : Bool). cond x (Some c) (kept_under m es)) is)

  had : (s : Sending) → (s.number == l + 1) ≡ false → has_sending ss2 s ≡ has_sending ss s
  had s away = has s ∙ by (nat_lt c.since t) where
    by : (b : Bool) → cond (b && is_at (sending_order own) s) true (has_sending ss s) ≡ has_sending ss s
    by true = had_other own s true (has_sending ss s) away
    by false = refl

  each : (s : Sending) (b : Bool) → (s.number == l + 1) ≡ b → cond (nat_lt c.since t && is_at (sending_order own) s) true (has_sending ss s) ≡ true → is_since s.since (kept_under s.number es2) ≡ true
  each s false away there = ap (is_since s.since) (kept_at s.number false away) ∙ index.each s (sym (had s away) ∙ (has s ∙ there))
  each s true here there = ap (is_since s.since) (kept_at s.number true here) ∙ at (c.since == s.since) refl where
    free : kept_under s.number es ≡ None
    free = ap (λ (m : ℕ). kept_under m es) (eqb-true s.number (l + 1) here) ∙ next_free t l es old

    none : has_sending ss s ≡ true → ⊥
    none had = absurd (cc (sym (ap (is_since s.since) free) ∙ index.each s had))

    at : (b : Bool) → (c.since == s.since) ≡ b → (c.since == s.since) ≡ true
    at true is = is
    at false is = absurd (none (sym (differs (nat_lt c.since t)) ∙ there)) where
      differs : (x : Bool) → cond (x && is_at (sending_order own) s) true (has_sending ss s) ≡ has_sending ss s
      differs true = ap (λ (y : Bool). cond y true (has_sending ss s)) (sending_at own s ∙ ap (λ (y : Bool). y && (l + 1 == s.number)) is)
      differs false = refl

  ordered : (m n : ℕ) (a b : Carried) → m < n → (x : Bool) → (n == l + 1) ≡ x → kept_under m es2 ≡ Some a → kept_under n es2 ≡ Some b → has_sending ss2 (record { since = b.since; number = n }) ≡ false → a.since ≤ b.since
  ordered m n a b less false away first second none =
      let there : kept_under n es ≡ Some b = sym (kept_at n false away) ∙ second in
      let low : n ≤ l = some_of (λ x. n ≤ l) (kept_under n es) b (kept_low t l n es old) there in
      index.in_order m n a b less (sym (kept_at m false (before low)) ∙ first) there (sym (had (record { since = b.since; number = n }) away) ∙ none) where
        before : n ≤ l → (m == l + 1) ≡ false
        before low = grind (arith, nat_tests, less, low)
  ordered m n a b less true here first second none =
      let young = some_of (λ x. (x.since ≤ t) × (t < x.since + 64)) (kept_under m es) a (kept_young t l m es old) (sym (kept_at m false before) ∙ first) in
      let late : nat_lt c.since t ≡ false = unmarked (nat_lt c.since t) refl in
      subst (λ (k : ℕ). a.since ≤ k) (ap (λ (o : Option Carried). since_of o) same) (not_less a.since c.since young.0 late) where
        since_of : Option Carried → ℕ
        since_of None = 0
        since_of (Some x) = x.since

        same : Some c ≡ Some b
        same = sym (kept_at n true here) ∙ second

        before : (m == l + 1) ≡ false
        before = grind (arith, nat_tests, less, eqb-true n (l + 1) here)

        not_less : (x y : ℕ) → x ≤ t → nat_lt y t ≡ false → x ≤ y
        not_less x y h g = grind (arith, nat_tests, h, g)

        unmarked : (x : Bool) → nat_lt c.since t ≡ x → nat_lt c.since t ≡ false
        unmarked false is = is
        unmarked true is = absurd (cc (sym marked ∙ none)) where
          itself : (k : ℕ) → (k == k) ≡ true
          itself k = grind (arith, nat_tests)

          at_own : is_at (sending_order own) (record { since = b.since; number = n }) ≡ true
          at_own = sending_at own (record { since = b.since; number = n })
              ∙ (ap (λ (k : ℕ). (c.since == k) && (l + 1 == n)) (sym (ap (λ (o : Option Carried). since_of o) same))
              ∙ (ap (λ (y : Bool). y && (l + 1 == n)) (itself c.since) ∙ ap (λ (k : ℕ). l + 1 == k) (eqb-true n (l + 1) here) ∙ itself (l + 1)))

          marked : has_sending ss2 (record { since = b.since; number = n }) ≡ true
          marked = has (record { since = b.since; number = n })
              ∙ ap (λ (y : Bool). cond (y && is_at (sending_order own) (record { since = b.since; number = n })) true (has_sending ss (record { since = b.since; number = n }))) is
              ∙ ap (λ (y : Bool). cond y true (has_sending ss (record { since = b.since; number = n }))) at_own

-- one packet fewer
pub index_removed : (es es2 : List (ℕ × Carried)) (ss ss2 : List Sending) (n : ℕ) (c : Carried) → IsIndex es ss → kept_under n es ≡ Some c
    → ((m : ℕ) → kept_under m es2 ≡ cond (is_at (nat_cmp n) m) None (kept_under m es))
    → ((s : Sending) → has_sending ss2 s ≡ cond (is_at (sending_order (record { since = c.since; number = n })) s) false (has_sending ss s))
    → IsIndex es2 ss2
index_removed es es2 ss ss2 n c index there kept has = record {
  each = λ s has2. each s (s.number == n) refl (sym (has s) ∙ has2);
  in_order = λ m k a b less first second none. ordered m k a b less (m == n) refl (k == n) refl first second none;
} where
  own : Sending
  own = record { since = c.since; number = n }

  kept_at : (m : ℕ) (b : Bool) → (m == n) ≡ b → kept_under m es2 ≡ cond b None (kept_under m es)
  kept_at m b is = kept m ∙ (kept_after n m None (kept_under m es) ∙ ap (λ (x : Bool). cond x None (kept_under m es)) is)

  each : (s : Sending) (b : Bool) → (s.number == n) ≡ b → cond (is_at (sending_order own) s) false (has_sending ss s) ≡ true → is_since s.since (kept_under s.number es2) ≡ true
  each s false away has2 = ap (is_since s.since) (kept_at s.number false away) ∙ index.each s (sym (had_other own s false (has_sending ss s) away) ∙ has2)
  each s true here has2 = absurd (at (is_at (sending_order own) s) refl has2) where
    turned : (n == s.number) ≡ true
    turned = equal_turned n s.number ∙ here

    at : (b : Bool) → is_at (sending_order own) s ≡ b → cond b false (has_sending ss s) ≡ true → ⊥
    at true is has2 = absurd (cc (has2))
    at false is has2 =
        let since : (c.since == s.since) ≡ true = sym (ap (is_since s.since) (ap (λ (m : ℕ). kept_under m es) (eqb-true s.number n here) ∙ there)) ∙ index.each s has2 in
        absurd (cc (sym is ∙ (sending_at own s ∙ (ap (λ (x : Bool). x && (n == s.number)) since ∙ turned))))

  ordered : (m k : ℕ) (a b : Carried) → m < k → (x : Bool) → (m == n) ≡ x → (y : Bool) → (k == n) ≡ y → kept_under m es2 ≡ Some a → kept_under k es2 ≡ Some b
      → has_sending ss2 (record { since = b.since; number = k }) ≡ false → a.since ≤ b.since
  ordered m k a b less true at_m y at_k first second none = absurd (cc (sym (kept_at m true at_m) ∙ first))
  ordered m k a b less false at_m true at_k first second none = absurd (cc (sym (kept_at k true at_k) ∙ second))
  ordered m k a b less false at_m false at_k first second none =
      index.in_order m k a b less (sym (kept_at m false at_m) ∙ first) (sym (kept_at k false at_k) ∙ second)
      (sym (has (record { since = b.since; number = k }) ∙ had_other own (record { since = b.since; number = k }) false (has_sending ss (record { since = b.since; number = k })) at_k) ∙ none)

-- ---- ages

-- the packet that is kept under a number is one that a further tick makes too old
abbrev pub is_aged_under : ℕ → Option Carried → Bool
is_aged_under t None = false
is_aged_under t (Some c) = not (nat_lt (t - c.since + 1) 64)

pub below_kept : (x n : ℕ) (es : List (ℕ × Carried)) (c : Carried) → AllByRecursion (λ y. nat_cmp x y ≡ Less) (keys_of es) → kept_under n es ≡ Some c → x < n
below_kept x n [] c below is = absurd (cc (is))
below_kept x n (e ∷ es) c below is = by (e.0 == n) refl (ap (λ (b : Bool). cond b (Some e.1) (kept_under n es)) (sym (same_number n e.0)) ∙ is) (λ rest. below_kept x n es c below.1 rest) where
  less : (a b : ℕ) → nat_cmp a b ≡ Less → a < b
  less a b h = grind (arith, nat_tests, h)

  by : (b : Bool) → (e.0 == n) ≡ b → cond b (Some e.1) (kept_under n es) ≡ Some c → (kept_under n es ≡ Some c → x < n) → x < n
  by true here is rest = subst (λ (m : ℕ). x < m) (eqb-true e.0 n here) (less x e.0 below.0)
  by false away is rest = rest is

-- behind the first entry all is kept as in the whole
rest_kept : (e : ℕ × Carried) (es : List (ℕ × Carried)) (n : ℕ) → AllByRecursion (λ y. nat_cmp e.0 y ≡ Less) (keys_of es) → (t : ℕ) → is_aged_under t (kept_under n es) ≡ true
    → (is_aged_under t (kept_under n (e ∷ es)) ≡ true) × (e.0 < n)
rest_kept e es n below t aged = by (kept_under n es) refl aged where
  later : (c : Carried) → kept_under n es ≡ Some c → e.0 < n
  later c is = below_kept e.0 n es c below is

  by : (o : Option Carried) → kept_under n es ≡ o → is_aged_under t o ≡ true → (is_aged_under t (kept_under n (e ∷ es)) ≡ true) × (e.0 < n)
  by None is old = absurd (cc (old))
  by (Some c) is old = (
    ap (λ (b : Bool). is_aged_under t (cond b (Some e.1) (kept_under n es))) (same_number n e.0 ∙ below_apart e.0 n (later c is)) ∙ (ap (is_aged_under t) is ∙ old),
    later c is,
  )

-- of those that a further tick makes too old the one with the lowest number is found first
pub first_found : (t n : ℕ) (es : List (ℕ × Carried)) → IsStrictlySortedBy nat_cmp (keys_of es) → is_aged_under t (kept_under n es) ≡ true
    → ((m : ℕ) → is_aged_under t (kept_under m es) ≡ true → n ≤ m)
    → (option_map number_of (find is_aged (packets_of t es)) ≡ Some n) × (without_number n (packets_of t es) ≡ without_aged (packets_of t es))
unfolding IsStrictlySortedBy
first_found t n [] sorted old least = absurd (cc (old))
first_found t n (e ∷ es) sorted old least = by (nat_lt (t - e.1.since + 1) 64) refl (e.0 == n) refl (first_found t n es sorted.1) where
  at_first : (b : Bool) → (e.0 == n) ≡ b → kept_under n (e ∷ es) ≡ cond b (Some e.1) (kept_under n es)
  at_first b is = ap (λ (b : Bool). cond b (Some e.1) (kept_under n es)) (same_number n e.0 ∙ is)

  own : kept_under e.0 (e ∷ es) ≡ Some e.1
  own = ap (λ (b : Bool). cond b (Some e.1) (kept_under e.0 es)) (same_number e.0 e.0 ∙ itself e.0) where
    itself : (x : ℕ) → (x == x) ≡ true
    itself x = grind (arith, nat_tests)

  by : (lives : Bool) → nat_lt (t - e.1.since + 1) 64 ≡ lives → (b : Bool) → (e.0 == n) ≡ b
      → (is_aged_under t (kept_under n es) ≡ true → ((m : ℕ) → is_aged_under t (kept_under m es) ≡ true → n ≤ m)
      → (option_map number_of (find is_aged (packets_of t es)) ≡ Some n) × (without_number n (packets_of t es) ≡ without_aged (packets_of t es)))
      → (option_map number_of (cond (not lives) (Some (kept_packet t e)) (find is_aged (packets_of t es))) ≡ Some n)
      × (cond b (packets_of t es) (kept_packet t e ∷ without_number n (packets_of t es)) ≡ cond lives (kept_packet t e ∷ without_aged (packets_of t es)) (packets_of t es))
  by false dies true here goes_on = (ap (λ (m : ℕ). Some m) (eqb-true e.0 n here), refl)
  by true lives true here goes_on =
      let young : is_aged_under t (kept_under n (e ∷ es)) ≡ false = ap (is_aged_under t) (at_first true here) ∙ ap not lives in
      let wrong : false ≡ true = sym young ∙ old in
      absurd (cc (wrong))
  by false dies false away goes_on =
      let later = rest_kept e es n sorted.0 t (sym (ap (is_aged_under t) (at_first false away)) ∙ old) in
      let first : n ≤ e.0 = least e.0 (ap (is_aged_under t) own ∙ ap not dies) in
      absurd (omega (arith, later.1, first))
  by true lives false away goes_on =
      let rest = goes_on (sym (ap (is_aged_under t) (at_first false away)) ∙ old) (λ m aged. least m (rest_kept e es m sorted.0 t aged).0) in
      (rest.0, ap (λ (ps : List Packet). kept_packet t e ∷ ps) rest.1)

-- where there is none of them, none is found
pub none_found : (t : ℕ) (es : List (ℕ × Carried)) → IsStrictlySortedBy nat_cmp (keys_of es) → ((m : ℕ) → is_aged_under t (kept_under m es) ≡ false) → find is_aged (packets_of t es) ≡ None
unfolding IsStrictlySortedBy
none_found t [] sorted none = refl
none_found t (e ∷ es) sorted none = by (nat_lt (t - e.1.since + 1) 64) refl (none_found t es sorted.1) where
  own : kept_under e.0 (e ∷ es) ≡ Some e.1
  own = ap (λ (b : Bool). cond b (Some e.1) (kept_under e.0 es)) (same_number e.0 e.0 ∙ itself e.0) where
    itself : (x : ℕ) → (x == x) ≡ true
    itself x = grind (arith, nat_tests)

  rest : (m : ℕ) (b : Bool) → is_aged_under t (kept_under m es) ≡ b → is_aged_under t (kept_under m es) ≡ false
  rest m true old = let wrong : true ≡ false = sym (rest_kept e es m sorted.0 t old).0 ∙ none m in absurd (cc (wrong))
  rest m false young = young

  by : (lives : Bool) → nat_lt (t - e.1.since + 1) 64 ≡ lives → (((m : ℕ) → is_aged_under t (kept_under m es) ≡ false) → find is_aged (packets_of t es) ≡ None)
      → cond (not lives) (Some (kept_packet t e)) (find is_aged (packets_of t es)) ≡ None
  by true lives goes_on = goes_on (λ m. rest m (is_aged_under t (kept_under m es)) refl)
  by false dies goes_on =
      let wrong : true ≡ false = sym (ap (is_aged_under t) own ∙ ap not dies) ∙ none e.0 in
      absurd (cc (wrong))

not_after : (a b : Sending) → is_gt (sending_order a b) ≡ false → (a.since ≤ b.since) × (a.since ≡ b.since → a.number ≤ b.number)
not_after a b h = (grind (arith, nat_tests, h), λ same. grind (arith, nat_tests, h, same))

-- what the set has is kept: it was sent, and fewer than 64 ticks ago
pub sent_young : (t l : ℕ) (es : List (ℕ × Carried)) (ss : List Sending) (s : Sending) → ArePacketsKept t l es → IsIndex es ss → has_sending ss s ≡ true → (s.since ≤ t) × (t < s.since + 64)
sent_young t l es ss s kept index has = by (kept_under s.number es) (index.each s has) (kept_young t l s.number es kept) where
  by : (o : Option Carried) → is_since s.since o ≡ true → IfSome o (λ c. (c.since ≤ t) × (t < c.since + 64)) → (s.since ≤ t) × (t < s.since + 64)
  by None sent young = absurd (cc (sent))
  by (Some c) sent young = subst (λ (m : ℕ). (m ≤ t) × (t < m + 64)) (eqb-true c.since s.since sent) young

-- the first of all is found where a further tick makes it too old
pub front_aged : (t n : ℕ) (c : Carried) (es : List (ℕ × Carried)) → slice_get es 0 ≡ Some (n, c) → 64 ≤ t - c.since + 1
    → (option_map number_of (find is_aged (packets_of t es)) ≡ Some n) × (without_number n (packets_of t es) ≡ without_aged (packets_of t es))
front_aged t n c [] is old = absurd (cc (is))
front_aged t n c (e ∷ es) is old = by (nat_lt (t - e.1.since + 1) 64) refl (e.0 == n) refl where
  entry_of : Option (ℕ × Carried) → ℕ × Carried
  entry_of None = e
  entry_of (Some x) = x

  same : e ≡ (n, c)
  same = ap entry_of is

  by : (lives : Bool) → nat_lt (t - e.1.since + 1) 64 ≡ lives → (b : Bool) → (e.0 == n) ≡ b
      → (option_map number_of (cond (not lives) (Some (kept_packet t e)) (find is_aged (packets_of t es))) ≡ Some n)
      × (cond b (packets_of t es) (kept_packet t e ∷ without_number n (packets_of t es)) ≡ cond lives (kept_packet t e ∷ without_aged (packets_of t es)) (packets_of t es))
  by true lives b is = absurd (young (subst (λ (x : ℕ × Carried). nat_lt (t - x.1.since + 1) 64 ≡ true) same lives)) where
    young : nat_lt (t - c.since + 1) 64 ≡ true → ⊥
    young h = grind (arith, nat_tests, h, old)
  by false dies false away = absurd (cc (sym away ∙ itself)) where
    itself : (e.0 == n) ≡ true
    itself = ap (λ (x : ℕ × Carried). x.0 == n) same ∙ at n where
      at : (k : ℕ) → (k == k) ≡ true
      at k = grind (arith, nat_tests)
  by false dies true here = (ap (λ (m : ℕ). Some m) (eqb-true e.0 n here), refl)

-- where it is not too old, the set has each that is
pub aged_older : (t l : ℕ) (es : List (ℕ × Carried)) (ss : List Sending) (n : ℕ) (c : Carried) → IsStrictlySortedBy nat_cmp (keys_of es) → ArePacketsKept t l es → IsIndex es ss → slice_get es 0 ≡ Some (n, c)
    → t - c.since + 1 < 64 → (m : ℕ) (d : Carried) → kept_under m es ≡ Some d → not (nat_lt (t - d.since + 1) 64) ≡ true → has_sending ss (record { since = d.since; number = m }) ≡ true
unfolding IsStrictlySortedBy
aged_older t l [] ss n c sorted kept index first young m d is aged = absurd (cc (first))
aged_older t l (e ∷ es) ss n c sorted kept index first young m d is aged = by (has_sending ss (record { since = d.since; number = m })) refl where
  entry_of : Option (ℕ × Carried) → ℕ × Carried
  entry_of None = e
  entry_of (Some x) = x

  since : e.1.since ≡ c.since
  since = ap (λ (x : ℕ × Carried). x.1.since) (ap entry_of first)

  itself : (x : ℕ) → (x == x) ≡ true
  itself x = grind (arith, nat_tests)

  own : kept_under e.0 (e ∷ es) ≡ Some e.1
  own = ap (λ (b : Bool). cond b (Some e.1) (kept_under e.0 es)) (same_number e.0 e.0 ∙ itself e.0)

  late : (x y : ℕ) → t - x + 1 < 64 → x ≤ y → not (nat_lt (t - y + 1) 64) ≡ true → ⊥
  late x y h g old = grind (arith, nat_tests, h, g, old)

  early : t - e.1.since + 1 < 64
  early = omega (arith, since, young)

  since_of : Option Carried → ℕ
  since_of None = 0
  since_of (Some x) = x.since

  at : (b : Bool) → (e.0 == m) ≡ b → has_sending ss (record { since = d.since; number = m }) ≡ false → ⊥
  at true here none = late e.1.since d.since early (omega (arith, ap since_of (sym (ap (λ (b : Bool). cond b (Some e.1) (kept_under m es)) (same_number m e.0 ∙ here)) ∙ is))) aged
  at false away none =
      let rest : kept_under m es ≡ Some d = sym (ap (λ (b : Bool). cond b (Some e.1) (kept_under m es)) (same_number m e.0 ∙ away)) ∙ is in
      late e.1.since d.since early (index.in_order e.0 m e.1 d (below_kept e.0 m es d sorted.0 rest) own is none) aged

  by : (b : Bool) → has_sending ss (record { since = d.since; number = m }) ≡ b → has_sending ss (record { since = d.since; number = m }) ≡ true
  by true has = has
  by false none = absurd (at (e.0 == m) refl none)

-- what the set has first is the first that a further tick makes too old, where it makes that one so, and not the first of all
pub aged_first : (t l : ℕ) (es : List (ℕ × Carried)) (ss : List Sending) (n : ℕ) (c : Carried) (first : Sending) → IsStrictlySortedBy nat_cmp (keys_of es) → ArePacketsKept t l es → IsIndex es ss
    → slice_get es 0 ≡ Some (n, c) → t - c.since + 1 < 64
    → has_sending ss first ≡ true → ((s : Sending) → has_sending ss s ≡ true → is_gt (sending_order first s) ≡ false) → 64 ≤ t - first.since + 1
    → (option_map number_of (find is_aged (packets_of t es)) ≡ Some first.number) × (without_number first.number (packets_of t es) ≡ without_aged (packets_of t es))
aged_first t l es ss n c first sorted kept index front young has least old = first_found t first.number es sorted (by (kept_under first.number es) refl (index.each first has)) lowest where
  too_old : (since : ℕ) → (since == first.since) ≡ true → not (nat_lt (t - since + 1) 64) ≡ true
  too_old since is = grind (arith, nat_tests, is, old)

  own : (first.since ≤ t) × (t < first.since + 64)
  own = sent_young t l es ss first kept index has

  by : (o : Option Carried) → kept_under first.number es ≡ o → is_since first.since o ≡ true → is_aged_under t (kept_under first.number es) ≡ true
  by None is sent = absurd (cc (sent))
  by (Some c) is sent = ap (is_aged_under t) is ∙ too_old c.since sent

  same : (since : ℕ) → not (nat_lt (t - since + 1) 64) ≡ true → t < since + 64 → first.since ≡ since
  same since aged young = grind (arith, nat_tests, aged, young, own, old)

  lowest : (m : ℕ) → is_aged_under t (kept_under m es) ≡ true → first.number ≤ m
  lowest m aged = at (kept_under m es) refl aged (kept_young t l m es kept) where
    at : (o : Option Carried) → kept_under m es ≡ o → is_aged_under t o ≡ true → IfSome o (λ c. (c.since ≤ t) × (t < c.since + 64)) → first.number ≤ m
    at None is old young = absurd (cc (old))
    at (Some d) is old late =
        let here : Sending = record { since = d.since; number = m } in
        let order = not_after first here (least here (aged_older t l es ss n c sorted kept index front young m d is old)) in
        order.1 (same d.since old late.1)

-- where it does not make that one too old, it makes none so
pub aged_none : (t l : ℕ) (es : List (ℕ × Carried)) (ss : List Sending) (n : ℕ) (c : Carried) (first : Sending) → IsStrictlySortedBy nat_cmp (keys_of es) → ArePacketsKept t l es → IsIndex es ss
    → slice_get es 0 ≡ Some (n, c) → t - c.since + 1 < 64
    → ((s : Sending) → has_sending ss s ≡ true → is_gt (sending_order first s) ≡ false) → t - first.since + 1 < 64 → find is_aged (packets_of t es) ≡ None
aged_none t l es ss n c first sorted kept index front front_young least young = none_found t es sorted (λ m. by m (kept_under m es) refl) where
  later : (since : ℕ) → first.since ≤ since → not (nat_lt (t - since + 1) 64) ≡ true → ⊥
  later since h old = grind (arith, nat_tests, h, young, old)

  by : (m : ℕ) (o : Option Carried) → kept_under m es ≡ o → is_aged_under t (kept_under m es) ≡ false
  by m None is = ap (is_aged_under t) is
  by m (Some d) is = ap (is_aged_under t) is ∙ at (not (nat_lt (t - d.since + 1) 64)) refl where
    at : (b : Bool) → not (nat_lt (t - d.since + 1) 64) ≡ b → not (nat_lt (t - d.since + 1) 64) ≡ false
    at false lives = lives
    at true old =
        let here : Sending = record { since = d.since; number = m } in
        absurd (later d.since (not_after first here (least here (aged_older t l es ss n c sorted kept index front front_young m d is old))).0 old)

-- nor where the set has nothing
pub aged_nowhere : (t l : ℕ) (es : List (ℕ × Carried)) (ss : List Sending) (n : ℕ) (c : Carried) → IsStrictlySortedBy nat_cmp (keys_of es) → ArePacketsKept t l es → IsIndex es ss
    → slice_get es 0 ≡ Some (n, c) → t - c.since + 1 < 64 → (0 < length ss → ⊥) → find is_aged (packets_of t es) ≡ None
aged_nowhere t l es (s ∷ ss) n c sorted kept index front young empty = absurd (empty (omega arith))
aged_nowhere t l es [] n c sorted kept index front young empty = none_found t es sorted (λ m. by m (kept_under m es) refl) where
  by : (m : ℕ) (o : Option Carried) → kept_under m es ≡ o → is_aged_under t (kept_under m es) ≡ false
  by m None is = ap (is_aged_under t) is
  by m (Some d) is = ap (is_aged_under t) is ∙ at (not (nat_lt (t - d.since + 1) 64)) refl where
    at : (b : Bool) → not (nat_lt (t - d.since + 1) 64) ≡ b → not (nat_lt (t - d.since + 1) 64) ≡ false
    at false lives = lives
    at true old = let has : false ≡ true = aged_older t l es [] n c sorted kept index front young m d is old in absurd (cc (has))

-- nor where nothing is under way
pub aged_empty : (t : ℕ) (es : List (ℕ × Carried)) → (0 < length es → ⊥) → find is_aged (packets_of t es) ≡ None
aged_empty t [] empty = refl
aged_empty t (e ∷ es) empty = absurd (empty (omega arith))

-- a tick after which none is too old
pub ticked_kept : (t l : ℕ) (es : List (ℕ × Carried)) → ArePacketsKept t l es → find is_aged (packets_of t es) ≡ None → (packets_of (t + 1) es ≡ all_older (packets_of t es)) × ArePacketsKept (t + 1) l es
ticked_kept t l [] kept none = (refl, tt)
ticked_kept t l (e ∷ es) kept none = by (nat_lt (t - e.1.since + 1) 64) refl none (ticked_kept t l es kept.3) where
  aged : (since : ℕ) → since ≤ t → (t + 1) - since ≡ t - since + 1
  aged since h = omega (arith, h)

  young : (since : ℕ) → nat_lt (t - since + 1) 64 ≡ true → t + 1 < since + 64
  young since h = grind (arith, nat_tests, h)

  by : (lives : Bool) → nat_lt (t - e.1.since + 1) 64 ≡ lives → cond (not lives) (Some (kept_packet t e)) (find is_aged (packets_of t es)) ≡ None
      → (find is_aged (packets_of t es) ≡ None → (packets_of (t + 1) es ≡ all_older (packets_of t es)) × ArePacketsKept (t + 1) l es)
      → (packets_of (t + 1) (e ∷ es) ≡ cond lives (older (kept_packet t e) ∷ all_older (packets_of t es)) (all_older (packets_of t es))) × ArePacketsKept (t + 1) l (e ∷ es)
  by false dies none goes_on = absurd (cc (none))
  by true lives none goes_on =
      let rest = goes_on none in
      let first : kept_packet (t + 1) e ≡ older (kept_packet t e) = ap (λ (age : ℕ). record (kept_packet t e) { age = age }) (aged e.1.since kept.1) in (
        ap (λ (p : Packet). p ∷ packets_of (t + 1) es) first ∙ ap (λ (ps : List Packet). older (kept_packet t e) ∷ ps) rest.0,
        (kept.0, omega (arith, kept.1), young e.1.since lives, rest.1),
      )

-- ---- what contracts see of it

abbrev pub seen_packets : ℕ → ℕ → List (ℕ × Carried) → UnderWay
seen_packets t l es = record { list = packets_of t es; last = l; ticks = t }

pub seen_ticked : (t l : ℕ) (es : List (ℕ × Carried)) (u : UnderWay) → seen_packets t l es ≡ u → ArePacketsKept t l es → find is_aged u.list ≡ None
    → (ArePacketsKept (t + 1) l es) × (seen_packets (t + 1) l es ≡ record { list = all_older u.list; last = u.last; ticks = u.ticks + 1 })
seen_ticked t l es u seen kept young =
    let ticked = ticked_kept t l es kept (ap (λ (v : UnderWay). find is_aged v.list) seen ∙ young) in (
      ticked.1,
      (λ i. record { list = ticked.0 i; last = l; ticks = t + 1 }) ∙ ap (λ (v : UnderWay). record { list = all_older v.list; last = v.last; ticks = v.ticks + 1 }) seen,
    )

pub seen_added : (t l : ℕ) (c : Carried) (es es2 : List (ℕ × Carried)) (u : UnderWay) → seen_packets t l es ≡ u → ArePacketsKept t l es → es2 ≡ insert_entry nat_cmp es (l + 1) c
    → seen_packets t (l + 1) es2 ≡ record { list = u.list ++ kept_packet u.ticks (u.last + 1, c) ∷ []; last = u.last + 1; ticks = u.ticks }
seen_added t l c es es2 u seen kept added =
    (λ i. record { list = (ap (packets_of t) added ∙ values_added t l c es kept) i; last = l + 1; ticks = t })
    ∙ ap (λ (v : UnderWay). record { list = v.list ++ kept_packet v.ticks (v.last + 1, c) ∷ []; last = v.last + 1; ticks = v.ticks }) seen

-- the packet with a number is the one that is kept under it
pub seen_found : (t l n : ℕ) (es : List (ℕ × Carried)) (u : UnderWay) → seen_packets t l es ≡ u → ArePacketsKept t l es → find (is_numbered n) u.list
    ≡ option_map (λ c. kept_packet u.ticks (n, c)) (kept_under n es)
seen_found t l n es u seen kept = subst (λ (v : UnderWay). find (is_numbered n) v.list ≡ option_map (λ c. kept_packet v.ticks (n, c)) (kept_under n es)) seen (found_kept t l n es kept)

pub found_young : (t l n : ℕ) (c : Carried) (es : List (ℕ × Carried)) → ArePacketsKept t l es → Some c ≡ kept_under n es → (c.since ≤ t) × (t < c.since + 64)
found_young t l n c es kept is = subst (λ (o : Option Carried). IfSome o (λ c. (c.since ≤ t) × (t < c.since + 64))) (sym is) (kept_young t l n es kept)

-- a copy of it has the next number
pub seen_copied : (t l n : ℕ) (c copy : Carried) (es : List (ℕ × Carried)) (u after : UnderWay) → seen_packets t l es ≡ u → ArePacketsKept t l es → Some c ≡ kept_under n es → copy ≡ c
    → after ≡ record { list = u.list ++ kept_packet u.ticks (u.last + 1, copy) ∷ []; last = u.last + 1; ticks = u.ticks } → after ≡ with_copy_of (find (is_numbered n) u.list) u
seen_copied t l n c copy es u after seen kept is same put =
    let found : find (is_numbered n) u.list ≡ Some (kept_packet u.ticks (n, c)) = seen_found t l n es u seen kept ∙ ap (option_map (λ c. kept_packet u.ticks (n, c))) (sym is) in
    put ∙ (ap (λ (d : Carried). record u { list = u.list ++ kept_packet u.ticks (u.last + 1, d) ∷ []; last = u.last + 1 }) same ∙ sym (ap (λ (o : Option Packet). with_copy_of o u) found))

pub numbered_copy : (t l n last : ℕ) (c : Carried) (es : List (ℕ × Carried)) (u : UnderWay) → seen_packets t l es ≡ u → ArePacketsKept t l es → Some c ≡ kept_under n es → last ≡ u.last + 1
    → Some last ≡ option_map (λ packet. u.last + 1) (find (is_numbered n) u.list)
numbered_copy t l n last c es u seen kept is next =
    let found : find (is_numbered n) u.list ≡ Some (kept_packet u.ticks (n, c)) = seen_found t l n es u seen kept ∙ ap (option_map (λ c. kept_packet u.ticks (n, c))) (sym is) in
    ap (λ (m : ℕ). Some m) next ∙ sym (ap (option_map (λ packet. u.last + 1)) found)

-- there is none to copy
pub copied_none : (t l n : ℕ) (es : List (ℕ × Carried)) (u : UnderWay) → seen_packets t l es ≡ u → ArePacketsKept t l es → None ≡ kept_under n es → find (is_numbered n) u.list ≡ None
copied_none t l n es u seen kept is = seen_found t l n es u seen kept ∙ ap (option_map (λ c. kept_packet u.ticks (n, c))) (sym is)

-- it was not added after all
pub index_undone : (t l : ℕ) (es es2 : List (ℕ × Carried)) (ss ss2 ss3 : List Sending) (since : ℕ) → ArePacketsKept t l es → IsIndex es ss → es2 ≡ es
    → ((s : Sending) → has_sending ss2 s ≡ cond (nat_lt since t && is_at (sending_order (record { since = since; number = l + 1 })) s) true (has_sending ss s))
    → ((s : Sending) → has_sending ss3 s ≡ cond (is_at (sending_order (record { since = since; number = l + 1 })) s) false (has_sending ss2 s))
    → IsIndex es2 ss3
index_undone t l es es2 ss ss2 ss3 since old index same added removed = subst (λ (l : List (ℕ × Carried)). IsIndex l ss3) (sym same) (record {
  each = λ s has. index.each s (sym (as_before s) ∙ has);
  in_order = λ m n a b less first second none. index.in_order m n a b less first second (sym (as_before (record { since = b.since; number = n })) ∙ none);
}) where
  own : Sending
  own = record { since = since; number = l + 1 }

  as_before : (s : Sending) → has_sending ss3 s ≡ has_sending ss s
  as_before s = removed s ∙ (ap (λ (b : Bool). cond (is_at (sending_order own) s) false b) (added s) ∙ by (is_at (sending_order own) s) refl (nat_lt since t) (has_sending ss s) refl) where
    here : is_at (sending_order own) s ≡ true → s.number ≡ l + 1
    here is = sym (eqb-true (l + 1) s.number (second (since == s.since) (l + 1 == s.number) (sym (sending_at own s) ∙ is))) where
      second : (a b : Bool) → a && b ≡ true → b ≡ true
      second true b both = both
      second false b both = absurd (cc (both))

    by : (a : Bool) → is_at (sending_order own) s ≡ a → (b c : Bool) → has_sending ss s ≡ c → cond a false (cond (b && a) true c) ≡ c
    by true at b true has =
        let wrong : false ≡ true = sym (ap (is_since s.since) (ap (λ (m : ℕ). kept_under m es) (here at) ∙ next_free t l es old)) ∙ index.each s has in
        absurd (cc (wrong))
    by true at b false has = refl
    by false at true c has = refl
    by false at false c has = refl

-- the first that a further tick makes too old, as it is seen
pub seen_none : (t l : ℕ) (es : List (ℕ × Carried)) (u : UnderWay) → seen_packets t l es ≡ u → find is_aged (packets_of t es) ≡ None → find is_aged u.list ≡ None
seen_none t l es u seen none = sym (ap (λ (v : UnderWay). find is_aged v.list) seen) ∙ none

pub seen_first : (t l n : ℕ) (es : List (ℕ × Carried)) (u : UnderWay) → seen_packets t l es ≡ u
    → (option_map number_of (find is_aged (packets_of t es)) ≡ Some n) × (without_number n (packets_of t es) ≡ without_aged (packets_of t es))
    → (Some n ≡ option_map number_of (find is_aged u.list)) × (without_number n u.list ≡ without_aged u.list)
seen_first t l n es u seen is = subst (λ (v : UnderWay). (Some n ≡ option_map number_of (find is_aged v.list)) × (without_number n v.list ≡ without_aged v.list)) seen (sym is.0, is.1)
