-- Packets at the places of a row, and those behind them.
use Rattle.std.proofs.Common.{◌≡◌, ◌==◌, ◌<◌, ◌≤◌, ◌+◌, ◌-◌, ◌^◌, ◌++◌, ◌∷◌, ◌∙◌, [], ℕ, zero, suc, Bool, true, false, List, Option, Some, None, cond, refl, ap, sym, subst, arith, length, option_map, slice_get, slice_index_or, slice_set}
use Rattle.std.proofs.lemmas.Bool.{eqb-true}
use Rattle.std.proofs.lemmas.Bool.Decides.{nat_tests}
use Rattle.std.specs.BTreeMap.{insert_entry, is_at}
use Rattle.std.specs.List.{AllByRecursion}
use Rattle.std.specs.List.Sorted.{IsStrictlySortedBy}
use Rattle.std.specs.Map.{keys_of, remove_entry}
use Rattle.std.specs.Option.{option_or}
use Rattle.std.specs.declared.cmp.Ordering.TheVariants.{Less}
use Rattle.std.specs.Ordering.{nat_cmp}
use Rattle.net_values.proofs.NumberLemmas.{equal_turned}
use Rattle.psn_net.specs.declared.carried.Carried.{Carried}
use Rattle.numbered_row.specs.Places.{Places, has_place, placed_at, placed_from, starts_vacant, trimmed, value_placed}
use Rattle.numbered_row.proofs.PlaceLemmas.{one_more, place_from, place_reads, place_within, placed_before, placed_past, set_size, trimmed_filled, trimmed_same, trimmed_short}
use Rattle.psn_net.specs.ByNumber.{AreBehind, AreByNumber}
use Rattle.psn_net.specs.Packets.{kept_under}
use Rattle.psn_net.proofs.PacketLemmas.{same_number}

-- ---- the packets at the places, and those behind

pub no_places : (xs : List (Option Carried)) → starts_vacant xs ≡ false → None ≡ slice_index_or xs 0 None → xs ≡ []
no_places [] h none = refl
no_places (None ∷ xs) h none = absurd (cc (h))
no_places (Some c ∷ xs) h none = absurd (cc (none))

pub first_placed : (s : ℕ) (xs : List (Option Carried)) (es : List (ℕ × Carried)) (c : Carried) → Some c ≡ slice_index_or xs 0 None → slice_get (placed_from s xs ++ es) 0 ≡ Some (s, c)
first_placed s [] es c is = absurd (cc (is))
first_placed s (None ∷ xs) es c is = absurd (cc (is))
first_placed s (Some d ∷ xs) es c is = ap (λ (o : Option Carried). option_map (λ x. (s, x)) o) (sym is)

pub first_kept : (es : List (ℕ × Carried)) (n : ℕ) (c : Carried) → slice_get es 0 ≡ Some (n, c) → kept_under n es ≡ Some c
first_kept [] n c is = absurd (cc (is))
first_kept (e ∷ es) n c is = ap (λ (b : Bool). cond b (Some e.1) (kept_under n es)) (same_number n e.0 ∙ (ap (λ (k : ℕ). k == n) (ap number is) ∙ itself n)) ∙ ap value is where
  number : Option (ℕ × Carried) → ℕ
  number None = n
  number (Some x) = x.0

  value : Option (ℕ × Carried) → Option Carried
  value None = None
  value (Some x) = Some x.1

  itself : (k : ℕ) → (k == k) ≡ true
  itself k = grind (arith, nat_tests)

pub some_first : (es : List (ℕ × Carried)) (n : ℕ) (c : Carried) → slice_get es 0 ≡ Some (n, c) → 0 < length es
some_first [] n c is = absurd (cc (is))
some_first (e ∷ es) n c is = omega arith

pub placed_trimmed : (s : ℕ) (xs : List (Option Carried)) → placed_from (s + (length xs - length (trimmed xs))) (trimmed xs) ≡ placed_from s xs
placed_trimmed s [] = refl
placed_trimmed s (None ∷ xs) = ap (λ (m : ℕ). placed_from m (trimmed xs)) (later (length xs) (length (trimmed xs)) (trimmed_short xs)) ∙ placed_trimmed (s + 1) xs where
  later : (a b : ℕ) → b ≤ a → s + (suc a - b) ≡ s + 1 + (a - b)
  later a b h = omega (arith, h)
placed_trimmed s (Some c ∷ xs) = ap (λ (m : ℕ). placed_from m (Some c ∷ xs)) (none (length xs)) where
  none : (a : ℕ) → s + (suc a - suc a) ≡ s
  none a = omega arith

pub placed_pushed : (s : ℕ) (xs : List (Option Carried)) (c : Carried) (n : ℕ) → s + length xs ≡ n → placed_from s (xs ++ Some c ∷ []) ≡ placed_from s xs ++ (n, c) ∷ []
placed_pushed s [] c n is = ap (λ (m : ℕ). (m, c) ∷ []) at where
  at : s ≡ n
  at = omega (arith, is)
placed_pushed s (None ∷ xs) c n is = placed_pushed (s + 1) xs c n (omega (arith, is))
placed_pushed s (Some d ∷ xs) c n is = ap (λ (es : List (ℕ × Carried)). (s, d) ∷ es) (placed_pushed (s + 1) xs c n (omega (arith, is)))

pub none_behind : (e l n : ℕ) (es : List (ℕ × Carried)) → AreBehind e l es → n < e → kept_under n es ≡ None
none_behind e l n [] k less = refl
none_behind e l n (x ∷ es) k less = ap (λ (b : Bool). cond b (Some x.1) (kept_under n es)) (same_number n x.0 ∙ apart x.0 k.0) ∙ none_behind e l n es k.2 less where
  apart : (m : ℕ) → e ≤ m → (m == n) ≡ false
  apart m h = grind (arith, nat_tests, h, less)

-- the packet that is kept under a number is the one at its place, or else one behind
pub kept_joined : (n s : ℕ) (xs : List (Option Carried)) (es : List (ℕ × Carried)) → kept_under n (placed_from s xs ++ es) ≡ option_or (value_placed s xs n) (kept_under n es)
kept_joined n s [] es = refl
kept_joined n s (x ∷ xs) es = by (n == s) refl x (kept_joined n (s + 1) xs es) where
  by : (b : Bool) → (n == s) ≡ b → (y : Option Carried) → kept_under n (placed_from (s + 1) xs ++ es) ≡ option_or (value_placed (s + 1) xs n) (kept_under n es)
      → kept_under n (placed_from s (y ∷ xs) ++ es) ≡ option_or (cond b y (value_placed (s + 1) xs n)) (kept_under n es)
  by true here None rest = rest ∙ ap (λ (o : Option Carried). option_or o (kept_under n es)) (placed_before (s + 1) xs n (omega (arith, eqb-true n s here)))
  by true here (Some c) rest = ap (λ (b : Bool). cond b (Some c) (kept_under n (placed_from (s + 1) xs ++ es))) (same_number n s ∙ (equal_turned s n ∙ here))
  by false away None rest = rest
  by false away (Some c) rest = ap (λ (b : Bool). cond b (Some c) (kept_under n (placed_from (s + 1) xs ++ es))) (same_number n s ∙ (equal_turned s n ∙ away)) ∙ rest

pub kept_out : (n s : ℕ) (xs : List (Option Carried)) (es : List (ℕ × Carried)) → None ≡ value_placed s xs n → kept_under n es ≡ kept_under n (placed_from s xs ++ es)
kept_out n s xs es none = ap (λ (o : Option Carried). option_or o (kept_under n es)) none ∙ sym (kept_joined n s xs es)

pub kept_in : (n s : ℕ) (xs : List (Option Carried)) (es : List (ℕ × Carried)) (c : Carried) → Some c ≡ value_placed s xs n → Some c ≡ kept_under n (placed_from s xs ++ es)
kept_in n s xs es c some = ap (λ (o : Option Carried). option_or o (kept_under n es)) some ∙ sym (kept_joined n s xs es)

-- ---- one packet fewer

pub removed_none : (n : ℕ) (es : List (ℕ × Carried)) → kept_under n es ≡ None → remove_entry (is_at (nat_cmp n)) es ≡ es
removed_none n [] none = refl
removed_none n (e ∷ es) none = by (is_at (nat_cmp n) e.0) none (removed_none n es) where
  by : (b : Bool) → cond b (Some e.1) (kept_under n es) ≡ None → (kept_under n es ≡ None → remove_entry (is_at (nat_cmp n)) es ≡ es) → cond b es (e ∷ remove_entry (is_at (nat_cmp n)) es) ≡ e ∷ es
  by true none rest = absurd (cc (none))
  by false none rest = ap (λ (l : List (ℕ × Carried)). e ∷ l) (rest none)

-- no packet stands at its place
pub removed_out : (n s : ℕ) (xs : List (Option Carried)) (es : List (ℕ × Carried)) → value_placed s xs n ≡ None
    → placed_from s xs ++ remove_entry (is_at (nat_cmp n)) es ≡ remove_entry (is_at (nat_cmp n)) (placed_from s xs ++ es)
removed_out n s [] es none = refl
removed_out n s (x ∷ xs) es none = by (n == s) refl x none (removed_out n (s + 1) xs es) where
  by : (b : Bool) → (n == s) ≡ b → (y : Option Carried) → cond b y (value_placed (s + 1) xs n) ≡ None
      → (value_placed (s + 1) xs n ≡ None → placed_from (s + 1) xs ++ remove_entry (is_at (nat_cmp n)) es ≡ remove_entry (is_at (nat_cmp n)) (placed_from (s + 1) xs ++ es))
      → placed_from s (y ∷ xs) ++ remove_entry (is_at (nat_cmp n)) es ≡ remove_entry (is_at (nat_cmp n)) (placed_from s (y ∷ xs) ++ es)
  by true here None is rest = rest (placed_before (s + 1) xs n (omega (arith, eqb-true n s here)))
  by true here (Some c) is rest = absurd (cc (is))
  by false away None is rest = rest is
  by false away (Some c) is rest =
      ap (λ (l : List (ℕ × Carried)). (s, c) ∷ l) (rest is)
      ∙ sym (ap (λ (b : Bool). cond b (placed_from (s + 1) xs ++ es) ((s, c) ∷ remove_entry (is_at (nat_cmp n)) (placed_from (s + 1) xs ++ es))) (same_number n s ∙ (equal_turned s n ∙ away)))

pub removed_in : (n s l : ℕ) (xs : List (Option Carried)) (es : List (ℕ × Carried)) → s ≤ n → n < s + length xs → AreBehind (s + length xs) l es
    → placed_from s (slice_set xs (n - s) None) ++ es ≡ remove_entry (is_at (nat_cmp n)) (placed_from s xs ++ es)
removed_in n s l [] es from to behind = absurd (omega (arith, from, to))
removed_in n s l (x ∷ xs) es from to behind = by (s == n) refl x refl (λ h. removed_in n (s + 1) l xs es h (omega (arith, to)) moved) where
  further : (s == n) ≡ false → s + 1 ≤ n
  further other = grind (arith, nat_tests, from, other)

  next : s + 1 ≤ n → n - s ≡ suc (n - (s + 1))
  next h = omega (arith, h)

  moved : AreBehind (s + 1 + length xs) l es
  moved = subst (λ (e : ℕ). AreBehind e l es) same behind where
    same : s + length (x ∷ xs) ≡ s + 1 + length xs
    same = omega arith

  Goal : Option Carried → Type 0
  Goal z = placed_from s (slice_set (z ∷ xs) (n - s) None) ++ es ≡ remove_entry (is_at (nat_cmp n)) (placed_from s (z ∷ xs) ++ es)

  first : (s == n) ≡ true → n - s ≡ 0
  first here = omega (arith, eqb-true s n here)

  by : (b : Bool) → (s == n) ≡ b → (y : Option Carried) → x ≡ y
      → (s + 1 ≤ n → placed_from (s + 1) (slice_set xs (n - (s + 1)) None) ++ es ≡ remove_entry (is_at (nat_cmp n)) (placed_from (s + 1) xs ++ es)) → Goal x
  by true here None is rest = subst Goal (sym is)
      (ap (λ (k : ℕ). placed_from s (slice_set (None ∷ xs) k None) ++ es) (first here)
      ∙ sym (removed_none n (placed_from (s + 1) xs ++ es) (sym (kept_out n (s + 1) xs es (sym (placed_before (s + 1) xs n (omega (arith, eqb-true s n here)))))
      ∙ none_behind (s + 1 + length xs) l n es moved (omega (arith, eqb-true s n here)))))
  by true here (Some c) is rest = subst Goal (sym is)
      (ap (λ (k : ℕ). placed_from s (slice_set (Some c ∷ xs) k None) ++ es) (first here)
      ∙ sym (ap (λ (b : Bool). cond b (placed_from (s + 1) xs ++ es) ((s, c) ∷ remove_entry (is_at (nat_cmp n)) (placed_from (s + 1) xs ++ es))) (same_number n s ∙ here)))
  by false other None is rest = subst Goal (sym is)
      (ap (λ (k : ℕ). placed_from s (slice_set (None ∷ xs) k None) ++ es) (next (further other)) ∙ rest (further other))
  by false other (Some c) is rest = subst Goal (sym is)
      (ap (λ (k : ℕ). placed_from s (slice_set (Some c ∷ xs) k None) ++ es) (next (further other))
      ∙ (ap (λ (l : List (ℕ × Carried)). (s, c) ∷ l) (rest (further other))
      ∙ sym (ap (λ (b : Bool). cond b (placed_from (s + 1) xs ++ es) ((s, c) ∷ remove_entry (is_at (nat_cmp n)) (placed_from (s + 1) xs ++ es))) (same_number n s ∙ other))))

-- ---- one packet more

pub low_behind : (e l : ℕ) (es : List (ℕ × Carried)) → AreBehind e l es → AreBehind 0 l es
low_behind e l [] k = k
low_behind e l (x ∷ es) k = (omega arith, k.1, low_behind e l es k.2)

pub low_all : (s l : ℕ) (xs : List (Option Carried)) (es : List (ℕ × Carried)) → s + length xs ≤ l + 1 → AreBehind (s + length xs) l es → AreBehind 0 l (placed_from s xs ++ es)
low_all s l [] es fits k = low_behind (s + 0) l es k
low_all s l (None ∷ xs) es fits k = low_all (s + 1) l xs es (omega (arith, fits)) (subst (λ (e : ℕ). AreBehind e l es) same k) where
  same : s + suc (length xs) ≡ s + 1 + length xs
  same = omega arith
low_all s l (Some c ∷ xs) es fits k = (omega arith, omega (arith, fits), low_all (s + 1) l xs es (omega (arith, fits)) (subst (λ (e : ℕ). AreBehind e l es) same k)) where
  same : s + suc (length xs) ≡ s + 1 + length xs
  same = omega arith

pub inserted_last : (l : ℕ) (c : Carried) (es : List (ℕ × Carried)) → AreBehind 0 l es → insert_entry nat_cmp es (l + 1) c ≡ es ++ (l + 1, c) ∷ []
inserted_last l c [] k = refl
inserted_last l c (e ∷ es) k = grind (arith, nat_tests, k.1, inserted_last l c es k.2)

pub kept_last : (l m : ℕ) (c : Carried) (es : List (ℕ × Carried)) → AreBehind 0 l es → kept_under m (es ++ (l + 1, c) ∷ []) ≡ cond (is_at (nat_cmp (l + 1)) m) (Some c) (kept_under m es)
kept_last l m c [] k = ap (λ (b : Bool). cond b (Some c) None) (same_number m (l + 1) ∙ (equal_turned (l + 1) m ∙ sym (same_number (l + 1) m)))
kept_last l m c (e ∷ es) k = by (e.0 == m) refl (kept_last l m c es k.2) where
  apart : e.0 ≤ l → (e.0 == m) ≡ true → (m == l + 1) ≡ false
  apart h is = grind (arith, nat_tests, h, is)

  by : (b : Bool) → (e.0 == m) ≡ b → kept_under m (es ++ (l + 1, c) ∷ []) ≡ cond (is_at (nat_cmp (l + 1)) m) (Some c) (kept_under m es)
      → kept_under m (e ∷ es ++ (l + 1, c) ∷ []) ≡ cond (is_at (nat_cmp (l + 1)) m) (Some c) (kept_under m (e ∷ es))
  by true here rest =
      ap (λ (x : Bool). cond x (Some e.1) (kept_under m (es ++ (l + 1, c) ∷ []))) (same_number m e.0 ∙ here)
      ∙ (sym (ap (λ (x : Bool). cond x (Some e.1) (kept_under m es)) (same_number m e.0 ∙ here)) ∙ sym (ap (λ (x : Bool). cond x (Some c) (kept_under m (e ∷ es))) (same_number (l + 1) m ∙ apart k.1 here)))
  by false other rest =
      ap (λ (x : Bool). cond x (Some e.1) (kept_under m (es ++ (l + 1, c) ∷ []))) (same_number m e.0 ∙ other)
      ∙ (rest ∙ sym (ap (λ (x : Bool). cond (is_at (nat_cmp (l + 1)) m) (Some c) (cond x (Some e.1) (kept_under m es))) (same_number m e.0 ∙ other)))

pub behind_more : (e l : ℕ) (c : Carried) (es : List (ℕ × Carried)) → AreBehind e l es → e ≤ l + 1 → AreBehind e (l + 1) (es ++ (l + 1, c) ∷ [])
behind_more e l c [] k fits = (fits, omega arith, tt)
behind_more e l c (x ∷ es) k fits = (k.0, omega (arith, k.1), behind_more e l c es k.2 fits)

-- ---- in order

above_all : (b s l : ℕ) (xs : List (Option Carried)) (es : List (ℕ × Carried)) → b < s → AreBehind (s + length xs) l es → AllByRecursion (λ y. nat_cmp b y ≡ Less) (keys_of (placed_from s xs ++ es))
above_all b s l [] [] less k = tt
above_all b s l [] (e ∷ es) less k = (before e.0 k.0, above_all b s l [] es less k.2) where
  before : (y : ℕ) → s + 0 ≤ y → nat_cmp b y ≡ Less
  before y h = grind (arith, nat_tests, h, less)
above_all b s l (None ∷ xs) es less k = above_all b (s + 1) l xs es (omega (arith, less)) (subst (λ (e : ℕ). AreBehind e l es) same k) where
  same : s + suc (length xs) ≡ s + 1 + length xs
  same = omega arith
above_all b s l (Some c ∷ xs) es less k = (before, above_all b (s + 1) l xs es (omega (arith, less)) (subst (λ (e : ℕ). AreBehind e l es) same k)) where
  same : s + suc (length xs) ≡ s + 1 + length xs
  same = omega arith

  before : nat_cmp b s ≡ Less
  before = grind (arith, nat_tests, less)

pub sorted_all : (s l : ℕ) (xs : List (Option Carried)) (es : List (ℕ × Carried)) → AreBehind (s + length xs) l es → IsStrictlySortedBy nat_cmp (keys_of es)
    → IsStrictlySortedBy nat_cmp (keys_of (placed_from s xs ++ es))
unfolding IsStrictlySortedBy
sorted_all s l [] es k sorted = sorted
sorted_all s l (None ∷ xs) es k sorted = sorted_all (s + 1) l xs es (subst (λ (e : ℕ). AreBehind e l es) same k) sorted where
  same : s + suc (length xs) ≡ s + 1 + length xs
  same = omega arith
sorted_all s l (Some c ∷ xs) es k sorted = (above_all s (s + 1) l xs es (omega arith) moved, sorted_all (s + 1) l xs es moved sorted) where
  moved : AreBehind (s + 1 + length xs) l es
  moved = subst (λ (e : ℕ). AreBehind e l es) same k where
    same : s + suc (length xs) ≡ s + 1 + length xs
    same = omega arith

-- ---- steps

pub behind_weaker : (d e l : ℕ) (es : List (ℕ × Carried)) → d ≤ e → AreBehind e l es → AreBehind d l es
behind_weaker d e l [] less k = k
behind_weaker d e l (x ∷ es) less k = (omega (arith, k.0, less), k.1, behind_weaker d e l es less k.2)

pub behind_removed : (e l n : ℕ) (es : List (ℕ × Carried)) → AreBehind e l es → AreBehind e l (remove_entry (is_at (nat_cmp n)) es)
behind_removed e l n [] k = k
behind_removed e l n (x ∷ es) k = by (is_at (nat_cmp n) x.0) (behind_removed e l n es k.2) where
  by : (b : Bool) → AreBehind e l (remove_entry (is_at (nat_cmp n)) es) → AreBehind e l (cond b es (x ∷ remove_entry (is_at (nat_cmp n)) es))
  by true rest = k.2
  by false rest = (k.0, k.1, rest)

-- one packet fewer stands at the places
one_fewer : (s : ℕ) (xs : List (Option Carried)) (p : ℕ) (c : Carried) → slice_index_or xs p None ≡ Some c → length (placed_from s xs) ≡ length (placed_from s (slice_set xs p None)) + 1
one_fewer s [] p c is = absurd (cc (is))
one_fewer s (None ∷ xs) zero c is = absurd (cc (is))
one_fewer s (Some d ∷ xs) zero c is = omega arith
one_fewer s (None ∷ xs) (suc p) c is = one_fewer (s + 1) xs p c is
one_fewer s (Some d ∷ xs) (suc p) c is = omega (arith, one_fewer (s + 1) xs p c is)

stays_vacant : (xs : List (Option Carried)) (p : ℕ) → slice_index_or xs p None ≡ None → slice_set xs p None ≡ xs
stays_vacant [] p is = refl
stays_vacant (x ∷ xs) zero is = ap (λ (y : Option Carried). y ∷ xs) (sym is)
stays_vacant (x ∷ xs) (suc p) is = ap (λ (ys : List (Option Carried)). x ∷ ys) (stays_vacant xs p is)

-- a packet has a place
has_packet : (row : Places Carried) (n : ℕ) (c : Carried) → Some c ≡ placed_at row n → has_place row n ≡ true
has_packet row n c some = by (has_place row n) refl where
  by : (b : Bool) → has_place row n ≡ b → b ≡ true
  by true has = refl
  by false out = absurd (cc (some ∙ placed_past row.first row.places n out))

-- what is left where a packet was taken out of its place
pub record IsTaken (n : ℕ) (old new : Places Carried) (held last : ℕ) (rest : List (ℕ × Carried)) : Type 0 where
  pub entries : placed_from new.first new.places ++ rest ≡ remove_entry (is_at (nat_cmp n)) (placed_from old.first old.places ++ rest)
  pub updates : (m : ℕ) → kept_under m (placed_from new.first new.places ++ rest) ≡ cond (is_at (nat_cmp n) m) None (kept_under m (placed_from old.first old.places ++ rest))
  pub some : 1 ≤ held
  pub are : AreByNumber new (held - 1) rest last

pub taken_at : (n : ℕ) (c : Carried) (old new : Places Carried) (held last : ℕ) (rest : List (ℕ × Carried)) → AreByNumber old held rest last → Some c ≡ placed_at old n
    → ((m : ℕ) → placed_at new m ≡ cond (m == n) None (placed_at old m)) → (has_place old n ≡ true → new.places ≡ trimmed (slice_set old.places (n - old.first) None))
    → new.first + length new.places ≡ old.first + length old.places → IsTaken n old new held last rest
taken_at n c old new held last rest are some left places end = record {
  entries = ap (λ (ps : List (ℕ × Carried)). ps ++ rest) all ∙ removed_in n old.first last old.places rest from to are.behind;
  updates = updates;
  some = omega (arith, are.held_is, fewer);
  are = record {
    fits = omega (arith, end, are.fits);
    behind = subst (λ (e : ℕ). AreBehind e last rest) (sym end) are.behind;
    held_is = omega (arith, are.held_is, fewer, ap (λ (ps : List (ℕ × Carried)). length ps) all);
    few = omega (arith, are.few);
    filled = ap starts_vacant (places has) ∙ trimmed_filled xs;
  };
} where
  has : has_place old n ≡ true
  has = has_packet old n c some

  from : old.first ≤ n
  from = place_from old.first n (length old.places) has

  to : n < old.first + length old.places
  to = omega (arith, from, place_within old.first n (length old.places) has)

  xs : List (Option Carried)
  xs = slice_set old.places (n - old.first) None

  gone : new.first ≡ old.first + (length xs - length (trimmed xs))
  gone = omega (arith, end, ap (λ (zs : List (Option Carried)). length zs) (places has), trimmed_short xs, set_size old.places (n - old.first) None)

  all : placed_from new.first new.places ≡ placed_from old.first xs
  all = ap (λ (zs : List (Option Carried)). placed_from new.first zs) (places has) ∙ (ap (λ (k : ℕ). placed_from k (trimmed xs)) gone ∙ placed_trimmed old.first xs)

  fewer : length (placed_from old.first old.places) ≡ length (placed_from old.first xs) + 1
  fewer = one_fewer old.first old.places (n - old.first) c (place_reads old.first old.places n None has ∙ sym some)

  updates : (m : ℕ) → kept_under m (placed_from new.first new.places ++ rest) ≡ cond (is_at (nat_cmp n) m) None (kept_under m (placed_from old.first old.places ++ rest))
  updates m = kept_joined m new.first new.places rest ∙ (ap (λ (o : Option Carried). option_or o (kept_under m rest)) (left m) ∙ (by (m == n) refl
      ∙ (ap (λ (o : Option Carried). cond (m == n) None o) (sym (kept_joined m old.first old.places rest)) ∙ sym (ap (λ (b : Bool). cond b None (kept_under m (placed_from old.first old.places ++ rest))) (same_number n m))))) where
        by : (b : Bool) → (m == n) ≡ b → option_or (cond b None (placed_at old m)) (kept_under m rest) ≡ cond b None (option_or (placed_at old m) (kept_under m rest))
        by true here = none_behind (old.first + length old.places) last m rest are.behind (omega (arith, to, eqb-true m n here))
        by false away = refl

-- or where none stands at the place
pub not_taken : (n : ℕ) (old new : Places Carried) (held last : ℕ) (rest : List (ℕ × Carried)) → AreByNumber old held rest last → None ≡ placed_at old n
    → (has_place old n ≡ true → new.places ≡ trimmed (slice_set old.places (n - old.first) None)) → (has_place old n ≡ false → new ≡ old) → new.first + length new.places ≡ old.first + length old.places → new ≡ old
not_taken n old new held last rest are none places out end = by (has_place old n) refl where
  by : (b : Bool) → has_place old n ≡ b → new ≡ old
  by true has = λ i. record { first = first i; places = same i } where
    same : new.places ≡ old.places
    same = places has ∙ (ap trimmed (stays_vacant old.places (n - old.first) (place_reads old.first old.places n None has ∙ sym none)) ∙ trimmed_same old.places are.filled)

    first : new.first ≡ old.first
    first = omega (arith, end, ap (λ (zs : List (Option Carried)). length zs) same)
  by false away = out away

-- the entries of the tree change, and those of the row do not
pub removed_behind : (n s : ℕ) (xs : List (Option Carried)) (es fs : List (ℕ × Carried)) → None ≡ value_placed s xs n → fs ≡ remove_entry (is_at (nat_cmp n)) es
    → ((m : ℕ) → kept_under m fs ≡ cond (is_at (nat_cmp n) m) None (kept_under m es))
    → (placed_from s xs ++ fs ≡ remove_entry (is_at (nat_cmp n)) (placed_from s xs ++ es)) × ((m : ℕ) → kept_under m (placed_from s xs ++ fs) ≡ cond (is_at (nat_cmp n) m) None (kept_under m (placed_from s xs ++ es)))
removed_behind n s xs es fs none is updates = (ap (λ (l : List (ℕ × Carried)). placed_from s xs ++ l) is ∙ removed_out n s xs es (sym none), at) where
  at : (m : ℕ) → kept_under m (placed_from s xs ++ fs) ≡ cond (is_at (nat_cmp n) m) None (kept_under m (placed_from s xs ++ es))
  at m = kept_joined m s xs fs ∙ (ap (option_or (value_placed s xs m)) (updates m ∙ ap (λ (b : Bool). cond b None (kept_under m es)) (same_number n m)) ∙ (by (m == n) refl
      ∙ (ap (λ (o : Option Carried). cond (m == n) None o) (sym (kept_joined m s xs es)) ∙ sym (ap (λ (b : Bool). cond b None (kept_under m (placed_from s xs ++ es))) (same_number n m))))) where
        by : (b : Bool) → (m == n) ≡ b → option_or (value_placed s xs m) (cond b None (kept_under m es)) ≡ cond b None (option_or (value_placed s xs m) (kept_under m es))
        by true here = ap (λ (o : Option Carried). option_or o None) (ap (value_placed s xs) (eqb-true m n here) ∙ sym none)
        by false away = refl

-- one packet fewer in the tree
pub are_removed : (n : ℕ) (row : Places Carried) (held last : ℕ) (es fs : List (ℕ × Carried)) → AreByNumber row held es last → fs ≡ remove_entry (is_at (nat_cmp n)) es → AreByNumber row held fs last
are_removed n row held last es fs are is = record {
  fits = are.fits;
  behind = subst (λ (l : List (ℕ × Carried)). AreBehind (row.first + length row.places) last l) (sym is) (behind_removed (row.first + length row.places) last n es are.behind);
  held_is = are.held_is;
  few = are.few;
  filled = are.filled;
}

-- the number of the last one is greater than all
pub added_all : (l : ℕ) (c : Carried) (es es2 : List (ℕ × Carried)) → AreBehind 0 l es → es2 ≡ es ++ (l + 1, c) ∷ []
    → (es2 ≡ insert_entry nat_cmp es (l + 1) c) × ((m : ℕ) → kept_under m es2 ≡ cond (is_at (nat_cmp (l + 1)) m) (Some c) (kept_under m es))
added_all l c es es2 low is = (is ∙ sym (inserted_last l c es low), λ m. ap (λ (e : List (ℕ × Carried)). kept_under m e) is ∙ kept_last l m c es low)

nil_right : (es : List (ℕ × Carried)) → es ++ [] ≡ es
nil_right [] = refl
nil_right (e ∷ es) = ap (λ (l : List (ℕ × Carried)). e ∷ l) (nil_right es)

joined : (a b c : List (ℕ × Carried)) → a ++ (b ++ c) ≡ (a ++ b) ++ c
joined [] b c = refl
joined (e ∷ a) b c = ap (λ (l : List (ℕ × Carried)). e ∷ l) (joined a b c)

none_left : (es : List (ℕ × Carried)) → length es ≡ 0 → es ≡ []
none_left [] none = refl
none_left (e ∷ es) none = absurd (omega (arith, none))

few_placed : (s : ℕ) (xs : List (Option Carried)) → length (placed_from s xs) ≤ length xs
few_placed s [] = omega arith
few_placed s (None ∷ xs) = omega (arith, few_placed (s + 1) xs)
few_placed s (Some c ∷ xs) = omega (arith, few_placed (s + 1) xs)

pushed_filled : (xs : List (Option Carried)) (c : Carried) → starts_vacant xs ≡ false → starts_vacant (xs ++ Some c ∷ []) ≡ false
pushed_filled [] c filled = refl
pushed_filled (None ∷ xs) c filled = filled
pushed_filled (Some d ∷ xs) c filled = refl

last_length : (es : List (ℕ × Carried)) (e : ℕ × Carried) → length (es ++ e ∷ []) ≡ length es + 1
last_length [] e = refl
last_length (f ∷ es) e = omega (arith, last_length es e)

-- a packet has its place behind the others
pub added_place : (old new : Places Carried) (held last : ℕ) (rest : List (ℕ × Carried)) (c : Carried) → AreByNumber old held rest last → length rest ≡ 0
    → new.first + length old.places ≡ last + 1 → placed_from new.first old.places ≡ placed_from old.first old.places → new.places ≡ old.places ++ Some c ∷ [] → length new.places < 2 ^ 63
    → (placed_from new.first new.places ++ rest ≡ (placed_from old.first old.places ++ rest) ++ (last + 1, c) ∷ []) × AreByNumber new (held + 1) rest (last + 1)
added_place old new held last rest c are alone next same is few = (
  ap (λ (ps : List (ℕ × Carried)). ps ++ rest) placed
      ∙ subst (λ (fs : List (ℕ × Carried)). (placed_from old.first old.places ++ (last + 1, c) ∷ []) ++ fs ≡ (placed_from old.first old.places ++ fs) ++ (last + 1, c) ∷ []) (sym (none_left rest alone))
      (nil_right (placed_from old.first old.places ++ (last + 1, c) ∷ []) ∙ sym (ap (λ (ps : List (ℕ × Carried)). ps ++ (last + 1, c) ∷ []) (nil_right (placed_from old.first old.places)))),
  record {
    fits = omega (arith, next, longer);
    behind = subst (λ (fs : List (ℕ × Carried)). AreBehind (new.first + length new.places) (last + 1) fs) (sym (none_left rest alone)) tt;
    held_is = now;
    few = omega (arith, now, few_placed new.first new.places, few);
    filled = ap starts_vacant is ∙ pushed_filled old.places c are.filled;
  },
) where
  placed : placed_from new.first new.places ≡ placed_from old.first old.places ++ (last + 1, c) ∷ []
  placed = ap (λ (zs : List (Option Carried)). placed_from new.first zs) is ∙ (placed_pushed new.first old.places c (last + 1) next ∙ ap (λ (ps : List (ℕ × Carried)). ps ++ (last + 1, c) ∷ []) same)

  longer : length new.places ≡ length old.places + 1
  longer = ap (λ (zs : List (Option Carried)). length zs) is ∙ one_more old.places (Some c)

  now : held + 1 ≡ length (placed_from new.first new.places)
  now = omega (arith, are.held_is, ap (λ (ps : List (ℕ × Carried)). length ps) placed, last_length (placed_from old.first old.places) (last + 1, c))

-- or stands in the tree
pub added_behind : (row : Places Carried) (held last : ℕ) (es fs : List (ℕ × Carried)) (c : Carried) → AreByNumber row held es last → fs ≡ insert_entry nat_cmp es (last + 1) c
    → (placed_from row.first row.places ++ fs ≡ (placed_from row.first row.places ++ es) ++ (last + 1, c) ∷ []) × AreByNumber row held fs (last + 1)
added_behind row held last es fs c are is =
    let at_end : fs ≡ es ++ (last + 1, c) ∷ [] = is ∙ inserted_last last c es (low_behind (row.first + length row.places) last es are.behind) in (
      ap (λ (e : List (ℕ × Carried)). placed_from row.first row.places ++ e) at_end ∙ joined (placed_from row.first row.places) es ((last + 1, c) ∷ []),
      record {
        fits = omega (arith, are.fits);
        behind = subst (λ (e : List (ℕ × Carried)). AreBehind (row.first + length row.places) (last + 1) e) (sym at_end) (behind_more (row.first + length row.places) last c es are.behind are.fits);
        held_is = are.held_is;
        few = are.few;
        filled = are.filled;
      },
    )

-- how many packets there are
pub length_all : (row : Places Carried) (held last : ℕ) (es : List (ℕ × Carried)) → AreByNumber row held es last → length (placed_from row.first row.places ++ es) ≡ held + length es
length_all row held last es are = joined_length (placed_from row.first row.places) ∙ ap (λ (k : ℕ). k + length es) (sym are.held_is) where
  joined_length : (ps : List (ℕ × Carried)) → length (ps ++ es) ≡ length ps + length es
  joined_length [] = omega arith
  joined_length (p ∷ ps) = omega (arith, joined_length ps)
