-- Windows that are over.
use Rattle.std.proofs.Common.{◌≡◌, ◌==◌, ◌<◌, ◌≤◌, ◌+◌, ◌&&◌, ◌||◌, ◌++◌, ◌∷◌, ◌∙◌, ◌⊎◌, inl, inr, [], ℕ, Bool, true, false, not, List, cond, drop, get_or, length, take, refl, ap, sym, subst}
use Rattle.std.proofs.lemmas.Bool.{eqb-true, or_right, or_left}
use Rattle.std.proofs.lemmas.List.{append-nil, append_assoc, drop_more, take_all, take_more}
use Rattle.std.proofs.lemmas.List.Folds.{list_any-append}
use Rattle.std.specs.List.{filter}
use Rattle.net_values.proofs.NumberLemmas.{same_number, equal_turned}
use Rattle.seen_network.specs.Once.{has_seen}
use Rattle.seen_network.specs.Seen.{Seen}
use Rattle.seen_network.specs.Windows.{AmongWindows}
use Rattle.seen_network.specs.declared.window.Window.{Window}
use Rattle.window_audit.specs.OpenWindows.{ClosesOne, HasClosed, is_one_of, are_copies_over}
use Rattle.window_audit.proofs.OpenWindowsLemmas.{among_either, among_filter, among_left, among_right, from_filter}

-- a frame of which none is
pub closed_one : (seen : Seen) (origin : ℕ) (flooded : Window → Bool) (old new : ℕ → List Window) (owed owed2 : List Window) → has_seen seen origin ≡ false
    → ((q : ℕ) → new q ≡ cond (q == origin) [] (old q))
    → owed2 ≡ owed ++ filter flooded (old origin)
    → HasClosed (are_copies_over seen (origin ∷ [])) flooded old new owed owed2
closed_one seen origin flooded old new owed owed2 none taken owes = record {
  left = λ q. taken q ∙ ap (λ (b : Bool). cond b [] (old q)) (at_one q);
  kept = λ w h. subst (AmongWindows w) (sym owes) (among_left w owed (filter flooded (old origin)) h);
  closes = λ w one. subst (AmongWindows w) (sym owes) (among_right w owed (filter flooded (old origin)) (among_filter flooded w (old origin) (subst (λ (q : ℕ). AmongWindows w (old q)) (is_it one.origin
      one.over) one.was) one.flooded_is));
  closed = λ w h. of w (among_either w owed (filter flooded (old origin)) (subst (AmongWindows w) owes h));
} where
  at_one : (q : ℕ) → (q == origin) ≡ are_copies_over seen (origin ∷ []) q
  at_one q = equal_turned q origin ∙ by (origin == q) refl where
    by : (b : Bool) → (origin == q) ≡ b → b ≡ (b || false) && not (has_seen seen q)
    by true at = sym (ap (λ (o : ℕ). not (has_seen seen o)) (sym (eqb-true origin q at)) ∙ ap not none)
    by false away = refl

  is_it : (q : ℕ) → are_copies_over seen (origin ∷ []) q ≡ true → q ≡ origin
  is_it q over = eqb-true q origin (at_one q ∙ over)

  itself : are_copies_over seen (origin ∷ []) origin ≡ true
  itself = sym (at_one origin) ∙ same_number origin

  made : (w : Window) → AmongWindows w (old origin) × (flooded w ≡ true) → ClosesOne (are_copies_over seen (origin ∷ [])) flooded old w
  made w p = record { origin = origin; over = itself; was = p.0; flooded_is = p.1 }

  of : (w : Window) → AmongWindows w owed ⊎ AmongWindows w (filter flooded (old origin)) → AmongWindows w owed ⊎ ClosesOne (are_copies_over seen (origin ∷ [])) flooded old w
  of w (inl h) = inl h
  of w (inr h) = inr (made w (from_filter flooded w (old origin) h))

-- one more after others
closed_on : (g1 g2 g : ℕ → Bool) (flooded : Window → Bool) (a b c : ℕ → List Window) (o o1 o2 : List Window) → ((q : ℕ) → g q ≡ g1 q || g2 q)
    → HasClosed g1 flooded a b o o1 → HasClosed g2 flooded b c o1 o2 → HasClosed g flooded a c o o2
closed_on g1 g2 g flooded a b c o o1 o2 both first then = record {
  left = λ q. then.left q ∙ (ap (λ (xs : List Window). cond (g2 q) [] xs) (first.left q) ∙ (two (g1 q) (g2 q) (a q) ∙ ap (λ (t : Bool). cond t [] (a q)) (sym (both q))));
  kept = λ w h. then.kept w (first.kept w h);
  closes = λ w one. of w one (g1 one.origin) refl;
  closed = λ w h. back w (then.closed w h);
} where
  two : (x y : Bool) (xs : List Window) → cond y [] (cond x [] xs) ≡ cond (x || y) [] xs
  two true true xs = refl
  two true false xs = refl
  two false true xs = refl
  two false false xs = refl

  of : (w : Window) (one : ClosesOne g flooded a w) (t : Bool) → g1 one.origin ≡ t → AmongWindows w o2
  of w one true holds = then.kept w (first.closes w (record { origin = one.origin; over = holds; was = one.was; flooded_is = one.flooded_is }))
  of w one false fails = then.closes w (record {
    origin = one.origin;
    over = ap (λ (t : Bool). t || g2 one.origin) (sym fails) ∙ (sym (both one.origin) ∙ one.over);
    was = subst (AmongWindows w) (sym (first.left one.origin ∙ ap (λ (t : Bool). cond t [] (a one.origin)) fails)) one.was;
    flooded_is = one.flooded_is;
  })

  was_in : (q : ℕ) (w : Window) → AmongWindows w (b q) → AmongWindows w (a q)
  was_in q w h = by (g1 q) (subst (AmongWindows w) (first.left q) h) where
    by : (t : Bool) → AmongWindows w (cond t [] (a q)) → AmongWindows w (a q)
    by true k = absurd k
    by false k = k

  late : (w : Window) → ClosesOne g2 flooded b w → ClosesOne g flooded a w
  late w one = record { origin = one.origin; over = both one.origin ∙ or_right (g1 one.origin) (g2 one.origin) one.over; was = was_in one.origin w one.was; flooded_is = one.flooded_is }

  early : (w : Window) → ClosesOne g1 flooded a w → ClosesOne g flooded a w
  early w one = record { origin = one.origin; over = both one.origin ∙ or_left (g1 one.origin) (g2 one.origin) one.over; was = one.was; flooded_is = one.flooded_is }

  front : (w : Window) → AmongWindows w o ⊎ ClosesOne g1 flooded a w → AmongWindows w o ⊎ ClosesOne g flooded a w
  front w (inl h) = inl h
  front w (inr one) = inr (early w one)

  back : (w : Window) → AmongWindows w o1 ⊎ ClosesOne g2 flooded b w → AmongWindows w o ⊎ ClosesOne g flooded a w
  back w (inl h) = front w (first.closed w h)
  back w (inr one) = inr (late w one)

pub closed_more : (seen : Seen) (losses : List ℕ) (place : ℕ) (flooded : Window → Bool) (a b c : ℕ → List Window) (o o1 o2 : List Window) → place < length losses
    → HasClosed (are_copies_over seen (take place losses)) flooded a b o o1 → HasClosed (are_copies_over seen (get_or losses place 0 ∷ [])) flooded b c o1 o2
    → HasClosed (are_copies_over seen (take (place + 1) losses)) flooded a c o o2
closed_more seen losses place flooded a b c o o1 o2 within first then =
    closed_on (are_copies_over seen (take place losses)) (are_copies_over seen (get_or losses place 0 ∷ [])) (are_copies_over seen (take (place + 1) losses)) flooded a b c o o1 o2 both first then where
      split : (x y z : Bool) → (x || y) && z ≡ (x && z) || (y && z)
      split true true true = refl
      split true true false = refl
      split true false true = refl
      split true false false = refl
      split false y z = refl

      both : (q : ℕ) → are_copies_over seen (take (place + 1) losses) q ≡ are_copies_over seen (take place losses) q || are_copies_over seen (get_or losses place 0 ∷ []) q
      both q =
          ap (λ (xs : List ℕ). are_copies_over seen xs q) (take_more losses place 0 within)
          ∙ (ap (λ (t : Bool). t && not (has_seen seen q)) (list_any-append (λ n. n == q) (take place losses) (get_or losses place 0 ∷ []))
          ∙ split (is_one_of (take place losses) q) (is_one_of (get_or losses place 0 ∷ []) q) (not (has_seen seen q)))

pub closed_whole : (seen : Seen) (losses : List ℕ) (place : ℕ) (flooded : Window → Bool) (a b : ℕ → List Window) (o o1 : List Window) → length losses ≤ place
    → HasClosed (are_copies_over seen (take place losses)) flooded a b o o1 → HasClosed (are_copies_over seen losses) flooded a b o o1
closed_whole seen losses place flooded a b o o1 known h = subst (λ (xs : List ℕ). HasClosed (are_copies_over seen xs) flooded a b o o1) (take_all place losses known) h

-- ---- those that are owed, one by one

pub owes_more : (t : Window → Bool) (xs : List Window) (place : ℕ) (x : Window) (o o2 whole : List Window) → place < length xs → x ≡ get_or xs place x → o2 ≡ o ++ cond (t x) (x ∷ []) []
    → o ++ filter t (drop place xs) ≡ whole → o2 ++ filter t (drop (place + 1) xs) ≡ whole
owes_more t xs place x o o2 whole within is more sofar =
    ap (λ (ys : List Window). ys ++ filter t (drop (place + 1) xs)) more
    ∙ (by (t x)
    ∙ (ap (λ (ys : List Window). o ++ filter t ys) (sym (drop_more xs place x within ∙ ap (λ (y : Window). y ∷ drop (place + 1) xs) (sym is))) ∙ sofar)) where
      by : (b : Bool) → (o ++ cond b (x ∷ []) []) ++ filter t (drop (place + 1) xs) ≡ o ++ cond b (x ∷ filter t (drop (place + 1) xs)) (filter t (drop (place + 1) xs))
      by true = append_assoc o (x ∷ []) (filter t (drop (place + 1) xs))
      by false = append_assoc o [] (filter t (drop (place + 1) xs))

pub owes_whole : (rest o whole : List Window) → rest ≡ [] → o ++ rest ≡ whole → o ≡ whole
owes_whole rest o whole none sofar = sym (append-nil o) ∙ (ap (λ (ys : List Window). o ++ ys) (sym none) ∙ sofar)
