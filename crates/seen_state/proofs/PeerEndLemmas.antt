-- Octets that are taken, and the whole PDUs that are cut off in front of them.
use Rattle.std.proofs.Common.{◌≡◌, ◌==◌, ◌<◌, ◌≤◌, ◌+◌, ◌-◌, ◌++◌, ◌∷◌, ◌∙◌, [], ℕ, zero, suc, Bool, true, false, List, nat_lt, min, cond, refl, ap, sym, arith, length, take, drop}
use Rattle.std.proofs.lemmas.Bool.Decides.{nat_tests}
use Rattle.std.proofs.lemmas.List.{drop-append-le, drop-drop, drop_all, drop_min, length-drop, length-take-le, take_min}
use Rattle.net_base.specs.trace.Frame.{pair_at}
use Rattle.seen_network.specs.Seen.{cut, cut_within}
use Rattle.seen_state.specs.PeerEnd.{whole_pdu}

pub whole_within : (xs : List ℕ) → whole_pdu xs ≤ length xs
whole_within xs = by (nat_lt (length xs) 4) (nat_lt (length xs) (4 + pair_at xs 2)) refl where
  by : (a b : Bool) → nat_lt (length xs) (4 + pair_at xs 2) ≡ b → cond a 0 (cond b 0 (4 + pair_at xs 2)) ≤ length xs
  by true b h = grind arith
  by false true h = grind arith
  by false false h = grind (arith, nat_tests, h)

-- ---- cutting

short : (xs : List ℕ) → length xs ≤ 0 → nat_lt (length xs) 4 ≡ true
short xs h = grind (arith, nat_tests, h)

less : (k n : ℕ) (xs : List ℕ) → length xs ≤ suc n → length (drop (4 + k) xs) ≤ n
less k n xs h = omega (arith, length-drop (4 + k) xs, h)

-- of enough steps any number will do
cut_enough : (n m : ℕ) (xs : List ℕ) → length xs ≤ n → length xs ≤ m → cut_within n xs ≡ cut_within m xs
cut_enough zero zero xs h g = refl
cut_enough zero (suc m) xs h g = sym (ap (λ (b : Bool). cond b xs (cond (nat_lt (length xs) (4 + pair_at xs 2)) xs (cut_within m (drop (4 + pair_at xs 2) xs)))) (short xs h))
cut_enough (suc n) zero xs h g = ap (λ (b : Bool). cond b xs (cond (nat_lt (length xs) (4 + pair_at xs 2)) xs (cut_within n (drop (4 + pair_at xs 2) xs)))) (short xs g)
cut_enough (suc n) (suc m) xs h g =
    by (nat_lt (length xs) 4) (nat_lt (length xs) (4 + pair_at xs 2)) (cut_enough n m (drop (4 + pair_at xs 2) xs) (less (pair_at xs 2) n xs h) (less (pair_at xs 2) m xs g)) where
      by : (a b : Bool) → cut_within n (drop (4 + pair_at xs 2) xs) ≡ cut_within m (drop (4 + pair_at xs 2) xs)
          → cond a xs (cond b xs (cut_within n (drop (4 + pair_at xs 2) xs))) ≡ cond a xs (cond b xs (cut_within m (drop (4 + pair_at xs 2) xs)))
      by true b rest = refl
      by false true rest = refl
      by false false rest = rest

-- one step of a list that is long enough
cut_step : (n : ℕ) (xs : List ℕ) → length xs ≤ n → cut_within n xs ≡ cond (whole_pdu xs == 0) xs (cut_within n (drop (whole_pdu xs) xs))
cut_step zero xs h = by (whole_pdu xs == 0) none where
  none : 0 ≡ whole_pdu xs
  none = omega (arith, h, whole_within xs)

  by : (b : Bool) → 0 ≡ whole_pdu xs → xs ≡ cond b xs (drop (whole_pdu xs) xs)
  by true is = refl
  by false is = ap (λ (k : ℕ). drop k xs) is
cut_step (suc n) xs h = by (nat_lt (length xs) 4) (nat_lt (length xs) (4 + pair_at xs 2)) where
  rest : cut_within n (drop (4 + pair_at xs 2) xs) ≡ cut_within (suc n) (drop (4 + pair_at xs 2) xs)
  rest = cut_enough n (suc n) (drop (4 + pair_at xs 2) xs) (less (pair_at xs 2) n xs h) (omega (arith, less (pair_at xs 2) n xs h))

  some : (4 + pair_at xs 2 == 0) ≡ false
  some = grind (arith, nat_tests)

  by : (a b : Bool) → cond a xs (cond b xs (cut_within n (drop (4 + pair_at xs 2) xs)))
      ≡ cond (cond a 0 (cond b 0 (4 + pair_at xs 2)) == 0) xs (cut_within (suc n) (drop (cond a 0 (cond b 0 (4 + pair_at xs 2))) xs))
  by true b = refl
  by false true = refl
  by false false = rest ∙ sym (ap (λ (b : Bool). cond b xs (cut_within (suc n) (drop (4 + pair_at xs 2) xs))) some)

pub cut_none : (xs : List ℕ) → (whole_pdu xs == 0) ≡ true → cut xs ≡ xs
cut_none xs none = cut_step (length xs) xs (omega arith) ∙ ap (λ (b : Bool). cond b xs (cut_within (length xs) (drop (whole_pdu xs) xs))) none

pub cut_one : (xs : List ℕ) → (whole_pdu xs == 0) ≡ false → cut (drop (whole_pdu xs) xs) ≡ cut xs
cut_one xs some =
    cut_enough (length (drop (whole_pdu xs) xs)) (length xs) (drop (whole_pdu xs) xs) (omega arith) (omega (arith, length-drop (whole_pdu xs) xs))
    ∙ sym (cut_step (length xs) xs (omega arith) ∙ ap (λ (b : Bool). cond b xs (cut_within (length xs) (drop (whole_pdu xs) xs))) some)

pub cut_fewer : (xs : List ℕ) → (whole_pdu xs == 0) ≡ false → length (drop (whole_pdu xs) xs) < length xs
cut_fewer xs some = grind (arith, nat_tests, length-drop (whole_pdu xs) xs, whole_within xs, some)

pub ruleset cut_steps = (cut_none, cut_one, cut_fewer)

-- behind octets and as many more
pub past_more : (a b : ℕ) (xs : List ℕ) → drop (a + b) xs ≡ drop b (drop a xs)
past_more a b xs = sym (drop-drop b a xs)

-- ---- taking

abbrev nothing : List ℕ
nothing = []

take_none : (n : ℕ) → take n nothing ≡ nothing
take_none zero = refl
take_none (suc n) = refl

-- up to an octet, and up to one behind it
take_more : (t n : ℕ) (xs : List ℕ) → take (t + n) xs ≡ take t xs ++ take n (drop t xs)
take_more zero n xs = let q : zero + n ≡ n = omega arith in rw q refl
take_more (suc t) n [] = take_none (suc t + n) ∙ sym (take_none n)
take_more (suc t) n (x ∷ xs) = let q : suc t + n ≡ suc (t + n) = omega arith in ap (λ (k : ℕ). take k (x ∷ xs)) q ∙ ap (λ ys. x ∷ ys) (take_more t n xs)

left_of : (t : ℕ) (xs : List ℕ) → length xs - t ≡ length (drop t xs)
left_of t xs = sym (length-drop t xs)

pub held_more : (a t n : ℕ) (xs : List ℕ) → a ≤ t → t ≤ length xs → drop a (take (t + min n (length xs - t)) xs) ≡ drop a (take t xs) ++ take n (drop t xs)
held_more a t n xs h g =
    ap (λ (k : ℕ). drop a (take (t + min n k) xs)) (left_of t xs)
    ∙ (ap (λ ys. drop a ys) (take_more t (min n (length (drop t xs))) xs)
    ∙ (ap (λ ys. drop a (take t xs ++ ys)) (take_min n (drop t xs))
    ∙ drop-append-le a (take t xs) (take n (drop t xs)) (omega (arith, h, length-take-le t xs g))))

pub way_less : (t n : ℕ) (xs : List ℕ) → drop (t + min n (length xs - t)) xs ≡ drop n (drop t xs)
way_less t n xs = ap (λ (k : ℕ). drop (t + min n k) xs) (left_of t xs) ∙ (past_more t (min n (length (drop t xs))) xs ∙ drop_min n (drop t xs))

pub ruleset moved = (held_more, way_less)

-- nothing is left
pub rest_none : (a t : ℕ) (xs : List ℕ) → a ≤ t → t ≤ length xs → a ≡ length xs → drop a (take t xs) ≡ []
rest_none a t xs h g is = drop_all a (take t xs) (omega (arith, length-take-le t xs g, h, is, g))

pub way_none : (a t : ℕ) (xs : List ℕ) → a ≤ t → a ≡ length xs → drop t xs ≡ []
way_none a t xs h is = drop_all t xs (omega (arith, h, is))

pub ruleset none_left = (rest_none, way_none)
