-- Rows: what holds at a place, behind a push, in a part, and of every row.
use Rattle.std.proofs.Common.{◌++◌, ◌+◌, ◌<◌, ◌||◌, ◌∙◌, ◌∷◌, ◌≡◌, Bool, List, None, Some, [], ap, arith, cond, drop, eqb-true, false, get_or, inl, inr, length, map, nat_eq, refl, replicate, set, slice_get, slice_index_or, slice_set, subst, suc, sym, take, true, zero, ℕ}
use Rattle.std.proofs.lemmas.Bool.{cases_Bool}
use Rattle.std.proofs.lemmas.Bool.Decides.{nat_tests}
use Rattle.std.proofs.lemmas.List.Elements.{All-cons, All-get_or, All-head, All-nil, All-tail}
use Rattle.std.proofs.lemmas.Option.{get_or_from_slice_get, slice_get_within}
use Rattle.std.proofs.lemmas.Slice.Eq.{bytes_eq-Decides}
use Rattle.std.specs.List.{All, AllByRecursion, find, list_any}
use Rattle.std.specs.Str.{bytes_eq}

pub all-append : {A : Type 0} (P : A → Type 0) (xs ys : List A) → AllByRecursion P xs → AllByRecursion P ys → AllByRecursion P (xs ++ ys)
all-append P [] ys are_x are_y = are_y
all-append P (x ∷ xs) ys are_x are_y = (are_x.0, all-append P xs ys are_x.1 are_y)

pub back_all : {X : Type 0} (P : X → Type 0) (xs ys : List X) → All P (xs ++ ys) → All P ys
back_all P [] ys all = all
back_all P (x ∷ xs) ys all = back_all P xs ys (All-tail P x (xs ++ ys) all)

pub bytes_eq-sym : (xs ys : List ℕ) → bytes_eq xs ys ≡ bytes_eq ys xs
bytes_eq-sym [] [] = refl
bytes_eq-sym [] (y ∷ ys) = refl
bytes_eq-sym (x ∷ xs) [] = refl
bytes_eq-sym (x ∷ xs) (y ∷ ys) = grind (arith, nat_tests, bytes_eq-sym xs ys)

pub drop_next : {X : Type 0} (xs : List X) (i : ℕ) (x : X) → i < length xs → x ≡ get_or xs i x → drop i xs ≡ x ∷ drop (i + 1) xs
drop_next xs i x within is = let next : i + 1 ≡ suc i = omega arith in rw next (by xs i x within is) where
  by : {X : Type 0} (xs : List X) (i : ℕ) (x : X) → i < length xs → x ≡ get_or xs i x → drop i xs ≡ x ∷ drop (suc i) xs
  by [] i x within is = absurd (omega (arith, within))
  by {X = X} (y ∷ ys) zero x within is = ap (λ (z : X). z ∷ ys) (sym is)
  by (y ∷ ys) (suc i) x within is = by ys i x (omega (arith, within)) is

pub edited_length : {X : Type 0} (f : X → X) (xs : List X) (i : ℕ) → length (map f (take i xs) ++ drop i xs) ≡ length xs
edited_length f [] zero = refl
edited_length f [] (suc i) = refl
edited_length f (x ∷ xs) zero = refl
edited_length f (x ∷ xs) (suc i) = ap suc (edited_length f xs i)

pub edited_next : {X : Type 0} (f : X → X) (xs : List X) (i : ℕ) (d : X) → i < length xs
    → set (map f (take i xs) ++ drop i xs) i (f (get_or (map f (take i xs) ++ drop i xs) i d)) ≡ map f (take (suc i) xs) ++ drop (suc i) xs
edited_next f [] i d within = absurd (omega arith)
edited_next f (x ∷ xs) zero d within = refl
edited_next {X = X} f (x ∷ xs) (suc i) d within = ap (λ (l : List X). f x ∷ l) (edited_next f xs i d (omega arith))

pub empty_of_length : (more : List ℕ) → length more ≡ 0 → more ≡ []
empty_of_length [] e = refl
empty_of_length (x ∷ more) e = absurd (omega (arith, e))

pub empty_of_test : (xs : List ℕ) → nat_eq (length xs) 0 ≡ true → xs ≡ []
empty_of_test [] e = refl
empty_of_test (x ∷ xs) e = absurd (omega (arith, eqb-true _ _ e))

pub found_among : {X : Type 0} (P : X → Type 0) (test : X → Bool) (xs : List X) (x : X) → AllByRecursion P xs → find test xs ≡ Some x → P x
found_among P test [] x all is = absurd (cc (is))
found_among P test (y ∷ xs) x all is = by (test y) is (λ later. found_among P test xs x all.1 later) where
  by : (b : Bool) → cond b (Some y) (find test xs) ≡ Some x → (find test xs ≡ Some x → P x) → P x
  by true is later =
      let same : y ≡ x = cc (is) in
      subst P same all.0
  by false is later = later is

pub found_is_any : {A : Type 0} (test other : A → Bool) (xs : List A) (x : A) → find test xs ≡ Some x → other x ≡ true → list_any other xs ≡ true
found_is_any test other [] x is passes = absurd (cc is)
found_is_any test other (y ∷ ys) x is passes = by (test y) is (λ rest. found_is_any test other ys x rest passes) where
  by : (b : Bool) → cond b (Some y) (find test ys) ≡ Some x → (find test ys ≡ Some x → list_any other ys ≡ true) → other y || list_any other ys ≡ true
  by true at rest =
      let same : y ≡ x = cc (at) in
      rw (ap other same ∙ passes) refl
  by false at rest = more (other y) (rest at) where
    more : (b : Bool) {c : Bool} → c ≡ true → b || c ≡ true
    more true e = refl
    more false e = e

pub found_passes : {X : Type 0} (test : X → Bool) (xs : List X) (x : X) → find test xs ≡ Some x → test x ≡ true
found_passes test [] x is = absurd (cc (is))
found_passes test (first ∷ xs) x is = by (test first) refl is (λ rest. found_passes test xs x rest) where
  by : (b : Bool) → test first ≡ b → cond b (Some first) (find test xs) ≡ Some x → (find test xs ≡ Some x → test x ≡ true) → test x ≡ true
  by true passes is again =
      let same : first ≡ x = cc (is) in
      ap test (sym same) ∙ passes
  by false fails is again = again is

pub front_all : {X : Type 0} (P : X → Type 0) (xs ys : List X) → All P (xs ++ ys) → All P xs
front_all P [] ys all = All-nil P
front_all P (x ∷ xs) ys all = All-cons P x xs (All-head P x (xs ++ ys) all) (front_all P xs ys (All-tail P x (xs ++ ys) all))

pub front_empty : (x y : List ℕ) → x ++ y ≡ [] → x ≡ []
front_empty [] y e = refl
front_empty (a ∷ x) y e = absurd (no (x ++ y) e)
  where
    no : (z : List ℕ) → a ∷ z ≡ [] → ⊥
    no z e = cc

pub front_heads : (x y : ℕ) (a b c d : List ℕ) → x ∷ (a ++ b) ≡ y ∷ (c ++ d) → x ≡ y
front_heads x y a b c d e = cc

pub front_tails : (x y : ℕ) (a b c d : List ℕ) → x ∷ (a ++ b) ≡ y ∷ (c ++ d) → a ++ b ≡ c ++ d
front_tails x y a b c d e = cc

pub head_same : {A : Type 0} (x y : A) (xs ys : List A) → x ∷ xs ≡ y ∷ ys → x ≡ y
head_same x y xs ys e = cc (e)

pub holds_at : {X : Type 0} (P : X → Type 0) (xs : List X) (i : ℕ) (d : X) → AllByRecursion P xs → i < length xs → P (slice_index_or xs i d)
holds_at P [] i d all within = absurd (omega (arith, within))
holds_at P (x ∷ xs) zero d all within = all.0
holds_at P (x ∷ xs) (suc i) d all within = holds_at P xs i d all.1 (omega (arith, within))

pub index_end : {X : Type 0} (xs : List X) (x d : X) (k : ℕ) → slice_index_or (xs ++ x ∷ []) k d ≡ cond (nat_eq k (length xs)) x (slice_index_or xs k d)
index_end [] x d zero = refl
index_end [] x d (suc k) = grind (arith, nat_tests)
index_end (y ∷ ys) x d zero = grind (arith, nat_tests)
index_end (y ∷ ys) x d (suc k) = grind (arith, nat_tests, index_end ys x d k)

pub join_front : (x y : ℕ) (a c : List ℕ) → x ≡ y → a ≡ c → x ∷ a ≡ y ∷ c
join_front x y a c p q = cc

pub joined_length : (w rest : List ℕ) → length (w ++ rest) ≡ length w + length rest
joined_length [] rest = omega arith
joined_length (x ∷ w) rest = omega (arith, joined_length w rest)

pub last_of : {X : Type 0} (xs : List X) (x d : X) → slice_index_or (xs ++ x ∷ []) (length xs) d ≡ x
last_of [] x d = refl
last_of (y ∷ xs) x d = last_of xs x d

pub none_passes : {A : Type 0} (test : A → Bool) (xs : List A) (i : ℕ) (x : A) → find test xs ≡ None → slice_get xs i ≡ Some x → test x ≡ false
none_passes test [] i x none at = absurd (cc (at))
none_passes test (y ∷ ys) i x none at = by (test y) refl i at (λ j later rest. none_passes test ys j x rest later) where
  by : (b : Bool) → test y ≡ b → (i : ℕ) → slice_get (y ∷ ys) i ≡ Some x → ((j : ℕ) → slice_get ys j ≡ Some x → find test ys ≡ None → test x ≡ false) → test x ≡ false
  by true here i at more = absurd (cc (rw here at none))
  by false away zero at more = (let same : y ≡ x = cc (at) in ap test (sym same) ∙ away)
  by false away (suc j) at more = more j at (rw away at none)

pub octets_apart_back : (a b : List ℕ) → bytes_eq a b ≡ false → bytes_eq b a ≡ false
octets_apart_back a b apart = elim (cases_Bool (bytes_eq b a)) [
  | inl same ↦ cc (sym apart ∙ (bytes_eq-Decides a b).1 (sym ((bytes_eq-Decides b a).0 same)))
  | inr other ↦ other
]

pub octets_apart_test : (a b : List ℕ) → (a ≡ b → ⊥) → bytes_eq a b ≡ false
octets_apart_test a b apart = elim (cases_Bool (bytes_eq a b)) [
  | inl same ↦ absurd (apart ((bytes_eq-Decides a b).0 same))
  | inr other ↦ other
]

pub octets_unlike : (a b : List ℕ) → bytes_eq a b ≡ false → a ≡ b → ⊥
octets_unlike a b other same = absurd (cc (sym other ∙ (bytes_eq-Decides a b).1 same))

pub replicate_at : {X : Type 0} (n : ℕ) (x d : X) (k : ℕ) → k < n → slice_index_or (replicate n x) k d ≡ x
replicate_at zero x d k h = grind arith
replicate_at (suc n) x d zero h = refl
replicate_at (suc n) x d (suc k) h = replicate_at n x d k (grind arith)

pub replicate_default : {X : Type 0} (n : ℕ) (d : X) (k : ℕ) → slice_index_or (replicate n d) k d ≡ d
replicate_default zero d k = refl
replicate_default (suc n) d zero = refl
replicate_default (suc n) d (suc k) = replicate_default n d k

pub replicate_length : {X : Type 0} (n : ℕ) (x : X) → length (replicate n x) ≡ n
replicate_length zero x = refl
replicate_length (suc n) x = ap suc (replicate_length n x)

pub replicate_suc : {X : Type 0} (n : ℕ) (x : X) → replicate n x ++ x ∷ [] ≡ replicate (suc n) x
replicate_suc zero x = refl
replicate_suc (suc n) x = ap (λ xs. x ∷ xs) (replicate_suc n x)

pub row_holds : {A : Type 0} (P : A → Type 0) (rows : List A) (place : ℕ) (row : A) → slice_get rows place ≡ Some row → All P rows → P row
row_holds P rows place row is all = subst P (get_or_from_slice_get rows place row row is) (All-get_or P rows place row (slice_get_within rows place row is) all)

pub same_front : (xs ys more rest : List ℕ) → length xs ≡ length ys → xs ++ more ≡ ys ++ rest → (xs ≡ ys) × (more ≡ rest)
same_front [] [] more rest len e = (refl, e)
same_front [] (y ∷ ys) more rest len e = absurd (omega (arith, len))
same_front (x ∷ xs) [] more rest len e = absurd (omega (arith, len))
same_front (x ∷ xs) (y ∷ ys) more rest len e =
    let head : x ≡ y = cc in
    let tail : xs ++ more ≡ ys ++ rest = cc in
    let (front, back) = same_front xs ys more rest (omega (arith, len)) tail in
    ((λ i. head i ∷ front i), back)

pub same_octets : (a : List ℕ) → bytes_eq a a ≡ true
same_octets a = (bytes_eq-Decides a a).1 refl

pub same_read : {X : Type 0} (xs : List X) (i : ℕ) (d e : X) → i < length xs → slice_index_or xs i d ≡ slice_index_or xs i e
same_read [] i d e below = absurd (omega arith)
same_read (x ∷ xs) zero d e below = refl
same_read (x ∷ xs) (suc i) d e below = same_read xs i d e (omega arith)

pub set_length : {X : Type 0} (xs : List X) (i : ℕ) (v : X) → length (slice_set xs i v) ≡ length xs
set_length [] i v = refl
set_length (x ∷ xs) zero v = refl
set_length (x ∷ xs) (suc i) v = ap suc (set_length xs i v)

pub silent_either : (one others : Bool) (pipe : List ℕ) → cond others [] (cond one [] pipe) ≡ cond (one || others) [] pipe
silent_either true true pipe = refl
silent_either true false pipe = refl
silent_either false others pipe = refl

pub tail_same : {A : Type 0} (x y : A) (xs ys : List A) → x ∷ xs ≡ y ∷ ys → xs ≡ ys
tail_same x y xs ys e = cc (e)

pub take_front : (word rest : List ℕ) → take (length word) (word ++ rest) ≡ word
take_front [] rest = refl
take_front (c ∷ cs) rest = ap (λ (l : List ℕ). c ∷ l) (take_front cs rest)
