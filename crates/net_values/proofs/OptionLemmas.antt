-- What is there, and what is not: equations between options and results.
use Rattle.std.proofs.Common.{if◌then◌else◌, ◌+◌, ◌<◌, ◌≡◌, ◌≤◌, Bool, IfSome, None, Option, Some, arith, cond, false, nat_lt, not, refl, suc, true, ℕ}
use Rattle.std.proofs.lemmas.Bool.Decides.{nat_tests}
use Rattle.std.specs.Option.{option_or}

pub by_first_or : {A P : Type 0} (x y : Option A) (a : A) → option_or x y ≡ Some a → (x ≡ Some a → P) → (y ≡ Some a → P) → P
by_first_or None y a h f g = g h
by_first_or (Some x) y a h f g = f h

pub found_at : (test : Bool) (n at : ℕ) → Some at ≡ cond test (Some n) None → at ≡ n
found_at true n at e = cc
found_at false n at e = absurd (cc)

pub none_of : (test : Bool) (n len : ℕ) → nat_lt n len ≡ test → n ≤ len → None ≡ cond test (Some n) None → len ≡ n
none_of true n len is within e = absurd (cc)
none_of false n len is within e = grind (arith, nat_tests)

pub none_some : {A : Type 0} {P : Type 0} (x : A) → None ≡ Some x → P
none_some x e = absurd (cc)

pub of_choice : {A P : Type 0} (t u : Bool) (x y a : A) → (if t then Some x else if u then Some y else None) ≡ Some a → (t ≡ true → x ≡ a → P) → (u ≡ true → y ≡ a → P) → P
of_choice true u x y a h f g = f refl (cc)
of_choice false true x y a h f g = g refl (cc)
of_choice false false x y a h f g = absurd (cc)

pub placed : (passes : Bool) (i n len : ℕ) → cond passes (Some i) (cond (nat_lt n len) (Some (i + 1 + n)) None)
    ≡ cond (nat_lt (cond (not passes) (1 + n) 0) (suc len)) (Some (i + cond (not passes) (1 + n) 0)) None
placed true i n len = grind (arith, nat_tests)
placed false i n len = grind (arith, nat_tests)

pub same_number_held : (a b : ℕ) → Some a ≡ Some b → a ≡ b
same_number_held a b e = cc

pub some_same : {A : Type 0} {a b : A} → Some a ≡ Some b → a ≡ b
some_same e = cc (e)

pub something : {X : Type 0} (x : X) → Some x ≡ None → ⊥
something x is = cc

pub within_of : (test : Bool) (n len : ℕ) → (test ≡ true → n < len) → IfSome (cond test (Some n) None) (λ place. place < len)
within_of true n len below = below refl
within_of false n len below = tt
