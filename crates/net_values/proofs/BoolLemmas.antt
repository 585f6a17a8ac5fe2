-- Truth values: what follows of two that hold both, of one of two, and of what cannot be.
use Rattle.std.proofs.Common.{◌&&◌, ◌||◌, ◌∙◌, ◌≡◌, Bool, arith, false, not, refl, sym, true}

pub and_false : (b : Bool) → b && false ≡ false
and_false true = refl
and_false false = refl

pub and_not : (b x y : Bool) → (b && not x) && not y ≡ (b && not (x || y))
and_not true true y = refl
and_not true false y = refl
and_not false x y = refl

pub and_not_false : (b : Bool) → b ≡ (b && not false)
and_not_false true = refl
and_not_false false = refl

pub and_not_held : (a b : Bool) → b ≡ true → a && not b ≡ false
and_not_held true true is = refl
and_not_held false true is = refl
and_not_held a false is = absurd (cc (is))

pub and_true : (b : Bool) → b && true ≡ b
and_true true = refl
and_true false = refl

pub and_turned : (a b : Bool) → (a && b) ≡ (b && a)
and_turned true true = refl
and_turned true false = refl
and_turned false true = refl
and_turned false false = refl

pub both_of : {P : Type 0} (p q : Bool) → p && q ≡ true → (p ≡ true → q ≡ true → P) → P
both_of true true e f = f refl refl
both_of true false e f = absurd (cc)
both_of false q e f = absurd (cc)

pub by_either : {P : Type 0} (p q : Bool) → p || q ≡ true → (p ≡ true → P) → (q ≡ true → P) → P
by_either true q h f g = f refl
by_either false q h f g = g h

pub clash : {P : Type 0} → false ≡ true → P
clash e = absurd (cc)

pub clash_at : {P : Type 0} (b : Bool) → b ≡ true → b ≡ false → P
clash_at b one other = clash (sym other ∙ one)

pub fails_within : (a b j : Bool) → b ≡ false → (a && b) && j ≡ false
fails_within true b j down = rw down refl
fails_within false b j down = refl

pub first_fails : (a b : Bool) → a || b ≡ false → a ≡ false
first_fails false b e = refl
first_fails true b e = e

pub first_holds : (x y : Bool) → x && y ≡ true → x ≡ true
first_holds true y is = refl
first_holds false y is = absurd (cc (is))

pub first_of_two : (equal mesh : Bool) → mesh ≡ false → equal || mesh ≡ true → equal ≡ true
first_of_two true mesh none holds = refl
first_of_two false mesh none holds = absurd (cc)

pub holds_with_true : (a : Bool) → a ≡ true → a && true ≡ true
holds_with_true a is = rw is refl

pub implied : (is : Bool) {one : Bool} → is ≡ true → not is || one ≡ true → one ≡ true
implied true e h = h
implied false e h = absurd (cc (e))

pub not_not : (p : Bool) → p ≡ not (not p)
not_not true = refl
not_not false = refl

pub now_and_not_was : (now was : Bool) → now ≡ true → was ≡ false → now && not was ≡ true
now_and_not_was now was one other = rw (one, other) refl

pub or_append : (a b c : Bool) → a || (b || c) ≡ (a || b) || c
or_append true b c = refl
or_append false b c = refl

pub or_assoc : (a b c : Bool) → (a || b) || c ≡ a || (b || c)
or_assoc true b c = refl
or_assoc false b c = refl

pub or_false : (b : Bool) → b || false ≡ b
or_false true = refl
or_false false = refl

pub or_later : (here : Bool) {later : Bool} → later ≡ true → here || later ≡ true
or_later true is = refl
or_later false is = is

pub or_none : (b : Bool) → b ≡ (b || false)
or_none true = refl
or_none false = refl

pub or_true : (a : Bool) → a || true ≡ true
or_true true = refl
or_true false = refl

pub second_fails : (a b : Bool) → a || b ≡ false → b ≡ false
second_fails false b e = e
second_fails true b e = absurd (cc (e))

pub second_fails_of_both : (a b : Bool) → a ≡ true → a && b ≡ false → b ≡ false
second_fails_of_both true b of none = none
second_fails_of_both false b of none = absurd (cc (of))

pub second_holds : (x y : Bool) → x && y ≡ true → y ≡ true
second_holds true y is = is
second_holds false y is = absurd (cc (is))

pub second_of_two : (p : Bool) {q : Bool} → p ≡ false → p || q ≡ true → q ≡ true
second_of_two p h k = grind (arith, h, k)

pub true_clash : {P : Type 0} → true ≡ false → P
true_clash e = absurd (cc)
