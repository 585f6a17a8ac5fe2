-- Where frames left, one entry after the other.
use Rattle.std.proofs.Common.{◌≡◌, ◌==◌, ◌<◌, ◌≤◌, ◌+◌, ◌&&◌, ◌||◌, ◌++◌, ◌∷◌, ◌∙◌, [], ℕ, zero, suc, Bool, true, false, List, Option, Some, None, length, nat_lt, cond, slice_get, slice_set, refl, ap, sym, arith}
use Rattle.std.proofs.lemmas.Bool.{eqb-true}
use Rattle.std.proofs.lemmas.Bool.Decides.{nat_tests}
use Rattle.std.specs.List.{list_any}
use Rattle.net_values.proofs.BoolLemmas.{first_fails, or_none}
use Rattle.net_values.proofs.NumberLemmas.{equal_turned, is_none}
use Rattle.hvpls_spokes.specs.PortSet.{holds_port}
use Rattle.net_base.specs.declared.plan.places.CircuitId.{CircuitId}
use Rattle.net_base.specs.declared.trace.entry.Entry.{Entry}
use Rattle.net_base.specs.declared.trace.entry.Entry.TheVariants as entry
use Rattle.seen_network.specs.Once.{times_seen}
use Rattle.seen_state.specs.Numbered.{Values, no_values, value_at}
use Rattle.window_audit.specs.Exits.{AreApart, ExitLists, HasExits, HasLeft, LeftTwice, has_left, is_again, is_far, leavings_of, left_far, row_at}
use Rattle.window_audit.specs.declared.leavings.Leavings.{Leavings}
use Rattle.window_audit.proofs.SourceLemmas.{any_more}

pub none_left : HasExits (record { places = no_values; rows = [] }) []
none_left = record { at = λ o c. refl; beyond = λ o c h. refl; once = λ o h c. omega arith; again = λ o h. absurd (grind (arith, h)); far = λ o. refl }

-- what has the same places has the same exits
pub exits_kept : (old new : Values ℕ) (rows : List Leavings) (trace : List Entry) → ((n : ℕ) → value_at new n ≡ value_at old n) → HasExits (record { places = old; rows = rows }) trace
    → HasExits (record { places = new; rows = rows }) trace
exits_kept old new rows trace same known = record {
  at = λ o c. ap (λ p. has_left (row_at rows p) c.0) (same o) ∙ known.at o c;
  beyond = λ o c h. known.beyond o c h;
  once = λ o h c. known.once o (sym (ap (λ p. is_again (row_at rows p)) (same o)) ∙ h) c;
  again = λ o h. known.again o (sym (ap (λ p. is_again (row_at rows p)) (same o)) ∙ h);
  far = λ o. ap (λ p. is_far (row_at rows p)) (same o) ∙ known.far o;
}

pub same_apart : (old new : Values ℕ) (count : ℕ) → ((n : ℕ) → value_at new n ≡ value_at old n) → AreApart old count → AreApart new count
same_apart old new count same are = record { within = λ n place is. are.within n place (sym (same n) ∙ is); apart = λ a b place is at. are.apart a b place (sym (same a) ∙ is) (sym (same b) ∙ at) }

-- ---- one row

pub none_apart : AreApart no_values 0
none_apart = record { within = λ n place is. absurd (cc (is)); apart = λ a b place is at. absurd (cc (is)) }

get_front : (xs : List Leavings) (x : Leavings) (n : ℕ) → n < length xs → slice_get (xs ++ x ∷ []) n ≡ slice_get xs n
get_front [] x n less = absurd (omega (arith, less))
get_front (y ∷ ys) x zero less = refl
get_front (y ∷ ys) x (suc n) less = get_front ys x n (omega (arith, less))

get_last : (xs : List Leavings) (x : Leavings) → slice_get (xs ++ x ∷ []) (length xs) ≡ Some x
get_last [] x = refl
get_last (y ∷ ys) x = get_last ys x

set_here : (xs : List Leavings) (n : ℕ) (x : Leavings) → n < length xs → slice_get (slice_set xs n x) n ≡ Some x
set_here [] n x less = absurd (omega (arith, less))
set_here (y ∷ ys) zero x less = refl
set_here (y ∷ ys) (suc n) x less = set_here ys n x (omega (arith, less))

set_there : (xs : List Leavings) (n m : ℕ) (x : Leavings) → (m ≡ n → ⊥) → slice_get (slice_set xs n x) m ≡ slice_get xs m
set_there [] n m x away = refl
set_there (y ∷ ys) zero zero x away = absurd (away refl)
set_there (y ∷ ys) zero (suc m) x away = refl
set_there (y ∷ ys) (suc n) zero x away = refl
set_there (y ∷ ys) (suc n) (suc m) x away = set_there ys n m x (λ same. away (ap suc same))

some_place : {a b : ℕ} → Some a ≡ Some b → a ≡ b
some_place e = cc e

pub row_changed : (places : Values ℕ) (rows new : List Leavings) (origin place : ℕ) (leavings : Leavings) → AreApart places (length rows) → value_at places origin ≡ Some place
    → new ≡ slice_set rows place leavings
    → (n : ℕ) → row_at new (value_at places n) ≡ cond (n == origin) (Some leavings) (row_at rows (value_at places n))
row_changed places rows new origin place leavings are here set n = ap (λ (l : List Leavings). row_at l (value_at places n)) set ∙ by (n == origin) refl (value_at places n) refl where
  by : (b : Bool) → (n == origin) ≡ b → (o : Option ℕ) → value_at places n ≡ o → row_at (slice_set rows place leavings) o ≡ cond b (Some leavings) (row_at rows o)
  by true same o is = ap (row_at (slice_set rows place leavings)) (sym is ∙ (ap (value_at places) (eqb-true n origin same) ∙ here)) ∙ set_here rows place leavings (are.within origin place here)
  by false away None is = refl
  by false away (Some other) is = set_there rows place other leavings (λ e. grind (arith, nat_tests, away, are.apart n origin place (is ∙ ap Some e) here))

pub row_apart : (places new : Values ℕ) (origin count : ℕ) → AreApart places count → ((n : ℕ) → value_at new n ≡ cond (n == origin) (Some count) (value_at places n)) → AreApart new (suc count)
row_apart places new origin count are put = record { within = λ n place is. within n place (n == origin) refl is; apart = λ a b place is at. apart a b place (a == origin) refl (b == origin) refl is at } where
  here : (n place : ℕ) → (n == origin) ≡ true → value_at new n ≡ Some place → place ≡ count
  here n place same is = sym (some_place (sym (put n ∙ ap (λ (b : Bool). cond b (Some count) (value_at places n)) same) ∙ is))

  there : (n place : ℕ) → (n == origin) ≡ false → value_at new n ≡ Some place → value_at places n ≡ Some place
  there n place away is = sym (put n ∙ ap (λ (b : Bool). cond b (Some count) (value_at places n)) away) ∙ is

  within : (n place : ℕ) (b : Bool) → (n == origin) ≡ b → value_at new n ≡ Some place → place < suc count
  within n place true same is = omega (arith, here n place same is)
  within n place false away is = omega (arith, are.within n place (there n place away is))

  apart : (a b place : ℕ) (x : Bool) → (a == origin) ≡ x → (y : Bool) → (b == origin) ≡ y → value_at new a ≡ Some place → value_at new b ≡ Some place → a ≡ b
  apart a b place true same true also is at = eqb-true a origin same ∙ sym (eqb-true b origin also)
  apart a b place true same false away is at = absurd (omega (arith, here a place same is, are.within b place (there b place away at)))
  apart a b place false away true same is at = absurd (omega (arith, here b place same at, are.within a place (there a place away is)))
  apart a b place false away false off is at = are.apart a b place (there a place away is) (there b place off at)

pub more_apart : (places : Values ℕ) (count : ℕ) → AreApart places count → AreApart places (suc count)
more_apart places count are = record { within = λ n place is. omega (arith, are.within n place is); apart = are.apart }

pub kept_apart : (old new : Values ℕ) (count : ℕ) → ((n : ℕ) → value_at new n ≡ value_at old n) → AreApart old count → AreApart new (suc count)
kept_apart old new count same are = more_apart new count (same_apart old new count same are)

pub row_added : (places new : Values ℕ) (rows : List Leavings) (origin : ℕ) (leavings : Leavings) → AreApart places (length rows)
    → ((n : ℕ) → value_at new n ≡ cond (n == origin) (Some (length rows)) (value_at places n))
    → (n : ℕ) → row_at (rows ++ leavings ∷ []) (value_at new n) ≡ cond (n == origin) (Some leavings) (row_at rows (value_at places n))
row_added places new rows origin leavings are put n = ap (row_at (rows ++ leavings ∷ [])) (put n) ∙ by (n == origin) (value_at places n) refl where
  by : (b : Bool) (o : Option ℕ) → value_at places n ≡ o → row_at (rows ++ leavings ∷ []) (cond b (Some (length rows)) o) ≡ cond b (Some leavings) (row_at rows o)
  by true o is = get_last rows leavings
  by false None is = refl
  by false (Some place) is = get_front rows leavings place (are.within n place is)

-- ---- one frame more

pub left_once : (at : CircuitId) (from hops : ℕ) (old new : ExitLists) (first last : Leavings)
    → ((c : ℕ) → holds_port first.at c ≡ has_left (leavings_of old from) c) → first.again ≡ is_again (leavings_of old from) → first.far ≡ is_far (leavings_of old from)
    → holds_port last.at at.0 ≡ true → ((c : ℕ) → (c ≡ at.0 → ⊥) → holds_port last.at c ≡ holds_port first.at c) → last.again ≡ first.again || holds_port first.at at.0 → last.far ≡ first.far || nat_lt 12 hops
    → ((q : ℕ) → leavings_of new q ≡ cond (q == from) (Some last) (leavings_of old q))
    → HasLeft at from hops old new
left_once at from hops old new first last first_at first_again first_far here others again far put = record {
  at_is = λ o c. ap (λ l. has_left l c) (put o) ∙ at_by o c (o == from) refl (c == at.0) refl;
  again_is = λ o. ap is_again (put o) ∙ again_by o (o == from) refl;
  far_is = λ o. ap is_far (put o) ∙ far_by o (o == from) refl;
} where
  apart : (c : ℕ) → (c == at.0) ≡ false → c ≡ at.0 → ⊥
  apart c away same = grind (arith, nat_tests, away, same)

  at_by : (o c : ℕ) (a : Bool) → (o == from) ≡ a → (b : Bool) → (c == at.0) ≡ b → has_left (cond a (Some last) (leavings_of old o)) c ≡ cond (a && b) true (has_left (leavings_of old o) c)
  at_by o c false is b g = refl
  at_by o c true is true g = ap (holds_port last.at) (eqb-true c at.0 g) ∙ here
  at_by o c true is false g = others c (apart c g) ∙ (first_at c ∙ ap (λ k. has_left (leavings_of old k) c) (sym (eqb-true o from is)))

  again_by : (o : ℕ) (a : Bool) → (o == from) ≡ a → is_again (cond a (Some last) (leavings_of old o)) ≡ is_again (leavings_of old o) || (a && has_left (leavings_of old o) at.0)
  again_by o false is = or_none (is_again (leavings_of old o))
  again_by o true is = again ∙ (ap (λ b. b || holds_port first.at at.0) first_again
      ∙ (ap (λ b. is_again (leavings_of old from) || b) (first_at at.0) ∙ ap (λ k. is_again (leavings_of old k) || has_left (leavings_of old k) at.0) (sym (eqb-true o from is))))

  far_by : (o : ℕ) (a : Bool) → (o == from) ≡ a → is_far (cond a (Some last) (leavings_of old o)) ≡ is_far (leavings_of old o) || (a && nat_lt 12 hops)
  far_by o false is = or_none (is_far (leavings_of old o))
  far_by o true is = far ∙ (ap (λ b. b || nat_lt 12 hops) first_far ∙ ap (λ k. is_far (leavings_of old k) || nat_lt 12 hops) (sym (eqb-true o from is)))

-- ---- the trace

times_more : (origin : ℕ) (circuit : CircuitId) (es : List Entry) (e : Entry) → times_seen origin circuit (es ++ e ∷ []) ≡ times_seen origin circuit es + times_seen origin circuit (e ∷ [])
times_more origin circuit [] e = omega arith
times_more origin circuit (entry.Left at from hops octets ∷ es) e = omega (arith, times_more origin circuit es e)
times_more origin circuit (entry.Idle ∷ es) e = times_more origin circuit es e
times_more origin circuit (entry.Said from to octets ∷ es) e = times_more origin circuit es e
times_more origin circuit (entry.In at number octets ∷ es) e = times_more origin circuit es e
times_more origin circuit (entry.Sent from to wire came packet from2 hops octets ∷ es) e = times_more origin circuit es e
times_more origin circuit (entry.Copied packet of ∷ es) e = times_more origin circuit es e
times_more origin circuit (entry.Aged packet ∷ es) e = times_more origin circuit es e
times_more origin circuit (entry.Dropped edge from cause ∷ es) e = times_more origin circuit es e
times_more origin circuit (entry.Session edge peer name ∷ es) e = times_more origin circuit es e
times_more origin circuit (entry.Wire edge wire down ∷ es) e = times_more origin circuit es e
times_more origin circuit (entry.Pong edge wire sequence ∷ es) e = times_more origin circuit es e
times_more origin circuit (entry.Did event ∷ es) e = times_more origin circuit es e

-- once more where the frame left
times_left : (at : CircuitId) (from hops : ℕ) (octets : List ℕ) (trace : List Entry) (o : ℕ) (c : CircuitId)
    → times_seen o c (trace ++ entry.Left at from hops octets ∷ []) ≡ times_seen o c trace + cond (o == from && c.0 == at.0) 1 0
times_left at from hops octets trace o c = times_more o c trace (entry.Left at from hops octets)
    ∙ (ap (λ b. times_seen o c trace + (cond b 1 0 + 0)) same ∙ no_more (cond (o == from && c.0 == at.0) 1 0)) where
      same : (from == o && at.0 == c.0) ≡ (o == from && c.0 == at.0)
      same = ap (λ b. b && at.0 == c.0) (equal_turned from o) ∙ ap (λ b. o == from && b) (equal_turned at.0 c.0)

      no_more : (k : ℕ) → times_seen o c trace + (k + 0) ≡ times_seen o c trace + k
      no_more k = omega arith

abbrev one_if : Bool → ℕ
one_if b = cond b 1 0

some_more : (n : ℕ) (b : Bool) → cond b true (nat_lt 0 n) ≡ nat_lt 0 (n + cond b 1 0)
some_more n true = sym (let h : nat_lt 0 (n + 1) ≡ true = grind (arith, nat_tests) in h)
some_more n false = ap (nat_lt 0) (let h : n ≡ n + 0 = omega arith in h)

is_some : (n : ℕ) → nat_lt 0 n ≡ true → 1 ≤ n
is_some n h = grind (arith, nat_tests, h)

-- so much more where it is so and where it is not
more_where : (a b : Bool) → a ≡ true → b ≡ true → one_if (a && b) ≡ 1
more_where a b h g = ap (λ x. one_if (x && b)) h ∙ ap one_if g

none_where_first : (a b : Bool) → a ≡ false → one_if (a && b) ≡ 0
none_where_first a b h = ap (λ x. one_if (x && b)) h

none_where_second : (a b : Bool) → a ≡ true → b ≡ false → one_if (a && b) ≡ 0
none_where_second a b h g = ap (λ x. one_if (x && b)) h ∙ ap one_if g

pub told_left : (at : CircuitId) (from hops : ℕ) (octets : List ℕ) (old new : ExitLists) (trace : List Entry) → at.0 < 512
    → HasLeft at from hops old new → HasExits old trace → HasExits new (trace ++ entry.Left at from hops octets ∷ [])
told_left at from hops octets old new trace port left known = record {
  at = λ o c. left.at_is o c.0 ∙ (ap (λ b. cond (o == from && c.0 == at.0) true b) (known.at o c)
      ∙ (some_more (times_seen o c trace) (o == from && c.0 == at.0) ∙ ap (nat_lt 0) (sym (times_left at from hops octets trace o c))));
  beyond = λ o c out. times_left at from hops octets trace o c ∙ far_off o c out (c.0 == at.0) refl (o == from);
  once = λ o none c. once_by o none c (o == from) refl (c.0 == at.0) refl;
  again = λ o twice. again_by o twice (is_again (leavings_of old o)) refl (o == from) refl (has_left (leavings_of old o) at.0) refl;
  far = λ o.
      left.far_is o
      ∙ (ap (λ (b : Bool). b || (o == from && nat_lt 12 hops)) (known.far o)
      ∙ (ap (λ (b : Bool). list_any (left_far o) trace || (b && nat_lt 12 hops)) (equal_turned o from) ∙ sym (any_more (left_far o) trace (entry.Left at from hops octets))));
} where
  more : (o : ℕ) (c : CircuitId) → times_seen o c (trace ++ entry.Left at from hops octets ∷ []) ≡ times_seen o c trace + cond (o == from && c.0 == at.0) 1 0
  more o c = times_left at from hops octets trace o c

  far_off : (o : ℕ) (c : CircuitId) → 512 ≤ c.0 → (b : Bool) → (c.0 == at.0) ≡ b → (a : Bool) → times_seen o c trace + cond (a && b) 1 0 ≡ 0
  far_off o c out true same a = absurd (grind (arith, nat_tests, same, out, port))
  far_off o c out false same true = omega (arith, known.beyond o c out)
  far_off o c out false same false = omega (arith, known.beyond o c out)

  kept : (o : ℕ) → is_again (leavings_of new o) ≡ false → is_again (leavings_of old o) ≡ false
  kept o none = first_fails (is_again (leavings_of old o)) (o == from && has_left (leavings_of old o) at.0) (sym (left.again_is o) ∙ none)

  once_by : (o : ℕ) → is_again (leavings_of new o) ≡ false → (c : CircuitId) → (a : Bool) → (o == from) ≡ a → (b : Bool) → (c.0 == at.0) ≡ b
      → times_seen o c (trace ++ entry.Left at from hops octets ∷ []) ≤ 1
  once_by o none c true is true here = omega (arith, more o c, more_where (o == from) (c.0 == at.0) is here, is_none (times_seen o c trace) (sym (known.at o c) ∙ first)) where
    first : has_left (leavings_of old o) c.0 ≡ false
    first = ap (has_left (leavings_of old o)) (eqb-true c.0 at.0 here)
        ∙ (sym (ap (λ x. is_again (leavings_of old o) || (x && has_left (leavings_of old o) at.0)) is ∙ ap (λ x. x || has_left (leavings_of old o) at.0) (kept o none))
        ∙ (sym (left.again_is o) ∙ none))
  once_by o none c true is false here = omega (arith, more o c, none_where_second (o == from) (c.0 == at.0) is here, known.once o (kept o none) c)
  once_by o none c false is b here = omega (arith, more o c, none_where_first (o == from) (c.0 == at.0) is, known.once o (kept o none) c)

  same_at : (o : ℕ) → (at.0 == at.0) ≡ true
  same_at o = grind (arith, nat_tests)

  -- it was not told before, so it was told by this one
  by_this : (o : ℕ) → is_again (leavings_of new o) ≡ true → is_again (leavings_of old o) ≡ false → (o == from && has_left (leavings_of old o) at.0) ≡ true
  by_this o twice before = sym (ap (λ x. x || (o == from && has_left (leavings_of old o) at.0)) before) ∙ (sym (left.again_is o) ∙ twice)

  again_by : (o : ℕ) → is_again (leavings_of new o) ≡ true → (x : Bool) → is_again (leavings_of old o) ≡ x → (a : Bool) → (o == from) ≡ a
      → (y : Bool) → has_left (leavings_of old o) at.0 ≡ y
      → LeftTwice o (trace ++ entry.Left at from hops octets ∷ [])
  again_by o twice true before a is y here = record { circuit = (known.again o before).circuit; twice = omega (arith, more o (known.again o before).circuit, (known.again o before).twice) }
  again_by o twice false before true is true here = record {
    circuit = at;
    twice = omega (arith, more o at, more_where (o == from) (at.0 == at.0) is (same_at o), is_some (times_seen o at trace) (sym (known.at o at) ∙ here));
  }
  again_by o twice false before true is false here = absurd (grind (arith, sym (by_this o twice before) ∙ (ap (λ x. x && has_left (leavings_of old o) at.0) is ∙ here)))
  again_by o twice false before false is y here = absurd (grind (arith, sym (by_this o twice before) ∙ ap (λ x. x && has_left (leavings_of old o) at.0) is))

pub told_other : (e : Entry) (exits : ExitLists) (trace : List Entry) → ((o : ℕ) (c : CircuitId) → times_seen o c (e ∷ []) ≡ 0) → ((o : ℕ) → left_far o e ≡ false)
    → HasExits exits trace → HasExits exits (trace ++ e ∷ [])
told_other e exits trace none near known = record {
  at = λ o c. known.at o c ∙ ap (nat_lt 0) (sym (same o c));
  beyond = λ o c out. same o c ∙ known.beyond o c out;
  once = λ o h c. omega (arith, same o c, known.once o h c);
  again = λ o h. record { circuit = (known.again o h).circuit; twice = omega (arith, same o (known.again o h).circuit, (known.again o h).twice) };
  far = λ o. known.far o ∙ (or_no (list_any (left_far o) trace) (left_far o e) (near o) ∙ sym (any_more (left_far o) trace e));
} where
  same : (o : ℕ) (c : CircuitId) → times_seen o c (trace ++ e ∷ []) ≡ times_seen o c trace
  same o c = omega (arith, times_more o c trace e, none o c)

  or_no : (a b : Bool) → b ≡ false → a ≡ a || b
  or_no true b is = refl
  or_no false b is = sym is
