-- Octets that wait in pipes, and octets that are put there.
use Rattle.std.proofs.Common.{◌≡◌, ◌==◌, ◌<◌, ◌≤◌, ◌+◌, ◌-◌, ◌&&◌, ◌++◌, ◌∷◌, [], ℕ, Bool, true, false, suc, zero, List, Option, Some, None, if◌then◌else◌, refl, ap, sym, arith, nat_lt, length, drop, slice_index_or, ◌∙◌, append_assoc, append-nil}
use Rattle.std.proofs.lemmas.Bool.{eqb-true}
use Rattle.std.proofs.lemmas.Bool.Decides.{nat_tests}
use Rattle.net_base.specs.declared.outside.link_call.LinkCall.{LinkCall}
use Rattle.status_exchange.specs.Exchange.{at_two}
use Rattle.switchover_model.specs.Network.{earlier_pair, first_differing_pair, first_place, is_waiting}
use Rattle.octet_pipes.specs.Pipes.{with_pipe_octets}
use Rattle.switchover_net.specs.Pipes.{bytes_of}

-- ---- one pipe in the two words for it

pub as_two : (from to : ℕ) (v : List ℕ) (q : ℕ → ℕ → List ℕ) → with_pipe_octets from to v q ≡ at_two from to v q
as_two from to v q = λ i a b. at_each a b i
  where
    at_each : (a b : ℕ) → with_pipe_octets from to v q a b ≡ at_two from to v q a b
    at_each a b = by (a == from) refl
      where
        by : (s : Bool) → (a == from) ≡ s → (if s then (λ j. if j == to then v else q from j) else q a) b ≡ (if s && b == to then v else q a b)
        by true is = let one : a ≡ from = eqb-true a from is in rw one refl
        by false is = refl

pub is_two : (from to : ℕ) (v : List ℕ) (q next : ℕ → ℕ → List ℕ) → next ≡ with_pipe_octets from to v q → next ≡ at_two from to v q
is_two from to v q next is = is ∙ as_two from to v q

-- ---- octets that wait

pub waits_by_length : (octets : List ℕ) → nat_lt 0 (length octets) ≡ is_waiting octets
waits_by_length [] = refl
waits_by_length (x ∷ xs) = grind (arith, nat_tests)

-- ---- the first of some places

-- from a place on, the first one is the first of all
pub record GoesFrom (test : ℕ → Bool) (place size : ℕ) (all : Option ℕ) : Type 0 where
  pub rest : (n : ℕ) → place + n ≡ size → first_place test place n ≡ all

pub goes_first : (test : ℕ → Bool) (size : ℕ) → GoesFrom test 0 size (first_place test 0 size)
goes_first test size = record { rest = λ n is. ap (first_place test 0) (omega (arith, is)) }

pub goes_on : (test : ℕ → Bool) (place size : ℕ) (all : Option ℕ) → place < size → test place ≡ false → GoesFrom test place size all → GoesFrom test (place + 1) size all
goes_on test place size all below none goes = record { rest = λ n is. sym (ap (λ (b : Bool). if b then Some place else first_place test (place + 1) n) none) ∙ goes.rest (suc n) (omega (arith, is)) }

pub hits : (test : ℕ → Bool) (place size : ℕ) (all : Option ℕ) → place < size → test place ≡ true → GoesFrom test place size all → Some place ≡ all
hits test place size all below some goes = sym (ap (λ (b : Bool). if b then Some place else first_place test (place + 1) (size - (place + 1))) some)
    ∙ goes.rest (suc (size - (place + 1))) (omega (arith, below))

pub ends : (test : ℕ → Bool) (place size : ℕ) (all : Option ℕ) → size ≤ place → place ≤ size → GoesFrom test place size all → None ≡ all
ends test place size all past within goes = goes.rest 0 (omega (arith, past, within))

pub ruleset place_steps = (goes_first, goes_on, hits, ends)

-- ---- the first pair

pub record PairsFrom (test : ℕ → ℕ → Bool) (size place count : ℕ) (all : Option (ℕ × ℕ)) : Type 0 where
  pub rest : (n : ℕ) → place + n ≡ count → first_differing_pair test size place n ≡ all

pub pairs_first : (test : ℕ → ℕ → Bool) (size count : ℕ) → PairsFrom test size 0 count (first_differing_pair test size 0 count)
pairs_first test size count = record { rest = λ n is. ap (first_differing_pair test size 0) (omega (arith, is)) }

pub pairs_on : (test : ℕ → ℕ → Bool) (size place count : ℕ) (all : Option (ℕ × ℕ)) → place < count → None ≡ first_place (test place) 0 size → PairsFrom test size place count all
    → PairsFrom test size (place + 1) count all
pairs_on test size place count all below none goes = record { rest = λ n is. ap (λ (o : Option ℕ). earlier_pair o place (first_differing_pair test size (place + 1) n)) none ∙ goes.rest (suc n) (omega (arith, is)) }

pub pairs_hit : (test : ℕ → ℕ → Bool) (size place count other : ℕ) (all : Option (ℕ × ℕ)) → place < count → Some other ≡ first_place (test place) 0 size
    → PairsFrom test size place count all → Some (place, other) ≡ all
pairs_hit test size place count other all below some goes =
    ap (λ (o : Option ℕ). earlier_pair o place (first_differing_pair test size (place + 1) (count - (place + 1)))) some ∙ goes.rest (suc (count - (place + 1))) (omega (arith, below))

pub pairs_end : (test : ℕ → ℕ → Bool) (size place count : ℕ) (all : Option (ℕ × ℕ)) → count ≤ place → place ≤ count → PairsFrom test size place count all → None ≡ all
pairs_end test size place count all past within goes = goes.rest 0 (omega (arith, past, within))

pub ruleset pair_steps = (pairs_first, pairs_on, pairs_hit, pairs_end)

-- ---- octets that are put

-- so many of the calls have been put on their way
pub record ArePut (from to : ℕ) (calls : List LinkCall) (place : ℕ) (old now : ℕ → ℕ → List ℕ) : Type 0 where
  pub rest : at_two from to (now from to ++ bytes_of (drop place calls)) now ≡ at_two from to (old from to ++ bytes_of calls) old

pub put_none : (from to : ℕ) (calls : List LinkCall) (old : ℕ → ℕ → List ℕ) → ArePut from to calls 0 old old
put_none from to calls old = record { rest = refl }

-- what a pair has last is what it has
two_twice : (from to : ℕ) (v w : List ℕ) (q : ℕ → ℕ → List ℕ) → at_two from to v (at_two from to w q) ≡ at_two from to v q
two_twice from to v w q = λ i a b. by (a == from && b == to) (q a b) i
  where
    by : (s : Bool) (other : List ℕ) → (if s then v else if s then w else other) ≡ (if s then v else other)
    by true other = refl
    by false other = refl

two_here : (from to : ℕ) (v : List ℕ) (q : ℕ → ℕ → List ℕ) → at_two from to v q from to ≡ v
two_here from to v q = ap (λ (s : Bool). if s then v else q from to) (here from to)
  where
    here : (a b : ℕ) → (a == a && b == b) ≡ true
    here a b = grind (arith, nat_tests)

two_same : (from to : ℕ) (q : ℕ → ℕ → List ℕ) → at_two from to (q from to) q ≡ q
two_same from to q = λ i a b. by a b (a == from && b == to) refl i
  where
    by : (a b : ℕ) (s : Bool) → (a == from && b == to) ≡ s → (if s then q from to else q a b) ≡ q a b
    by a b true is = let one : a ≡ from = grind (arith, nat_tests, is) in let two : b ≡ to = grind (arith, nat_tests, is) in rw (one, two) refl
    by a b false is = refl

bytes_more : (calls : List LinkCall) (place : ℕ) (call : LinkCall) → place < length calls → call ≡ slice_index_or calls place call → bytes_of (drop place calls)
    ≡ call.bytes ++ bytes_of (drop (place + 1) calls)
bytes_more [] place call within at = absurd (omega (arith, within))
bytes_more (x ∷ calls) zero call within at = ap (λ (c : LinkCall). c.bytes ++ bytes_of calls) (sym at)
bytes_more (x ∷ calls) (suc place) call within at = let behind : suc place + 1 ≡ suc (place + 1) = omega arith in rw behind (bytes_more calls place call (omega (arith, within)) at)

bytes_end : (calls : List LinkCall) (place : ℕ) → length calls ≤ place → bytes_of (drop place calls) ≡ []
bytes_end [] zero past = refl
bytes_end [] (suc place) past = refl
bytes_end (x ∷ calls) zero past = absurd (omega (arith, past))
bytes_end (x ∷ calls) (suc place) past = bytes_end calls place (omega (arith, past))

pub put_more : (from to : ℕ) (calls : List LinkCall) (place : ℕ) (call : LinkCall) (old now next : ℕ → ℕ → List ℕ) → place < length calls → call ≡ slice_index_or calls place call
    → next ≡ with_pipe_octets from to (now from to ++ call.bytes) now
    → ArePut from to calls place old now → ArePut from to calls (place + 1) old next
put_more from to calls place call old now next within at is put = record {
  rest = ap (λ (q : ℕ → ℕ → List ℕ). at_two from to (q from to ++ bytes_of (drop (place + 1) calls)) q) (is_two from to (now from to ++ call.bytes) now next is)
      ∙ (two_twice from to (at_two from to (now from to ++ call.bytes) now from to ++ bytes_of (drop (place + 1) calls)) (now from to ++ call.bytes) now
      ∙ (ap (λ (v : List ℕ). at_two from to (v ++ bytes_of (drop (place + 1) calls)) now) (two_here from to (now from to ++ call.bytes) now)
      ∙ (ap (λ (v : List ℕ). at_two from to v now)
      (append_assoc (now from to) call.bytes (bytes_of (drop (place + 1) calls)) ∙ ap (λ (l : List ℕ). now from to ++ l) (sym (bytes_more calls place call within at)))
      ∙ put.rest)));
}

pub put_end : (from to : ℕ) (calls : List LinkCall) (place : ℕ) (old now : ℕ → ℕ → List ℕ) → length calls ≤ place → ArePut from to calls place old now → now
    ≡ at_two from to (old from to ++ bytes_of calls) old
put_end from to calls place old now past put =
    sym (two_same from to now) ∙ (ap (λ (l : List ℕ). at_two from to l now) (sym (append-nil (now from to)) ∙ ap (λ (l : List ℕ). now from to ++ l) (sym (bytes_end calls place past))) ∙ put.rest)

pub ruleset put_steps = (put_none, put_more, put_end)
