-- The edges that are connected, one after another.
use Rattle.std.proofs.Common.{◌≡◌, ◌≢◌, ◌<◌, ◌+◌, ◌&&◌, ◌∙◌, ℕ, Bool, true, false, List, cond, length, nat_eq, nat_lt, refl, ap, arith, sym}
use Rattle.std.proofs.lemmas.Bool.Decides.{nat_tests}
use Rattle.std.proofs.lemmas.Bool.{eqb-true}
use Rattle.net_base.specs.declared.plan.Plan.{Plan}
use Rattle.network_model.specs.State.{NetworkState}
use Rattle.settle_laws.specs.Sound.{are_connected}
use Rattle.survey_reach.specs.Ground.{are_peers}
use Rattle.survey_reach.specs.Words.{has_pair, in_word}
use Rattle.survey_reach.proofs.WordLemmas.{none_in_zero}

-- of the first so many places those are on that pass a test
abbrev pub AreBits : (ℕ → Bool) → ℕ → ℕ → Type 0
AreBits test count word = (k : ℕ) → in_word word k ≡ nat_lt k count && test k

below_none : (k : ℕ) → nat_lt k 0 ≡ false
below_none k = grind (arith, nat_tests)

below_next : (k : ℕ) → nat_lt k (k + 1) ≡ true
below_next k = grind (arith, nat_tests)

not_below : (k : ℕ) → nat_lt k k ≡ false
not_below k = grind (arith, nat_tests)

pub bits_none : (test : ℕ → Bool) → AreBits test 0 0
bits_none test k = none_in_zero k ∙ ap (λ (b : Bool). b && test k) (sym (below_none k))

later : (test : ℕ → Bool) (count k : ℕ) → (k ≢ count) → nat_lt k count && test k ≡ nat_lt k (count + 1) && test k
later test count k other = ap (λ (b : Bool). b && test k) (grind (arith, nat_tests, other))

here : (test : ℕ → Bool) (count : ℕ) (b : Bool) → test count ≡ b → nat_lt count (count + 1) && test count ≡ b
here test count b is = ap (λ (c : Bool). c && test count) (below_next count) ∙ is

gone : (test : ℕ → Bool) (count : ℕ) → nat_lt count count && test count ≡ false
gone test count = ap (λ (c : Bool). c && test count) (not_below count)

pub bits_more : (test : ℕ → Bool) (count word more : ℕ) → AreBits test count word → test count ≡ true → in_word more count ≡ true → ((k : ℕ) → k ≢ count → in_word more k ≡ in_word word k)
    → AreBits test (count + 1) more
bits_more test count word more so_far passes on others k = by (nat_eq k count) refl where
  by : (b : Bool) → nat_eq k count ≡ b → in_word more k ≡ nat_lt k (count + 1) && test k
  by true same = rw (eqb-true k count same) (on ∙ sym (here test count true passes))
  by false apart = others k (grind (arith, nat_tests, apart)) ∙ (so_far k ∙ later test count k (grind (arith, nat_tests, apart)))

pub bits_same : (test : ℕ → Bool) (count word : ℕ) → AreBits test count word → test count ≡ false → AreBits test (count + 1) word
bits_same test count word so_far fails k = by (nat_eq k count) refl where
  by : (b : Bool) → nat_eq k count ≡ b → in_word word k ≡ nat_lt k (count + 1) && test k
  by true same = rw (eqb-true k count same) (so_far count ∙ (gone test count ∙ sym (here test count false fails)))
  by false apart = so_far k ∙ later test count k (grind (arith, nat_tests, apart))

-- those of all edges are the edges with which one is connected
pub bits_end : (plan : Plan) (network : NetworkState) (a count word : ℕ) → a < length plan.edges → length plan.edges ≡ count → AreBits (are_connected network a) count word
    → (b : ℕ) → in_word word b ≡ are_peers plan network a b
bits_end plan network a count word below is so_far b =
    so_far b ∙ (ap (λ (n : ℕ). nat_lt b n && are_connected network a b) (sym is)
    ∙ ap (λ (c : Bool). (c && nat_lt b (length plan.edges)) && are_connected network a b) (sym within))
  where
    within : nat_lt a (length plan.edges) ≡ true
    within = grind (arith, nat_tests, below)

pub ruleset bit_steps = (bits_none, bits_more, bits_same, bits_end)

-- ---- row by row

-- so it is with the rows of the first so many edges
abbrev pub ArePairs : (ℕ → ℕ → Bool) → ℕ → List ℕ → Type 0
ArePairs pair count rows = (i j : ℕ) → has_pair rows i j ≡ nat_lt i count && pair i j

pub pairs_none : (pair : ℕ → ℕ → Bool) (rows : List ℕ) → ((i j : ℕ) → has_pair rows i j ≡ false) → ArePairs pair 0 rows
pairs_none pair rows none i j = none i j ∙ ap (λ (b : Bool). b && pair i j) (sym (below_none i))

pub pairs_more : (pair : ℕ → ℕ → Bool) (count row : ℕ) (rows more : List ℕ) → ArePairs pair count rows → ((j : ℕ) → in_word row j ≡ pair count j)
    → ((i j : ℕ) → has_pair more i j ≡ cond (nat_eq i count) (in_word row j) (has_pair rows i j)) → ArePairs pair (count + 1) more
pairs_more pair count row rows more so_far is set i j = set i j ∙ by (nat_eq i count) refl where
  by : (b : Bool) → nat_eq i count ≡ b → cond b (in_word row j) (has_pair rows i j) ≡ nat_lt i (count + 1) && pair i j
  by true same = rw (eqb-true i count same) (is j ∙ sym (here (λ (k : ℕ). pair k j) count (pair count j) refl))
  by false apart = so_far i j ∙ later (λ (k : ℕ). pair k j) count i (grind (arith, nat_tests, apart))

twice : (p q r : Bool) → p && ((p && q) && r) ≡ (p && q) && r
twice true q r = refl
twice false q r = refl

pub pairs_end : (plan : Plan) (network : NetworkState) (count : ℕ) (rows : List ℕ) → length plan.edges ≡ count → ArePairs (are_peers plan network) count rows
    → (a b : ℕ) → has_pair rows a b ≡ are_peers plan network a b
pairs_end plan network count rows is so_far a b =
    so_far a b ∙ (ap (λ (n : ℕ). nat_lt a n && are_peers plan network a b) (sym is) ∙ twice (nat_lt a (length plan.edges)) (nat_lt b (length plan.edges)) (are_connected network a b))

pub ruleset pair_steps = (pairs_none, pairs_more, pairs_end)
