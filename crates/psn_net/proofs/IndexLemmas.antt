-- An index of what may be delivered: it begins without a mark, and is made anew for the pairs that an event may have changed.
use Rattle.std.proofs.Common.{◌≡◌, ◌==◌, ◌<◌, ◌≤◌, ◌+◌, ◌&&◌, ◌||◌, ◌∙◌, subst, ℕ, zero, suc, Bool, true, false, List, cond, refl, ap, sym, arith, nat_eq, nat_lt, length, replicate, slice_index_or, [], ◌∷◌}
use Rattle.std.proofs.lemmas.Bool.Decides.{nat_tests}
use Rattle.std.proofs.lemmas.List.{length-replicate}
use Rattle.net_base.specs.declared.trace.entry.Entry.{Entry}
use Rattle.net_base.specs.declared.plan.places.EdgeId.{EdgeId}
use Rattle.net_base.specs.declared.trace.event.Event.{Event}
use Rattle.net_base.specs.declared.trace.event.Event.TheVariants.{Deliver, Restart}
use Rattle.network_model.specs.Connection.{is_deliverable}
use Rattle.network_model.specs.Delivery.{first_pair}
use Rattle.network_model.specs.State.{NetworkState, empty_network}
use Rattle.psn_net.specs.DeliveryIndex.{AreMarkedAnew, HasMarkedPair, IsIndexed, IsIndexedBeside, IsMarked, IsMarkedTo, is_pair, changes_between, is_told_between, is_told_by, is_with, may_change}
use Rattle.psn_net.specs.PairIndex.{IndexLists, IsClear, IsPairIndex, has_mark, in_word, put_pair}
use Rattle.psn_net.specs.Lists.{NetLists, network_seen}
use Rattle.psn_net.proofs.PairLemmas.{same_pair}
use Rattle.psn_net.proofs.WordLemmas.{none_in_zero}

-- ---- no mark yet

zero_at : (n i : ℕ) → slice_index_or (replicate n zero) i zero ≡ zero
zero_at zero zero = refl
zero_at zero (suc i) = refl
zero_at (suc n) zero = refl
zero_at (suc n) (suc i) = zero_at n i

pub cleared : (words : List ℕ) (n : ℕ) → words ≡ replicate n zero → IsClear words
cleared words n is = record { each = λ from to. ap (λ (xs : List ℕ). in_word (slice_index_or xs from 0) to) is ∙ (ap (λ word. in_word word to) (zero_at n from) ∙ none_in_zero to) }

pub cleared_within : (words : List ℕ) (n : ℕ) → n ≤ 64 → words ≡ replicate n zero → IsPairIndex words
cleared_within words n few is =
    let long : length words ≡ n = ap length is ∙ length-replicate n zero in
    record { few = omega (arith, long, few); each = λ from to l. (cleared words n is).each from to }

-- ---- the marks of one edge are made anew

pub marked_none : (n : NetLists) (me : ℕ) (index : IndexLists) → IsMarkedTo n me 0 index index
marked_none n me index = record { each = at_each } where
  none : (a b : Bool) (x y : Bool) → y ≡ cond ((a && false) || (b && false)) x y
  none true true x y = refl
  none true false x y = refl
  none false true x y = refl
  none false false x y = refl

  at_each : (i j : ℕ) → has_mark index i j ≡ cond ((i == me && nat_lt j 0) || (j == me && nat_lt i 0)) (is_deliverable (network_seen n) i j) (has_mark index i j)
  at_each i j = let a : nat_lt j 0 ≡ false = grind (arith, nat_tests) in let b : nat_lt i 0 ≡ false = grind (arith, nat_tests) in rw (a, b) (none (i == me) (j == me) _ _)

marked_at : (test old new : ℕ → ℕ → Bool) (me place : ℕ) → ((i j : ℕ) → new i j ≡ cond ((i == me && nat_lt j place) || (j == me && nat_lt i place)) (test i j) (old i j))
    → (i j : ℕ) → put_pair place me (test place me) (put_pair me place (test me place) new) i j ≡ cond ((i == me && nat_lt j (place + 1)) || (j == me && nat_lt i (place + 1))) (test i j) (old i j)
marked_at test old new me place h i j = grind (arith, nat_tests, h i j)

pub marked_pair : (n : NetLists) (me other : ℕ) (old mid new : IndexLists)
    → has_mark mid ≡ put_pair me other (is_deliverable (network_seen n) me other) (has_mark old)
    → has_mark new ≡ put_pair other me (is_deliverable (network_seen n) other me) (has_mark mid)
    → HasMarkedPair n me other old new
marked_pair n me other old mid new x p = record { is = p ∙ ap (λ (r : ℕ → ℕ → Bool). put_pair other me (is_deliverable (network_seen n) other me) r) x }

pub marked_more : (n : NetLists) (me place : ℕ) (old now new : IndexLists) → IsMarkedTo n me place old now → HasMarkedPair n me place now new → IsMarkedTo n me (place + 1) old new
marked_more n me place old now new to pair = record {
  each = λ i j. ap (λ (f : ℕ → ℕ → Bool). f i j) pair.is ∙ marked_at (is_deliverable (network_seen n)) (has_mark old) (has_mark now) me place to.each i j;
}

pub marked_all : (n : NetLists) (me place : ℕ) (old new : IndexLists) → place ≡ length n.plan.edges → IsMarkedTo n me place old new → IsMarked n me old new
marked_all n me place old new all to = subst (λ (k : ℕ). IsMarkedTo n me k old new) all to

pub ruleset mark_steps = (marked_none, marked_more, marked_all)

-- ---- the marks that are made anew are right

pub marked_nowhere : (n : NetLists) (index : IndexLists) → AreMarkedAnew n (λ i j. false) index index
marked_nowhere n index = record { each = λ i j a b. refl }

-- two edges
pub marked_two : (n : NetLists) (me other : ℕ) (old new : IndexLists) → HasMarkedPair n me other old new → AreMarkedAnew n (λ i j. is_pair me other i j) old new
marked_two n me other old new pair = record { each = λ i j a b. ap (λ (f : ℕ → ℕ → Bool). f i j) pair.is ∙ at_each (is_deliverable (network_seen n)) (has_mark old) i j } where
  at_each : (test marks : ℕ → ℕ → Bool) (i j : ℕ) → put_pair other me (test other me) (put_pair me other (test me other) marks) i j ≡ cond (is_pair me other i j) (test i j) (marks i j)
  at_each test marks i j = grind (arith, nat_tests)

-- two edges, one of which the plan does not have
pub marked_past : (n : NetLists) (me other : ℕ) (index : IndexLists) → length n.plan.edges ≤ me → AreMarkedAnew n (is_pair me other) index index
marked_past n me other index past = record { each = λ i j a b. at_each i j (is_deliverable (network_seen n) i j) (has_mark index i j) a b } where
  at_each : (i j : ℕ) (fit mark : Bool) → i < length n.plan.edges → j < length n.plan.edges → mark ≡ cond (is_pair me other i j) fit mark
  at_each i j fit mark a b = grind (arith, nat_tests, past, a, b)

pub marked_past_other : (n : NetLists) (me other : ℕ) (index : IndexLists) → length n.plan.edges ≤ other → AreMarkedAnew n (is_pair me other) index index
marked_past_other n me other index past = record { each = λ i j a b. at_each i j (is_deliverable (network_seen n) i j) (has_mark index i j) a b } where
  at_each : (i j : ℕ) (fit mark : Bool) → i < length n.plan.edges → j < length n.plan.edges → mark ≡ cond (is_pair me other i j) fit mark
  at_each i j fit mark a b = grind (arith, nat_tests, past, a, b)

-- an edge and each other one
pub marked_each : (n : NetLists) (me : ℕ) (old new : IndexLists) → IsMarked n me old new → AreMarkedAnew n (λ i j. is_with me i j) old new
marked_each n me old new marked = record {
  each = λ i j a b. marked.each i j ∙ by (nat_eq i me) (nat_eq j me) (nat_lt j (length n.plan.edges)) (nat_lt i (length n.plan.edges)) (is_deliverable (network_seen n) i j) (has_mark old i j)
      (grind (arith, nat_tests, b)) (grind (arith, nat_tests, a));
} where
  by : (p q x y fit mark : Bool) → x ≡ true → y ≡ true → cond ((p && x) || (q && y)) fit mark ≡ cond (p || q) fit mark
  by true q x y fit mark e f = rw e refl
  by false true x y fit mark e f = rw f refl
  by false false x y fit mark e f = refl

-- what a delivery sets, and a restart
pub marked_delivery : (n : NetLists) (event : Event) (from to : EdgeId) (count : ℕ) (old new : IndexLists) → event ≡ Deliver from to count → HasMarkedPair n from.0 to.0 old new
    → AreMarkedAnew n (changes_between event) old new
marked_delivery n event from to count old new is pair = subst (λ (e : Event). AreMarkedAnew n (changes_between e) old new) (sym is) (record { each = (marked_two n from.0 to.0 old new pair).each })

pub marked_restart : (n : NetLists) (event : Event) (me : EdgeId) (old new : IndexLists) → event ≡ Restart me → IsMarked n me.0 old new → AreMarkedAnew n (changes_between event) old new
marked_restart n event me old new is marked = subst (λ (e : Event). AreMarkedAnew n (changes_between e) old new) (sym is) (record { each = (marked_each n me.0 old new marked).each })

-- an index that is right beside these pairs and others is right beside the others, once the marks of these are made anew
marked_some : (n : NetLists) (these others : ℕ → ℕ → Bool) (old new : IndexLists) → IsIndexedBeside n old (λ i j. these i j || others i j) → AreMarkedAnew n these old new
    → IsIndexedBeside n new others
marked_some n these others old new beside marked = record {
  each = λ i j a b h. marked.each i j a b ∙ by (these i j) (others i j) (is_deliverable (network_seen n) i j) (has_mark old i j) h (beside.each i j a b);
} where
  by : (x y fit mark : Bool) → y ≡ false → (x || y ≡ false → mark ≡ fit) → cond x fit mark ≡ fit
  by true y fit mark h right = refl
  by false y fit mark h right = right h

-- what an event sets
pub event_marked : (n : NetLists) (event : Event) (entries : List Entry) (old new : IndexLists) → IsIndexedBeside n old (may_change event entries) → AreMarkedAnew n (changes_between event) old new
    → IsIndexedBeside n new (is_told_between entries)
event_marked n event entries old new beside marked = marked_some n (changes_between event) (is_told_between entries) old new beside marked

-- and what its entries tell, one by one
pub entry_marked : (n : NetLists) (entry : Entry) (rest : List Entry) (old new : IndexLists) → IsIndexedBeside n old (is_told_between (entry ∷ rest)) → AreMarkedAnew n (is_told_by entry) old new
    → IsIndexedBeside n new (is_told_between rest)
entry_marked n entry rest old new beside marked = marked_some n (is_told_by entry) (is_told_between rest) old new beside marked

pub entries_end : (n : NetLists) (index : IndexLists) → IsIndexedBeside n index (is_told_between []) → IsIndexed n index
entries_end n index beside = record { each = λ i j a b. beside.each i j a b refl }

-- ---- what the index finds

pub found_first : (n : NetLists) (index : IndexLists) (size : ℕ) → size ≡ length n.plan.edges → IsIndexed n index
    → first_pair (has_mark index) size 0 size ≡ first_pair (is_deliverable (network_seen n)) (length n.plan.edges) 0 (length n.plan.edges)
found_first n index size e indexed =
    ap (λ (k : ℕ). first_pair (has_mark index) k 0 k) e
    ∙ same_pair (has_mark index) (is_deliverable (network_seen n)) (length n.plan.edges) 0 (length n.plan.edges) (omega arith) indexed.each

pub ruleset set_steps = (marked_nowhere, marked_restart)

pub ruleset known_steps = (marked_past, marked_past_other)

pub ruleset entry_steps = (entry_marked, entries_end)

-- before the first event nothing may be delivered
pub indexed_first : (n : NetLists) (index : IndexLists) → network_seen n ≡ empty_network n.plan → IsClear index.rows → IsIndexed n index
indexed_first n index empty clear = record { each = λ i j a b. clear.each i j ∙ sym (ap (λ (s : NetworkState). is_deliverable s i j) empty) }
