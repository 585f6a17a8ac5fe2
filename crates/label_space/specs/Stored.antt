-- How a label space stores the kept numbers: what waits, what rests, and the numbers that are free on a heap.
use Rattle.std.specs.Prelude.{◌≡◌, ◌≤◌, ◌+◌, ◌++◌, map, ℕ, Bool, true, false, List, [], ◌∷◌, length}
use Rattle.std.specs.BinaryHeap.{IsHeap}
use Rattle.std.specs.declared.cmp.Reverse.{Reverse}
use Rattle.std.specs.Ordering.{nat_cmp}
use Rattle.std.specs.List.{All, AllByRecursion}
use Rattle.net_values.specs.Label.{IsLabel}
use Rattle.label_space.specs.declared.kept.Kept.{Kept}
use Rattle.label_space.specs.declared.kept.KeptState.{KeptState}
use Rattle.label_space.specs.declared.kept.KeptState.TheVariants.{Waits, Rests, Free}
use Rattle.label_space.specs.Kept.{AreRisingBy, label_of, most_kept, put_in, rests}

-- each number at its place among the others
abbrev pub in_order : List Kept → List Kept
in_order [] = []
in_order (k ∷ ks) = put_in k (in_order ks)

-- a free number on the heap
abbrev pub freed_number : Reverse ℕ → Kept
freed_number number = record { label = number.0; state = Free }

-- all that is stored, and the kept numbers that it is
abbrev pub stored : List Kept → List Kept → List (Reverse ℕ) → List Kept
stored waiting resting free = waiting ++ (resting ++ map freed_number free)

-- the kept numbers, in rising order, of what is stored in three parts
abbrev pub kept_of : List Kept → List Kept → List (Reverse ℕ) → List Kept
kept_of waiting resting free = in_order (stored waiting resting free)

-- it waits
abbrev pub waits_state : KeptState → Bool
waits_state (Waits peer) = true
waits_state (Rests ticks) = false
waits_state Free = false

-- the same of a kept number
abbrev pub waits : Kept → Bool
waits k = waits_state k.state

-- what a label space holds of them: no number is stored twice, each stands among those that do what it does, the least that is free is
-- on top of the heap, and there is memory for as many as are ever kept: of the two lists exactly so much, of the heap at least
pub record IsHeldKept (waiting_room resting_room free_room : ℕ) (waiting resting : List Kept) (free : List (Reverse ℕ)) : Type 0 where
  pub few : length waiting + (length resting + length free) ≤ most_kept
  pub may_wait : waiting_room ≡ most_kept
  pub may_rest : resting_room ≡ most_kept
  pub may_be_free : most_kept ≤ free_room
  pub rising : AreRisingBy label_of 0 (kept_of waiting resting free)
  pub wait : AllByRecursion (λ k. waits k ≡ true) waiting
  pub rest : AllByRecursion (λ k. rests k ≡ true) resting
  pub labels : All (λ n. IsLabel n.0) free
  pub least_on_top : IsHeap (λ x y. nat_cmp y.0 x.0) free
