-- A pipe in the lists is the pipe in the map.
use Rattle.std.proofs.Common.{◌≡◌, ◌==◌, ◌<◌, ◌≤◌, ◌+◌, ◌∷◌, [], ℕ, Bool, true, false, suc, zero, List, cond, refl, ap, arith, nat_lt, length, slice_index_or, slice_set, ◌∙◌}
use Rattle.std.proofs.lemmas.Bool.Decides.{nat_tests}
use Rattle.std.proofs.lemmas.List.{get_or_past}
use Rattle.octet_pipes.specs.Pipes.{PipeLists, emptied_to, pipes_of, with_pipe_octets, without_to}

pub view_set : {X : Type 0} (d : X) (xs : List X) (i : ℕ) (v : X) (k : ℕ) → i < length xs → slice_index_or (slice_set xs i v) k d ≡ cond (k == i) v (slice_index_or xs k d)
view_set d (x ∷ xs) zero v zero h = refl
view_set d (x ∷ xs) zero v (suc k) h = grind (arith, nat_tests)
view_set d (x ∷ xs) (suc i) v zero h = grind (arith, nat_tests)
view_set d (x ∷ xs) (suc i) v (suc k) h = grind (arith, nat_tests, view_set d xs i v k (grind arith))
view_set d [] i v k h = grind arith

pub seen_set : (p : PipeLists) (from to : ℕ) (v : List ℕ) → from < length p.rows → to < length (slice_index_or p.rows from [])
    → pipes_of (record p { rows = slice_set p.rows from (slice_set (slice_index_or p.rows from []) to v) }) ≡ with_pipe_octets from to v (pipes_of p)
unfolding pipes_of
seen_set p from to v h g = λ z i j. at_each i j z
  where
    at_each : (i j : ℕ) → slice_index_or (slice_index_or (slice_set p.rows from (slice_set (slice_index_or p.rows from []) to v)) i []) j []
        ≡ with_pipe_octets from to v (λ a b. slice_index_or (slice_index_or p.rows a []) b []) i j
    at_each i j = grind (arith, nat_tests, view_set [] p.rows from (slice_set (slice_index_or p.rows from []) to v) i h, view_set [] (slice_index_or p.rows from []) to v j g)

-- pipes to one edge that are emptied one after another
pub emptied_none : (me : ℕ) (pipes : ℕ → ℕ → List ℕ) → pipes ≡ emptied_to me 0 pipes
emptied_none me pipes = λ z i j. at_each i j z
  where
    at_each : (i j : ℕ) → pipes i j ≡ emptied_to me 0 pipes i j
    at_each i j = grind (arith, nat_tests)

pub emptied_more : (me place : ℕ) (old pipes : ℕ → ℕ → List ℕ) → pipes ≡ emptied_to me place old → with_pipe_octets place me [] pipes ≡ emptied_to me (place + 1) old
emptied_more me place old pipes e = ap (λ (p : ℕ → ℕ → List ℕ). with_pipe_octets place me [] p) e ∙ (λ z i j. at_each i j z)
  where
    at_each : (i j : ℕ) → with_pipe_octets place me [] (emptied_to me place old) i j ≡ emptied_to me (place + 1) old i j
    at_each i j = grind (arith, nat_tests)

emptied_all : (p : PipeLists) (me count : ℕ) → length p.rows ≤ count → emptied_to me count (pipes_of p) ≡ without_to me (pipes_of p)
unfolding pipes_of
emptied_all p me count all = λ z i j. at_each i j z
  where
    at_each : (i j : ℕ) → emptied_to me count (pipes_of p) i j ≡ without_to me (pipes_of p) i j
    at_each i j = by (nat_lt i count) refl
      where
        past : nat_lt i count ≡ false → slice_index_or (slice_index_or p.rows i []) j [] ≡ []
        past e = ap (λ (row : List (List ℕ)). slice_index_or row j []) (get_or_past p.rows i [] (grind (arith, nat_tests, e, all)))

        by : (b : Bool) → nat_lt i count ≡ b → emptied_to me count (pipes_of p) i j ≡ without_to me (pipes_of p) i j
        by true e = grind (arith, nat_tests, e)
        by false e = let q = past e in grind (arith, nat_tests, e, q)

pub emptied_end : (p : PipeLists) (me count : ℕ) (now : ℕ → ℕ → List ℕ) → length p.rows ≤ count → now ≡ emptied_to me count (pipes_of p) → now ≡ without_to me (pipes_of p)
emptied_end p me count now all e = e ∙ emptied_all p me count all

pub ruleset emptied_steps = (emptied_none, emptied_more, emptied_end)
