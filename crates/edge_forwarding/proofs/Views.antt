-- A list with another value at one place, seen as a map.
use Rattle.std.proofs.Common.{◌≡◌, ◌<◌, ◌≤◌, ◌∷◌, [], ℕ, suc, zero, List, refl, arith, length, slice_set}
use Rattle.std.proofs.lemmas.Bool.Decides.{nat_tests}
use Rattle.edge_model.specs.State.{put_at}
use Rattle.edge_forwarding.specs.Views.{view}

pub view_at : {X : Type 0} (d : X) (xs : List X) (i : ℕ) (v : X) (k : ℕ) → i < length xs → view d (slice_set xs i v) k ≡ put_at (view d xs) i v k
view_at d (x ∷ xs) zero v zero h = refl
view_at d (x ∷ xs) zero v (suc k) h = grind (arith, nat_tests)
view_at d (x ∷ xs) (suc i) v zero h = grind (arith, nat_tests)
view_at d (x ∷ xs) (suc i) v (suc k) h = grind (arith, nat_tests, view_at d xs i v k (grind arith))
view_at d [] i v k h = grind arith

pub view_set : {X : Type 0} (d : X) (xs : List X) (i : ℕ) (v : X) → i < length xs → view d (slice_set xs i v) ≡ put_at (view d xs) i v
view_set d xs i v h = λ j k. view_at d xs i v k h j

pub past_end : {X : Type 0} (d : X) (xs : List X) (k : ℕ) → length xs ≤ k → view d xs k ≡ d
past_end d [] k past = refl
past_end d (x ∷ xs) zero past = absurd (omega arith)
past_end d (x ∷ xs) (suc k) past = past_end d xs k (omega arith)
