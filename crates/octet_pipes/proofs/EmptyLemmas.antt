-- Pipes that are all empty.
use Rattle.std.proofs.Common.{◌≡◌, [], ℕ, suc, zero, refl, ap, length, slice_index_or, replicate, ◌∙◌}
use Rattle.std.proofs.lemmas.List.{replicate_more}
use Rattle.net_values.proofs.RowLemmas.{replicate_length, replicate_default, replicate_at}
use Rattle.octet_pipes.specs.Pipes.{IsSquare, pipes_of, no_octets}

none_at : (n m : ℕ) (i j : ℕ) → slice_index_or (slice_index_or (replicate n (replicate m [])) i []) j [] ≡ no_octets i j
none_at zero m i j = refl
none_at (suc n) m zero j = replicate_default m [] j
none_at (suc n) m (suc i) j = none_at n m i j

pub square : (n : ℕ) → IsSquare n (replicate n (replicate n []))
square n = record { count = replicate_length n (replicate n []); each = λ k h. ap length (replicate_at n (replicate n []) [] k h) ∙ replicate_length n [] }

pub empty : (n : ℕ) → pipes_of (record { size = n; rows = replicate n (replicate n []) }) ≡ no_octets
unfolding pipes_of
empty n = λ k i j. none_at n n i j k

pub ruleset replicate_steps = (replicate_more)

pub ruleset square_steps = (replicate_more, square, empty)
