-- Ordered pairs of edges with a mark, as words of bits.
use Rattle.std.specs.Prelude.{◌≡◌, ◌≤◌, ◌==◌, ◌&&◌, nat_lt, ℕ, Bool, false, List, length, slice_index_or, if◌then◌else◌}
use Rattle.std.specs.Int.{bit_at}

-- a word for each first edge
pub record IndexLists : Type 0 where
  pub rows : List ℕ

-- a bit of a word of 64 bits is on
unfoldable pub in_word : ℕ → ℕ → Bool
in_word word k = nat_lt k 64 && bit_at word k == 1

-- a pair has a mark
abbrev pub has_mark : IndexLists → ℕ → ℕ → Bool
has_mark index from to = in_word (slice_index_or index.rows from 0) to

-- another mark of one pair
abbrev pub put_pair : ℕ → ℕ → Bool → (ℕ → ℕ → Bool) → ℕ → ℕ → Bool
put_pair from to on pairs i j = if i == from && j == to then on else pairs i j

-- what always holds of an index: no pair beyond the edges has a mark
pub record IsPairIndex (words : List ℕ) : Type 0 where
  pub few : length words ≤ 64
  pub each : (from to : ℕ) → length words ≤ to → in_word (slice_index_or words from 0) to ≡ false

-- no pair has a mark
pub record IsClear (words : List ℕ) : Type 0 where
  pub each : (from to : ℕ) → in_word (slice_index_or words from 0) to ≡ false
