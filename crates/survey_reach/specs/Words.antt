-- Pairs of edges as words of bits.
use Rattle.std.specs.Prelude.{◌==◌, ◌&&◌, nat_lt, ℕ, Bool, List, slice_index_or}
use Rattle.std.specs.Int.{bit_at}

-- a bit of a word of 64 bits is on
unfoldable pub in_word : ℕ → ℕ → Bool
in_word word k = nat_lt k 64 && bit_at word k == 1

-- two edges are a pair of these words
unfoldable pub has_pair : List ℕ → ℕ → ℕ → Bool
has_pair rows a b = in_word (slice_index_or rows a 0) b

-- these two edges, in this order
abbrev pub is_pair : ℕ → ℕ → ℕ → ℕ → Bool
is_pair a b i j = i == a && j == b
