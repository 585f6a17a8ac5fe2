-- Marks of neighbours as bits of a word.
use Rattle.std.specs.Prelude.{◌==◌, ◌||◌, not, nat_lt, ℕ, Bool}
use Rattle.std.specs.Int.{bit_at}
use Rattle.pw_ends.specs.declared.peer_marks.PeerMarks.{PeerMarks}

-- the neighbour is marked; one past the 64 counts so
unfoldable pub is_marked : PeerMarks → ℕ → Bool
is_marked marks k = not (nat_lt k 64) || bit_at marks.word k == 1
