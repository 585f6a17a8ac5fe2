-- Numbers that look drawn: a linear congruential generator, of which the high bits are used.
use Rattle.std.specs.Prelude.{◌+◌, ◌*◌, ◌/◌, ◌%◌, ◌^◌, ℕ}

-- the number that a draw leaves
unfoldable pub next_number : ℕ → ℕ
next_number number = (number * 6364136223846793005 + 1442695040888963407) % 2 ^ 64

-- what was drawn, below `count`, by the draw that left this number
unfoldable pub drawn : ℕ → ℕ → ℕ
drawn count number = (number / 2 ^ 33) % count
