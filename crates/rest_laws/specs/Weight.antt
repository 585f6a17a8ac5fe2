-- Weights of messages, so that one of them is heavier than any few of higher levels together.
use Rattle.std.specs.Prelude.{◌≤◌, ◌<◌, ◌+◌, ℕ, zero, suc, List, [], ◌∷◌, length}
use Rattle.std.specs.List.{AllByRecursion}

-- so many times as heavy, and once more
abbrev pub grow : ℕ → ℕ → ℕ
grow zero h = h
grow (suc few) h = h + grow few h

-- with so many levels above, where one message makes so few be put
abbrev pub heavy : ℕ → ℕ → ℕ
heavy few zero = 1
heavy few (suc levels) = grow few (heavy few levels)

-- of all
abbrev pub total : ℕ → List ℕ → ℕ
total few [] = 0
total few (n ∷ ns) = heavy few n + total few ns

-- The messages that one makes be put, so few of them and each with fewer levels above it, weigh less than it together.
abbrev pub FewWeighLess : Type 0
FewWeighLess = (few levels : ℕ) (above : List ℕ) → length above ≤ few → AllByRecursion (λ n. n < levels) above → total few above < heavy few levels
