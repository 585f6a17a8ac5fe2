-- In how many pieces the addresses of a MAC withdraw are told, and which they are.
use Rattle.std.specs.Prelude.{◌==◌, ◌+◌, ◌/◌, ℕ, zero, suc, List, [], ◌∷◌, length, take, drop, if◌then◌else◌}
use Rattle.net_values.specs.declared.mac.Mac.{Mac}

-- the most addresses of one message
abbrev pub most_in_piece : ℕ
most_in_piece = 30

-- how many pieces so many addresses make: one of an empty list, which says that all are meant
abbrev pub piece_count : ℕ → ℕ
piece_count count = if count == 0 then 1 else (count + 29) / 30

-- so many pieces of a list, one after another
abbrev pub pieces_from : ℕ → List Mac → List (List Mac)
pieces_from zero addresses = []
pieces_from (suc n) addresses = take most_in_piece addresses ∷ pieces_from n (drop most_in_piece addresses)

-- the pieces of a list
abbrev pub pieces_of : List Mac → List (List Mac)
pieces_of addresses = pieces_from (piece_count (length addresses)) addresses
