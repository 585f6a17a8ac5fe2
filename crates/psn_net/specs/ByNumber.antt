-- Packets under way by number: at the places of a row, and in a tree.
use Rattle.std.specs.Prelude.{◌≡◌, ◌≤◌, ◌<◌, ◌+◌, ◌^◌, ℕ, List, [], ◌∷◌, false, length}
use Rattle.numbered_row.specs.Places.{Places, placed_from, starts_vacant}
use Rattle.psn_net.specs.declared.carried.Carried.{Carried}

-- the packets by rising number, and the number of the last one that was sent
pub record Numbered : Type 0 where
  pub entries : List (ℕ × Carried)
  pub last : ℕ

-- the packets of the tree stand behind the last place, up to the last one that was sent
abbrev pub AreBehind : ℕ → ℕ → List (ℕ × Carried) → Type 0
AreBehind end last [] = Unit {0}
AreBehind end last (e ∷ es) = (end ≤ e.0) × (e.0 ≤ last) × AreBehind end last es

-- the row holds so many packets, the first of its places one of them, and those of the tree stand behind
pub record AreByNumber (row : Places Carried) (held : ℕ) (rest : List (ℕ × Carried)) (last : ℕ) : Type 0 where
  pub fits : row.first + length row.places ≤ last + 1
  pub behind : AreBehind (row.first + length row.places) last rest
  pub held_is : held ≡ length (placed_from row.first row.places)
  pub few : held < 2 ^ 63
  pub filled : starts_vacant row.places ≡ false
