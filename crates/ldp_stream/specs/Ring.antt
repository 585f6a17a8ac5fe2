-- What always holds of a ring of octets.
use Rattle.std.specs.Prelude.{◌≡◌, ◌≤◌, ◌<◌, ◌+◌, ℕ}

-- There is memory for all its octets, of which so many were written. Those held begin at `front` and are `count`; until all were written,
-- they are the last ones.
pub record IsRing (reserved written front count : ℕ) : Type 0 where
  pub has_room : 4100 ≤ reserved
  pub within : written ≤ 4100
  pub begins : front < 4100
  pub inside : front ≤ written
  pub few : count ≤ written
  pub last : written < 4100 → front + count ≡ written
