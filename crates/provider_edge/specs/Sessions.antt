-- What an edge keeps of its neighbours, while ticks pass at which no session has anything to do.
use Rattle.std.specs.Prelude.{◌≡◌, ◌≤◌, ◌<◌, ◌+◌, ◌-◌, ◌^◌, ℕ, false, min, List, [], ◌∷◌, Option, Some, None, map, option_map, slice_index_or}
use Rattle.session_core.specs.Ticks.{quiet_ticks}
use Rattle.edge_model.specs.State.{Peering, is_there}
use Rattle.pw_ends.specs.declared.peer_marks.PeerMarks.{PeerMarks}
use Rattle.pw_ends.specs.Marks.{is_marked}
use Rattle.peer_dialogue.specs.Peering.{peering_later}

-- what is kept of each neighbour, so many ticks later
abbrev pub all_later : ℕ → List (Option Peering) → List (Option Peering)
all_later ticks kept = map (option_map (peering_later ticks)) kept

-- the same with these octets held, where something is kept
abbrev pub holding : List ℕ → Option Peering → Option Peering
holding held None = None
holding held (Some kept) = Some (record kept { held = held })

-- for how many ticks the session has nothing to do; where none stands there is no limit
abbrev pub quiet_for : Option Peering → ℕ
quiet_for None = 2 ^ 64 - 1
quiet_for (Some kept) = quiet_ticks kept.session

-- for how many no session has
abbrev pub least_quiet : List (Option Peering) → ℕ
least_quiet [] = 2 ^ 64 - 1
least_quiet (one ∷ kept) = min (quiet_for one) (least_quiet kept)

-- a neighbour of which nothing is kept has no mark
abbrev pub AreStanding : PeerMarks → List (Option Peering) → Type 0
AreStanding marks kept = (k : ℕ) → k < 64 → is_there (slice_index_or kept k None) ≡ false → is_marked marks k ≡ false

-- the longest PDU in force, where a session stands
abbrev pub longest_of : Option Peering → Option ℕ
longest_of None = None
longest_of (Some kept) = Some kept.session.max_pdu

-- What always holds of them: no session has anything to do at the ticks that have passed uncounted, nor at so many more.
pub record AreWatched (standing : PeerMarks) (passed spare : ℕ) (kept : List (Option Peering)) : Type 0 where
  pub quiet : passed + spare ≤ least_quiet kept
  pub marked : AreStanding standing kept
