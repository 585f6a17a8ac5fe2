-- An edge's end of a connection, as it is seen.
use Rattle.std.specs.Prelude.{◌≡◌, ◌==◌, ◌+◌, ◌++◌, nat_lt, ℕ, Bool, true, false, List, [], length, take, drop, if◌then◌else◌}
use Rattle.net_base.specs.trace.Frame.{pair_at}
use Rattle.seen_network.specs.Seen.{cut}

-- whether it stands, what the edge took without the whole PDUs, and what is on its way to it
pub record EndSeen : Type 0 where
  pub stands : Bool
  pub rest : List ℕ
  pub way : List ℕ

abbrev pub no_end : EndSeen
no_end = record { stands = false; rest = []; way = [] }

-- the octets of the whole PDU in front, or 0
abbrev pub whole_pdu : List ℕ → ℕ
whole_pdu octets =
    if nat_lt (length octets) 4 then 0
    else if nat_lt (length octets) (4 + pair_at octets 2) then 0
    else 4 + pair_at octets 2

-- octets are taken from the way
unfoldable pub taken_from_way : ℕ → EndSeen → EndSeen
taken_from_way count end = record end { rest = cut (end.rest ++ take count end.way); way = drop count end.way }

-- a whole PDU in front of what is held is not held any more; where there is none, nothing changes
abbrev pub CutsFirst : Bool → EndSeen → EndSeen → Type 0
CutsFirst true old new = (whole_pdu old.rest == 0 ≡ false) × (new ≡ record old { rest = drop (whole_pdu old.rest) old.rest })
CutsFirst false old new = (whole_pdu old.rest == 0 ≡ true) × (new ≡ old)
